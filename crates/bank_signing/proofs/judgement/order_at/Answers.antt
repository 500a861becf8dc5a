-- The search goes by the request's owner and order number. Assumes nothing.
use Rattle.bank_rows.specs.State.{bank_of}
use Rattle.bank_signing.proofs.Signed.{found_at}
use Rattle.bank_signing.proofs.judgement.order_at.Goals as goal

pub returns : goal.returns
returns c =
    let a = c.args in
    found_at (bank_of a.rows.now) a.q c.find_order.ensures c.owner.ensures c.order_number.ensures
