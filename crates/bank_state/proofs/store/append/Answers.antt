-- The part that is lent comes back with the segment at its front.
use native.Mathlib.Omega.{arith}
use Rattle.bank_state.proofs.Stores.{appended}
use Rattle.bank_state.proofs.store.append.Goals as goal

pub returns : goal.returns
returns c =
    let a = c.args in
    rw c.copy.ensures (appended a.place.now a.at a.segment.now (omega arith))
