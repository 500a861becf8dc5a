-- The part that is lent comes back as the numbers.
use Rattle.std.proofs.Common.{length, refl, ◌∙◌, arith}
use Rattle.std.proofs.lemmas.Slice.{put_mid-paste}
use Rattle.octets.proofs.Numbers.{overwrite-paste}
use Rattle.bank_rows.proofs.rows.put.Goals as goal

pub returns : goal.returns
returns c =
    let a = c.args in
    let ns = a.numbers.now in
    put_mid-paste a.at _ a.rows.now _ ns (length ns) c.copy_from_slice.ensures.after (omega arith) refl
    ∙ overwrite-paste a.rows.now a.at ns
