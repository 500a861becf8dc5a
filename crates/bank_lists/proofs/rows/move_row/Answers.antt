-- The row is copied; one that stands there already is as it was.
use Rattle.std.proofs.Common.{ℕ, ◌+◌, ◌-◌, ◌≡◌, take, drop, sym, ap, ◌∙◌, arith}
use lib.ListN.{length-drop}
use lib.Seq.{paste}
use Rattle.octets.specs.Bytes.{overwrite}
use Rattle.bank_lists.proofs.Keeping.{overwrite-own, overwrite-part}
use Rattle.bank_lists.proofs.rows.move_row.Goals as goal

pub returns-then-to-from : goal.returns-then-to-from
returns-then-to-from c =
    let a = c.args in
    let s = a.rows.now in
    let e : a.from + a.width - a.from ≡ a.width = omega arith in
    c.copy_within.ensures.after ∙ ap (paste s a.to (drop a.from s)) e
    ∙ overwrite-part s a.to (drop a.from s) a.width (omega (arith, length-drop a.from s, c.requires.1))

pub returns-else-to-from : goal.returns-else-to-from
returns-else-to-from c =
    let a = c.args in
    let s = a.rows.now in
    sym (ap (λ (n : ℕ). overwrite s n (take a.width (drop a.from s))) c.if-to-from.false
    ∙ overwrite-own s a.from a.width c.requires.1)
