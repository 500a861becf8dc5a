-- The first number of the row, as the definition has it. Assumes nothing.
use Prim.Native.Nat.{ℕ}
use mathlib.Core.Bool.{not}
use mathlib.Core.Path.{sym, ap}
use lib.Dec.{eqb}
use Rattle.unit_rows.proofs.LineParts.{value-at}
use Rattle.unit_rows.proofs.lines.is_made.Goals as goal

pub returns : goal.returns
returns c =
    let a = c.args in
    ap (λ (v : ℕ). not (eqb v 0)) (sym (value-at a.rows.now a.i))
