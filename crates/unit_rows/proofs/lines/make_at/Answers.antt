-- The line's row and store are lent to the call, and the row comes back. Assumes nothing.
use Prim.Native.Nat.{◌+◌, ◌*◌, ◌≤◌}
use native.Mathlib.Omega.{arith}
use lib.ListN.{length}
use Rattle.line.specs.Memory.{row_size}
use Rattle.unit_rows.proofs.LineParts.{row-lent, row_back, store-lent, made-parts}
use Rattle.unit_rows.proofs.lines.make_at.Goals as goal

pub returns : goal.returns
returns c =
    let a = c.args in
    let fits : a.i * row_size + row_size ≤ length a.rows.now = omega (arith, c.requires) in
    made-parts a.rows.now a.stores.now a.i a.seed _ _ _ _ _ (row-lent a.rows.now a.i)
    (store-lent a.stores.now a.i) (row_back a.rows.now _ a.i fits c.rows-1.given.0)
    c.make_line.ensures
