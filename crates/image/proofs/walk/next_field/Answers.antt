-- `next_field` meets its contract: no part and no record is left. Assumes nothing.
use Prim.Native.Nat.{◌-◌}
use mathlib.Core.Path.{sym}
use native.Mathlib.Omega.{arith}
use Rattle.image.specs.Walk.{step_items, step_width}
use Rattle.image.proofs.Walking.{rest-store, rest-field, rest-none}
use Rattle.image.proofs.walk.next_field.Goals as goal

pub returns-then-c-ne0 : goal.returns-then-c-ne0
unfolding step_items step_width
returns-then-c-ne0 c =
    let a = c.args.c in
    (rw c.start.ensures (sym (rest-store a (a.store - 1) c.requires.0 c.requires.1 (omega arith))), omega arith)

pub returns-then-c-ne0-2 : goal.returns-then-c-ne0-2
unfolding step_items step_width
returns-then-c-ne0-2 c =
    let a = c.args.c in (
      rw c.start-then-c-ne0-2.ensures
          (sym (rest-field a (a.left - 1) c.row_at-r.result c.row_at-r.ensures c.requires.0 c.requires.1 (omega arith) (omega arith))),
      omega arith,
    )

pub returns : goal.returns
unfolding step_items step_width
returns c =
    let a = c.args.c in
    (sym (rest-none a c.requires.0 c.requires.1 (omega arith) (omega arith)), omega arith)
