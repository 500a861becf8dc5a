-- `next` meets its contract: a part of the record at hand, else the first of the next record. Assumes nothing.
use Prim.Native.Nat.{◌-◌}
use mathlib.Core.Path.{sym}
use native.Mathlib.Omega.{arith}
use Rattle.image.specs.Walk.{step_items, step_width}
use Rattle.image.proofs.Walking.{rest_part, rest-record}
use borrow.Author.Rules.{rules}
use Rattle.image.proofs.walk.next.Goals as goal

pub returns-then-c-ne0 : goal.returns-then-c-ne0
unfolding step_items step_width
returns-then-c-ne0 c =
    let at-args = c.args in
    let a = at-args.c in
    (sym (rest_part a (a.parts - 1) (omega arith)), search rules)

pub returns-then-c-ne0-2 : goal.returns-then-c-ne0-2
unfolding step_items step_width
returns-then-c-ne0-2 c =
    let at-args = c.args in
    let a = at-args.c in
    (sym (rest-record a (a.records - 1) (omega arith) (omega arith)), search rules)
