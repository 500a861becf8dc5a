-- Each decision as its function says; a message is held only where there is room.
use mathlib.Core.Path.{sym, ◌∙◌}
use native.Mathlib.Omega.{arith}
use Rattle.line.specs.Line.{carried_out}
use Rattle.line.proofs.Rows.{count-own}
use Rattle.line.proofs.Courses.{room}
use Rattle.line.proofs.Carrying.{nothing_left, held-left}
use Rattle.line.proofs.calls.carry_out.Goals as goal

pub hold-requires : goal.hold-requires
hold-requires c =
    let a = c.args in
    let p = c.requires in
    let e = count-own a.row.now p.0 a.store.now p.1 in
    let r = room _ _ (sym p.4 ∙ c.in-Hold.is) in
    (p.0, omega arith, p.1, p.2)

pub returns-in-Lose : goal.returns-in-Lose
returns-in-Lose c =
    let a = c.args in
    let p = c.requires in
    rw c.in-Lose.is (nothing_left a.row.now a.store.now p.0 p.1 a.out.now a.message.now)

pub returns-in-Hold : goal.returns-in-Hold
returns-in-Hold c =
    let a = c.args in
    let p = c.requires in
    let h = c.hold.ensures in
    rw c.in-Hold.is
    (held-left a.row.now a.store.now p.0 p.1 a.out.now _ _ a.message.now h.0 h.1)

pub returns-in-Deliver : goal.returns-in-Deliver
unfolding carried_out
returns-in-Deliver c =
    rw c.in-Deliver.is c.deliver.ensures
