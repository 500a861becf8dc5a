-- `heads_right` meets its contract. The loop's invariant: the fields left to test are the answer. Assumes nothing.
use Prim.Native.Nat.{◌+◌, ◌-◌, ◌%◌}
use mathlib.Core.Path.{◌≡◌, refl, sym, ◌∙◌}
use native.Mathlib.Omega.{arith}
use borrow.Author.Tests.{eq-eqb, ne_eqb}
use Rattle.std.proofs.Common.{add_assoc}
use Rattle.image.specs.Items.{image_items}
use Rattle.image.proofs.Reading.{row-narrow, fields-end, field_room, field-no, field_next}
use borrow.Author.Rules.{rules}
use Rattle.image.proofs.codec.heads_right.Goals as goal

pub loop-i-init : goal.loop-i-init
unfolding image_items
loop-i-init c = record { room = search rules; same = refl }

pub number_at-requires : goal.number_at-requires
number_at-requires c =
    let l = c.loop-i in
    let room = field_room c.args.image.now l.i _ l.at _ l.invariant (omega arith) c.row_at-r.result c.row_at-r.ensures in
    (rw c.row_at-r.ensures (row-narrow l.i), omega (arith, room))

pub returns-then-number_at-r : goal.returns-then-number_at-r
returns-then-number_at-r c =
    let l = c.loop-i in
    field-no c.args.image.now l.i _ l.at _ l.invariant (omega arith) c.row_at-r.result c.row_at-r.ensures
    (ne_eqb _ _ (λ e. c.if-number_at-r.true (c.number_at.ensures ∙ e)))

pub overflow_add-at : goal.overflow_add-at
overflow_add-at c =
    let l = c.loop-i in
    omega (arith, field_room c.args.image.now l.i _ l.at _ l.invariant (omega arith) c.row_at-r.result c.row_at-r.ensures)

pub overflow_add-at-in-loop-i : goal.overflow_add-at-in-loop-i
overflow_add-at-in-loop-i c =
    let l = c.loop-i in
    omega (arith, field_room c.args.image.now l.i _ l.at _ l.invariant (omega arith) c.row_at-r.result c.row_at-r.ensures)

pub loop-i-preserved : goal.loop-i-preserved
loop-i-preserved c =
    let l = c.loop-i in
    let next : l.i % 256 + 1 ≡ l.i + 1 = omega arith in
    let left : 15 - l.i - 1 ≡ 15 - (l.i + 1) = omega arith in
    let more = field_next c.args.image.now l.i _ l.at _ l.invariant (omega arith) c.row_at-r.result c.row_at-r.ensures
    (eq-eqb _ _ (sym c.number_at.ensures ∙ c.if-number_at-r.false)) in
    rw (next, left, add_assoc l.at c.row_at-r.result.width c.row_at-r.result.bytes) at more

pub returns : goal.returns
returns c =
    let l = c.loop-i in
    fields-end c.args.image.now l.i _ l.at _ l.invariant (omega arith)
