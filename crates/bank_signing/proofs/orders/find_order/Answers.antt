-- The search passes the places that hold another order or none.
use native.Mathlib.Omega.{arith}
use mathlib.Core.Path.{◌≡◌, sym, ap, ◌∙◌}
use Rattle.bank_state.specs.Limits.{place_count}
use Rattle.bank_state.specs.State.{no_place}
use Rattle.bank_state.proofs.Loops.{searched-start, searched-next, searched-hit, searched-end}
use Rattle.bank_rows.proofs.Reading.{length-places-of}
use Rattle.bank_verdicts.specs.Refusals.{is_order, find_order}
use Rattle.bank_signing.proofs.orders.find_order.Goals as goal

pub loop-i-init : goal.loop-i-init
loop-i-init c = searched-start _ _

pub returns-then-is_order : goal.returns-then-is_order
unfolding find_order
returns-then-is_order c =
    let a = c.args in
    let h = length-places-of a.rows.now in
    searched-hit _ _ no_place _ c.loop-i.invariant (omega arith)
    (sym (c.is_order.ensures ∙ ap (is_order a.owner a.order) c.place_at.ensures) ∙ c.if-is_order.true)

pub loop-i-preserved : goal.loop-i-preserved
loop-i-preserved c =
    let a = c.args in
    let h = length-places-of a.rows.now in
    searched-next _ _ no_place _ c.loop-i.invariant (omega arith)
    (sym (c.is_order.ensures ∙ ap (is_order a.owner a.order) c.place_at.ensures) ∙ c.if-is_order.false)

pub returns : goal.returns
unfolding find_order
returns c =
    let h = length-places-of c.args.rows.now in
    let over : c.loop-i.i ≡ place_count = omega (arith, c.loop-i-test.false, c.loop-i.invariant.within) in
    sym over ∙ searched-end _ _ no_place _ c.loop-i.invariant (omega (arith, over))
