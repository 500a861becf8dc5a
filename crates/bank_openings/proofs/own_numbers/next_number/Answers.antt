-- The numbers that the search has passed are held.
use Prim.Native.Nat.{◌+◌, ◌-◌}
use mathlib.Core.Path.{◌≡◌, sym, ◌∙◌}
use native.Mathlib.Omega.{arith}
use Rattle.bank_state.specs.Limits.{place_count}
use Rattle.bank_state.specs.Numbers.{next_number}
use Rattle.bank_state.proofs.Numbers.{unheld-here, unheld-step, unheld-end}
use Rattle.bank_rows.specs.State.{bank_of}
use Rattle.bank_openings.proofs.own_numbers.next_number.Goals as goal

pub loop-n-init : goal.loop-n-init
unfolding next_number
loop-n-init c =
    let first = c.series_of-first.result in
    let all : first + place_count - first ≡ place_count = omega arith in
    rw (all, c.series_of-first.ensures)

pub returns-then-not-is_number_held : goal.returns-then-not-is_number_held
returns-then-not-is_number_held c =
    let a = c.args in
    let free = sym c.is_number_held.ensures ∙ c.if-not-is_number_held.true in
    sym (c.loop-n.invariant ∙ unheld-here a.subscriber (bank_of a.rows.now) _ _ free)

pub loop-n-preserved : goal.loop-n-preserved
loop-n-preserved c =
    let a = c.args in
    let end = c.series_of-first.result + place_count in
    let held = sym c.is_number_held.ensures ∙ c.if-not-is_number_held.false in
    let one : end - (c.loop-n.n + 1) ≡ end - c.loop-n.n - 1 = omega arith in
    rw one (c.loop-n.invariant ∙ unheld-step a.subscriber (bank_of a.rows.now) _ _ (omega (arith, c.loop-n-test.true)) held)

pub returns : goal.returns
returns c =
    let a = c.args in
    let end = c.series_of-first.result + place_count in
    let over : c.loop-n.n ≡ end = omega (arith, c.loop-n-test.false, c.loop-n.auto.n-end (omega arith)) in
    sym (c.loop-n.invariant ∙ unheld-end a.subscriber (bank_of a.rows.now) _ _ (omega (arith, over)) ∙ over)
