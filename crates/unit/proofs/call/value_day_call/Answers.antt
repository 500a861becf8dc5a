-- The calendar's call is asked for the time in the record, and its answer is told. Assumes nothing.
use Rattle.calendar.specs.declared.dates.Date.{Date}
use Rattle.number_table.specs.declared.table.TooLate.{TooLate}
use Rattle.std.specs.Prelude.{Err, Ok, Result}
use mathlib.Core.Path.{◌≡◌, refl, sym, ap, ◌∙◌}
use Rattle.calendar.specs.ValueDay.{ValueDayCall, value_day, answered}
use Rattle.unit.proofs.call.value_day_call.Goals as goal

answer-in : (a : Result Date TooLate) → (answered a).answer ≡ a
answer-in (Ok d) = refl
answer-in (Err e) = refl

one_answer : (a b : Result Date TooLate) → answered a ≡ answered b → a ≡ b
one_answer a b e = sym (answer-in a) ∙ (ap (λ (o : ValueDayCall). o.answer) e ∙ answer-in b)

pub returns : goal.returns
returns c =
    let told = one_answer c.value_day.result (value_day c.number_at.result) c.value_day.ensures in
    rw (← c.number_at.ensures, ← told) c.value_day_answer.ensures
