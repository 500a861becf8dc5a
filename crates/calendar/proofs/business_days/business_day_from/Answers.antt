-- Every day passed is closed; the first that is not is the one searched for, and the calendar's last day is not. Assumes
-- nothing.
use mathlib.Core.Path.{◌≡◌, sym, subst, ◌∙◌}
use native.Mathlib.Omega.{arith}
use Rattle.calendar.specs.Dates.{last_day}
use Rattle.calendar.proofs.ExecutionDays.{NoneFrom, passed, stopped, last-open}
use Rattle.calendar.proofs.business_days.business_day_from.Goals as goal

pub loop-number-init : goal.loop-number-init
loop-number-init c = λ j p q. absurd (omega arith)

pub returns-then-not-is_closed : goal.returns-then-not-is_closed
returns-then-not-is_closed c =
    stopped _ _ (omega arith) (sym c.is_closed.ensures ∙ c.if-not-is_closed.true) c.loop-number.invariant

pub loop-number-preserved : goal.loop-number-preserved
loop-number-preserved c = passed _ _ (sym c.is_closed.ensures ∙ c.if-not-is_closed.false) c.loop-number.invariant

pub returns : goal.returns
returns c =
    let e : c.loop-number.number ≡ last_day = omega arith in
    stopped _ _ c.requires last-open (subst (NoneFrom c.args.first) e c.loop-number.invariant)
