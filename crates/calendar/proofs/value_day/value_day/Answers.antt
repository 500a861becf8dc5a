-- A first day in the calendar finds its business day in it, a later one does not. Assumes nothing.
use native.Mathlib.Omega.{arith}
use Rattle.calendar.proofs.ExecutionDays.{found-by-last}
use Rattle.calendar.proofs.ValueDays.{refused-from, given-from}
use Rattle.calendar.proofs.value_day.value_day.Goals as goal

pub returns-then-first-gt-LAST_DAY : goal.returns-then-first-gt-LAST_DAY
returns-then-first-gt-LAST_DAY c = refused-from _ _ c.first_day-first.ensures (omega arith)

pub date_of-requires : goal.date_of-requires
date_of-requires c = rw c.business_day_from.ensures (found-by-last _ (omega arith))

pub returns : goal.returns
returns c =
    given-from _ _ _ _ c.first_day-first.ensures (omega arith)
    c.business_day_from.ensures c.date_of.ensures
