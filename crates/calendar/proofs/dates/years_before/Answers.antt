-- A year has 365 or 366 days, so that it is the one by 366 or the next. Assumes nothing.
use native.Mathlib.Omega.{arith}
use Rattle.calendar.proofs.Lengths.{year-next, year-here}
use Rattle.calendar.proofs.dates.years_before.Goals as goal

pub returns-then-year_start-number : goal.returns-then-year_start-number
returns-then-year_start-number c = year-next _ _ (omega arith) (omega arith) (omega arith)

pub returns-else-year_start-number : goal.returns-else-year_start-number
returns-else-year_start-number c = year-here _ _ (omega arith) (omega arith) (omega arith)
