-- The table is that of the months of 1970. Assumes nothing.
use mathlib.Core.Path.{refl}
use native.Mathlib.Omega.{arith}
use Rattle.calendar.specs.Dates.{is_leap, leap_day, month_days, total, month_start, first_year}
use Rattle.calendar.proofs.Tables.{entry-of, agreed}
use Rattle.calendar.proofs.dates.common_start.Goals as goal

pub returns : goal.returns
unfolding total month_days leap_day is_leap
returns c = rw entry-of (agreed (month_start first_year) 13 _ refl c.args.months (omega arith))
