-- The year's place and the month's in the year give the one date of the number. Assumes nothing.
use native.Mathlib.Omega.{arith}
use Rattle.calendar.proofs.DateNumbers.{rest_below, put-together}
use Rattle.calendar.proofs.dates.date_of.Goals as goal

pub months_before-months-requires : goal.months_before-months-requires
months_before-months-requires c =
    omega (arith, rest_below c.args.number c.years_before-years.result c.years_before-years.ensures.0)

pub returns : goal.returns
returns c =
    put-together _ _ _ _ _ c.year_start.ensures c.month_start.ensures
    c.years_before-years.ensures.0 c.months_before-months.ensures.0 c.months_before-months.ensures.1
