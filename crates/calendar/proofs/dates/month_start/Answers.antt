-- The months are those of 1970, and from March on a leap day lies before them. Assumes nothing.
use mathlib.Core.Path.{◌∙◌}
use native.Mathlib.Omega.{arith}
use Rattle.calendar.specs.Dates.{first_year}
use Rattle.calendar.proofs.Lengths.{early-month, late-month, month-most, leap-most}
use Rattle.calendar.proofs.dates.month_start.Goals as goal

pub returns-then-months-lt2 : goal.returns-then-months-lt2
returns-then-months-lt2 c = c.common_start-days.ensures ∙ early-month _ _ (omega arith)

pub overflow_add-result : goal.overflow_add-result
overflow_add-result c =
    omega (arith, month-most first_year c.args.months (omega arith), leap-most c.args.year)

pub returns-else-months-lt2 : goal.returns-else-months-lt2
returns-else-months-lt2 c =
    omega (arith, late-month c.args.year c.args.months (omega arith) (omega arith))
