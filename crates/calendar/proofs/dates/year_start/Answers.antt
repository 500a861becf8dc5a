-- The leap days of so many years are counted by fourths, hundreds and four hundreds. Assumes nothing.
use native.Mathlib.Omega.{arith}
use Rattle.calendar.proofs.Lengths.{year-start}
use Rattle.calendar.proofs.dates.year_start.Goals as goal

pub returns : goal.returns
returns c = omega (arith, year-start c.args.years)
