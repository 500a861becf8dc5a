-- A month has at most 31 days, and all have little less. Assumes nothing.
use native.Mathlib.Omega.{arith}
use Rattle.calendar.proofs.Lengths.{month-next, month-here, leap-most}
use Rattle.calendar.proofs.dates.months_before.Goals as goal

pub month_start-requires : goal.month_start-requires
month_start-requires c = omega (arith, leap-most c.args.year)

pub returns-then-month_start-rest : goal.returns-then-month_start-rest
returns-then-month_start-rest c = month-next _ _ _ (omega arith) (omega arith) (omega arith)

pub returns-else-month_start-rest : goal.returns-else-month_start-rest
returns-else-month_start-rest c = month-here _ _ _ (omega arith) (omega arith) (omega arith)
