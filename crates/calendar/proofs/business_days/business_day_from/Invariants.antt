-- Every day passed is closed. Assumes nothing.
use Rattle.calendar.proofs.ExecutionDays.{NoneFrom}
use Rattle.calendar.proofs.business_days.business_day_from.Given as goal

abbrev pub invariant-loop-number : goal.invariant-loop-number
invariant-loop-number l = NoneFrom l.first l.number
