-- The calls made so far make the unit of the one that was lent.
use Rattle.driver_session.specs.Session.{state_in, Calls}
use Rattle.driver_session.proofs.session.read_all.Given as goal

abbrev pub invariant-loop-calls : goal.invariant-loop-calls
invariant-loop-calls g l = Calls (state_in l.initial.lending) (state_in l.lending)
