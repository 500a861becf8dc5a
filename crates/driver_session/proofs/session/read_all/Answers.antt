-- The calls made so far make the unit of the one that was lent. Assumes nothing.
use Rattle.driver_session.proofs.Sessions.{no-calls, calls-on}
use Rattle.driver_session.proofs.session.read_all.Goals as goal

pub loop-calls-init : goal.loop-calls-init
loop-calls-init g c = no-calls _

pub loop-calls-preserved : goal.loop-calls-preserved
loop-calls-preserved g c = calls-on _ _ _ c.loop-calls.invariant c.step.ensures

pub returns-then-not-step : goal.returns-then-not-step
returns-then-not-step g c = calls-on _ _ _ c.loop-calls.invariant c.step.ensures
