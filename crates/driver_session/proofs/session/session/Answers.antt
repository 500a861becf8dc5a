-- The arrays are zeroed where the calls begin, and the unit is what they leave. Assumes nothing.
use Rattle.driver_session.specs.Session.{start}
use Rattle.driver_session.proofs.Sessions.{zeros-calls, session-of}
use Rattle.driver_session.proofs.session.session.Goals as goal

pub returns : goal.returns
unfolding start
returns g c =
    session-of _ _ _ c.unit_of-unit.ensures (zeros-calls _ _ c.read_all.ensures)
