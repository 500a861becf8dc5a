-- The loop keeps what was read so far. Assumes nothing.
use mathlib.Core.Path.{refl}
use Rattle.marker_session.proofs.Parts.{reads-begin, reads-next}
use Rattle.marker_session.proofs.session.read_all.Goals as goal

pub loop-init : goal.loop-init
loop-init g c = (reads-begin _ _ _ _ refl refl, c.requires.1)

pub loop-preserved : goal.loop-preserved
loop-preserved g c =
    (reads-next _ _ _ _ _ _ _ _ _ c.loop.invariant.0 c.read_on.ensures.1, c.read_on.ensures.0)

pub returns-then-not-read_on : goal.returns-then-not-read_on
returns-then-not-read_on g c =
    (reads-next _ _ _ _ _ _ _ _ _ c.loop.invariant.0 c.read_on.ensures.1, c.read_on.ensures.0)
