-- The record's bytes are as many as its length says at most, and the room holds them. Assumes nothing.
use native.Mathlib.Omega.{arith}
use mathlib.Core.Path.{ap}
use lib.ListN.{length, length-take}
use Rattle.unit_state.specs.Records.{body_of}
use Rattle.unit.specs.Call.{image_step}
use Rattle.unit.proofs.images.image_call.Goals as goal

pub copy-requires : goal.copy-requires
unfolding body_of
copy-requires c =
    omega (arith, c.offset_of.ensures, simp length-take at (ap length c.body_of.ensures), c.requires)

pub returns : goal.returns
unfolding image_step
returns c =
    λ u bank p f b l.
    rw (← c.offset_of.ensures, ← c.body_of.ensures, ← c.copy.ensures)
