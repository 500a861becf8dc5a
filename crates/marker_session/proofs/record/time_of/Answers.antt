-- `time_of` meets its contract: as many bytes as a timestamp has, high byte first. Assumes nothing.
use native.Mathlib.Omega.{arith}
use lib.ListN.{length-take}
use Rattle.frame_table.specs.Table.{width}
use Rattle.marker_session.specs.Lines.{time_of}
use Rattle.marker_session.proofs.record.time_of.Goals as goal

pub slice_bounds-number-end : goal.slice_bounds-number-end
unfolding width
slice_bounds-number-end c = simp length-take (omega arith)

pub number-requires : goal.number-requires
unfolding width
number-requires c = simp length-take (omega arith)

pub returns : goal.returns
unfolding time_of width
returns c = c.number.ensures.0
