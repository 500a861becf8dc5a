-- `size_of` meets its contract: two bytes, high byte first. Assumes nothing.
use native.Mathlib.Omega.{arith}
use lib.ListN.{length-take, length-drop}
use borrow.Author.Rules.{rules}
use Rattle.frame_table.specs.Table.{width}
use Rattle.marker_session.specs.Lines.{size_of}
use Rattle.marker_session.proofs.record.size_of.Goals as goal

pub slice_bounds-number-end : goal.slice_bounds-number-end
unfolding width
slice_bounds-number-end c = search rules

pub number-requires : goal.number-requires
number-requires c = simp (length-take, length-drop) (omega arith)

pub returns : goal.returns
unfolding size_of width
returns c = c.number.ensures.0
