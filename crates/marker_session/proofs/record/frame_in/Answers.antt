-- `frame_in` meets its contract. Assumes nothing.
use Rattle.octets.proofs.Numbers.{take_rest}
use Rattle.marker_session.specs.Lines.{head_bytes, frame_in}
use borrow.Author.Rules.{rules}
use Rattle.frame_table.specs.Table.{width}
use Rattle.marker_session.proofs.record.frame_in.Goals as goal

pub slice_bounds-front-count : goal.slice_bounds-front-count
unfolding width
slice_bounds-front-count c = search rules

pub slice_bounds-front-start : goal.slice_bounds-front-start
unfolding width
slice_bounds-front-start c = search rules

pub returns : goal.returns
unfolding frame_in width
returns c =
    let s = c.args.s.now in
    rw (← c.size_of.ensures, ← take_rest s head_bytes) c.front.ensures
