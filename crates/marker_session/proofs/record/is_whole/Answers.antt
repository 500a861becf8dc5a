-- `is_whole` meets its contract. Assumes nothing.
use mathlib.Core.Path.{◌∙◌}
use lib.ListN.{length}
use borrow.Author.Tests.{lt-leb, le-leb}
use Rattle.marker_session.specs.Lines.{head_bytes, is_whole}
use Rattle.octets.proofs.Tests.{leb-sub}
use borrow.Author.Rules.{rules}
use Rattle.frame_table.specs.Table.{width}
use Rattle.marker_session.proofs.record.is_whole.Goals as goal

pub size_of-requires : goal.size_of-requires
unfolding width
size_of-requires c = search rules

pub returns-then-s-ge-HEAD_BYTES : goal.returns-then-s-ge-HEAD_BYTES
unfolding is_whole width
returns-then-s-ge-HEAD_BYTES c =
    let n = c.if-s-ge-HEAD_BYTES.true in
    rw (le-leb _ _ n, c.size_of.ensures) (leb-sub head_bytes _ _ n)

pub returns-else-s-ge-HEAD_BYTES : goal.returns-else-s-ge-HEAD_BYTES
unfolding is_whole width
returns-else-s-ge-HEAD_BYTES c =
    let short = lt-leb head_bytes (length c.args.s.now) c.if-s-ge-HEAD_BYTES.false in
    short ∙ rw short
