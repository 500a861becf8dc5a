-- Segment 0 is empty; another is that part of the file. Assumes nothing.
use borrow.Author.Tests.{ne_eqb}
use Rattle.bank.proofs.call.file_segment.Goals as goal

pub returns-then-segment-eq0 : goal.returns-then-segment-eq0
returns-then-segment-eq0 c = rw c.if-segment-eq0.true

pub returns : goal.returns
returns c =
    rw (
      ne_eqb c.args.segment 0 c.if-segment-eq0.false,
      c.segment_of.ensures,
      c.file_of-file.ensures,
      c.mailbox_of.ensures,
    )
