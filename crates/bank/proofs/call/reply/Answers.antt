-- Fields and data are read off the verdict. Assumes nothing.
use Rattle.bank.proofs.call.reply.Goals as goal

pub reply_with-requires : goal.reply_with-requires
reply_with-requires c =
    rw (
      c.reply_to.ensures,
      c.file_segment-bytes.ensures,
      c.segment_in.ensures,
      c.subscriber.ensures,
    ) c.requires

pub returns : goal.returns
returns c =
    rw (
      ← c.reply_to.ensures,
      ← c.subscriber.ensures,
      ← c.segment_in.ensures,
      ← c.file_segment-bytes.ensures,
    ) c.reply_with.ensures
