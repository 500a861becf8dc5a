-- `download_opened` meets its contract: its calls' contracts, put together. Assumes nothing.
use Rattle.message.specs.Replies.{download_opened}
use Rattle.message.proofs.replies.download_opened.Goals as goal

pub returns : goal.returns
unfolding download_opened
returns c =
    rw (
      c.with_code.ensures,
      c.with_segment.ensures,
      c.with_wide-opened.ensures,
      c.with.ensures,
      c.reply_of.ensures,
    )
