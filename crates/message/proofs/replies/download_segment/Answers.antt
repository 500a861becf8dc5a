-- `download_segment` meets its contract: its calls' contracts, put together. Assumes nothing.
use Rattle.message.specs.Replies.{download_segment}
use Rattle.message.proofs.replies.download_segment.Goals as goal

pub returns : goal.returns
unfolding download_segment
returns c =
    rw (c.with_code.ensures, c.with_segment.ensures, c.with_wide.ensures, c.reply_of.ensures)
