-- `point_of` meets its contract: its calls' contracts, put together. Assumes nothing.
use Rattle.message.proofs.replies.point_of.Goals as goal

pub returns : goal.returns
returns c =
    rw (c.with_code.ensures, c.with.ensures, c.with_wide.ensures, c.reply_of.ensures)
