-- `reply_of` meets its contract: its calls' contracts, put together. Assumes nothing.
use Rattle.message.proofs.replies.reply_of.Goals as goal

pub returns : goal.returns
returns c = rw (c.with-2.ensures, c.with.ensures, c.none.ensures)
