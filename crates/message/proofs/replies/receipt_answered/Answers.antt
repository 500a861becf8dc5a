-- `receipt_answered` meets its contract: its calls' contracts, put together. Assumes nothing.
use Rattle.message.specs.Replies.{receipt_answered}
use Rattle.message.proofs.replies.receipt_answered.Goals as goal

pub returns : goal.returns
unfolding receipt_answered
returns c = rw (c.with_code.ensures, c.with_wide.ensures, c.reply_of.ensures)
