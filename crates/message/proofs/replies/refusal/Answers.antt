-- `refusal` meets its contract: its calls' contracts, put together. Assumes nothing.
use Rattle.message.specs.Replies.{refusal}
use Rattle.message.proofs.replies.refusal.Goals as goal

pub returns : goal.returns
unfolding refusal
returns c = rw (c.with_code.ensures, c.reply_of.ensures)
