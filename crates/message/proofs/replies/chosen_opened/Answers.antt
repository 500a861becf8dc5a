-- `chosen_opened` meets its contract: its calls' contracts, put together. Assumes nothing.
use Rattle.message.specs.Replies.{chosen_opened}
use Rattle.message.proofs.replies.chosen_opened.Goals as goal

pub returns : goal.returns
unfolding chosen_opened
returns c = rw (c.with_code.ensures, c.with_wide.ensures, c.reply_of.ensures)
