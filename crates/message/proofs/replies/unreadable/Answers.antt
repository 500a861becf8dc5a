-- `unreadable` meets its contract: its calls' contracts, put together. Assumes nothing.
use Rattle.message.specs.Replies.{unreadable}
use Rattle.message.proofs.replies.unreadable.Goals as goal

pub returns : goal.returns
unfolding unreadable
returns c = rw (c.with_code.ensures, c.none.ensures)
