-- `recovery_point` meets its contract: its calls' contracts, put together. Assumes nothing.
use Rattle.message.specs.Replies.{recovery_point}
use Rattle.message.proofs.replies.recovery_point.Goals as goal

pub returns : goal.returns
unfolding recovery_point
returns c = c.point_of.ensures
