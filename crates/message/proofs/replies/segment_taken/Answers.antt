-- `segment_taken` meets its contract: its calls' contracts, put together. Assumes nothing.
use Rattle.message.specs.Replies.{segment_taken}
use Rattle.message.proofs.replies.segment_taken.Goals as goal

pub returns : goal.returns
unfolding segment_taken
returns c = c.point_of.ensures
