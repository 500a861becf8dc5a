-- `download_opening` meets its contract: its calls' contracts, put together. Assumes nothing.
use Rattle.message.specs.Requests.{download_opening}
use Rattle.message.proofs.requests.download_opening.Goals as goal

pub returns : goal.returns
unfolding download_opening
returns c = c.opening_of.ensures
