-- `download_transfer` meets its contract: its calls' contracts, put together. Assumes nothing.
use Rattle.message.specs.Requests.{download_transfer}
use Rattle.message.proofs.requests.download_transfer.Goals as goal

pub returns : goal.returns
unfolding download_transfer
returns c = c.transfer_of.ensures
