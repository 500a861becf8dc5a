-- `upload_transfer` meets its contract: its calls' contracts, put together. Assumes nothing.
use Rattle.message.specs.Requests.{upload_transfer}
use Rattle.message.proofs.requests.upload_transfer.Goals as goal

pub returns : goal.returns
unfolding upload_transfer
returns c = rw (c.with-2.ensures, c.with.ensures, c.transfer_of.ensures)
