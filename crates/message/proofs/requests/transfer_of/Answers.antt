-- `transfer_of` meets its contract: its calls' contracts, put together. Assumes nothing.
use Rattle.message.proofs.requests.transfer_of.Goals as goal

pub returns : goal.returns
returns c = rw (c.with.ensures, c.with_wide.ensures, c.request_of.ensures)
