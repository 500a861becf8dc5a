-- `receipt` meets its contract: its calls' contracts, put together. Assumes nothing.
use Rattle.message.specs.Requests.{receipt}
use Rattle.message.proofs.requests.receipt.Goals as goal

pub returns : goal.returns
unfolding receipt
returns c = rw (c.with.ensures, c.with_wide.ensures, c.request_of.ensures)
