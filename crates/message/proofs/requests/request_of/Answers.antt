-- `request_of` meets its contract: its calls' contracts, put together. Assumes nothing.
use Rattle.message.proofs.requests.request_of.Goals as goal

pub returns : goal.returns
returns c = rw (c.with-3.ensures, c.with-2.ensures, c.with.ensures, c.none.ensures)
