-- `opening_of` meets its contract: its calls' contracts, put together. Assumes nothing.
use Rattle.message.proofs.requests.opening_of.Goals as goal

pub returns : goal.returns
returns c =
    rw (c.with-2.ensures, c.with_wide.ensures, c.with.ensures, c.request_of.ensures)
