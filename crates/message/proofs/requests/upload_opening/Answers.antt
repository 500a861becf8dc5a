-- `upload_opening` meets its contract: its calls' contracts, put together. Assumes nothing.
use Rattle.message.specs.Requests.{upload_opening}
use Rattle.message.proofs.requests.upload_opening.Goals as goal

pub returns : goal.returns
unfolding upload_opening
returns c = rw (c.with.ensures, c.opening_of.ensures)
