-- `chosen_opening` meets its contract: its calls' contracts, put together. Assumes nothing.
use Rattle.message.specs.Requests.{chosen_opening}
use Rattle.message.proofs.requests.chosen_opening.Goals as goal

pub returns : goal.returns
unfolding chosen_opening
returns c = rw (c.with-2.ensures, c.with.ensures, c.upload_opening.ensures)
