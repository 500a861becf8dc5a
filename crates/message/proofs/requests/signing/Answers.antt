-- `signing` meets its contract: its calls' contracts, put together. Assumes nothing.
use Rattle.message.specs.Requests.{signing}
use Rattle.message.proofs.requests.signing.Goals as goal

pub returns : goal.returns
unfolding signing
returns c =
    rw (c.with-3.ensures, c.with-2.ensures, c.with.ensures, c.opening_of.ensures)
