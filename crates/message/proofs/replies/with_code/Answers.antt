-- `with_code` meets its contract: its calls' contracts, put together. Assumes nothing.
use Rattle.message.proofs.replies.with_code.Goals as goal

pub returns : goal.returns
returns c = rw (c.with.ensures, c.code_field.ensures)
