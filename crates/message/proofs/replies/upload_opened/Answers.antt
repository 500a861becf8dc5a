-- `upload_opened` meets its contract. Assumes nothing.
use Rattle.message.specs.Replies.{upload_opened, chosen_opened}
use Rattle.message.proofs.replies.upload_opened.Goals as goal

pub returns : goal.returns
unfolding upload_opened chosen_opened
returns c = rw (c.with.ensures, c.chosen_opened.ensures)
