-- `read_reply` meets its contract. Assumes nothing.
use Rattle.frame_reader.specs.Reader.{read_reply}
use Rattle.frame_reader.proofs.reader.read_reply.Goals as goal

pub returns : goal.returns
unfolding read_reply
returns c =
    rw (← c.parse.ensures.0, ← c.form.ensures, ← c.is_reply_form.ensures) c.fields_if.ensures
