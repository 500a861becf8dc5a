-- `read_whole_request` meets its contract. Assumes nothing.
use Rattle.frame_reader.specs.Reader.{read_request}
use Rattle.frame_reader.proofs.reader.read_whole_request.Goals as goal

pub returns : goal.returns
unfolding read_request
returns c =
    let f = c.form.ensures in
    (rw (← c.parse-p.ensures.0, ← f, ← c.is_request_form.ensures) c.fields_if.ensures, c.parse-p.ensures.1)
