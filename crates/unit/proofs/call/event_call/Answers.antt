-- The client's call on the parts of the record. Assumes nothing.
use Rattle.unit.proofs.call.event_call.Goals as goal

pub returns-in-Upload : goal.returns-in-Upload
returns-in-Upload c =
    rw (c.in-Upload.is, ← c.params_of-params.ensures, ← c.number_at-time.ensures) c.begin.ensures

pub returns-in-Download : goal.returns-in-Download
returns-in-Download c =
    rw (c.in-Download.is, ← c.params_of-params-in-Download.ensures, ← c.number_at-time.ensures) c.begin-in-Download.ensures

pub returns-in-Reply : goal.returns-in-Reply
returns-in-Reply c =
    rw (c.in-Reply.is, ← c.body_of-body.ensures, ← c.number_at-time.ensures) c.reply.ensures

pub returns-in-NoReply : goal.returns-in-NoReply
returns-in-NoReply c =
    rw (c.in-NoReply.is, ← c.number_at-time.ensures) c.no_reply.ensures
