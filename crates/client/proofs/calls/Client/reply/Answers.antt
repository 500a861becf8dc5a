-- The ruling comes first: a call that is given a number returns at once, and an admitted one finds the buffers right.
-- Assumes nothing.
use mathlib.Core.Path.{sym}
use Rattle.client.specs.Calls.{reply_call}
use Rattle.client_run.specs.Run.{lent_of}
use Rattle.client_rules.proofs.Accepted.{admitted}
use Rattle.client.proofs.calls.Client.reply.Goals as goal

pub take_reply-requires : goal.take_reply-requires
take_reply-requires c =
    let a = c.args in
    admitted a.self.run (lent_of a.time a.nonce a.payload.now a.file.now a.request.now)
    (sym (rw c.lengths.ensures at c.in-Ok.ensures))

pub returns-in-Err : goal.returns-in-Err
unfolding reply_call
returns-in-Err c =
    rw (← c.lengths.ensures, ← c.in-Err.ensures, c.answered.ensures)

pub returns-in-Ok : goal.returns-in-Ok
unfolding reply_call
returns-in-Ok c =
    rw (← c.lengths.ensures, ← c.in-Ok.ensures) c.take_reply.ensures
