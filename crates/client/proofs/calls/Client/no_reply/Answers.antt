-- The ruling comes first: a call that is given a number returns at once, and an admitted one finds the buffers right.
-- Assumes nothing.
use mathlib.Core.Logic.{inr}
use mathlib.Core.Path.{sym}
use Rattle.client.specs.Calls.{no_reply_call}
use Rattle.client_run.specs.Run.{lent_of}
use Rattle.client_rules.proofs.Accepted.{admitted}
use Rattle.client.proofs.calls.Client.no_reply.Goals as goal

pub carry_out-requires : goal.carry_out-requires
carry_out-requires c =
    let a = c.args in
    let known = admitted a.self.run (lent_of a.time a.nonce a.payload.now a.file.now a.request.now)
    (sym (rw c.lengths.ensures at c.in-Ok.ensures)) in
    (inr c.on_no_reply-decision.ensures, known.0, known.1)

pub returns-in-Err : goal.returns-in-Err
unfolding no_reply_call
returns-in-Err c =
    rw (← c.lengths.ensures, ← c.in-Err.ensures, c.answered.ensures)

pub returns-in-Ok : goal.returns-in-Ok
unfolding no_reply_call
returns-in-Ok c =
    rw (
      ← c.none-r.ensures,
      ← c.no_data.ensures,
      ← c.on_no_reply-decision.ensures,
      ← c.lengths.ensures,
      ← c.in-Ok.ensures,
    ) c.carry_out.ensures
