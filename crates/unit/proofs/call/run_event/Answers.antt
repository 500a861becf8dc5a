-- What a begin keeps fits into its room, and each part of the call is that of the record. Assumes nothing.
use native.Mathlib.Omega.{arith}
use mathlib.Core.Path.{sym, ◌∙◌}
use Rattle.unit.proofs.Begins.{kept-fits, begin-head}
use Rattle.unit.proofs.Steps.{ran}
use Rattle.unit.proofs.call.run_event.Goals as goal

pub nonce_for-nonce-requires : goal.nonce_for-nonce-requires
nonce_for-nonce-requires c =
    λ h. omega (arith, begin-head c.args.event (sym c.begins-begin.ensures ∙ h), c.requires.1.head)

pub keep_payload-requires : goal.keep_payload-requires
keep_payload-requires c = (
  c.requires.0,
  c.requires.1.payload-rooms,
  kept-fits c.args.event _ _ c.args.«record».now _ _ _ _ _ _ c.begins-begin.ensures
      c.payload_for-payload.ensures c.body_of-body.ensures c.room_call-o.ensures c.keeps-kept.ensures,
)

pub returns : goal.returns
returns c =
    λ bank room l.
    let a = c.args in
    ran a.run a.i bank a.payloads.now a.files.now a.buffer.now room l a.«record».now a.event _ _ _ _ _ _ _ _ _ _ _ _
    c.begins-begin.ensures c.nonce_for-nonce.ensures c.body_of-body.ensures
    c.file_of.ensures c.payload_for-payload.ensures c.room_call-o.ensures
    c.keeps-kept.ensures c.keep_payload.ensures c.next_run-next.ensures
    c.run_answer.ensures
