-- A call at a time over the last one, to the bank or to a run: it is given number 1 and leaves the course, and the
-- premises of demand 3 ask nothing of it. Assumes nothing.
use Rattle.client_run.specs.declared.run.Refusal.{Refusal}
use Rattle.std.specs.Prelude.{Err, Result}
use Prim.Native.Nat.{ℕ, ◌<◌}
use mathlib.Core.List.{List}
use mathlib.Core.Path.{◌≡◌, ap}
use Rattle.frame_table.specs.Table.{last_time}
use Rattle.bank.specs.Call.{FrameInput}
use Rattle.bank_session.specs.Session.{LentSession, SessionFrameCall}
use Rattle.bank_session.proofs.Laws.{late-unchanged}
use Rattle.client_run.specs.declared.run.ClientRun.{ClientRun}
use Rattle.client_run.specs.declared.run.Refusal.TheVariants.{TimeTooHigh}
use Rattle.client_run.specs.declared.run.RunParameters.{RunParameters}
use Rattle.client_run.specs.Run.{Lent, ClientCall, lengths_of, answer_number}
use Rattle.client_rules.proofs.Late.{begin-late, run-late}
use Rattle.client.specs.Calls.{
  if_admitted,
  admitted_begin,
  admitted_reply,
  admitted_no_reply,
  begin_call,
  reply_call,
  no_reply_call,
}
use Rattle.exchange.specs.Course.{
  Call,
  frame_arrives,
  begins,
  reply_arrives,
  no_reply,
  Course,
  call_number,
  exec,
}
use Rattle.exchange.specs.Terms.{InTurn}
use Rattle.exchange.specs.Demand3.{Allowed}
use Rattle.exchange.proofs.Guards.{one-allowed, one-in-turn, one-stays}

-- whatever else it brings and is lent
pub data LateCall : Call → Type 0 where
  frame : {m : LentSession} {a : FrameInput} → last_time < a.time → LateCall (frame_arrives m a)
  begin : {i : ℕ} {c : ClientRun} {params : RunParameters} {l : Lent} → last_time < l.time →
      LateCall (begins i c params l)
  reply : {i : ℕ} {c : ClientRun} {bytes : List ℕ} {l : Lent} → last_time < l.time → LateCall (reply_arrives i c bytes l)
  no-reply : {i : ℕ} {c : ClientRun} {l : Lent} → last_time < l.time → LateCall (no_reply i c l)

ruled-late : (c : ClientRun) (l : Lent) (u : Result (Unit {0}) Refusal) (done : ClientCall) → u ≡ Err TimeTooHigh →
    answer_number (if_admitted u c l done).answer ≡ 1
ruled-late c l u done e = rw e

-- "as bank or client time number 1"
pub late-number : {k : Call} → LateCall k → call_number k ≡ 1
unfolding begin_call reply_call no_reply_call
late-number (frame {m} {a} late) = ap (λ (c : SessionFrameCall). c.number) (late-unchanged m a late)
late-number (begin {c = c} {params = params} {l = l} late) =
    ruled-late c l _ (admitted_begin c params l) (begin-late c params l.time (lengths_of l) late)
late-number (reply {c = c} {bytes = bytes} {l = l} late) =
    ruled-late c l _ (admitted_reply c bytes l) (run-late c l.time (lengths_of l) late)
late-number (no-reply {c = c} {l = l} late) =
    ruled-late c l _ (admitted_no_reply c l) (run-late c l.time (lengths_of l) late)

module _ {k : Call} (late : LateCall k) where
  pub late-allowed : (s : Course) → Allowed k s
  late-allowed s = one-allowed k (late-number late) s

  pub late-in-turn : (i : ℕ) (s : Course) → InTurn i k s
  late-in-turn i s = one-in-turn k (late-number late) i s

  pub late-stays : (s : Course) → exec k s ≡ s
  late-stays s = one-stays k (late-number late) s
