-- The unit after a call, from what each part of the call leaves. Assumes nothing.
use Prim.Native.Nat.{ℕ, ◌+◌, ◌-◌, ◌*◌, ◌≤◌}
use mathlib.Core.Bool.{Bool, true, false, not, cond}
use mathlib.Core.List.{List}
use mathlib.Core.Path.{◌≡◌, refl, sym, ◌∙◌}
use lib.ListN.{length, set}
use borrow.Author.Tests.{not-false}
use borrow.Rule.Slice.PartMut.{put_mid, mid_of}
use Rattle.message.specs.Limits.{file_bytes}
use Rattle.bank_state.specs.Store.{part_at, with_part, file_of}
use Rattle.bank_state.proofs.Stores.{part-back}
use Rattle.bank_steps.specs.Lent.{Lent}
use Rattle.client_run.specs.declared.run.ClientRun.{ClientRun}
use Rattle.client.specs.declared.calls.Outcome.{Outcome}
use Rattle.client_run.specs.Run.{lent_of}
use Rattle.client.specs.Calls as client
use Rattle.client.specs.declared.journal_call.JournalOutcome.{JournalOutcome}
use Rattle.client.specs.Journal.{journal_call_of, journal_call}
use Rattle.unit_state.specs.declared.record.Event.{Event}
use Rattle.unit_state.specs.declared.record.Kind.{Kind}
use Rattle.unit_state.specs.declared.record.Kind.TheVariants as kind
use Rattle.unit_state.specs.declared.answer.Answer.{Answer}
use Rattle.unit.specs.declared.call.RunOut.{RunOut}
use Rattle.unit_state.specs.declared.state.Run.{Run}
use Rattle.unit_state.specs.declared.state.UnitState.{UnitState}
use Rattle.unit_state.specs.Records.{run_of, time_of, nonce_of, body_of, is_run, call_of}
use Rattle.unit_state.specs.State.{rooms_bytes, unit_of, run_at}
use Rattle.unit_rows.specs.Lines.{Lines}
use Rattle.unit.specs.State.{Memory, State, memory, state_of}
use Rattle.unit.specs.Call.{
  UnitCall,
  Ready,
  after_call,
  run_answer,
  journal_answer,
  index_of,
  begins,
  event_call,
  room_call,
  keeps,
  with_client,
  next_run,
  kept_payloads,
  run_call_of,
  run_call,
  run_step,
  journal_step,
  step_of,
  rooms_of,
  unit_call,
}
use Rattle.unit_state.proofs.Parts.{callable, run-named, whole-head}

-- the part of a run, lent and come back as x
pub part-kept : (files x : List ℕ) (i : ℕ) → i * file_bytes + file_bytes ≤ length files
    → length x ≡ length (mid_of (i * file_bytes) (i * file_bytes + file_bytes - i * file_bytes) files)
    → put_mid (i * file_bytes) (i * file_bytes + file_bytes - i * file_bytes) files x ≡ with_part files i x
unfolding with_part
part-kept files x i h e = part-back files x (i * file_bytes) file_bytes h e

-- a client's call with the file buffer of run i
pub roomed : (e : Event) (c : ClientRun) (i : ℕ) (r : List ℕ) (time : ℕ) (nonce payload files buffer : List ℕ)
    (out : Outcome) (file file' files' buffer' : List ℕ)
    → file ≡ part_at files i → files' ≡ with_part files i file'
    → client.call_of out file' buffer' ≡ event_call e c r (lent_of time nonce payload file buffer)
    → client.call_of out files' buffer' ≡ room_call e c i r (lent_of time nonce payload files buffer)
unfolding room_call
roomed e c i r time nonce payload files buffer out file file' files' buffer' lent back o = rw (back, ← lent, ← o)

-- a call to run i
pub ran : (run : Run) (i : ℕ) (bank : Lent) (payloads files buffer room : List ℕ) (l : Lines) (r : List ℕ) (e : Event)
    (begin : Bool) (nonce body held payload : List ℕ) (out : Outcome) (files' buffer' : List ℕ)
    (kept : Bool) (payloads' : List ℕ) (run' : Run) (answer : Answer)
    → begin ≡ begins e → nonce ≡ cond begin (nonce_of r) run.nonce → body ≡ body_of (kind.Run e) r
    → held ≡ file_of payloads i run.payload → payload ≡ cond begin body held
    → client.call_of out files' buffer' ≡ room_call e run.client.run i r (lent_of (time_of r) nonce payload files buffer)
    → kept ≡ keeps begin out.answer → payloads' ≡ kept_payloads kept payloads i body
    → run' ≡ next_run kept run out.client.run nonce (length body) → answer ≡ run_answer out.answer out.client.run
    → run_call_of (record { run = run'; answer = answer }) (memory bank payloads' files' buffer' room l)
    ≡ run_call e i run (memory bank payloads files buffer room l) r
unfolding run_call
ran run i bank payloads files buffer room l r e begin nonce body held payload out files' buffer' kept payloads' run' answer
    eb en ey eh ep ec ek es er ea =
    rw (ea, er, es, ek, ← eb, ← en, ← ey, ← eh, ← ep, ← ec)

-- the run taken out, called, and put back
pub put_back : (u : UnitState) (runs' : List Run) (m m' : Memory) (r : List ℕ) (e : Event) (i : ℕ) (out : RunOut)
    → i ≡ index_of r → run_call_of out m' ≡ run_call e i (run_at u.runs i) m r
    → runs' ≡ set u.runs i out.run
    → after_call (unit_of runs' u.journal) m' out.answer ≡ run_step e (state_of u m) r
unfolding run_step
put_back u runs' m m' r e i out at eo eu = rw (eu, ← at, ← eo)

-- the run taken out, handed the journal, and put back
pub handed : (u : UnitState) (runs' : List Run) (m : Memory) (r : List ℕ) (i : ℕ) (out : JournalOutcome) (run' : Run) (answer : Answer)
    → i ≡ index_of r → journal_call_of out ≡ journal_call (run_at u.runs i).client.run u.journal
    → run' ≡ with_client (run_at u.runs i) out.client.run → runs' ≡ set u.runs i run'
    → answer ≡ journal_answer out.answer out.client.run
    → after_call (unit_of runs' u.journal) m answer ≡ journal_step (state_of u m) r
unfolding journal_step
handed u runs' m r i out run' answer at eo er eu ea = rw (ea, eu, er, ← at, ← eo)

-- a record that hands over the journal names one of the runs
pub handed-run : (r : List ℕ) (k : Kind) → k ≡ call_of r → k ≡ kind.Journal → is_run (run_of r) ≡ true
handed-run r k ek told = (callable r kind.Journal refl (sym ek ∙ told)).within

-- what a call to a run asks, where the rooms are of their lengths
pub ready : (e : Event) (r payloads files : List ℕ) (k : Kind) → length payloads ≡ rooms_bytes → length files ≡ rooms_bytes
    → k ≡ call_of r → k ≡ kind.Run e → Ready e r payloads files
ready e r payloads files k ep ef ek told =
    let q = sym ek ∙ told in
    record {
      run = run-named r e q;
      head = whole-head _ r (callable r (kind.Run e) refl q).whole;
      payload-rooms = ep;
      file-rooms = ef;
    }

-- the call of a record, where the rooms are of their lengths
pub called : (s : State) (r : List ℕ) (right : Bool) (k g : Kind) (o : UnitCall)
    → right ≡ rooms_of s.memory → not right ≡ false → k ≡ call_of r → k ≡ g → o ≡ step_of g s r → o ≡ unit_call s r
unfolding unit_call
called s r right k g o rooms h ek told step = rw (← rooms, not-false right h, ← ek, told) step
