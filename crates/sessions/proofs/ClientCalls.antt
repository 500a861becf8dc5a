-- A client's call keeps the length of a file buffer; one given a number changes nothing; a reply or none
-- is taken by a run that has begun; one that answers a closing word leaves the run ended with it.
use Rattle.number_table.specs.declared.table.WrongLength.{WrongLength}
use Rattle.std.specs.Prelude.{Err, Ok, Result}
use Prim.Native.Nat.{ℕ, ◌-◌, ◌*◌, ◌≤◌}
use mathlib.Core.Bool.{Bool, true, false}
use mathlib.Core.List.{List, []}
use mathlib.Core.Path.{◌≡◌, refl, ap}
use native.Mathlib.Omega.{arith}
use lib.ListN.{length}
use Rattle.octets.proofs.Numbers.{length-overwrite}
use Rattle.octets.proofs.Tests.{never}
use Rattle.frame_table.specs.declared.fields.Fields.{Fields}
use Rattle.frame_table.specs.Names.{no_fields}
use Rattle.frame_reader.specs.Reader.{read_reply}
use Rattle.frame_row.specs.Row.{data_of}
use Rattle.message.specs.Limits.{segment_bytes, file_bytes}
use Rattle.client_run.specs.declared.run.Answer.{Answer}
use Rattle.client_run.specs.declared.run.Answer.TheVariants as answer
use Rattle.client_run.specs.declared.run.ClientRun.{ClientRun}
use Rattle.client_run.specs.declared.run.Decision.{Decision}
use Rattle.client_run.specs.declared.run.Decision.TheVariants.{Ignore, Opened, Advance, Return, Repeat, Close}
use Rattle.message.specs.declared.directions.Direction.{Direction}
use Rattle.message.specs.declared.directions.Direction.TheVariants as direction
use Rattle.client_run.specs.declared.run.Refusal.{Refusal}
use Rattle.client_run.specs.declared.run.Refusal.TheVariants.{
  TimeTooHigh,
  WrongBuffer,
  ExchangeTooHigh,
  NoSubscriber,
  WrongStage,
}
use Rattle.client_run.specs.declared.run.RunParameters.{RunParameters}
use Rattle.client_run.specs.declared.run.Stage.{Stage}
use Rattle.client_run.specs.declared.run.Stage.TheVariants as stage
use Rattle.client_run.specs.declared.run.Word.{Word}
use Rattle.client.specs.Calls.{
  if_written,
  call_of,
  outcome_of,
  is_written,
  request_with,
  issued,
  taken,
  carry_out,
  if_admitted,
  admitted_begin,
  begin_call,
  admitted_reply,
  reply_call,
  admitted_no_reply,
  no_reply_call,
}
use Rattle.client_run.specs.NextRun.{HasPlace, file_by, file_with, learned, ended}
use Rattle.client_run.specs.Run.{Lent, ClientCall, lengths_of, answer_number, refusal_number, max_exchange}
use Rattle.client_rules.specs.Decisions.{on_reply, on_no_reply}
use Rattle.client_rules.specs.Rulings.{begin_ruling, run_ruling, is_begun}
use Rattle.client_rules.proofs.Accepted.{accepted}
use Rattle.client_rules.proofs.Causes.{Cause, by-reply, by-no-reply}
use Rattle.client_rules.proofs.Feasible.{opened-takes, advance-place}
use Rattle.unit_state.specs.declared.record.Event.{Event}
use Rattle.unit_state.specs.declared.record.Event.TheVariants.{Upload, Download, Reply, NoReply}
use Rattle.unit.specs.Call.{event_call}

-- what a call to the run c that is lent l leaves
pub record Keeps (c : ClientRun) (l : Lent) (k : ClientCall) : Type 0 where
  pub long : length k.file ≡ length l.file
  pub refused : (x : Refusal) → k.answer ≡ Err x → (k.run ≡ c) × (k.file ≡ l.file)

-- ---- a request issued

issued-keeps : (c next : ClientRun) (file : List ℕ) (l : Lent) → length file ≡ length l.file →
    Keeps c l (issued c next file l)
unfolding issued
issued-keeps c next file l e = at (is_written next l)
  where
    at : (w : Result ℕ WrongLength) → Keeps c l (call_of (outcome_of w c next) (if_written w file l.file) (request_with next l))
    at (Ok n) =
        record { long = e; refused = λ x h. absurd (let z : ◌≡◌ {A = ℕ} 0 1 = cc in omega arith) }
    at (Err e) = record { long = refl; refused = λ x h. (refl, refl) }

-- a segment that a download holds has its place in the file buffer
file-long : (k : ClientRun) (d file : List ℕ) → length file ≡ file_bytes → HasPlace k (length d) →
    length (file_with k d file) ≡ length file
file-long k d file whole fits = at k.direction refl
  where
    at : (w : Direction) → k.direction ≡ w → length (file_by w k.segment d file) ≡ length file
    at direction.Upload e = refl
    at direction.Download e =
        let (least, place, size) = fits e in
        length-overwrite file ((k.segment - 1) * segment_bytes) d (omega arith)

module _ (c : ClientRun) (l : Lent) (whole : length l.file ≡ file_bytes) (low : c.exchange ≤ max_exchange) where
  carried_keeps : (decision : Decision) (r : Fields) (d : List ℕ) → Cause c r (length d) decision →
      Keeps c l (carry_out decision c r d l)
  unfolding taken
  carried_keeps Ignore r d k =
      record { long = refl; refused = λ x h. absurd (let z : ◌≡◌ {A = ℕ} 0 1 = cc in omega arith) }
  carried_keeps Opened r d k =
      let takes = opened-takes c r (length d) (length l.file) low (λ _. whole) c.direction refl k in
      issued-keeps c _ _ l (file-long (learned c.direction r c) d l.file whole takes.2)
  carried_keeps Advance r d k =
      issued-keeps c _ _ l (file-long c d l.file whole (advance-place c r (length d) k))
  carried_keeps (Return s) r d k = issued-keeps c _ l.file l refl
  carried_keeps Repeat r d k = issued-keeps c _ l.file l refl
  carried_keeps (Close w) r d k =
      record { long = refl; refused = λ x h. absurd (let z : ◌≡◌ {A = ℕ} 0 1 = cc in omega arith) }

-- ---- the calls

admitted-keeps : (u : Result (Unit {0}) Refusal) (c : ClientRun) (l : Lent) (done : ClientCall) → (u ≡ Ok tt → Keeps c l done) →
    Keeps c l (if_admitted u c l done)
admitted-keeps (Err x) c l done f = record { long = refl; refused = λ y h. (refl, refl) }
admitted-keeps (Ok u) c l done f = f refl

begin-keeps : (c : ClientRun) (params : RunParameters) (l : Lent) → Keeps c l (begin_call c params l)
unfolding begin_call
begin-keeps c params l =
    admitted-keeps (begin_ruling c params l.time (lengths_of l)) c l (admitted_begin c params l)
    (λ _. issued-keeps c _ l.file l refl)

module _ (c : ClientRun) (l : Lent) (whole : length l.file ≡ file_bytes) where
  reply-keeps : (frame : List ℕ) → Keeps c l (reply_call c frame l)
  unfolding reply_call
  reply-keeps frame =
      admitted-keeps (run_ruling c l.time (lengths_of l)) c l (admitted_reply c frame l)
      (λ a. carried_keeps c l whole (accepted c l a).exchange
      (on_reply c (read_reply frame) (length (data_of frame))) (read_reply frame) (data_of frame)
      (by-reply c (read_reply frame) (length (data_of frame))))

  no-reply-keeps : Keeps c l (no_reply_call c l)
  unfolding no_reply_call
  no-reply-keeps =
      admitted-keeps (run_ruling c l.time (lengths_of l)) c l (admitted_no_reply c l)
      (λ a. carried_keeps c l whole (accepted c l a).exchange (on_no_reply c) no_fields []
      (by-no-reply c no_fields 0))

  pub event-keeps : (e : Event) (r : List ℕ) → Keeps c l (event_call e c r l)
  event-keeps Upload r = begin-keeps c _ l
  event-keeps Download r = begin-keeps c _ l
  event-keeps Reply r = reply-keeps _
  event-keeps NoReply r = no-reply-keeps

-- ---- no number

pub refusal-numbered : (x : Refusal) → refusal_number x ≡ 0 → ⊥
refusal-numbered TimeTooHigh z = omega arith
refusal-numbered WrongBuffer z = omega arith
refusal-numbered ExchangeTooHigh z = omega arith
refusal-numbered NoSubscriber z = omega arith
refusal-numbered WrongStage z = omega arith

is-admitted : (u : Result (Unit {0}) Refusal) (c : ClientRun) (l : Lent) (done : ClientCall) →
    answer_number (if_admitted u c l done).answer ≡ 0 → u ≡ Ok tt
is-admitted (Err x) c l done z = absurd (refusal-numbered x z)
is-admitted (Ok u) c l done z = refl

module _ (c : ClientRun) (l : Lent) where
  begun-by : (done : ClientCall) →
      answer_number (if_admitted (run_ruling c l.time (lengths_of l)) c l done).answer ≡ 0 → is_begun c.stage ≡ true
  begun-by done z =
      let a = is-admitted (run_ruling c l.time (lengths_of l)) c l done z in
      ap (λ (x : Stage). is_begun x) (accepted c l a).running

  pub reply-begun : (frame : List ℕ) → answer_number (reply_call c frame l).answer ≡ 0 → is_begun c.stage ≡ true
  unfolding reply_call
  reply-begun frame z = begun-by (admitted_reply c frame l) z

  pub no-reply-begun : answer_number (no_reply_call c l).answer ≡ 0 → is_begun c.stage ≡ true
  unfolding no_reply_call
  no-reply-begun z = begun-by (admitted_no_reply c l) z

-- ---- a closing word

-- the word of an answer that has one
abbrev word_in : Word → Result Answer Refusal → Word
word_in x (Ok (answer.Request n)) = x
word_in x (Ok answer.Ignored) = x
word_in x (Ok (answer.Closed w)) = w
word_in x (Err y) = x

abbrev is_closed : Result Answer Refusal → Bool
is_closed (Ok (answer.Request n)) = false
is_closed (Ok answer.Ignored) = false
is_closed (Ok (answer.Closed w)) = true
is_closed (Err y) = false

-- what answers a closing word leaves the run ended with it
abbrev Ends : ClientCall → Type 0
Ends k = (w : Word) → k.answer ≡ Ok (answer.Closed w) → k.run.stage ≡ stage.Ended w

issued-ends : (c next : ClientRun) (file : List ℕ) (l : Lent) → Ends (issued c next file l)
unfolding issued
issued-ends c next file l w = at (is_written next l)
  where
    at : (x : Result ℕ WrongLength) → (outcome_of x c next).answer ≡ Ok (answer.Closed w) → (outcome_of x c next).client.run.stage ≡ stage.Ended w
    at (Ok n) e = never (ap is_closed e)
    at (Err x) e = never (ap is_closed e)

carried-ends : (decision : Decision) (c : ClientRun) (r : Fields) (d : List ℕ) (l : Lent) → Ends (carry_out decision c r d l)
unfolding taken ended
carried-ends Ignore c r d l w e = never (ap is_closed e)
carried-ends Opened c r d l w e = issued-ends c _ _ l w e
carried-ends Advance c r d l w e = issued-ends c _ _ l w e
carried-ends (Return s) c r d l w e = issued-ends c _ l.file l w e
carried-ends Repeat c r d l w e = issued-ends c _ l.file l w e
carried-ends (Close x) c r d l w e = ap stage.Ended (ap (word_in x) e)

admitted-ends : (u : Result (Unit {0}) Refusal) (c : ClientRun) (l : Lent) (done : ClientCall) → Ends done → Ends (if_admitted u c l done)
admitted-ends (Err x) c l done f w e = never (ap is_closed e)
admitted-ends (Ok u) c l done f w e = f w e

module _ (c : ClientRun) (l : Lent) where
  begin-ends : (params : RunParameters) → Ends (begin_call c params l)
  unfolding begin_call
  begin-ends params =
      admitted-ends (begin_ruling c params l.time (lengths_of l)) c l (admitted_begin c params l) (issued-ends c _ l.file l)

  reply-ends : (frame : List ℕ) → Ends (reply_call c frame l)
  unfolding reply_call
  reply-ends frame =
      admitted-ends (run_ruling c l.time (lengths_of l)) c l (admitted_reply c frame l)
      (carried-ends (on_reply c (read_reply frame) (length (data_of frame))) c (read_reply frame) (data_of frame) l)

  no-reply-ends : Ends (no_reply_call c l)
  unfolding no_reply_call
  no-reply-ends =
      admitted-ends (run_ruling c l.time (lengths_of l)) c l (admitted_no_reply c l)
      (carried-ends (on_no_reply c) c no_fields [] l)

  pub event-ends : (r : List ℕ) (e : Event) → Ends (event_call e c r l)
  event-ends r Upload = begin-ends _
  event-ends r Download = begin-ends _
  event-ends r Reply = reply-ends _
  event-ends r NoReply = no-reply-ends
