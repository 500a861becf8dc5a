-- "Each call brings the time, which an opening carries as its timestamp": an opening issued, read again, has the whole
-- time of its call. Assumes nothing.
use Rattle.client_run.specs.declared.run.Refusal.{Refusal}
use Rattle.number_table.specs.declared.table.WrongLength.{WrongLength}
use Rattle.std.specs.Prelude.{Err, Ok, Result}
use Prim.Native.Nat.{ℕ}
use mathlib.Core.Bool.{true}
use mathlib.Core.List.{List, []}
use mathlib.Core.Path.{◌≡◌, refl, ap, ◌∙◌}
use native.Mathlib.Omega.{arith}
use lib.ListN.{take}
use Rattle.frame_table.specs.declared.fields.Bits128.{Bits128}
use Rattle.frame_table.specs.declared.fields.Fields.{Fields}
use Rattle.frame_table.specs.Names.{no_fields, form, timestamp}
use Rattle.frame_table.specs.Table.{is_request_form, row_fits, find_form, form_of}
use Rattle.frame_reader.specs.Reader.{read_request}
use Rattle.frame.proofs.RoundTrip.{Sized}
use Rattle.frame.proofs.Theorems.{request-read}
use Rattle.message.specs.Requests.{upload_opening, chosen_opening, download_opening}
use Rattle.message.proofs.Verdicts.{by-test}
use Rattle.client_run.specs.declared.run.Answer.TheVariants as answer
use Rattle.client_run.specs.declared.run.ClientRun.{ClientRun}
use Rattle.client_run.specs.declared.run.Decision.{Decision}
use Rattle.message.specs.declared.directions.Direction.{Direction}
use Rattle.message.specs.declared.directions.Direction.TheVariants.{Upload, Download}
use Rattle.message.specs.declared.editions.Edition.{Edition}
use Rattle.message.specs.declared.editions.Edition.TheVariants.{V24, V25}
use Rattle.client_run.specs.declared.run.RunParameters.{RunParameters}
use Rattle.client_run.specs.declared.run.Step.TheVariants as step
use Rattle.client_run.specs.NextRun.{begun, repeated}
use Rattle.client_run.specs.Requests.{opening_by, outstanding, outstanding_data}
use Rattle.client_run.specs.Run.{Lent, ClientCall, lengths_of}
use Rattle.client_rules.specs.Decisions.{may_repeat, on_no_reply}
use Rattle.client_rules.specs.Rulings.{begin_ruling, run_ruling}
use Rattle.client.specs.Calls.{
  call_of,
  if_written,
  outcome_of,
  is_written,
  request_with,
  issued,
  carry_out,
  if_admitted,
  admitted_begin,
  begin_call,
  admitted_no_reply,
  no_reply_call,
}
use Rattle.client_history.proofs.AnyEvent.{begun_by}

-- a request form with the timestamp t
pub record Timed (t : ℕ) (f : Fields) : Type 0 where
  pub sized : Sized f
  pub request : is_request_form (form f) ≡ true
  pub time : timestamp f ≡ t

module _ (c : ClientRun) (time : ℕ) (nonce : List ℕ) where
  upload-timed : (e : Edition) (k s x : ℕ) (v : Bits128) (n : ℕ) → Timed time (opening_by e k s x v time n)
  unfolding upload_opening chosen_opening form_of find_form row_fits
  upload-timed V24 k s x v n = record { sized = (refl, refl); request = refl; time = refl }
  upload-timed V25 k s x v n = record { sized = (refl, refl); request = refl; time = refl }

  opening-by : (w : Direction) → c.direction ≡ w → c.step ≡ step.Opening → Timed time (outstanding c time nonce)
  unfolding outstanding download_opening form_of find_form row_fits
  opening-by Upload d s = rw (d, s) (upload-timed c.terms.edition _ _ _ _ _)
  opening-by Download d s = rw (d, s) (record { sized = (refl, refl); request = refl; time = refl })

  opening-timed : c.step ≡ step.Opening → Timed time (outstanding c time nonce)
  opening-timed s = opening-by c.direction refl s

-- the call answered with a request of n bytes, of which this time is read
abbrev Carries : ClientCall → Lent → Type 0
Carries k l = (n : ℕ) → k.answer ≡ Ok (answer.Request n) → timestamp (read_request (take n k.request)) ≡ l.time

read-time : (next : ClientRun) (l : Lent) (n : ℕ) → next.step ≡ step.Opening → is_written next l ≡ Ok n
    → timestamp (read_request (take n (request_with next l))) ≡ l.time
unfolding is_written request_with
read-time next l n s e =
    let t = opening-timed next l.time l.nonce s in
    ap timestamp
    (request-read (outstanding next l.time l.nonce) (outstanding_data next l.payload) l.request n t.sized e
    t.request)
    ∙ t.time

issued-time : (c next : ClientRun) (file : List ℕ) (l : Lent) → next.step ≡ step.Opening
    → Carries (issued c next file l) l
unfolding issued
issued-time c next file l s n = go (is_written next l) refl
  where
    go : (w : Result ℕ WrongLength) → is_written next l ≡ w
        → let k = call_of (outcome_of w c next) (if_written w file l.file) (request_with next l) in
        k.answer ≡ Ok (answer.Request n) → timestamp (read_request (take n k.request)) ≡ l.time
    go (Ok m) e h = read-time next l n s cc
    go (Err x) e h = absurd (let z : ◌≡◌ {A = ℕ} 0 1 = cc in omega arith)

pub begin-time : (c : ClientRun) (params : RunParameters) (l : Lent) → Carries (begin_call c params l) l
unfolding begin_call begun
begin-time c params l = go (begin_ruling c params l.time (lengths_of l))
  where
    go : (u : Result (Unit {0}) Refusal) → Carries (if_admitted u c l (admitted_begin c params l)) l
    go (Err x) n h = absurd (let z : ◌≡◌ {A = ℕ} 0 1 = cc in omega arith)
    go (Ok u) n h = issued-time c (begun_by params l) l.file l refl n h

-- an opening repeated carries the time of the call that repeats it
pub repeat-time : (c : ClientRun) (l : Lent) → c.step ≡ step.Opening → Carries (no_reply_call c l) l
unfolding no_reply_call on_no_reply repeated
repeat-time c l s = go (run_ruling c l.time (lengths_of l))
  where
    go : (u : Result (Unit {0}) Refusal) → Carries (if_admitted u c l (admitted_no_reply c l)) l
    go (Err x) = λ n h. absurd (let z : ◌≡◌ {A = ℕ} 0 1 = cc in omega arith)
    go (Ok u) =
        by-test (λ (decision : Decision). Carries (carry_out decision c no_fields [] l) l) (may_repeat c)
        (λ _. issued-time c (repeated c) l.file l s)
        (λ _ n h. absurd (let z : ◌≡◌ {A = ℕ} 0 1 = cc in omega arith))
