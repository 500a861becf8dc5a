-- The bytes of requests issued and of replies given: the frames of their fields and data, which are read back. Assumes nothing.
use Rattle.client_run.specs.declared.run.Refusal.{Refusal}
use Rattle.number_table.specs.declared.table.WrongLength.{WrongLength}
use Rattle.std.specs.Prelude.{Err, Ok, Result}
use Prim.Native.Nat.{ℕ}
use mathlib.Core.Bool.{true}
use mathlib.Core.List.{List, []}
use mathlib.Core.Path.{◌≡◌, refl, ap, ◌∙◌}
use native.Mathlib.Omega.{arith}
use lib.ListN.{length, take}
use Rattle.frame_table.specs.declared.fields.Fields.{Fields}
use Rattle.frame_table.specs.Names.{form}
use Rattle.frame_reader.specs.Reader.{read_request, read_reply}
use Rattle.frame_row.specs.Row.{data_of}
use Rattle.frame_table.specs.Table.{is_request_form, row_fits, find_form, form_of}
use Rattle.frame.proofs.RoundTrip.{Sized}
use Rattle.frame.proofs.Theorems.{data-read, request-read}
use Rattle.message.specs.declared.editions.Edition.{Edition}
use Rattle.message.specs.declared.editions.Edition.TheVariants.{V24, V25}
use Rattle.message.specs.Requests.{upload_opening, chosen_opening, download_opening, upload_transfer, download_transfer, receipt}
use Rattle.client_run.specs.declared.run.Answer.TheVariants as answer
use Rattle.client_run.specs.declared.run.ClientRun.{ClientRun}
use Rattle.client_run.specs.declared.run.Decision.{Decision}
use Rattle.client_run.specs.declared.run.Decision.TheVariants.{Ignore, Opened, Advance, Return, Repeat, Close}
use Rattle.message.specs.declared.directions.Direction.{Direction}
use Rattle.message.specs.declared.directions.Direction.TheVariants.{Upload, Download}
use Rattle.client_run.specs.declared.run.RunParameters.{RunParameters}
use Rattle.client_run.specs.declared.run.Step.{Step}
use Rattle.client_run.specs.declared.run.Step.TheVariants as step
use Rattle.client.specs.Calls.{
  if_written,
  call_of,
  outcome_of,
  is_written,
  request_with,
  issued,
  taken,
  carry_out,
  if_admitted,
  admitted_begin,
  begin_call,
  reply_call,
  no_reply_call,
}
use Rattle.client_run.specs.NextRun.{begin_length, begun, go_on, repeated, learned, holding, file_with}
use Rattle.client_run.specs.Requests.{nonce_of, opening_by, upload_request, download_request, request_by, outstanding, outstanding_data}
use Rattle.client_run.specs.Run.{Lent, ClientCall, lengths_of, chosen_number}
use Rattle.client_rules.specs.Decisions.{on_reply, on_no_reply}
use Rattle.client_rules.specs.Rulings.{begin_ruling, run_ruling}

-- ---- the request that a run has outstanding

abbrev IsRequest : Fields → Type 0
IsRequest f = Sized f × (is_request_form (form f) ≡ true)

pub outstanding-request : (c : ClientRun) (time : ℕ) (nonce : List ℕ) → IsRequest (outstanding c time nonce)
unfolding outstanding upload_opening chosen_opening upload_transfer download_opening download_transfer receipt form_of find_form row_fits
outstanding-request c time nonce = go c.direction
  where
    opens : (e : Edition) → IsRequest
        (opening_by e (chosen_number c.terms) c.subscriber c.exchange (nonce_of nonce c.exchange) time c.segments)
    opens V24 = ((refl, refl), refl)
    opens V25 = ((refl, refl), refl)

    up : (s : Step) → IsRequest (upload_request s c time nonce)
    up step.Opening = opens c.terms.edition
    up step.Segment = ((refl, refl), refl)
    up step.Receipt = ((refl, refl), refl)

    down : (s : Step) → IsRequest (download_request s c time nonce)
    down step.Opening = ((refl, refl), refl)
    down step.Segment = ((refl, refl), refl)
    down step.Receipt = ((refl, refl), refl)

    go : (w : Direction) → IsRequest (request_by w c time nonce)
    go Upload = up c.step
    go Download = down c.step

-- the call's request is the outstanding request of the run that it leaves
pub record Issued (k : ClientCall) (l : Lent) (n : ℕ) : Type 0 where
  pub answer : is_written k.run l ≡ Ok n
  pub buffer : k.request ≡ request_with k.run l

abbrev Issues : ClientCall → Lent → Type 0
Issues k l = (n : ℕ) → k.answer ≡ Ok (answer.Request n) → Issued k l n

issued-issues : (c next : ClientRun) (file : List ℕ) (l : Lent) → Issues (issued c next file l) l
unfolding issued
issued-issues c next file l n = go (is_written next l) refl
  where
    go : (w : Result ℕ WrongLength) → is_written next l ≡ w → (outcome_of w c next).answer ≡ Ok (answer.Request n) →
        Issued (call_of (outcome_of w c next) (if_written w file l.file) (request_with next l)) l n
    go (Ok m) e h = record { answer = cc; buffer = refl }
    go (Err x) e h = absurd (let z : ◌≡◌ {A = ℕ} 0 1 = cc in omega arith)

module _ (c : ClientRun) (r : Fields) (d : List ℕ) (l : Lent) where
  carried-issues : (decision : Decision) → Issues (carry_out decision c r d l) l
  unfolding taken
  carried-issues Ignore n h = absurd (let z : ◌≡◌ {A = ℕ} 0 1 = cc in omega arith)
  carried-issues Opened n h =
      let k = learned c.direction r c in
      issued-issues c (go_on k.segment k.repeats (holding (length d) k)) (file_with k d l.file) l n h
  carried-issues Advance n h = issued-issues c (go_on c.segment c.repeats (holding (length d) c)) (file_with c d l.file) l n h
  carried-issues (Return s) n h = issued-issues c _ l.file l n h
  carried-issues Repeat n h = issued-issues c (repeated c) l.file l n h
  carried-issues (Close w) n h = absurd (let z : ◌≡◌ {A = ℕ} 0 1 = cc in omega arith)

  ruled-issues : (u : Result (Unit {0}) Refusal) (decision : Decision) → Issues (if_admitted u c l (carry_out decision c r d l)) l
  ruled-issues (Err x) decision n h = absurd (let z : ◌≡◌ {A = ℕ} 0 1 = cc in omega arith)
  ruled-issues (Ok u) decision n h = carried-issues decision n h

module _ (c : ClientRun) (l : Lent) where
  pub begin-issues : (params : RunParameters) → Issues (begin_call c params l) l
  unfolding begin_call
  begin-issues params = go (begin_ruling c params l.time (lengths_of l))
    where
      go : (u : Result (Unit {0}) Refusal) → Issues (if_admitted u c l (admitted_begin c params l)) l
      go (Err x) n h = absurd (let z : ◌≡◌ {A = ℕ} 0 1 = cc in omega arith)
      go (Ok u) n h = issued-issues c (begun params (begin_length params.direction (lengths_of l))) l.file l n h

  pub reply-issues : (frame : List ℕ) → Issues (reply_call c frame l) l
  unfolding reply_call
  reply-issues frame =
      ruled-issues c (read_reply frame) (data_of frame) l (run_ruling c l.time (lengths_of l))
      (on_reply c (read_reply frame) (length (data_of frame)))

  pub no-reply-issues : Issues (no_reply_call c l) l
  unfolding no_reply_call
  no-reply-issues = ruled-issues c _ [] l (run_ruling c l.time (lengths_of l)) (on_no_reply c)

-- its bytes read as its fields and its data
module _ {k : ClientCall} {l : Lent} {n : ℕ} (i : Issued k l n) where
  pub issued-request : read_request (take n k.request) ≡ outstanding k.run l.time l.nonce
  unfolding is_written request_with
  issued-request =
      let q = outstanding-request k.run l.time l.nonce in
      ap (λ (b : List ℕ). read_request (take n b)) i.buffer
      ∙ request-read (outstanding k.run l.time l.nonce) (outstanding_data k.run l.payload) l.request n q.0
      i.answer q.1

  pub issued-data : data_of (take n k.request) ≡ outstanding_data k.run l.payload
  unfolding is_written request_with
  issued-data =
      let q = outstanding-request k.run l.time l.nonce in
      ap (λ (b : List ℕ). data_of (take n b)) i.buffer
      ∙ data-read (outstanding k.run l.time l.nonce) (outstanding_data k.run l.payload) l.request n q.0 i.answer
