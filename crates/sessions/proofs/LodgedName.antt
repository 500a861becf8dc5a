-- "Lodged" as the unit answers it: the run that the record names is ended so, and the answer has the name of its order, which
-- is in the book. Assumes nothing.
use Rattle.bank.specs.declared.mailbox.FileRefusal.{FileRefusal}
use Rattle.calendar.specs.declared.dates.Date.{Date}
use Rattle.image.specs.declared.codec.ImageRefusal.{ImageRefusal}
use Rattle.line.specs.declared.calls.MakeRefusal.{MakeRefusal}
use Rattle.number_table.specs.declared.table.TooLate.{TooLate}
use Rattle.number_table.specs.declared.table.WrongLength.{WrongLength}
use Rattle.opening_counts.specs.declared.seven.Counts.{Counts}
use Rattle.std.specs.Prelude.{Err, None, Ok, Option, Result, Some}
use Prim.Native.Nat.{ℕ, ◌<◌}
use mathlib.Core.Bool.{Bool, true, false, cond}
use mathlib.Core.List.{List, [], ◌∷◌, ◌++◌}
use mathlib.Core.Path.{◌≡◌, refl, sym, ap, ◌∙◌, subst}
use Rattle.octets.proofs.Tests.{never}
use Rattle.journal.specs.declared.event.OrderName.{OrderName}
use Rattle.bank.specs.declared.mailbox.FileRefusal.TheVariants as put
use Rattle.bank.specs.Call.{frame_input}
use Rattle.bank_session.specs.Session.{session_frame_call, session_file_call, count_call}
use Rattle.image.specs.declared.codec.ImageRefusal.TheVariants as refusal
use Rattle.image_calls.specs.Calls.{put_away, take_up}
use Rattle.calendar.specs.ValueDay.{value_day}
use Rattle.line.specs.declared.calls.MakeRefusal.TheVariants as make
use Rattle.number_table.specs.declared.table.WrongLength.{WrongLength}
use Rattle.line.specs.declared.calls.Delivery.{Delivery}
use Rattle.client_run.specs.declared.run.ClientRun.{ClientRun}
use Rattle.client_run.specs.declared.run.Word.{Word}
use Rattle.client_run.specs.declared.run.Word.TheVariants.{Lodged}
use Rattle.client_run.specs.Run.{order_name}
use Rattle.exchange.specs.Course.{Course}
use Rattle.unit_state.specs.declared.answer.Answer.TheVariants.{Closed, NoCall}
use Rattle.unit_state.specs.declared.record.Kind.{Kind}
use Rattle.unit_state.specs.declared.record.Kind.TheVariants as kind
use Rattle.unit_state.specs.Records.{
  bank_time_of,
  ids_of,
  mailbox_of,
  run_of,
  booking_time_of,
  seed_of,
  body_of,
  run_count,
  call_of,
  is_call,
}
use Rattle.unit_rows.specs.Lines.{row_at, is_made, made_at, put_at}
use Rattle.unit.specs.State.{State, session_in}
use Rattle.unit.specs.Call.{
  delivery_answer,
  UnitCall,
  frame_answer,
  file_answer,
  away_answer,
  taken_up_answer,
  value_day_answer,
  count_answer,
  line_answer,
  out_answer,
  index_of,
  frame_step,
  file_step,
  away_step,
  take_up_step,
  image_step,
  unchanged,
  value_day_step,
  line_index,
  make_step,
  put_step,
  put_in_step,
  count_step,
  step_of,
  unit_call,
}
use Rattle.unit.proofs.Named.{is_closed}
use Rattle.unit_state.proofs.Parts.{callable, run-within, run-named}
use Rattle.sessions.specs.Sessions.{fresh_unit, Records, more, unit_after, client_at, front_of, SessionsClose, LodgedNamed}
use Rattle.sessions.proofs.Standing.{Standing, Tells, made, fresh-standing}
use Rattle.sessions.proofs.RunSteps.{run-closed}
use Rattle.sessions.proofs.JournalStep.{journal-closed}
use Rattle.sessions.proofs.Theorem.{run_inside, standing-after}
use Rattle.sessions.proofs.ClosingWords.{first-records, sessions-close}

-- ---- the other answers close no run

by-frame : (x : Result ℕ WrongLength) → is_closed (frame_answer x) ≡ false
by-frame (Ok n) = refl
by-frame (Err e) = refl

by-file : (x : Result (Unit {0}) FileRefusal) → is_closed (file_answer x) ≡ false
by-file (Ok u) = refl
by-file (Err put.WrongLength) = refl
by-file (Err put.NoMailbox) = refl
by-file (Err put.WrongFile) = refl
by-file (Err put.MailboxFull) = refl

by-away : (x : Result ℕ ImageRefusal) → is_closed (away_answer x) ≡ false
by-away (Ok n) = refl
by-away (Err refusal.WrongLength) = refl
by-away (Err refusal.NotAdmitted) = refl

by-value-day : (x : Result Date TooLate) → is_closed (value_day_answer x) ≡ false
by-value-day (Ok d) = refl
by-value-day (Err e) = refl

by_count : (x : Result Counts WrongLength) → is_closed (count_answer x) ≡ false
by_count (Ok c) = refl
by_count (Err e) = refl

by-line : (x : Result (Unit {0}) MakeRefusal) → is_closed (line_answer x) ≡ false
by-line (Ok u) = refl
by-line (Err make.WrongLength) = refl
by-line (Err make.SeedZero) = refl

by_held : (n : ℕ) (held : Option ℕ) → is_closed (delivery_answer n held) ≡ false
by_held n None = refl
by_held n (Some k) = refl

by_out : (x : Result Delivery WrongLength) → is_closed (out_answer x) ≡ false
by_out (Ok d) = by_held d.copies d.held
by_out (Err e) = refl

-- to a line not made it is no call
by-put : (t : Bool) (u : State) (x : UnitCall) → is_closed x.answer ≡ false
    → is_closed (cond t x (unchanged u NoCall)).answer ≡ false
by-put true u x e = e
by-put false u x e = refl

by-taken : (x : Result (Unit {0}) ImageRefusal) → is_closed (taken_up_answer x) ≡ false
by-taken (Ok u) = refl
by-taken (Err refusal.WrongLength) = refl
by-taken (Err refusal.NotAdmitted) = refl

-- ---- the run that the record names

module _ {u : State} {s : Course} (v : Standing u s) (r : List ℕ) (w : Word) (o : OrderName) where
  abbrev Named : UnitCall → Type 0
  Named x = (index_of r < run_count) × Tells w o (client_at x.state (index_of r))

  named_by : (g : Kind) → call_of r ≡ g → is_call g ≡ true → (step_of g u r).answer ≡ Closed w o → Named (step_of g u r)
  unfolding frame_step file_step away_step take_up_step image_step value_day_step make_step put_step put_in_step count_step
  named_by kind.Frame e h c =
      let input = frame_input (bank_time_of r) (ids_of r) (body_of kind.Frame r) u.memory.buffer in
      never (sym (by-frame (session_frame_call (session_in u) input).answer) ∙ ap is_closed c)
  named_by kind.File e h c =
      let o = session_file_call u.memory.bank.rows (mailbox_of r) (body_of kind.File r) u.memory.bank.mailboxes in
      never (sym (by-file o.answer) ∙ ap is_closed c)
  named_by (kind.Run x) e h c =
      let inside = run_inside (run_of r) (run-within (run_of r) (run-named r x e)) in
      (inside, run-closed v r x inside w o c)
  named_by kind.Journal e h c =
      let inside = run_inside (run_of r) (run-within (run_of r) (callable r kind.Journal refl e).within) in
      (inside, journal-closed v r inside w o c)
  named_by kind.Away e h c = never (sym (by-away (put_away (session_in u) (front_of u r)).answer) ∙ ap is_closed c)
  named_by kind.TakeUp e h c = never (sym (by-taken (take_up (session_in u) (front_of u r)).answer) ∙ ap is_closed c)
  named_by kind.Image e h c = never (ap is_closed c)
  named_by kind.ValueDay e h c = never (sym (by-value-day (value_day (booking_time_of r))) ∙ ap is_closed c)
  named_by kind.MakeLine e h c =
      never (sym (by-line (made_at u.memory.lines (line_index r) (seed_of r)).answer) ∙ ap is_closed c)
  named_by kind.PutIn e h c =
      let o = put_at u.memory.lines (line_index r) (body_of kind.PutIn r) u.memory.buffer in
      let t = is_made (row_at u.memory.lines.rows (line_index r)) in
      never (sym (by-put t u (put_step u r) (by_out o.answer)) ∙ ap is_closed c)
  named_by kind.Counts e h c = never (sym (by_count (count_call u.memory.bank.rows)) ∙ ap is_closed c)
  named_by kind.NoCall e h c = never h

  named : is_call (call_of r) ≡ true → (unit_call u r).answer ≡ Closed w o → Named (unit_call u r)
  named h c =
      let is = made v r (call_of r) refl in
      subst Named (sym is) (named_by (call_of r) refl h (ap (λ (x : UnitCall). x.answer) (sym is) ∙ c))

-- ---- the last record of a session

last-call : (rs : List (List ℕ)) (r : List ℕ) → Records (rs ++ (r ∷ [])) → is_call (call_of r) ≡ true
last-call [] r (more b h rest) = h
last-call (x ∷ rs) r (more b h rest) = last-call rs r rest

after_last : (u : State) (rs : List (List ℕ)) (r : List ℕ) →
    unit_after u (rs ++ (r ∷ [])) ≡ (unit_call (unit_after u rs) r).state
unfolding unit_after
after_last u [] r = refl
after_last u (x ∷ rs) r = after_last (unit_call u x).state rs r

pub lodged-named : LodgedNamed
unfolding LodgedNamed SessionsClose
lodged-named rs r ts records copies numbers o c =
    let session = first-records (rs ++ (r ∷ [])) ts records in
    let standing = standing-after (first-records rs (r ∷ []) session) fresh-standing in
    let told = named standing.1 r Lodged o (last-call rs r session) c in
    let own = ap (λ (x : State). client_at x (index_of r)) (after_last fresh_unit rs r) in
    let d = (sessions-close (rs ++ (r ∷ [])) ts records copies numbers).2 in
    let x = d.lodged (index_of r) told.0 (ap (λ (k : ClientRun). k.stage) own ∙ told.1.ended) in
    let y = x.1 in
    (x.0, (y.0, y.1, y.2, y.3, y.4 ∙ ap (λ (k : ClientRun). order_name k) own ∙ sym told.1.name))
