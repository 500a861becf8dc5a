-- The unit's book is the course's, and every upload booked in it is one of the unit's 16 runs': no other run of the
-- course is ever begun. Assumes nothing.
use Prim.Native.Nat.{ℕ, ◌<◌, ◌≤◌}
use mathlib.Core.Bool.{true}
use mathlib.Core.List.{List}
use mathlib.Core.Logic.{◌⊎◌, inl, inr}
use mathlib.Core.Path.{◌≡◌, refl, sym, ap, ◌∙◌, subst}
use native.Mathlib.Decide.{dec_lt}
use native.Mathlib.Omega.{arith}
use Rattle.octets.proofs.Tests.{never}
use Rattle.bank_state.specs.State.{BankState}
use Rattle.client_run.specs.declared.run.ClientRun.{ClientRun}
use Rattle.client_run.specs.declared.run.Stage.TheVariants as stage
use Rattle.client_run.specs.declared.run.Word.TheVariants.{Lodged}
use Rattle.client_run.specs.Run.{Lent, not_begun}
use Rattle.client_rules.specs.Rulings.{is_begun}
use Rattle.exchange.specs.Course.{Call, Course, start, changed, with_bank, mailbox_of, exec, after}
use Rattle.exchange.specs.Demand3.{AllAllowed, OneExchangeNumber, Outcome}
use Rattle.exchange.specs.Consequences.{BookSays, BookTold}
use Rattle.exchange.specs.Terms.{IssuedBy, Booked, Order, InBook}
use Rattle.exchange.proofs.Calls.{by_number}
use Rattle.exchange.proofs.Courses.{parts, parts-start, copied, copied-start}
use Rattle.exchange.proofs.OwnRequests.{issued-begun}
use Rattle.exchange.proofs.Safety.{outcome-of}
use Rattle.exchange.proofs.Consequences.{book-told}
use Rattle.unit_state.specs.declared.record.Event.{Event}
use Rattle.unit_state.specs.declared.record.Event.TheVariants.{Upload, Download, Reply, NoReply}
use Rattle.unit_state.specs.declared.record.Kind.{Kind}
use Rattle.unit_state.specs.declared.record.Kind.TheVariants as kind
use Rattle.unit_state.specs.Records.{run_of, run_count, call_of, is_call}
use Rattle.unit.specs.State.{State}
use Rattle.unit.specs.Call.{index_of, unit_call}
use Rattle.unit_state.proofs.Parts.{callable, run-within, run-named}
use Rattle.sessions.specs.Sessions.{
  fresh_unit,
  Records,
  none,
  more,
  unit_after,
  client_at,
  payload_at,
  frame_of,
  put_of,
  run_call_of,
  handed_of,
  away_of,
  taken_of,
  call_first,
  calls_of,
  Copy,
  AtEach,
  Same,
  Sessions,
  course_of,
}
use Rattle.sessions.specs.Book.{InUnitBook, UnitBook, SessionsBook}
use Rattle.sessions.proofs.RunSteps.{changed-other}
use Rattle.sessions.proofs.Theorem.{run_inside, sessions}
use Rattle.sessions.proofs.ClosingWords.{allowed}

-- ---- no other run is begun

abbrev Beyond : (ℕ → ClientRun) → Type 0
Beyond f = (i : ℕ) → run_count ≤ i → f i ≡ not_begun

-- the runs but for run j
of-run : (f : ℕ → ClientRun) (j : ℕ) (c : ClientRun) → j < run_count → Beyond f → Beyond (changed f j c)
of-run f j c inside b i h = changed-other f j c i (λ e. let n = e in omega arith) ∙ b i h

abbrev NoOther : Course → Type 0
NoOther s = Beyond s.runs

run-beyond : (e : Event) (j : ℕ) (c : ClientRun) (r : List ℕ) (l : Lent) (s : Course) → j < run_count → NoOther s →
    NoOther (exec (run_call_of e j c r l) s)
run-beyond Upload j c r l s h b = by_number (run_call_of Upload j c r l) s NoOther b (λ _. of-run s.runs j _ h b)
run-beyond Download j c r l s h b = by_number (run_call_of Download j c r l) s NoOther b (λ _. of-run s.runs j _ h b)
run-beyond Reply j c r l s h b = by_number (run_call_of Reply j c r l) s NoOther b (λ _. of-run s.runs j _ h b)
run-beyond NoReply j c r l s h b = by_number (run_call_of NoReply j c r l) s NoOther b (λ _. of-run s.runs j _ h b)

module _ (u : State) (r : List ℕ) (s : Course) (b : NoOther s) (ks : List Call)
    (rest : (t : Course) → NoOther t → NoOther (after ks t)) where
  call-beyond : (g : Kind) → call_of r ≡ g → is_call g ≡ true → NoOther (after (call_first g u r ks) s)
  unfolding after frame_of put_of handed_of away_of taken_of
  call-beyond kind.Frame e h = rest _ (by_number (frame_of u r) s NoOther b (λ _. b))
  call-beyond kind.File e h = rest _ (by_number (put_of u r) s NoOther b (λ _. b))
  call-beyond (kind.Run x) e h =
      let inside = run_inside (run_of r) (run-within (run_of r) (run-named r x e)) in
      rest _ (run-beyond x (index_of r) _ r _ s inside b)
  call-beyond kind.Journal e h =
      let inside = run_inside (run_of r) (run-within (run_of r) (callable r kind.Journal refl e).within) in
      rest _ (by_number (handed_of u r) s NoOther b (λ _. of-run s.runs (index_of r) _ inside b))
  call-beyond kind.Away e h = rest _ (by_number (away_of u r) s NoOther b (λ _. b))
  call-beyond kind.TakeUp e h = rest _ (by_number (taken_of u r) s NoOther b (λ _. b))
  call-beyond kind.Image e h = rest s b
  call-beyond kind.ValueDay e h = rest s b
  call-beyond kind.MakeLine e h = rest s b
  call-beyond kind.PutIn e h = rest s b
  call-beyond kind.Counts e h = rest s b
  call-beyond kind.NoCall e h = never h

beyond : {rs : List (List ℕ)} → Records rs → (u : State) (s : Course) → NoOther s → NoOther (after (calls_of u rs) s)
unfolding calls_of after
beyond none u s b = b
beyond (more {r = r} {rs = rs} bytes h records) u s b =
    call-beyond u r s b (calls_of (unit_call u r).state rs) (λ t c. beyond records (unit_call u r).state t c) (call_of r) refl h

beyond-start : NoOther start
unfolding start
beyond-start i h = refl

-- ---- the book

module _ (rs : List (List ℕ)) (records : Records rs) (copies : AtEach Copy (calls_of fresh_unit rs) start)
    (numbers : OneExchangeNumber (course_of rs)) where
  abbrev s : Course
  s = course_of rs

  abbrev u : State
  u = unit_after fresh_unit rs

  same : Same u s
  unfolding Sessions
  same = (sessions rs records).same

  all : AllAllowed (calls_of fresh_unit rs) start
  unfolding Sessions
  all = allowed (calls_of fresh_unit rs) start (sessions rs records).given copies

  out : Outcome s
  out = outcome-of (calls_of fresh_unit rs) all numbers

  book : BookSays s
  unfolding BookTold
  book = book-told (calls_of fresh_unit rs) all numbers

  begun : (i : ℕ) {frame : List ℕ} → IssuedBy i frame s → is_begun (s.runs i).stage ≡ true
  begun i = issued-begun s (parts (calls_of fresh_unit rs) start parts-start all numbers)
      (copied (calls_of fresh_unit rs) start copied-start all) numbers i

  -- a run that has issued a request is one of the 16
  inside : (i : ℕ) {frame : List ℕ} → IssuedBy i frame s → i < run_count
  inside i c = at (dec_lt i run_count)
    where
      at : Dec (i < run_count) → i < run_count
      at (yes h) = h
      at (no h) =
          never (sym (ap (λ (x : ClientRun). is_begun x.stage) (beyond records fresh_unit start beyond-start i (omega arith)))
          ∙ begun i c)

  own : (i : ℕ) → i < run_count → client_at u i ≡ s.runs i
  own i h = (same.runs i h).client

  -- an upload booked has issued its last segment
  issued : (i : ℕ) → Booked s i → (frame : List ℕ) × IssuedBy i frame s
  unfolding Booked
  issued i (e, m, k) = (e.request, k.copy)

  payload : (i : ℕ) (h : i < run_count) → Booked s i → payload_at u i ≡ s.payloads i
  payload i h b = (same.runs i h).payload (begun i (issued i b).1)

  -- the unit's book is the course's
  in-course : {j : ℕ} {o : Order} → InUnitBook u j o → InBook s j o
  in-course {j} {o} a =
      let c = subst (λ (w : BankState). InBook (with_bank w start) j o) same.bank a in
      record { place = c.place; booked = c.booked; is = c.is }

  in-unit : {j : ℕ} {o : Order} → InBook s j o → InUnitBook u j o
  in-unit {j} {o} a =
      subst (λ (w : BankState). InBook (with_bank w start) j o) (sym same.bank)
      (record { place = a.place; booked = a.booked; is = a.is })

  booked : (i : ℕ) → i < run_count → ((client_at u i).stage ≡ stage.Ended Lodged) ⊎ Booked s i → Booked s i
  booked i h (inl e) = (out.lodged i (ap (λ (c : ClientRun). c.stage) (sym (own i h)) ∙ e)).0
  booked i h (inr b) = b

  unit-book : UnitBook u s
  unit-book = record {
    orders = λ j o a.
        let (i, b, order, one) = book.upload j o (in-course a) in
        let h = inside i (issued i b).1 in (
          i,
          h,
          b,
          order,
          order.subscriber ∙ ap (λ (c : ClientRun). c.subscriber) (sym (own i h)),
          order.bytes ∙ sym (payload i h b),
          one,
        );
    runs = λ i h e.
        let b = booked i h e in
        let (j, o, a, order, one) = book.place i b in
        (j, o, in-unit a, order, order.bytes ∙ sym (payload i h b), λ k p c. one k p (in-course c));
    mailboxes = λ m low high. ap (λ (w : BankState). mailbox_of w m) same.bank ∙ out.mailbox m low high;
    receipts = λ e m z.
        let (asked, (x, n, is, of, whole, still)) = out.emptied e m z in
        let h = inside x.run (x, n, refl, refl) in
        (x, n, h, is, ap (λ (c : ClientRun). c.subscriber) (own x.run h) ∙ of, whole, still);
  }

pub sessions-book : SessionsBook
unfolding SessionsBook
sessions-book rs records copies numbers = unit-book rs records copies numbers
