-- A record's call is the call of demand 3 that it stands for, and the records after it go on from what both leave.
-- Assumes nothing.
use Prim.Native.Nat.{ℕ, ◌-◌, ◌≤◌, ◌<◌}
use mathlib.Core.Bool.{true}
use mathlib.Core.List.{List, ◌∷◌, map}
use mathlib.Core.Path.{◌≡◌, refl, sym, ap, ◌∙◌, subst}
use native.Mathlib.Omega.{arith}
use Rattle.octets.specs.Bytes.{Bytes}
use Rattle.octets.proofs.Tests.{never}
use Rattle.exchange.specs.Course.{Call, Course, exec, after}
use Rattle.unit_state.specs.declared.record.Kind.{Kind}
use Rattle.unit_state.specs.declared.record.Kind.TheVariants as kind
use Rattle.unit_state.specs.Records.{run_of, run_count, call_of, is_call}
use Rattle.unit.specs.State.{State}
use Rattle.unit.specs.Call.{UnitCall, value_day_step, count_step, step_of, unit_call}
use Rattle.unit_state.proofs.Parts.{callable, run-within, run-named}
use Rattle.sessions.specs.Sessions.{
  Records,
  none,
  more,
  unit_after,
  call_first,
  answer_first,
  calls_of,
  Told,
  told_of,
  answers_of,
  told_by,
  Given,
  AtEach,
  Same,
  IsCourse,
  Sessions,
}
use Rattle.sessions.proofs.Standing.{Standing, Stepped, same, made, fresh-standing}
use Rattle.sessions.proofs.BankSteps.{frame_step_lem, file-step}
use Rattle.sessions.proofs.RunSteps.{run_step_lem}
use Rattle.sessions.proofs.JournalStep.{journal-step}
use Rattle.sessions.proofs.ImageSteps.{away-step, taken_step, image-standing}
use Rattle.sessions.proofs.LineSteps.{make-standing, put-in-standing}

-- ---- a record and those after it

pub run_inside : (n : ℕ) → (1 ≤ n) × (n ≤ run_count) → n - 1 < run_count
run_inside n h = omega arith

module _ (u : State) {s : Course} (r : List ℕ) (rs : List (List ℕ)) (k : Call) (step : Stepped s k (unit_call u r))
    (first : (ks : List Call) → call_first (call_of r) u r ks ≡ k ∷ ks)
    (told : (t : Told) (ts : List Told) → answer_first (call_of r) t ts ≡ t ∷ ts)
    (rest : IsCourse (unit_call u r).state rs (exec k s)) where
  abbrev ks : List Call
  ks = calls_of (unit_call u r).state rs

  joined : IsCourse u (r ∷ rs) s
  unfolding calls_of unit_after answers_of after
  joined = record {
    given = subst (λ (l : List Call). AtEach Given l s) (sym (first ks)) (step.given, rest.given);
    same =
        subst (λ (l : List Call). Same (unit_after (unit_call u r).state rs) (after l s)) (sym (first ks)) rest.same;
    answers =
        told (told_of (unit_call u r)) (answers_of (unit_call u r).state rs)
        ∙ ap (λ (x : Told). x ∷ answers_of (unit_call u r).state rs) step.answer
        ∙ ap (λ (l : List Told). told_by k ∷ l) rest.answers
        ∙ ap (map told_by) (sym (first ks));
  }

-- a record that is no call of the course
beside : (u : State) (s : Course) (r : List ℕ) (rs : List (List ℕ))
    → ((ks : List Call) → call_first (call_of r) u r ks ≡ ks) → ((t : Told) (ts : List Told) → answer_first (call_of r) t ts ≡ ts)
    → IsCourse (unit_call u r).state rs s → IsCourse u (r ∷ rs) s
unfolding calls_of unit_after answers_of
beside u s r rs first-left told rest =
    let first = first-left (calls_of (unit_call u r).state rs) in
    record {
      given = subst (λ (l : List Call). AtEach Given l s) (sym first) rest.given;
      same = subst (λ (l : List Call). Same (unit_after (unit_call u r).state rs) (after l s)) (sym first) rest.same;
      answers =
          told (told_of (unit_call u r)) (answers_of (unit_call u r).state rs)
          ∙ rest.answers ∙ ap (map told_by) (sym first);
    }

module _ {u : State} {s : Course} (v : Standing u s) (r : List ℕ) (b : Bytes r) where
  -- the call of the record, and the course after it; or no call of the course
  data Next : Type 0 where
    called : (k : Call) → Stepped s k (unit_call u r) → ((ks : List Call) → call_first (call_of r) u r ks ≡ k ∷ ks) →
        ((t : Told) (ts : List Told) → answer_first (call_of r) t ts ≡ t ∷ ts) → Next
    left : ((ks : List Call) → call_first (call_of r) u r ks ≡ ks)
        → ((t : Told) (ts : List Told) → answer_first (call_of r) t ts ≡ ts) → Standing (unit_call u r).state s → Next

  as-made : (g : Kind) → call_of r ≡ g → (k : Call) → Stepped s k (step_of g u r) →
      ((ks : List Call) → call_first g u r ks ≡ k ∷ ks) → ((t : Told) (ts : List Told) → answer_first g t ts ≡ t ∷ ts) → Next
  as-made g e k step first told =
      called k (subst (Stepped s k) (sym (made v r g e)) step)
      (λ ks. ap (λ (x : Kind). call_first x u r ks) e ∙ first ks) (λ t ts. ap (λ (x : Kind). answer_first x t ts) e ∙ told t ts)

  as-left : (g : Kind) → call_of r ≡ g → Standing (step_of g u r).state s → ((ks : List Call) → call_first g u r ks ≡ ks)
      → ((t : Told) (ts : List Told) → answer_first g t ts ≡ ts) → Next
  as-left g e stands first-left told =
      left (λ ks. ap (λ (x : Kind). call_first x u r ks) e ∙ first-left ks) (λ t ts. ap (λ (x : Kind). answer_first x t ts) e ∙ told t ts)
      (subst (λ (o : UnitCall). Standing o.state s) (sym (made v r g e)) stands)

  value-day-standing : Standing (value_day_step u r).state s
  unfolding value_day_step
  value-day-standing = v

  count-standing : Standing (count_step u).state s
  unfolding count_step
  count-standing = v

  next-call : (g : Kind) → call_of r ≡ g → is_call g ≡ true → Next
  next-call kind.Frame e h = as-made kind.Frame e _ (frame_step_lem v r b) (λ ks. refl) (λ t ts. refl)
  next-call kind.File e h = as-made kind.File e _ (file-step v r b) (λ ks. refl) (λ t ts. refl)
  next-call (kind.Run x) e h =
      let inside = run_inside (run_of r) (run-within (run_of r) (run-named r x e)) in
      as-made (kind.Run x) e _ (run_step_lem v r x inside) (λ ks. refl) (λ t ts. refl)
  next-call kind.Journal e h =
      let inside = run_inside (run_of r) (run-within (run_of r) (callable r kind.Journal refl e).within) in
      as-made kind.Journal e _ (journal-step v r inside) (λ ks. refl) (λ t ts. refl)
  next-call kind.Away e h = as-made kind.Away e _ (away-step v r) (λ ks. refl) (λ t ts. refl)
  next-call kind.TakeUp e h = as-made kind.TakeUp e _ (taken_step v r) (λ ks. refl) (λ t ts. refl)
  next-call kind.Image e h = as-left kind.Image e (image-standing v r b e) (λ ks. refl) (λ t ts. refl)
  next-call kind.ValueDay e h = as-left kind.ValueDay e value-day-standing (λ ks. refl) (λ t ts. refl)
  next-call kind.MakeLine e h = as-left kind.MakeLine e (make-standing v r e) (λ ks. refl) (λ t ts. refl)
  next-call kind.PutIn e h = as-left kind.PutIn e (put-in-standing v r e) (λ ks. refl) (λ t ts. refl)
  next-call kind.Counts e h = as-left kind.Counts e count-standing (λ ks. refl) (λ t ts. refl)
  next-call kind.NoCall e h = never h

is-course : {rs : List (List ℕ)} → Records rs → {u : State} {s : Course} → Standing u s → IsCourse u rs s
unfolding calls_of unit_after answers_of after
is-course none v = record { given = tt; same = same v; answers = refl }
is-course (more {r = r} {rs = rs} b h more-records) {u} {s} v =
    at (λ n t stands. is-course more-records stands) (next-call v r b (call_of r) refl h)
  where
    at : ((n : State) (t : Course) → Standing n t → IsCourse n rs t) → Next v r b → IsCourse u (r ∷ rs) s
    at rest (called k step first told) = joined u r rs k step first told (rest _ _ step.standing)
    at rest (left first told stands) = beside u s r rs first told (rest _ _ stands)

-- the unit after the records still stands for a course
pub standing-after : {rs : List (List ℕ)} → Records rs → {u : State} {s : Course} → Standing u s →
    (t : Course) × Standing (unit_after u rs) t
unfolding unit_after
standing-after none {u} {s} v = (s, v)
standing-after (more {r = r} {rs = rs} b h more-records) {u} {s} v =
    at (λ n t stands. standing-after more-records stands) (next-call v r b (call_of r) refl h)
  where
    at : ((n : State) (t : Course) → Standing n t → (x : Course) × Standing (unit_after n rs) x) → Next v r b →
        (x : Course) × Standing (unit_after (unit_call u r).state rs) x
    at rest (called k step first told) = rest _ _ step.standing
    at rest (left first told stands) = rest _ _ stands

pub sessions : Sessions
unfolding Sessions
sessions rs records = is-course records fresh-standing
