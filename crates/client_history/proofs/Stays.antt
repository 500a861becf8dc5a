-- What stays from event to event: of a begun run, of one with its transaction known, of one that has ended.
use Rattle.client_run.specs.declared.run.Refusal.{Refusal}
use Rattle.std.specs.Prelude.{Err, Ok, Result}
use Prim.Native.Nat.{ℕ}
use mathlib.Core.Bool.{Bool, true, false, cond}
use mathlib.Core.List.Memᴰ.{tail as there}
use mathlib.Core.List.{List, [], ◌∷◌, ◌++◌}
use mathlib.Core.Path.{◌≡◌, refl, sym, ap, ◌∙◌}
use lib.Dec.{eqb}
use lib.ListN.{length}
use Rattle.frame_table.specs.declared.fields.Fields.{Fields}
use Rattle.octets.proofs.Tests.{never}
use Rattle.client_run.specs.declared.run.ClientRun.{ClientRun}
use Rattle.message.specs.declared.directions.Direction.{Direction}
use Rattle.message.specs.declared.directions.Direction.TheVariants.{Upload, Download}
use Rattle.client_run.specs.declared.run.RunParameters.{RunParameters}
use Rattle.client_run.specs.declared.run.Stage.TheVariants as stage
use Rattle.client_run.specs.declared.run.Step.{Step}
use Rattle.client_run.specs.declared.run.Step.TheVariants as step
use Rattle.client_run.specs.declared.run.Word.{Word}
use Rattle.client.specs.Calls.{
  if_admitted,
  admitted_begin,
  admitted_reply,
  admitted_no_reply,
  begin_call,
  reply_call,
  no_reply_call,
}
use Rattle.client_run.specs.NextRun.{step_after, go_on, repeated, learned, ended}
use Rattle.client_run.specs.Run.{Lent, ClientCall, lengths_of}
use Rattle.client_rules.specs.Rulings.{is_begun, begin_ruling, run_ruling}
use Rattle.client_history.specs.History.{Event, Begin, Reply, NoReply, Past, issuing, left, after, past_of, Fair}
use Rattle.client_history.specs.Invariant.{is_open, Steady}
use Rattle.client_run.proofs.Apart.{not-ended-running}
use Rattle.client_rules.proofs.Accepted.{accepted, begins}
use Rattle.client_history.proofs.Changes.{Move, Change}
use Rattle.client_history.proofs.Changes as change
use Rattle.client_history.proofs.NextRuns.{Same, Known, same, known, learned-same, held_same, held-known}

-- ---- a begun run

open_after_lem : (w : Direction) (k n : ℕ) → is_open (step_after w k n) ≡ true
open_after_lem Upload k n = refl
open_after_lem Download k n = go (eqb k n)
  where
    go : (b : Bool) → is_open (cond b step.Receipt step.Segment) ≡ true
    go true = refl
    go false = refl

module _ (p : Past) (b : is_begun p.run.stage ≡ true) (file : List ℕ) (time : ℕ) (nonce : List ℕ) where
  abbrev Goes : ClientRun → Type 0
  Goes next = Steady p (issuing next p.payload file time nonce p.issues)

  goes_on : (k n : ℕ) (c : ClientRun) → Same c p.run → (is_open p.run.step ≡ true → Known c p.run)
      → Goes (go_on k n c)
  unfolding go_on
  goes_on k n c s f = record {
    begun = ap is_begun s.stage ∙ b;
    direction = s.direction;
    subscriber-same = s.subscriber;
    terms-same = s.terms;
    payload = refl;
    issues = λ x m. there m;
    known = λ h. open_after_lem c.direction k c.segments;
    transaction-same = λ h. (f h).transaction;
    number = λ h. (f h).number;
    segments = λ h. (f h).segments;
  }

  goes_same : (k n : ℕ) → Goes (go_on k n p.run)
  goes_same k n = goes_on k n p.run (same p.run) (λ h. known p.run)

  repeats-same : Goes (repeated p.run)
  unfolding repeated
  repeats-same = record {
    begun = b;
    direction = refl;
    subscriber-same = refl;
    terms-same = refl;
    payload = refl;
    issues = λ x m. there m;
    known = λ h. h;
    transaction-same = λ h. refl;
    number = λ h. refl;
    segments = λ h. refl;
  }

opening : {A : Type 0} {s : Step} → s ≡ step.Opening → is_open s ≡ true → A
opening e h = never (sym (ap is_open e) ∙ h)

module _ (Given : Fields → List ℕ → Fields → List ℕ → Type 0) where
  moved : (p : Past) → is_begun p.run.stage ≡ true → (l : Lent) {next : ClientRun} {file : List ℕ}
      → Move Given p next file
      → Steady p (issuing next p.payload file l.time l.nonce p.issues)
  moved p b l (change.upload-opens {r} w s g t) =
      goes_on p b _ _ _ 0 _ (learned Upload r p.run) (learned-same Upload r p.run) (opening s)
  moved p b l (change.takes w s g t) = goes_same p b _ _ _ _ _
  moved p b l (change.upload-returns w s g t) = goes_same p b _ _ _ _ _
  moved p b l (change.download-opens {r} {d} w s g t) =
      goes_on p b _ _ _ 1 _ _ (held_same (length d) _ p.run (learned-same Download r p.run)) (opening s)
  moved p b l (change.brings {r} {d} w s g t) =
      goes_on p b _ _ _ _ _ _ (held_same (length d) _ p.run (same p.run)) (λ h. held-known (length d) p.run)
  moved p b l (change.repeats t) = repeats-same p b _ _ _

  steady_by : {p q : Past} → is_begun p.run.stage ≡ true → Change Given p q → Steady p q
  unfolding ended
  steady_by b change.nothing = record {
    begun = b;
    direction = refl;
    subscriber-same = refl;
    terms-same = refl;
    payload = refl;
    issues = λ x m. m;
    known = λ h. h;
    transaction-same = λ h. refl;
    number = λ h. refl;
    segments = λ h. refl;
  }
  steady_by b (change.begins-with params l g) = never (sym g.fresh ∙ b)
  steady_by {p} b (change.goes l a k m) = moved p b l m
  steady_by {p} b (change.closes {w} l a k m) = record {
    begun = refl;
    direction = refl;
    subscriber-same = refl;
    terms-same = refl;
    payload = refl;
    issues = λ x m. m;
    known = λ h. h;
    transaction-same = λ h. refl;
    number = λ h. refl;
    segments = λ h. refl;
  }

  pub steady : (p : Past) (e : Event) → Fair Given e p → is_begun p.run.stage ≡ true → Steady p (after e p)
  steady p e f b = steady_by b (change.changes Given p e f)

-- ---- a run that does not run

module _ (p : Past) where
  -- a call that is not admitted changes nothing
  not-admitted : (l : Lent) (k : ClientCall) (u : Result (Unit {0}) Refusal) → (u ≡ Ok tt → ⊥)
      → let o = if_admitted u p.run l k in left o.answer o l p ≡ p
  not-admitted l k (Err x) h = refl
  not-admitted l k (Ok u) h = absurd (h refl)

  module _ (idle : p.run.stage ≡ stage.Running → ⊥) where
    run-idle : (l : Lent) → run_ruling p.run l.time (lengths_of l) ≡ Ok tt → ⊥
    run-idle l h = idle (accepted p.run l h).running

    -- 8, "the run has ended" or "another call to one not begun": a reply and no reply leave it as it is
    pub reply-idle : (frame : List ℕ) (l : Lent) → after (Reply frame l) p ≡ p
    unfolding after reply_call
    reply-idle frame l =
        not-admitted l (admitted_reply p.run frame l) (run_ruling p.run l.time (lengths_of l)) (run-idle l)

    pub no-reply-idle : (l : Lent) → after (NoReply l) p ≡ p
    unfolding after no_reply_call
    no-reply-idle l =
        not-admitted l (admitted_no_reply p.run l) (run_ruling p.run l.time (lengths_of l)) (run-idle l)

  -- "begin comes to one already begun"
  pub begin-again : is_begun p.run.stage ≡ true → (params : RunParameters) (l : Lent) → after (Begin params l) p ≡ p
  unfolding after begin_call
  begin-again b params l =
      not-admitted l (admitted_begin p.run params l) (begin_ruling p.run params l.time (lengths_of l))
      (λ h. never (sym (begins p.run params l h).fresh ∙ b))

pub ended-stays : (p : Past) (w : Word) → p.run.stage ≡ stage.Ended w → (v : Event) → after v p ≡ p
ended-stays p w e (Begin params l) = begin-again p (ap is_begun e) params l
ended-stays p w e (Reply frame l) = reply-idle p (not-ended-running w e) frame l
ended-stays p w e (NoReply l) = no-reply-idle p (not-ended-running w e) l

-- it stays as it is over all later events, the newest first
pub ended-for-good : (later es : List Event) (w : Word) → (past_of es).run.stage ≡ stage.Ended w
    → past_of (later ++ es) ≡ past_of es
unfolding past_of
ended-for-good [] es w e = refl
ended-for-good (v ∷ later) es w e = ap (after v) (ended-for-good later es w e) ∙ ended-stays (past_of es) w e v
