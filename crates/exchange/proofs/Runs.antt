-- What one call leaves of one run: as it was, or one event further. Assumes nothing.
use Rattle.std.specs.Prelude.{Ok}
use Prim.Native.Nat.{ℕ}
use mathlib.Core.List.{List, [], ◌∷◌}
use mathlib.Core.Logic.{◌⊎◌, inl, inr}
use mathlib.Core.Path.{◌≡◌, sym, ap, ◌∙◌, subst}
use native.Mathlib.Decide.{ℕ_discrete}
use Rattle.journal.specs.declared.event.Event.{Event as JournalEvent}
use Rattle.client_run.specs.declared.run.Answer.TheVariants as answer
use Rattle.client_run.specs.declared.run.ClientRun.{ClientRun}
use Rattle.client_run.specs.declared.run.RunParameters.{RunParameters}
use Rattle.client_run.specs.declared.run.Stage.TheVariants as stage
use Rattle.client_run.specs.declared.run.Word.{Word}
use Rattle.client_run.specs.declared.run.Word.TheVariants as word
use Rattle.client.specs.Calls.{begin_call, reply_call, no_reply_call}
use Rattle.client.specs.Journal.{journal_call}
use Rattle.client_run.specs.Run.{Lent, answer_number}
use Rattle.client_history.specs.History.{Event, Begin, Reply, NoReply, Past, call_of, lent_to}
use Rattle.client_history.specs.History as history
use Rattle.client_history.proofs.Stays.{ended-stays}
use Rattle.exchange.specs.Course.{
  Call,
  frame_arrives,
  file_put,
  begins,
  reply_arrives,
  no_reply,
  journal_handed,
  puts_away,
  takes_up,
  Course,
  call_number,
  after_run,
  carry_out,
  exec,
  after,
}
use Rattle.exchange.specs.Demand3.{Premise, Allowed, AllAllowed}
use Rattle.exchange.proofs.Calls.{carried, number-or-none}
use Rattle.exchange.proofs.Bytes.{Issued, begin-issues, reply-issues, no-reply-issues}
use Rattle.exchange.proofs.Clients.{run_past, own-past, other-past}
use Rattle.exchange.proofs.Handed.{with_run_of, handed-own, handed-other, not-unclear}
use Rattle.exchange.proofs.Courses.{frame-runs, file-runs}

-- the run stays, or it gets one event further: begin, reply arrived, no reply; or it is handed the journal
pub data RunStep (s : Course) (i : ℕ) : Call → Past → Type 0 where
  rests : {k : Call} {p : Past} → p ≡ run_past s i → RunStep s i k p
  begun : {c : ClientRun} {params : RunParameters} {l : Lent} {p : Past} → c ≡ s.runs i →
      p ≡ history.after (Begin params l) (run_past s i) → RunStep s i (begins i c params l) p
  replied : {c : ClientRun} {reply : List ℕ} {l : Lent} {p : Past} → c ≡ s.runs i →
      p ≡ history.after (Reply reply l) (run_past s i) → RunStep s i (reply_arrives i c reply l) p
  no-reply : {c : ClientRun} {l : Lent} {p : Past} → c ≡ s.runs i → p ≡ history.after (NoReply l) (run_past s i) →
      RunStep s i (no_reply i c l) p
  handed : {c : ClientRun} {row : List JournalEvent} {p : Past} → c ≡ s.runs i → p ≡ with_run_of (journal_call (s.runs i) row).run (run_past s i) →
      RunStep s i (journal_handed i c row) p

-- run i after its own event
own-step : (s : Course) (i : ℕ) (e : Event) → ((n : ℕ) → (call_of e (s.runs i)).answer ≡ Ok (answer.Request n) →
    Issued (call_of e (s.runs i)) (lent_to e) n) →
    answer_number (call_of e (s.runs i)).answer ≡ 0 →
    run_past (after_run i (call_of e (s.runs i)) (lent_to e).payload s) i ≡ history.after e (run_past s i)
unfolding history.after
own-step s i e issues done = own-past s i (call_of e (s.runs i)) (lent_to e) issues done

module _ (s : Course) (i : ℕ) (c : ClientRun) (own : c ≡ s.runs i) where
  -- a call that is made of the run as it was left
  by-run : (k : ClientRun → Call) (p : Past) → (call_number (k (s.runs i)) ≡ 0 → run_past (carry_out (k (s.runs i)) s) i ≡ p) →
      call_number (k c) ≡ 0 → run_past (exec (k c) s) i ≡ p
  by-run k p f z =
      ap (λ (t : Course). run_past t i) (carried (k c) s z)
      ∙ subst (λ (x : ClientRun). call_number (k x) ≡ 0 → run_past (carry_out (k x) s) i ≡ p) (sym own) f z

  pub begin-past : (params : RunParameters) (l : Lent) → call_number (begins i c params l) ≡ 0 →
      run_past (exec (begins i c params l) s) i ≡ history.after (Begin params l) (run_past s i)
  begin-past params l =
      by-run (λ x. begins i x params l) _
      (own-step s i (Begin params l) (begin-issues (s.runs i) l params))

  pub reply-past : (reply : List ℕ) (l : Lent) → call_number (reply_arrives i c reply l) ≡ 0 →
      run_past (exec (reply_arrives i c reply l) s) i ≡ history.after (Reply reply l) (run_past s i)
  reply-past reply l = by-run (λ x. reply_arrives i x reply l) _ (own-step s i (Reply reply l) (reply-issues (s.runs i) l reply))

  no-reply-past : (l : Lent) → call_number (no_reply i c l) ≡ 0 → run_past (exec (no_reply i c l) s) i ≡ history.after (NoReply l) (run_past s i)
  no-reply-past l = by-run (λ x. no_reply i x l) _ (own-step s i (NoReply l) (no-reply-issues (s.runs i) l))

  handed-past : (row : List JournalEvent) → call_number (journal_handed i c row) ≡ 0 →
      run_past (exec (journal_handed i c row) s) i ≡ with_run_of (journal_call (s.runs i) row).run (run_past s i)
  handed-past row = by-run (λ x. journal_handed i x row) _ (λ _. handed-own s i (s.runs i) row)

-- a call of run j to the run as it was left: run i stays, or it is that run
other-or-own : (k : ℕ → Call) (s : Course) (i j : ℕ) → ((i ≡ j → ⊥) → run_past (carry_out (k j) s) i ≡ run_past s i) → Premise (k j) s →
    call_number (k j) ≡ 0 →
    (Premise (k i) s → call_number (k i) ≡ 0 → RunStep s i (k i) (run_past (exec (k i) s) i)) →
    RunStep s i (k j) (run_past (exec (k j) s) i)
other-or-own k s i j stays q z own = at (ℕ_discrete i j)
  where
    at : Dec (i ≡ j) → RunStep s i (k j) (run_past (exec (k j) s) i)
    at (no n) = rests (ap (λ (t : Course). run_past t i) (carried (k j) s z) ∙ stays n)
    at (yes e) = subst (λ (n : ℕ). Premise (k n) s → call_number (k n) ≡ 0 → RunStep s i (k n) (run_past (exec (k n) s) i)) e own q z

carried_step : (k : Call) (s : Course) → Premise k s → (i : ℕ) → call_number k ≡ 0 → RunStep s i k (run_past (exec k s) i)
carried_step (frame_arrives m a) s q i z = rests (frame-runs s m a i)
carried_step (file_put rows mailboxes m file) s q i z = rests (file-runs s rows mailboxes m file i)
carried_step (begins j c params l) s q i z =
    other-or-own (λ n. begins n c params l) s i j (other-past s j (begin_call c params l) l i) q z
    (λ own y. begun own (begin-past s i c own params l y))
carried_step (reply_arrives j c reply l) s q i z =
    other-or-own (λ n. reply_arrives n c reply l) s i j (other-past s j (reply_call c reply l) l i) q z
    (λ left y. replied left.0.0 (reply-past s i c left.0.0 reply l y))
carried_step (no_reply j c l) s q i z =
    other-or-own (λ n. no_reply n c l) s i j (other-past s j (no_reply_call c l) l i) q z
    (λ left y. no-reply left.0 (no-reply-past s i c left.0 l y))
carried_step (journal_handed j c row) s q i z =
    other-or-own (λ n. journal_handed n c row) s i j (handed-other s j c row i) q z
    (λ own y. handed own.0 (handed-past s i c own.0 row y))
carried_step (puts_away m buffer) s q i z = rests (ap (λ (t : Course). run_past t i) (carried (puts_away m buffer) s z))
carried_step (takes_up m image) s q i z = rests (ap (λ (t : Course). run_past t i) (carried (takes_up m image) s z))

pub run_step_lem : (k : Call) (s : Course) → Allowed k s → (i : ℕ) → RunStep s i k (run_past (exec k s) i)
run_step_lem k s q i = at (number-or-none k s)
  where
    at : (exec k s ≡ s) ⊎ ((call_number k ≡ 0) × (exec k s ≡ carry_out k s)) → RunStep s i k (run_past (exec k s) i)
    at (inl e) = rests (ap (λ (t : Course). run_past t i) e)
    at (inr (z, _)) = carried_step k s (q z) i z

-- "An ended run stays as it is", but for an unclear one that is handed the journal
module _ (i : ℕ) (w : Word) (clear : w ≡ word.Unclear → ⊥) where
  step-ended : (s : Course) (k : Call) (p : Past) → (s.runs i).stage ≡ stage.Ended w → RunStep s i k p → p ≡ run_past s i
  step-ended s k p e (rests z) = z
  step-ended s k p e (begun c z) = z ∙ ended-stays (run_past s i) w e _
  step-ended s k p e (replied c z) = z ∙ ended-stays (run_past s i) w e _
  step-ended s k p e (no-reply c z) = z ∙ ended-stays (run_past s i) w e _
  step-ended s k p e (handed {row = row} c z) =
      z ∙ ap (λ (r : ClientRun). with_run_of r (run_past s i)) (not-unclear (s.runs i) row (λ u. clear (cc)))

  run-ended : (k : Call) (s : Course) → Allowed k s → (s.runs i).stage ≡ stage.Ended w → (exec k s).runs i ≡ s.runs i
  run-ended k s q e = ap (λ (p : Past). p.run) (step-ended s k (run_past (exec k s) i) e (run_step_lem k s q i))

  pub stays-ended : (ks : List Call) (s : Course) → AllAllowed ks s → (s.runs i).stage ≡ stage.Ended w →
      ((after ks s).runs i).stage ≡ stage.Ended w
  unfolding after
  stays-ended [] s q e = e
  stays-ended (k ∷ ks) s q e =
      stays-ended ks (exec k s) q.1 (ap (λ (c : ClientRun). c.stage) (run-ended k s q.0 e) ∙ e)
