-- What holds of every course: both ends' parts, the frames that are copies, and what each call leaves as it was. Assumes nothing.
use Prim.Native.Nat.{ℕ}
use mathlib.Core.Bool.{true}
use mathlib.Core.List.Memᴰ.{head as here}
use mathlib.Core.List.Memᴰ.{not-nil as in-none}
use mathlib.Core.List.Memᴰ.{tail as there}
use mathlib.Core.List.{List, [], ◌∷◌, Memᴰ as In}
use mathlib.Core.Path.{◌≡◌, refl, sym, subst}
use native.Mathlib.Decide.{ℕ_discrete}
use Rattle.bank_session.specs.Session.{LentSession}
use Rattle.client_run.specs.declared.run.ClientRun.{ClientRun}
use Rattle.client_run.specs.declared.run.RunParameters.{RunParameters}
use Rattle.client_run.specs.declared.run.Stage.TheVariants as stage
use Rattle.client.specs.Calls.{reply_call}
use Rattle.client_run.specs.Run.{Lent, answer_number}
use Rattle.client_history.specs.History.{Begin, Reply, NoReply}
use Rattle.client_history.specs.History as history
use Rattle.client_history.specs.Invariant.{not-begun}
use Rattle.bank.specs.Call.{FrameInput}
use Rattle.exchange.specs.Course.{
  Call,
  frame_arrives,
  file_put,
  begins,
  reply_arrives,
  no_reply,
  journal_handed,
  puts_away,
  takes_up,
  Exchange,
  Course,
  start,
  call_number,
  carry_out,
  exec,
  after,
}
use Rattle.exchange.specs.Terms.{IssuedBy}
use Rattle.exchange.specs.Demand3.{is_subscribers, Left, Premise, Allowed, AllAllowed, OneExchangeNumber}
use Rattle.exchange.proofs.Bytes.{begin-issues, reply-issues, no-reply-issues}
use Rattle.exchange.proofs.Calls.{by_number}
use Rattle.exchange.proofs.Images.{put_written, taken-stays}
use Rattle.exchange.proofs.Bank.{Later, frame-keeps, file-keeps, bank-start}
use Rattle.exchange.proofs.Clients.{issues_of, run_past, run-lifts, as-left, RunHolds, Parts, run-fair, run-keeps}
use Rattle.exchange.proofs.Issues.{issued-more, numbers-earlier, numbers-before}
use Rattle.exchange.proofs.Handed.{journal-keeps}
use Rattle.exchange.proofs.Outstanding.{given_to, other-stays}

-- ---- both ends

-- a call of the bank leaves the runs
pub frame-runs : (s : Course) (m : LentSession) (a : FrameInput) (i : ℕ) →
    run_past (exec (frame_arrives m a) s) i ≡ run_past s i
frame-runs s m a i =
    by_number (frame_arrives m a) s (λ (t : Course). run_past t i ≡ run_past s i) refl (λ _. refl)

pub file-runs : (s : Course) (rows mailboxes : List ℕ) (m : ℕ) (file : List ℕ) (i : ℕ) →
    run_past (exec (file_put rows mailboxes m file) s) i ≡ run_past s i
file-runs s rows mailboxes m file i = by_number (file_put rows mailboxes m file) s (λ (t : Course). run_past t i ≡ run_past s i) refl (λ _. refl)

-- a frame or file call given no number leaves no image
bank-called : {s t : Course} (v : Parts s) → Later s v.bank t → ((i : ℕ) → run_past t i ≡ run_past s i) → t.images ≡ [] → Parts t
bank-called {s} {t} v n same none = record {
  bank = n.bank;
  runs = λ i. subst (RunHolds n.bank.calls n.bank.past.history) (sym (same i))
      (run-lifts n.more n.never v.bank.holds.invariant.sound n.bank.holds.invariant.sound (run_past s i) (v.runs i));
  images = λ image m. absurd (in-none (subst (In image) none m));
}

-- a call of a run
begin-keeps : (s : Course) (v : Parts s) (i : ℕ) (c : ClientRun) (params : RunParameters) (l : Lent) → c ≡ s.runs i →
    call_number (begins i c params l) ≡ 0 → Parts (carry_out (begins i c params l) s)
begin-keeps s v i c params l own =
    subst (λ (x : ClientRun). call_number (begins i x params l) ≡ 0 → Parts (carry_out (begins i x params l) s))
    (sym own)
    (λ z. run-keeps s v i (Begin params l) (begin-issues (s.runs i) l params) z
    (run-fair s v i (Begin params l) tt))

-- a reply to a request of the run is fair; one to a request of another run is ignored
reply-holds : (s : Course) (v : Parts s) → OneExchangeNumber s → (i : ℕ) (reply : List ℕ) (l : Lent) →
    answer_number (reply_call (s.runs i) reply l).answer ≡ 0 → (l.payload ≡ s.payloads i) × (l.file ≡ s.files i) →
    (e : Exchange) × In e s.exchanged × (e.reply ≡ reply) × ((j : ℕ) × IssuedBy j e.request s) →
    RunHolds v.bank.calls v.bank.past.history (history.after (Reply reply l) (run_past s i))
reply-holds s v numbers i reply l done left (e, m, z, (j, copy)) = at (ℕ_discrete j i)
  where
    at : Dec (j ≡ i) → RunHolds v.bank.calls v.bank.past.history (history.after (Reply reply l) (run_past s i))
    at (yes same) =
        run-fair s v i (Reply reply l) (λ _. (
          record { payload = left.0; file = left.1 },
          given_to s v i reply (e, m, z, subst (λ (n : ℕ). IssuedBy n e.request s) same copy),
        ))
    at (no other) =
        subst (RunHolds v.bank.calls v.bank.past.history) (sym (other-stays s v numbers i reply l done left j other (e, m, z, copy))) (v.runs i)

reply-keeps : (s : Course) (v : Parts s) → OneExchangeNumber s → (i : ℕ) (c : ClientRun) (reply : List ℕ) (l : Lent) →
    Premise (reply_arrives i c reply l) s → call_number (reply_arrives i c reply l) ≡ 0 → Parts (carry_out (reply_arrives i c reply l) s)
reply-keeps s v numbers i c reply l q =
    subst (λ (x : ClientRun). call_number (reply_arrives i x reply l) ≡ 0 → Parts (carry_out (reply_arrives i x reply l) s)) (sym q.0.0)
    (λ z. let p = run-keeps s v i (Reply reply l) (reply-issues (s.runs i) l reply) z
    (reply-holds s v numbers i reply l z (q.0.1, q.0.2) q.1) in record { bank = p.bank; runs = p.runs; images = p.images })

no-reply-keeps : (s : Course) (v : Parts s) (i : ℕ) (c : ClientRun) (l : Lent) → Left i c l s → call_number (no_reply i c l) ≡ 0 →
    Parts (carry_out (no_reply i c l) s)
no-reply-keeps s v i c l q =
    subst (λ (x : ClientRun). call_number (no_reply i x l) ≡ 0 → Parts (carry_out (no_reply i x l) s)) (sym q.0)
    (λ z. run-keeps s v i (NoReply l) (no-reply-issues (s.runs i) l) z
    (run-fair s v i (NoReply l) (λ _. record { payload = q.1; file = q.2 })))

carried_keeps : (k : Call) (s : Course) → Parts s → OneExchangeNumber s → Premise k s → call_number k ≡ 0 → Parts (carry_out k s)
carried_keeps (frame_arrives m a) s v n q z =
    bank-called v (frame-keeps s v.bank m a q.0 q.1 z) (λ i. refl) refl
carried_keeps (file_put rows mailboxes m file) s v n q z = bank-called v (file-keeps s v.bank rows mailboxes m file q z) (λ i. refl) refl
carried_keeps (begins i c params l) s v n q z = begin-keeps s v i c params l q z
carried_keeps (reply_arrives i c reply l) s v n q z = reply-keeps s v n i c reply l q z
carried_keeps (no_reply i c l) s v n q z = no-reply-keeps s v i c l q z
carried_keeps (journal_handed i c row) s v n q z = journal-keeps s v i c row q
carried_keeps (puts_away m buffer) s v n q z =
    record { bank = v.bank; runs = v.runs; images = put_written m buffer s v.images q z }
carried_keeps (takes_up m image) s v n q z = subst Parts (sym (taken-stays m image s v.images q z)) v

pub call-keeps : (k : Call) (s : Course) → Parts s → OneExchangeNumber (exec k s) → Allowed k s → Parts (exec k s)
call-keeps k s v n a = by_number k s Parts v (λ z. carried_keeps k s v (numbers-earlier k s n) (a z) z)

pub parts-start : Parts start
unfolding start issues_of
parts-start = record {
  bank = bank-start;
  runs = λ i. record { left = stage.NotBegun; own = not-begun refl refl; word = as-left refl };
  images = λ image m. absurd (in-none m);
}

pub parts : (ks : List Call) (s : Course) → Parts s → AllAllowed ks s → OneExchangeNumber (after ks s) → Parts (after ks s)
unfolding after
parts [] s v a n = v
parts (k ∷ ks) s v a n = parts ks (exec k s) (call-keeps k s v (numbers-before ks (exec k s) n) a.0) a.1 n

-- ---- copies

-- every frame that was answered under a subscriber's number is a copy of a request issued
abbrev pub Copied : Course → Type 0
Copied s = (e : Exchange) → In e s.exchanged → is_subscribers e.request ≡ true → (i : ℕ) × IssuedBy i e.request s

copied-later : (k : Call) (s : Course) → Copied s → (e : Exchange) → In e s.exchanged → is_subscribers e.request ≡ true →
    (i : ℕ) × IssuedBy i e.request (exec k s)
copied-later k s c e m z = let o = c e m z in (o.0, issued-more k s o.1)

-- what is exchanged after a call: as before, or one frame more, which was allowed
pub data Exchanges (k : Call) (s : Course) : List Exchange → Type 0 where
  nothing : Exchanges k s s.exchanged
  enters : {e : Exchange} → (is_subscribers e.request ≡ true → (i : ℕ) × IssuedBy i e.request s) → Exchanges k s (e ∷ s.exchanged)

carried-exchanges : (k : Call) (s : Course) → Premise k s → Exchanges k s (carry_out k s).exchanged
carried-exchanges (frame_arrives m a) s q = enters q.2
carried-exchanges (file_put rows mailboxes m file) s q = nothing
carried-exchanges (begins i c params l) s q = nothing
carried-exchanges (reply_arrives i c reply l) s q = nothing
carried-exchanges (no_reply i c l) s q = nothing
carried-exchanges (journal_handed i c row) s q = nothing
carried-exchanges (puts_away m buffer) s q = nothing
carried-exchanges (takes_up m image) s q = nothing

pub call-exchanges : (k : Call) (s : Course) → Allowed k s → Exchanges k s (exec k s).exchanged
call-exchanges k s q = by_number k s (λ (t : Course). Exchanges k s t.exchanged) nothing (λ z. carried-exchanges k s (q z))

pub copied-call : (k : Call) (s : Course) → Copied s → Allowed k s → Copied (exec k s)
copied-call k s c q e m z = go (call-exchanges k s q) m
  where
    go : {l : List Exchange} → Exchanges k s l → In e l → (i : ℕ) × IssuedBy i e.request (exec k s)
    go nothing n = copied-later k s c e n z
    go (enters f) (here y) =
        let o = f (subst (λ (g : Exchange). is_subscribers g.request ≡ true) y z) in
        (o.0, issued-more k s (subst (λ (g : Exchange). IssuedBy o.0 g.request s) (sym y) o.1))
    go (enters f) (there n) = copied-later k s c e n z

pub copied-start : Copied start
unfolding start
copied-start e m z = absurd (in-none m)

pub copied : (ks : List Call) (s : Course) → Copied s → AllAllowed ks s → Copied (after ks s)
unfolding after
copied [] s c q = c
copied (k ∷ ks) s c q = copied ks (exec k s) (copied-call k s c q.0) q.1
