-- What a call is to one run: nothing, a copy of its request, its begin, or a reply to its request. Assumes nothing.
use Rattle.client_run.specs.declared.run.Refusal.{Refusal}
use Rattle.bank.specs.declared.mailbox.FileRefusal.{FileRefusal}
use Rattle.std.specs.Prelude.{Ok, Result}
use Prim.Native.Nat.{ℕ, ◌≤◌}
use mathlib.Core.Bool.{Bool, true, false}
use mathlib.Core.List.Memᴰ.{head as here}
use mathlib.Core.List.Memᴰ.{tail as there}
use mathlib.Core.List.{List, ◌∷◌, Memᴰ as In}
use mathlib.Core.Logic.{◌⊎◌, inl, inr}
use mathlib.Core.Path.{◌≡◌, refl, sym, ap, ◌∙◌, subst}
use native.Mathlib.Decide.{ℕ_discrete}
use native.Mathlib.Omega.{arith}
use lib.ListN.{length}
use Rattle.frame_table.specs.declared.fields.Bits128.{Bits128}
use Rattle.frame_table.specs.declared.table.Form.{Form}
use Rattle.frame_table.specs.Names.{exchange}
use Rattle.frame_reader.specs.Reader.{read_request}
use Rattle.octets.proofs.Tests.{never}
use Rattle.message.specs.Verdicts.{decide}
use Rattle.journal.specs.declared.event.Event.{Event}
use Rattle.bank_state.specs.State.{Bank}
use Rattle.bank_state.specs.Search.{open_count_of}
use Rattle.bank_state.specs.State.{BankState, bank_state}
use Rattle.bank.specs.Mailbox.{FileCall, file_number, file_call, carry_out_file, file_refusals}
use Rattle.bank.specs.Call.{FrameInput}
use Rattle.bank_session.specs.Session.{LentSession}
use Rattle.bank_history.specs.History.{Past, File, placed}
use Rattle.bank_history.specs.History as bank
use Rattle.bank_history.specs.Transactions.{UploadUnlessIdle, DownloadUnlessIdle}
use Rattle.bank_history.proofs.Liveness.{upload-stays, download-stays}
use Rattle.client_run.specs.declared.run.Answer.{Answer}
use Rattle.client_run.specs.declared.run.Answer.TheVariants as answer
use Rattle.client_run.specs.declared.run.ClientRun.{ClientRun}
use Rattle.message.specs.declared.directions.Direction.{Direction}
use Rattle.message.specs.declared.directions.Direction.TheVariants.{Upload, Download}
use Rattle.client_run.specs.declared.run.RunParameters.{RunParameters}
use Rattle.client_run.specs.declared.run.Stage.TheVariants as stage
use Rattle.client_run.specs.declared.run.Word.TheVariants.{Unclear}
use Rattle.client.specs.Calls.{begin_call, reply_call, no_reply_call}
use Rattle.client.specs.Journal.{journal_call}
use Rattle.client_run.specs.Run.{Lent, ClientCall, answer_number}
use Rattle.exchange.specs.Course.{
  Call,
  frame_arrives,
  file_put,
  begins,
  reply_arrives,
  no_reply,
  journal_handed,
  puts_away,
  takes_up,
  Issue,
  Exchange,
  Arrival,
  Course,
  with_arrived,
  call_number,
  issued_by,
  carry_out,
  exec,
}
use Rattle.exchange.specs.Terms.{IssuedBy, NoIdleHour, Turn, InTurn}
use Rattle.exchange.specs.Demand3.{is_subscribers, Left, Premise, Allowed, OneExchangeNumber}
use Rattle.exchange.proofs.Calls.{carried, number-or-none, file-done}
use Rattle.exchange.proofs.Host.{file_left, file-answered, host-file}
use Rattle.exchange.proofs.Images.{taken-stays}
use Rattle.exchange.proofs.Bank.{Entered, frame-enters}
use Rattle.exchange.proofs.Clients.{issues_of, run_past, issued-in, OpenedBy, Parts}
use Rattle.exchange.proofs.Issues.{one-issue}
use Rattle.exchange.proofs.Outstanding.{GivenFor, other-ignored, other-stays}
use Rattle.exchange.proofs.Handed.{
  Handing,
  unchanged,
  lodges,
  ends,
  handing,
  with_run_of,
  handed-own,
  handed-other,
}
use Rattle.exchange.proofs.Courses.{Copied, frame-runs}
use Rattle.exchange.proofs.Received.{ToAnother, Same, same_view, other-same, foreign-same, ignored-same}
use Rattle.exchange.proofs.Joint.{counts}
use Rattle.exchange.proofs.Outcome.{request-of}
use Rattle.exchange.proofs.Runs.{reply-past}
use Rattle.exchange.proofs.OpenTransactions.{OpenUnlessIdle, upload-standing, download-standing}

-- the transactions that the run has had opened stay as they are; a download where its subscriber has nothing else open
abbrev pub Untouched : (s : Course) → Parts s → ℕ → Course → Type 0
Untouched s v i t = (y : Form) (id : Bits128) → OpenedBy y v.bank.past.history id (issues_of i s.issued) →
    (direction : Direction) (u k n last : ℕ) → (direction ≡ Download → open_count_of u s.bank.bank ≤ 1) → OpenUnlessIdle direction s.bank id u k n last →
    OpenUnlessIdle direction t.bank id u k n last

-- the bank stays
bank-same : (s : Course) (v : Parts s) (i : ℕ) (t : Course) → t.bank ≡ s.bank → Untouched s v i t
bank-same s v i t e y id o direction u k n last few a = subst (λ (w : BankState). OpenUnlessIdle direction w id u k n last) (sym e) a

-- What the call is to run i
pub data Concern (s : Course) (v : Parts s) (i : ℕ) : Call → Type 0 where
  elsewhere : {k : Call} → Same i s (exec k s) → Untouched s v i (exec k s) → Concern s v i k
  own-frame : {m : LentSession} {a : FrameInput} →
      Entered s v.bank a (exec (frame_arrives m a) s) → IssuedBy i a.frame s →
      ((e : Exchange) → In e s.exchanged → e.request ≡ a.frame → ⊥) →
      NoIdleHour i (exec (frame_arrives m a) s).bank.bank.clock s →
      (exec (frame_arrives m a) s).issued ≡ s.issued →
      (exec (frame_arrives m a) s).arrived ≡ s.arrived →
      Concern s v i (frame_arrives m a)
  own-begin : {c : ClientRun} {params : RunParameters} {l : Lent} → c ≡ s.runs i →
      call_number (begins i c params l) ≡ 0 → Concern s v i (begins i c params l)
  own-reply : {c : ClientRun} {reply : List ℕ} {l : Lent} → call_number (reply_arrives i c reply l) ≡ 0 → Left i c l s →
      GivenFor i reply s → ((a : Arrival) → In a s.arrived → a.run ≡ i → a.reply ≡ reply → ⊥) →
      Concern s v i (reply_arrives i c reply l)
  -- the journal, to an unclear run; any other run it leaves as it is
  own-journal : {k : Call} → (s.runs i).stage ≡ stage.Ended Unclear → Concern s v i k

-- a call that changes nothing
nothing-new : (s : Course) (v : Parts s) (i : ℕ) (t : Course) → t ≡ s → Same i s t × Untouched s v i t
nothing-new s v i t e =
    (subst (Same i s) (sym e) (same_view refl refl refl refl), bank-same s v i t (ap (λ (x : Course). x.bank) e))

-- ---- a frame

-- a file put moves the bank as its history says, which enters nothing
pub file-bank : (s : Course) (v : Parts s) (rows mailboxes : List ℕ) (m : ℕ) (file : List ℕ) → Premise (file_put rows mailboxes m file) s →
    call_number (file_put rows mailboxes m file) ≡ 0 → let p = bank.after (File m file) v.bank.past in
    ((carry_out (file_put rows mailboxes m file) s).bank ≡ p.bank_state) × (p.history ≡ v.bank.past.history)
unfolding file_call bank.after
file-bank s v rows mailboxes m file same z =
    subst (λ (t : Course). (t.bank ≡ (next a).bank_state) × ((next a).history ≡ v.bank.past.history))
    (sym (host-file rows mailboxes m file z s))
    (subst (λ (c : Bank). P c mailboxes) (ap (λ (w : BankState). w.bank) v.bank.bank_state ∙ sym same.0)
    (subst (P v.bank.past.bank_state.bank) (ap (λ (w : BankState). w.mailboxes) v.bank.bank_state ∙ sym same.1) done)
    (file-answered rows mailboxes m file z))
  where
    before : BankState
    before = v.bank.past.bank_state

    k : Result (Unit {0}) FileRefusal → FileCall
    k a = carry_out_file a before.bank m file before.mailboxes

    next : Result (Unit {0}) FileRefusal → Past
    next a = placed (k a).answer (k a).bank (k a).mailboxes v.bank.past

    a : Result (Unit {0}) FileRefusal
    a = decide (file_refusals before.bank m file before.mailboxes) (Ok tt)

    P : Bank → List ℕ → Type 0
    P c l = file_number (file_call c m file l).answer ≡ 0 →
        ((file_left c l m file s).bank ≡ (next a).bank_state) × ((next a).history ≡ v.bank.past.history)

    done : P before.bank before.mailboxes
    done y =
        subst (λ (x : Result (Unit {0}) FileRefusal). (bank_state (k x).bank s.bank.orders (k x).mailboxes ≡ (next x).bank_state)
        × ((next x).history ≡ v.bank.past.history)) (sym (file-done a before.bank m file before.mailboxes y))
        (ap (λ (w : BankState). bank_state (k (Ok tt)).bank w.orders (k (Ok tt)).mailboxes) (sym v.bank.bank_state), refl)

module _ (s : Course) (v : Parts s) (copies : Copied s) (numbers : OneExchangeNumber s) (i : ℕ) where
  -- whether a frame is a copy of the run's request
  own-or-not : (frame : List ℕ) → (is_subscribers frame ≡ true → (j : ℕ) × IssuedBy j frame s) →
      IssuedBy i frame s ⊎ (IssuedBy i frame s → ⊥)
  own-or-not frame given = at (is_subscribers frame) refl
    where
      issued-own : IssuedBy i frame s → is_subscribers frame ≡ true
      issued-own (x, m, r, f) =
          let k = request-of s v copies numbers i (issued-in i m r) in
          ap is_subscribers (sym f) ∙ counts s v copies numbers x.frame k.0 k.1 k.2

      by : (o : (j : ℕ) × IssuedBy j frame s) → Dec (o.0 ≡ i) → IssuedBy i frame s ⊎ (IssuedBy i frame s → ⊥)
      by o (yes z) = inl (subst (λ (j : ℕ). IssuedBy j frame s) z o.1)
      by (j, (x, m, r, f)) (no n) = inr (λ p. n (sym r ∙ ap (λ (u : Issue). u.run)
          (one-issue s numbers m p.1 (ap (λ (l : List ℕ). exchange (read_request l)) (f ∙ sym p.3))) ∙ p.2))

      at : (b : Bool) → is_subscribers frame ≡ b → IssuedBy i frame s ⊎ (IssuedBy i frame s → ⊥)
      at true e = let o = given e in by o (ℕ_discrete o.0 i)
      at false e = inr (λ p. never (sym e ∙ issued-own p))

  foreign-untouched : (a : FrameInput) → (is_subscribers a.frame ≡ true → (j : ℕ) × IssuedBy j a.frame s) →
      (t : Course) → Entered s v.bank a t → (IssuedBy i a.frame s → ⊥) → Untouched s v i t
  foreign-untouched a given t en foreign y id o Upload u k n last few stood =
      upload-standing s v copies numbers a given t en o foreign stood
  foreign-untouched a given t en foreign y id o Download u k n last few stood =
      download-standing s v copies numbers a given t en o foreign (few refl) stood

  frame-concern : (m : LentSession) (a : FrameInput) → Premise (frame_arrives m a) s →
      Turn i (frame_arrives m a) s → call_number (frame_arrives m a) ≡ 0 →
      Concern s v i (frame_arrives m a)
  frame-concern m a q turn z = at (own-or-not a.frame q.2)
    where
      k : Call
      k = frame_arrives m a

      now : carry_out k s ≡ exec k s
      now = sym (carried k s z)

      en : Entered s v.bank a (exec k s)
      en = subst (Entered s v.bank a) now (frame-enters s v.bank m a q.0 q.1 z)

      issued : (exec k s).issued ≡ s.issued
      issued = ap (λ (t : Course). t.issued) (carried k s z)

      arrivals : (exec k s).arrived ≡ s.arrived
      arrivals = ap (λ (t : Course). t.arrived) (carried k s z)

      at : IssuedBy i a.frame s ⊎ (IssuedBy i a.frame s → ⊥) → Concern s v i k
      at (inl own) =
          let x = turn own in
          own-frame en own x.0 (subst (λ (t : Course). NoIdleHour i t.bank.bank.clock s) now x.1) issued arrivals
      at (inr foreign) =
          elsewhere (foreign-same en.exchanged en.request issued arrivals (frame-runs s m a i) foreign)
          (foreign-untouched a q.2 (exec k s) en foreign)

  -- ---- a file

  file-untouched : (m : ℕ) (file : List ℕ) (t : Course) → let p = bank.after (File m file) v.bank.past in
      (t.bank ≡ p.bank_state) × (p.history ≡ v.bank.past.history) → Untouched s v i t
  file-untouched m file t (z, h) = at
    where
      no-exchange : (e : bank.Exchange) → (bank.after (File m file) v.bank.past).history ≡ e ∷ v.bank.past.history → ⊥
      no-exchange e y = let n = ap length (sym h ∙ y) in omega arith

      at : Untouched s v i t
      at y id o Upload u k n last few a =
          subst (λ (w : BankState). UploadUnlessIdle w id u k n last) (sym z)
          (upload-stays id u k n last (File m file) v.bank.past v.bank.holds
          (subst (λ (w : BankState). UploadUnlessIdle w id u k n last) (sym v.bank.bank_state) a) (λ e x. absurd (no-exchange e x)))
      at y id o Download u k n last few a =
          subst (λ (w : BankState). DownloadUnlessIdle w id u k last) (sym z)
          (download-stays id u k last (File m file) v.bank.past v.bank.holds
          (subst (λ (w : BankState). DownloadUnlessIdle w id u k last) (sym v.bank.bank_state) a) (λ e x. absurd (no-exchange e x))
          (λ e _ x. absurd (no-exchange e x)))

  -- ---- a call of a run

  -- a reply that reaches another run
  reached-same : (j : ℕ) → (i ≡ j → ⊥) → (reply : List ℕ) (t : Course) → Same i s t →
      Same i s (with_arrived (record { run = j; reply = reply } ∷ s.arrived) t)
  reached-same j d reply t z = record {
    past = z.past;
    received = z.received;
    keeps = z.keeps;
    arrivals = arrivals;
    arrived = λ b m. there m;
    issued = z.issued;
  }
    where
      arrivals : (b : Arrival) → In b (record { run = j; reply = reply } ∷ s.arrived) → b.run ≡ i →
          In b s.arrived ⊎ ToAnother i b.reply (with_arrived (record { run = j; reply = reply } ∷ s.arrived) t)
      arrivals b (here e) r = absurd (d (sym r ∙ ap (λ (x : Arrival). x.run) e))
      arrivals b (there m) r = inl m

  -- a reply that reaches the run: to its own request, or to another run's
  reply-concern : (c : ClientRun) (reply : List ℕ) (l : Lent) → call_number (reply_arrives i c reply l) ≡ 0 →
      Premise (reply_arrives i c reply l) s → Turn i (reply_arrives i c reply l) s → Concern s v i (reply_arrives i c reply l)
  reply-concern c reply l done (left, (e, m, z, (j, copy))) fresh = at (ℕ_discrete j i)
    where
      k : ClientCall
      k = reply_call c reply l

      t : Course
      t = carry_out (reply_arrives i c reply l) s

      now : t ≡ exec (reply_arrives i c reply l) s
      now = sym (carried (reply_arrives i c reply l) s done)

      done-run : answer_number (reply_call (s.runs i) reply l).answer ≡ 0
      done-run = subst (λ (x : ClientRun). answer_number (reply_call x reply l).answer ≡ 0) left.0 done

      at : Dec (j ≡ i) → Concern s v i (reply_arrives i c reply l)
      at (yes same) = own-reply done left (e, m, z, subst (λ (n : ℕ). IssuedBy n e.request s) same copy) (fresh refl)
      at (no other) =
          let ignored : k.answer ≡ Ok answer.Ignored = ap (λ (x : ClientRun). (reply_call x reply l).answer) left.0
          ∙ other-ignored s v numbers i reply l done-run (left.1, left.2) j other (e, m, z, copy) in
          elsewhere
          (subst (Same i s) now (ignored-same refl (ap (λ (a : Result Answer Refusal). issued_by a i k s) ignored) refl
          (ap (λ (x : Course). run_past x i) now ∙ reply-past s i c left.0 reply l done
          ∙ other-stays s v numbers i reply l done-run (left.1, left.2) j other (e, m, z, copy))
          (record { run = j; other = other; exchange = e; received = (m, copy); given = z })))
          (bank-same s v i (exec (reply_arrives i c reply l) s) (ap (λ (x : Course). x.bank) (sym now)))

  -- a call of run j: of another run, or of run i
  run-concern : (k : ℕ → Call) (j : ℕ) → call_number (k j) ≡ 0 → Premise (k j) s → Turn i (k j) s →
      ((i ≡ j → ⊥) → Same i s (carry_out (k j) s) × ((carry_out (k j) s).bank ≡ s.bank)) →
      (call_number (k i) ≡ 0 → Premise (k i) s → Turn i (k i) s → Concern s v i (k i)) → Concern s v i (k j)
  run-concern k j z q turn other own = at (ℕ_discrete i j)
    where
      now : carry_out (k j) s ≡ exec (k j) s
      now = sym (carried (k j) s z)

      at : Dec (i ≡ j) → Concern s v i (k j)
      at (no d) =
          elsewhere (subst (Same i s) now (other d).0)
          (bank-same s v i (exec (k j) s) (ap (λ (x : Course). x.bank) (sym now) ∙ (other d).1))
      at (yes e) = subst (λ (n : ℕ). call_number (k n) ≡ 0 → Premise (k n) s → Turn i (k n) s → Concern s v i (k n)) e own z q turn

  -- the journal handed to a run: run i stays as it is, unless it is that run and unclear
  handed-same : (j : ℕ) (c : ClientRun) (row : List Event) → run_past (carry_out (journal_handed j c row) s) i ≡ run_past s i →
      Same i s (carry_out (journal_handed j c row) s)
  handed-same j c row past = same_view past refl refl refl

  journal-concern : (c : ClientRun) (row : List Event) → call_number (journal_handed i c row) ≡ 0 → Premise (journal_handed i c row) s →
      Concern s v i (journal_handed i c row)
  journal-concern c row z q = at (handing c row)
    where
      k : Call
      k = journal_handed i c row

      now : carry_out k s ≡ exec k s
      now = sym (carried k s z)

      at : Handing c row (journal_call c row).run → Concern s v i k
      at (unchanged e) =
          elsewhere
          (subst (Same i s) now (handed-same i c row (handed-own s i c row ∙ ap (λ (r : ClientRun). with_run_of r (run_past s i)) (e ∙ q.0))))
          (bank-same s v i (exec k s) (ap (λ (x : Course). x.bank) (sym now)))
      at (lodges e f r) = own-journal (ap (λ (x : ClientRun). x.stage) (sym q.0) ∙ e)
      at (ends e f r) = own-journal (ap (λ (x : ClientRun). x.stage) (sym q.0) ∙ e)

  carried-concern : (k : Call) → call_number k ≡ 0 → Premise k s → Turn i k s → Concern s v i k
  carried-concern (frame_arrives m a) z q turn = frame-concern m a q turn z
  carried-concern (file_put rows mailboxes m file) z q turn =
      let k = file_put rows mailboxes m file in
      let now = sym (carried k s z) in
      elsewhere
      (subst (Same i s) now (same_view refl refl refl refl))
      (subst (Untouched s v i) now (file-untouched m file (carry_out k s) (file-bank s v rows mailboxes m file q z)))
  carried-concern (begins j c params l) z q turn =
      run-concern (λ n. begins n c params l) j z q turn (λ d. (other-same s i j d (begin_call c params l) l, refl))
      (λ y own _. own-begin own y)
  carried-concern (reply_arrives j c reply l) z q turn =
      run-concern (λ n. reply_arrives n c reply l) j z q turn
      (λ d. (reached-same j d reply _ (other-same s i j d (reply_call c reply l) l), refl)) (reply-concern c reply l)
  carried-concern (no_reply j c l) z q turn =
      run-concern (λ n. no_reply n c l) j z q turn (λ d. (other-same s i j d (no_reply_call c l) l, refl)) (λ y own not. absurd (not refl))
  carried-concern (journal_handed j c row) z q turn =
      run-concern (λ n. journal_handed n c row) j z q turn (λ d. (handed-same j c row (handed-other s j c row i d), refl))
      (λ y own _. journal-concern c row y own)
  carried-concern (puts_away m buffer) z q turn =
      let now = sym (carried (puts_away m buffer) s z) in
      elsewhere (subst (Same i s) now (same_view refl refl refl refl))
      (bank-same s v i (exec (puts_away m buffer) s) (ap (λ (x : Course). x.bank) (sym now)))
  carried-concern (takes_up m image) z q turn =
      let n = nothing-new s v i (exec (takes_up m image) s) (carried (takes_up m image) s z ∙ taken-stays m image s v.images q z) in
      elsewhere n.0 n.1

  pub concern : (k : Call) → Allowed k s → InTurn i k s → Concern s v i k
  concern k q turn = at (number-or-none k s)
    where
      at : (exec k s ≡ s) ⊎ ((call_number k ≡ 0) × (exec k s ≡ carry_out k s)) → Concern s v i k
      at (inl e) = let n = nothing-new s v i (exec k s) e in elsewhere n.0 n.1
      at (inr (z, _)) = carried-concern k z (q z) (turn z)
