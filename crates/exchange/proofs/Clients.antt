-- Each run's part of a course: a past of the run's events, over the bank's replies. Assumes nothing.
use Rattle.std.specs.Prelude.{Result, Ok, Err}
use Rattle.client_run.specs.declared.run.Refusal.{Refusal}
use Prim.Native.Nat.{ℕ}
use mathlib.Core.Bool.{Bool, true, false, cond}
use mathlib.Core.List.Memᴰ.{head as here}
use mathlib.Core.List.Memᴰ.{not-nil as in-none}
use mathlib.Core.List.Memᴰ.{tail as there}
use mathlib.Core.List.{List, [], ◌∷◌, Memᴰ as In}
use mathlib.Core.Path.{◌≡◌, refl, sym, ap, ◌∙◌, subst}
use native.Mathlib.Decide.{ℕ_discrete}
use native.Mathlib.Omega.{arith}
use lib.Dec.{eqb}
use lib.ListN.{take}
use borrow.Author.Tests.{eq-eqb, ne_eqb, eqb-true}
use Rattle.frame_table.specs.declared.fields.Bits128.{Bits128}
use Rattle.frame_table.specs.declared.fields.Fields.{Fields}
use Rattle.frame_table.specs.declared.table.Form.{Form}
use Rattle.frame_table.specs.Forms as forms
use Rattle.frame_table.specs.Names.{transaction, segments, return_code, form}
use Rattle.frame_reader.specs.Reader.{read_request}
use Rattle.frame_row.specs.Row.{data_of}
use Rattle.octets.proofs.Tests.{never}
use Rattle.message.specs.Editions.{opening_form}
use Rattle.bank_verdicts.specs.declared.verdict.Action.{Action}
use Rattle.bank_verdicts.specs.declared.verdict.Action.TheVariants as action
use Rattle.bank_verdicts.specs.declared.verdict.DownloadAction.TheVariants as down
use Rattle.bank_verdicts.specs.declared.verdict.UploadAction.TheVariants as up
use Rattle.bank_verdicts.specs.declared.verdict.Verdict.TheVariants as verdict
use Rattle.bank_history.specs.History.{Stands, older, BankCall, is_booking, did, ever}
use Rattle.bank_history.specs.History as bank
use Rattle.bank_history.specs.JournalOrders.{NeverBooked}
use Rattle.bank_history.specs.Sound.{AllSound}
use Rattle.bank_history.proofs.Theorems.{upload-opened, download-opened}
use Rattle.client_run.specs.declared.run.Answer.{Answer}
use Rattle.client_run.specs.declared.run.Answer.TheVariants as answer
use Rattle.client_run.specs.declared.run.ClientRun.{ClientRun}
use Rattle.client_run.specs.declared.run.RunTerms.{RunTerms}
use Rattle.client_run.specs.declared.run.Stage.{Stage}
use Rattle.client_run.specs.declared.run.Stage.TheVariants as stage
use Rattle.client_run.specs.declared.run.Step.{Step}
use Rattle.client_run.specs.declared.run.Step.TheVariants as step
use Rattle.client_run.specs.declared.run.Word.{Word}
use Rattle.client_run.specs.declared.run.Word.TheVariants as word
use Rattle.client_run.specs.Run.{Lent, ClientCall, answer_number}
use Rattle.client_rules.specs.Rulings.{is_begun}
use Rattle.client_history.specs.History.{Event, Past, issue_of, left, call_of, lent_to, Fair}
use Rattle.client_history.specs.History as history
use Rattle.client_history.specs.Invariant.{is_open, OpenedAs, UploadStep, HeldFile, DownloadStep, Invariant, not-begun, upload, download}
use Rattle.client_history.proofs.Lifting.{lifted}
use Rattle.client_history.proofs.Liveness.{numbered}
use Rattle.client_history.proofs.Stays.{ended-stays}
use Rattle.client_history.proofs.Theorems.{kept}
use Rattle.exchange.specs.Course.{Issue, Course, with_run, with_issued, held_of, issued_by, after_run}
use Rattle.exchange.proofs.Bytes.{Issued, issued-request, issued-data}
use Rattle.exchange.proofs.Told.{Opening, opening-at, opens-upload, Gave, file_in, bank-replies}
use Rattle.exchange.proofs.Images.{Written}
use Rattle.exchange.proofs.Bank.{BankPart, Grows, stays, grows}

-- ---- the run's part

-- a request issued, as read
abbrev pub as_issue : Issue → history.Issue
as_issue x = record { request = read_request x.frame; request_data = data_of x.frame; file = x.file }

-- the requests that run i issued
unfoldable pub issues_of : ℕ → List Issue → List history.Issue
issues_of i [] = []
issues_of i (x ∷ l) = cond (eqb x.run i) (as_issue x ∷ issues_of i l) (issues_of i l)

abbrev pub run_past : Course → ℕ → Past
run_past s i = record { run = s.runs i; payload = s.payloads i; file = s.files i; issues = issues_of i s.issued }

pub issued-in : (i : ℕ) {x : Issue} {l : List Issue} → In x l → x.run ≡ i → In (as_issue x) (issues_of i l)
unfolding issues_of
issued-in i {x} (here {x = y} {xs = l} e) z = rw (eq-eqb y.run i (ap (λ (u : Issue). u.run) (sym e) ∙ z)) (here (ap as_issue e))
issued-in i {x} (there {x = y} {xs = l} m) z = at (eqb y.run i) (issued-in i m z)
  where
    at : (b : Bool) → In (as_issue x) (issues_of i l) → In (as_issue x) (cond b (as_issue y ∷ issues_of i l) (issues_of i l))
    at true k = there k
    at false k = k

-- the request of the course behind one of the run's part
pub record Own (i : ℕ) (y : history.Issue) (l : List Issue) : Type 0 where
  pub issue : Issue
  pub own : In issue l
  pub run : issue.run ≡ i
  pub same : as_issue issue ≡ y

pub issue-of : (i : ℕ) {y : history.Issue} (l : List Issue) → In y (issues_of i l) → Own i y l
unfolding issues_of
issue-of i [] m = absurd (in-none m)
issue-of i {y} (x ∷ l) m = at (eqb x.run i) refl m (issue-of i l)
  where
    behind : Own i y l → Own i y (x ∷ l)
    behind o = record { issue = o.issue; own = there o.own; run = o.run; same = o.same }

    at : (b : Bool) → eqb x.run i ≡ b → In y (cond b (as_issue x ∷ issues_of i l) (issues_of i l)) → (In y (issues_of i l) → Own i y l) →
        Own i y (x ∷ l)
    at true e (here z) f = record { issue = x; own = here refl; run = eqb-true x.run i e; same = sym z }
    at true e (there k) f = behind (f k)
    at false e k f = behind (f k)

-- ---- the history grows

-- a transaction opened, by a request that was issued
pub record OpenedBy (x : Form) (h : List bank.Exchange) (t : Bits128) (issues : List history.Issue) : Type 0 where
  pub exchange : bank.Exchange
  pub before : List bank.Exchange
  pub stands : Stands exchange before h
  pub opening : Opening t exchange
  pub issue : history.Issue
  pub own : In issue issues
  pub asked : exchange.request ≡ issue.request
  pub kind : form issue.request ≡ x

module _ {h : List bank.Exchange} (sound : AllSound h) where
  pub opened-upload : {terms : RunTerms} {t : Bits128} {n : ℕ} {issues : List history.Issue} → OpenedAs (Gave h) terms t n issues →
      OpenedBy (opening_form terms.edition) h t issues
  opened-upload {terms} o =
      let a = o.got.given in
      let u = upload-opened sound a.stands
      (opens-upload terms.edition a.exchange (ap form a.reply ∙ o.got.answered) (ap return_code a.reply ∙ o.got.code)) in
      record {
        exchange = a.exchange;
        before = a.before;
        stands = a.stands;
        opening = record {
          action = action.Upload (up.Opened u.0);
          is = u.1 ∙ ap (λ (i : Bits128). verdict.Of i (action.Upload (up.Opened u.0))) (ap transaction a.reply ∙ o.id);
          opening = refl;
        };
        issue = o.got.issue;
        own = o.got.own;
        asked = a.request;
        kind = o.got.asked;
      }

  pub opened-download : {f : List ℕ} {t : Bits128} {n held size : ℕ} {file : List ℕ} {issues : List history.Issue} →
      HeldFile (Gave h) f t n held size file issues → OpenedBy forms.DownloadOpening h t issues
  opened-download o =
      let a = o.got.given in
      let u = download-opened sound a.stands (ap form a.reply ∙ o.got.answered) in
      record {
        exchange = a.exchange;
        before = a.before;
        stands = a.stands;
        opening = record {
          action = _;
          is = u.0 ∙ ap (λ (i : Bits128). verdict.Of i (action.Download (down.Opened (segments a.exchange.reply))))
              (ap transaction a.reply ∙ o.id);
          opening = refl;
        };
        issue = o.got.issue;
        own = o.got.own;
        asked = a.request;
        kind = o.got.asked;
      }

-- the file at the opening stays what it was
pub file-stays : {y : Form} {x : bank.Exchange} {h : List bank.Exchange} {t : Bits128} {issues : List history.Issue} → AllSound h →
    AllSound (x ∷ h) →
    OpenedBy y h t issues → file_in h t ≡ file_in (x ∷ h) t
file-stays sound later o =
    opening-at (λ (e : bank.Exchange). e.file) [] sound o.stands o.opening
    ∙ sym (opening-at (λ (e : bank.Exchange). e.file) [] later (older o.stands) o.opening)

gave-more : {x : bank.Exchange} {h : List bank.Exchange} (q r : Fields) (d e : List ℕ) → Gave h q d r e → Gave (x ∷ h) q d r e
gave-more q r d e a = record {
  exchange = a.exchange;
  before = a.before;
  stands = older a.stands;
  request = a.request;
  request_data = a.request_data;
  reply = a.reply;
  reply_data = a.reply_data;
}

-- the past with its run at a stage
abbrev pub at_stage : Stage → Past → Past
at_stage x p = record {
  run = record {
    stage = x;
    direction = p.run.direction;
    step = p.run.step;
    subscriber = p.run.subscriber;
    exchange = p.run.exchange;
    repeats = p.run.repeats;
    terms = p.run.terms;
    transaction = p.run.transaction;
    number = p.run.number;
    length = p.run.length;
    segments = p.run.segments;
    segment = p.run.segment;
    issued = p.run.issued;
  };
  payload = p.payload;
  file = p.file;
  issues = p.issues;
}

pub stage-same : (x : Stage) (p : Past) → x ≡ p.run.stage → at_stage x p ≡ p
stage-same x p z = ap (λ (y : Stage). at_stage y p) z

-- what became of a run that its own events left at a stage: it is as they left it, or it was unclear and the journal
-- closed it; then its upload is booked, or never booked
pub data Judged (calls : List BankCall) (h : List bank.Exchange) (c : ClientRun) (x : Stage) : Type 0 where
  as-left : x ≡ c.stage → Judged calls h c x
  lodged-by : x ≡ stage.Ended word.Unclear → c.stage ≡ stage.Ended word.Lodged → ever is_booking c.transaction h ≡ true →
      Judged calls h c x
  ended_by : x ≡ stage.Ended word.Unclear → c.stage ≡ stage.Ended word.NotLodged → NeverBooked calls c.transaction → Judged calls h c x

ever_more : (f : Action → Bool) (t : Bits128) (x : bank.Exchange) (h : List bank.Exchange) → ever f t h ≡ true → ever f t (x ∷ h) ≡ true
unfolding ever
ever_more f t x h e = at (did f t x.verdict)
  where
    at : (b : Bool) → cond b true (ever f t h) ≡ true
    at true = refl
    at false = e

-- the run's part: its own events left it at a stage
pub record RunHolds (calls : List BankCall) (h : List bank.Exchange) (p : Past) : Type 0 where
  pub left : Stage
  pub own : Invariant (Gave h) (file_in h) (at_stage left p)
  pub word : Judged calls h p.run left

past-lifts : {h k : List bank.Exchange} → Grows h k → AllSound h → AllSound k → (p : Past) → Invariant (Gave h) (file_in h) p →
    Invariant (Gave k) (file_in k) p
past-lifts stays sound later p v = v
past-lifts grows sound later p (not-begun e g) = not-begun e g
past-lifts {h} (grows {x = x}) sound later p (upload b u) = lifted (Gave h) (Gave (x ∷ h)) gave-more (file_in h) (file_in (x ∷ h)) p
    (λ o. file-stays sound later (at p.run.step o u.step)) (upload b u)
  where
    at : (s : Step) → is_open s ≡ true → UploadStep (Gave h) s p.run p.issues →
        OpenedBy (opening_form p.run.terms.edition) h p.run.transaction p.issues
    at step.Opening o k = never o
    at step.Segment o k = opened-upload sound k
    at step.Receipt o k = absurd k
past-lifts {h} (grows {x = x}) sound later p (download b u) = lifted (Gave h) (Gave (x ∷ h)) gave-more (file_in h) (file_in (x ∷ h)) p
    (λ o. file-stays sound later (at p.run.step o u.step)) (download b u)
  where
    at : (s : Step) → is_open s ≡ true → DownloadStep (Gave h) (file_in h) s p.run p.file p.issues →
        OpenedBy forms.DownloadOpening h p.run.transaction p.issues
    at step.Opening o k = never o
    at step.Segment o k = opened-download sound k
    at step.Receipt o k = opened-download sound k

module _ {calls more : List BankCall} {h k : List bank.Exchange} (g : Grows h k)
    (never : (t : Bits128) → NeverBooked calls t → NeverBooked more t) where
  judged-lifts : {c : ClientRun} {x : Stage} → Judged calls h c x → Judged more k c x
  judged-lifts (as-left z) = as-left z
  judged-lifts {c} (lodged-by z e b) = lodged-by z e (at g)
    where
      at : {l : List bank.Exchange} → Grows h l → ever is_booking c.transaction l ≡ true
      at stays = b
      at (grows {x = x}) = ever_more is_booking c.transaction x h b
  judged-lifts {c} (ended_by z e b) = ended_by z e (never c.transaction b)

  pub run-lifts : AllSound h → AllSound k → (p : Past) → RunHolds calls h p → RunHolds more k p
  run-lifts sound later p r =
      record { left = r.left; own = past-lifts g sound later (at_stage r.left p) r.own; word = judged-lifts r.word }

-- ---- a call of the run

same-run : (i : ℕ) → eqb i i ≡ true
same-run i = eq-eqb i i refl

module _ (s : Course) (i : ℕ) (k : ClientCall) (payload : List ℕ) where
  -- what a call of run i leaves, with these requests issued
  abbrev leaving : List Issue → Course
  leaving l = with_run i k.run payload k.file (with_issued l s)

  -- the other runs stay
  other-run : (l : List Issue) (j : ℕ) → (j ≡ i → ⊥) → issues_of j l ≡ issues_of j s.issued → run_past (leaving l) j ≡ run_past s j
  other-run l j n e = rw (ne_eqb j i n) (λ x. record { run = s.runs j; payload = s.payloads j; file = s.files j; issues = e x })

  -- run i as its call leaves it
  own-run : (l : List Issue) →
      run_past (leaving l) i ≡ record { run = k.run; payload = payload; file = k.file; issues = issues_of i l }
  own-run l = rw (same-run i)

new-own : (s : Course) (i n : ℕ) (k : ClientCall) (l : Lent) → Issued k l n →
    issues_of i (issued_by (Ok (answer.Request n)) i k s)
    ≡ issue_of k.run l.payload k.file l.time l.nonce ∷ issues_of i s.issued
unfolding issues_of held_of
new-own s i n k l w =
    rw (same-run i)
    (let q = issued-request w in
    let d = issued-data w in
    λ x. record { request = q x; request_data = d x; file = take k.run.length k.file } ∷ issues_of i s.issued)

new-other : (s : Course) (i j : ℕ) (k : ClientCall) (a : Result Answer Refusal) → (j ≡ i → ⊥) → issues_of j (issued_by a i k s) ≡ issues_of j s.issued
unfolding issues_of
new-other s i j k (Ok (answer.Request n)) h = rw (ne_eqb i j (λ e. h (sym e)))
new-other s i j k (Ok answer.Ignored) h = refl
new-other s i j k (Ok (answer.Closed w)) h = refl
new-other s i j k (Err r) h = refl

-- both ends of a course, and its images
pub record Parts (s : Course) : Type 0 where
  pub bank : BankPart s
  pub runs : (i : ℕ) → RunHolds (bank).calls (bank).past.history (run_past s i)
  pub images : Written s

-- the past of the run's own events
abbrev pub own_past : {s : Course} → Parts s → ℕ → Past
own_past {s} v i = at_stage (v.runs i).left (run_past s i)

-- it has begun if the run has
pub begun-same : (s : Course) (v : Parts s) (i : ℕ) → is_begun (v.runs i).left ≡ is_begun (s.runs i).stage
begun-same s v i = at (v.runs i).word
  where
    at : {x : Stage} → Judged v.bank.calls v.bank.past.history (s.runs i) x → is_begun x ≡ is_begun (s.runs i).stage
    at (as-left z) = ap is_begun z
    at (lodged-by z e b) = ap is_begun z ∙ sym (ap is_begun e)
    at (ended_by z e b) = ap is_begun z ∙ sym (ap is_begun e)

-- a run that goes on is as its own events left it
pub running-own : (s : Course) (v : Parts s) (i : ℕ) → (s.runs i).stage ≡ stage.Running → own_past v i ≡ run_past s i
running-own s v i e = at (v.runs i).word
  where
    at : {x : Stage} → Judged v.bank.calls v.bank.past.history (s.runs i) x → at_stage x (run_past s i) ≡ run_past s i
    at (as-left z) = stage-same _ (run_past s i) z
    at (lodged-by z f b) = absurd (let y : ◌≡◌ {A = ℕ} 0 1 = cc in omega arith)
    at (ended_by z f b) = absurd (let y : ◌≡◌ {A = ℕ} 0 1 = cc in omega arith)

pub running-holds : (s : Course) (v : Parts s) (i : ℕ) → (s.runs i).stage ≡ stage.Running →
    Invariant (Gave v.bank.past.history) (file_in v.bank.past.history) (run_past s i)
running-holds s v i e =
    let h = v.bank.past.history in subst (Invariant (Gave h) (file_in h)) (running-own s v i e) (v.runs i).own

module _ (s : Course) (i : ℕ) (k : ClientCall) (l : Lent) where
  -- the run is left as its history says
  pub own-past : ((n : ℕ) → k.answer ≡ Ok (answer.Request n) → Issued k l n) → answer_number k.answer ≡ 0 →
      run_past (after_run i k l.payload s) i ≡ left k.answer k l (run_past s i)
  own-past issues = go k.answer refl
    where
      go : (a : Result Answer Refusal) → k.answer ≡ a → answer_number a ≡ 0 →
          run_past (leaving s i k l.payload (issued_by a i k s)) i ≡ left a k l (run_past s i)
      go (Ok (answer.Request n)) e z =
          own-run s i k l.payload (issued_by (Ok (answer.Request n)) i k s)
          ∙ ap (λ (x : List history.Issue). record { run = k.run; payload = l.payload; file = k.file; issues = x })
          (new-own s i n k l (issues n e))
      go (Ok answer.Ignored) e z = own-run s i k l.payload s.issued
      go (Ok (answer.Closed w)) e z = own-run s i k l.payload s.issued
      go (Err r) e z = numbered r z

  -- the others stay
  pub other-past : (j : ℕ) → (j ≡ i → ⊥) → run_past (after_run i k l.payload s) j ≡ run_past s j
  other-past j d = other-run s i k l.payload (issued_by k.answer i k s) j d (new-other s i j k k.answer d)

module _ (s : Course) (v : Parts s) (i : ℕ) (e : Event) where
  -- what a fair event leaves of the run; one that the journal closed has ended
  pub run-fair : Fair (Gave v.bank.past.history) e (run_past s i) →
      RunHolds v.bank.calls v.bank.past.history (history.after e (run_past s i))
  run-fair fair = at (v.runs i).own (v.runs i).word
    where
      h : List bank.Exchange
      h = v.bank.past.history

      ended : (w : Word) → (s.runs i).stage ≡ stage.Ended w → RunHolds v.bank.calls h (history.after e (run_past s i))
      ended w z = subst (RunHolds v.bank.calls h) (sym (ended-stays (run_past s i) w z e)) (v.runs i)

      at : {x : Stage} → Invariant (Gave h) (file_in h) (at_stage x (run_past s i)) → Judged v.bank.calls h (s.runs i) x →
          RunHolds v.bank.calls h (history.after e (run_past s i))
      at own (as-left z) = record {
        left = (history.after e (run_past s i)).run.stage;
        own = kept (Gave h) (file_in h) (bank-replies h v.bank.holds.invariant.sound v.bank.proper) (run_past s i) e fair
            (subst (Invariant (Gave h) (file_in h)) (stage-same _ (run_past s i) z) own);
        word = as-left refl;
      }
      at own (lodged-by z f b) = ended word.Lodged f
      at own (ended_by z f b) = ended word.NotLodged f

  pub run-keeps : ((n : ℕ) → (call_of e (s.runs i)).answer ≡ Ok (answer.Request n) → Issued (call_of e (s.runs i)) (lent_to e) n) →
      answer_number (call_of e (s.runs i)).answer ≡ 0 →
      RunHolds v.bank.calls v.bank.past.history (history.after e (run_past s i)) →
      Parts (after_run i (call_of e (s.runs i)) (lent_to e).payload s)
  unfolding history.after
  run-keeps issues done own = record { bank = v.bank; runs = λ j. at j (ℕ_discrete j i); images = v.images }
    where
      k : ClientCall
      k = call_of e (s.runs i)

      Holds : Past → Type 0
      Holds p = RunHolds v.bank.calls v.bank.past.history p

      now : ℕ → Past
      now j = run_past (after_run i k (lent_to e).payload s) j

      at : (j : ℕ) → Dec (j ≡ i) → Holds (now j)
      at j (yes z) = subst (λ (n : ℕ). Holds (now n)) (sym z) (subst Holds (sym (own-past s i k (lent_to e) issues done)) own)
      at j (no z) = subst Holds (sym (other-past s i k (lent_to e) j z)) (v.runs j)
