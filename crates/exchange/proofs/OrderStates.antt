-- Where an order in turn stands, and that it stays there while calls do not concern its run. Assumes nothing.
use Prim.Native.Nat.{ℕ, suc, ◌+◌, ◌<◌, ◌≤◌}
use mathlib.Core.Bool.{true}
use mathlib.Core.List.{List, Memᴰ as In}
use mathlib.Core.Logic.{◌⊎◌, inl, inr}
use mathlib.Core.Path.{◌≡◌, refl, sym, ap, ◌∙◌, subst}
use native.Mathlib.Omega.{arith}
use Rattle.frame_table.specs.declared.fields.Bits128.{Bits128}
use Rattle.frame_table.specs.declared.fields.Fields.{Fields}
use Rattle.frame_table.specs.declared.table.Form.{Form}
use Rattle.frame_table.specs.Forms as forms
use Rattle.frame_table.specs.Names.{exchange, transaction, return_code, form, segments}
use Rattle.frame_reader.specs.Reader.{read_request, read_reply}
use Rattle.message.specs.declared.codes.ReturnCode.TheVariants as code
use Rattle.message.specs.Codes.{code_field}
use Rattle.message.specs.declared.editions.Edition.{Edition}
use Rattle.message.specs.declared.editions.Edition.TheVariants.{V24, V25}
use Rattle.message.specs.Editions.{opened_form}
use Rattle.message.specs.Limits.{initialisation_phase}
use Rattle.message.specs.Replies.{upload_opened, chosen_opened, download_opened, segment_taken, download_segment, receipt_answered}
use Rattle.message.specs.Segments.{last_mark_of}
use Rattle.bank_state.specs.Search.{open_count_of}
use Rattle.bank_verdicts.specs.declared.verdict.Action.TheVariants as action
use Rattle.bank_verdicts.specs.declared.verdict.DownloadAction.TheVariants as down
use Rattle.bank_verdicts.specs.declared.verdict.UploadAction.TheVariants as up
use Rattle.bank_verdicts.specs.declared.verdict.Verdict.TheVariants as verdict
use Rattle.bank_history.proofs.Theorems.{upload-opened, download-opened}
use Rattle.client_run.specs.declared.run.ClientRun.{ClientRun}
use Rattle.message.specs.declared.directions.Direction.{Direction}
use Rattle.message.specs.declared.directions.Direction.TheVariants.{Upload, Download}
use Rattle.client_run.specs.declared.run.Stage.TheVariants as stage
use Rattle.client_run.specs.declared.run.Step.{Step}
use Rattle.client_run.specs.declared.run.Step.TheVariants as step
use Rattle.client_run.specs.declared.run.Word.TheVariants.{Lodged, Fetched}
use Rattle.client_rules.specs.Decisions.{is_answer}
use Rattle.client_rules.specs.Rulings.{is_begun}
use Rattle.client_history.specs.History.{Past}
use Rattle.client_history.specs.InTurn.{InTurn}
use Rattle.client_history.proofs.Fitting.{
  Fits,
  fits-answer,
  opened-fits,
  chosen-fits,
  taken-fits,
  download-fits,
  segment-fits,
  receipt-fits,
  opened-fields,
  chosen-fields,
}
use Rattle.exchange.specs.Course.{Issue, Exchange, Arrival, Course}
use Rattle.exchange.specs.Terms.{Received, IsOpened, Accepted}
use Rattle.exchange.proofs.Told.{Opening, opens-upload}
use Rattle.exchange.proofs.Bank.{Found, found}
use Rattle.exchange.proofs.Clients.{as_issue, issues_of, issued-in, OpenedBy, Parts}
use Rattle.exchange.proofs.Issues.{number_of}
use Rattle.exchange.proofs.Received.{ToAnother, another-more, or-another, Same}
use Rattle.exchange.proofs.Concerns.{Untouched}
use Rattle.exchange.proofs.OpenTransactions.{OpenUnlessIdle}

-- ---- THE MESSAGES

-- the bank received the run's requests under numbers below top, and no others;
-- the replies to those below now have arrived, and no others but such to other runs' requests
pub record Messages (s : Course) (i top now : ℕ) : Type 0 where
  pub received : (e : Exchange) → Received i e s → exchange (read_request e.request) < top
  pub all : (x : Issue) → In x s.issued → x.run ≡ i → number_of x < top → (e : Exchange) × In e s.exchanged × (e.request ≡ x.frame)
  pub arrived : (a : Arrival) → In a s.arrived → a.run ≡ i → (exchange (read_reply a.reply) < now) ⊎ ToAnother i a.reply s
  pub replied : (e : Exchange) → Received i e s → exchange (read_request e.request) < now →
      (a : Arrival) × In a s.arrived × (a.run ≡ i) × (a.reply ≡ e.reply)

-- ---- THE TRANSACTION

-- the reply forms that open a transaction
abbrev pub OpensAs : Direction → Form → Type 0
OpensAs Upload f = (x : Edition) × (f ≡ opened_form x)
OpensAs Download f = f ≡ forms.DownloadOpened

opened-form : (direction : Direction) {f : Form} → OpensAs direction f → IsOpened f
opened-form Upload (V24, e) = inr (inr e)
opened-form Upload (V25, e) = inl e
opened-form Download e = inr (inl e)

-- the transaction t of subscriber u is open at the bank, k of n segments taken or k delivered; its last request was received at last
pub record Open (direction : Direction) (s : Course) (i u : ℕ) (t : Bits128) (n k : ℕ) : Type 0 where
  pub opening : Exchange
  pub received : Received i opening s
  pub opened : OpensAs direction (form (read_reply opening.reply))
  pub ok : return_code (read_reply opening.reply) ≡ code_field code.Ok
  pub id : transaction (read_reply opening.reply) ≡ t
  pub last : ℕ
  pub latest : (e : Exchange) → Received i e s → e.clock ≤ last
  pub standing : OpenUnlessIdle direction s.bank t u k n last

-- it was opened by a request of the run
pub opened-by : (s : Course) (v : Parts s) (direction : Direction) {i u n k : ℕ} {t : Bits128} → Open direction s i u t n k →
    (y : Form) × OpenedBy y v.bank.past.history t (issues_of i s.issued)
opened-by s v direction {i} {t = t} o = by direction o.opened
  where
    f : Found o.opening v.bank.past.history
    f = found v.bank.entries o.received.0

    x : Issue
    x = o.received.1.0

    same : transaction f.exchange.reply ≡ t
    same = ap transaction (sym f.same.reply) ∙ o.id

    with-opening : Opening t f.exchange → (y : Form) × OpenedBy y v.bank.past.history t (issues_of i s.issued)
    with-opening p = (
      form (read_request x.frame),
      record {
        exchange = f.exchange;
        before = f.before;
        stands = f.stands;
        opening = p;
        issue = as_issue x;
        own = issued-in i o.received.1.1 o.received.1.2;
        asked = sym f.same.request ∙ ap read_request (sym o.received.1.3);
        kind = refl;
      },
    )

    by : (w : Direction) → OpensAs w (form (read_reply o.opening.reply)) →
        (y : Form) × OpenedBy y v.bank.past.history t (issues_of i s.issued)
    by Upload (x, e) =
        let p = upload-opened v.bank.holds.invariant.sound f.stands
        (opens-upload x f.exchange (ap form (sym f.same.reply) ∙ e) (ap return_code (sym f.same.reply) ∙ o.ok)) in
        with-opening (record {
          action = action.Upload (up.Opened p.0);
          is = p.1 ∙ ap (λ (b : Bits128). verdict.Of b (action.Upload (up.Opened p.0))) same;
          opening = refl;
        })
    by Download e =
        let p = download-opened v.bank.holds.invariant.sound f.stands (ap form (sym f.same.reply) ∙ e) in
        with-opening (record {
          action = action.Download (down.Opened (segments f.exchange.reply));
          is = p.0 ∙ ap (λ (b : Bits128). verdict.Of b (action.Download (down.Opened (segments f.exchange.reply)))) same;
          opening = refl;
        })

-- it stays, where the run's requests received are the same and the bank keeps it
pub open_stays : {s t : Course} {direction : Direction} {i u n k : ℕ} {id : Bits128} → ((e : Exchange) → Received i e s → Received i e t) →
    ((e : Exchange) → Received i e t → Received i e s) →
    ((last : ℕ) → OpenUnlessIdle direction s.bank id u k n last → OpenUnlessIdle direction t.bank id u k n last) → Open direction s i u id n k →
    Open direction t i u id n k
open_stays keeps back bank o = record {
  opening = o.opening;
  received = keeps o.opening o.received;
  opened = o.opened;
  ok = o.ok;
  id = o.id;
  last = o.last;
  latest = λ e c. o.latest e (back e c);
  standing = bank o.last o.standing;
}

-- ---- THE STATES

-- the bank before the outstanding request comes
abbrev pub Before : Direction → Step → ℕ → Course → ℕ → ClientRun → Type 0
Before direction step.Opening j s i c = (e : Exchange) → Received i e s → ⊥
Before direction step.Segment j s i c =
    (k : ℕ) × (j ≡ suc k) × (j ≤ c.segments) × Open direction s i c.subscriber c.transaction c.segments k
Before direction step.Receipt j s i c = (direction ≡ Download) × Open direction s i c.subscriber c.transaction c.segments c.segments

-- the reply that accepts an upload's opening, by its edition
abbrev pub opened_with : Edition → ℕ → Bits128 → ℕ → Fields
opened_with V24 number t n = chosen_opened number t
opened_with V25 number t n = upload_opened number t n

module _ (number n : ℕ) (t : Bits128) where
  pub accepted-fits : (x : Edition) → Fits (opened_form x) code.Ok initialisation_phase number (opened_with x number t n)
  accepted-fits V24 = chosen-fits number 0 0 0 t
  accepted-fits V25 = opened-fits number n 0 0 t

  pub accepted-id : (x : Edition) → transaction (opened_with x number t n) ≡ t
  accepted-id V24 = chosen-fields number 0 0 0 t
  accepted-id V25 = (opened-fields number n 0 0 t).0

-- the bank once it is received, and its reply's fields
abbrev pub Behind : Direction → Step → ℕ → Course → ℕ → ClientRun → Fields → Type 0
Behind Upload step.Opening j s i c r =
    (t : Bits128) × (n : ℕ) × (r ≡ opened_with c.terms.edition c.exchange t n) × Open Upload s i c.subscriber t c.segments 0
Behind Upload step.Segment j s i c r =
    (r ≡ segment_taken c.exchange c.transaction j) × (j ≤ c.segments)
    × (j < c.segments → Open Upload s i c.subscriber c.transaction c.segments j)
Behind Upload step.Receipt j s i c r = ⊥
Behind Download step.Opening j s i c r =
    (t : Bits128) × (n : ℕ) × (r ≡ download_opened c.exchange n t (last_mark_of 1 n)) × Open Download s i c.subscriber t n 1
Behind Download step.Segment j s i c r =
    (r ≡ download_segment c.exchange c.transaction j (last_mark_of j c.segments)) × (1 ≤ j) × (j ≤ c.segments)
    × Open Download s i c.subscriber c.transaction c.segments j
Behind Download step.Receipt j s i c r = r ≡ receipt_answered c.exchange c.transaction code.DownloadPostprocessDone

-- such a reply answers the outstanding request
behind-answers : (direction : Direction) (at : Step) (j : ℕ) (s : Course) (i : ℕ) (c : ClientRun) (r : Fields) → Behind direction at j s i c r →
    is_answer c r ≡ true
behind-answers Upload step.Opening j s i c r (t, n, e, o) = by c.terms.edition e
  where
    by : (x : Edition) → r ≡ opened_with x c.exchange t n → is_answer c r ≡ true
    by V24 z = fits-answer c r (subst (Fits _ _ _ _) (sym z) (accepted-fits c.exchange n t V24)) refl (λ z. omega arith)
    by V25 z = fits-answer c r (subst (Fits _ _ _ _) (sym z) (accepted-fits c.exchange n t V25)) refl (λ z. omega arith)
behind-answers Upload step.Segment j s i c r (e, within, o) =
    fits-answer c r (subst (Fits _ _ _ _) (sym e) (taken-fits c.exchange 0 j 0 c.transaction)) refl (λ z. omega arith)
behind-answers Upload step.Receipt j s i c r b = absurd b
behind-answers Download step.Opening j s i c r (t, n, e, o) =
    fits-answer c r (subst (Fits _ _ _ _) (sym e) (download-fits c.exchange n 0 (last_mark_of 1 n) t)) refl (λ z. omega arith)
behind-answers Download step.Segment j s i c r (e, least, within, o) =
    fits-answer c r (subst (Fits _ _ _ _) (sym e) (segment-fits c.exchange 0 j (last_mark_of j c.segments) c.transaction)) refl
    (λ z. omega arith)
behind-answers Download step.Receipt j s i c r e =
    fits-answer c r (subst (Fits _ _ _ _) (sym e) (receipt-fits c.exchange 0 0 0 c.transaction)) refl (λ z. omega arith)

-- the outstanding request is not received; p is the run
pub record Asks (s : Course) (i : ℕ) (p : Past) : Type 0 where
  pub direction : Direction
  pub at : Step
  pub j : ℕ
  pub turn : InTurn p direction at j p.run.exchange
  pub messages : Messages s i p.run.exchange p.run.exchange
  pub before : Before direction at j s i p.run

-- it is received, and its reply has not arrived
pub record Told (s : Course) (i : ℕ) (p : Past) : Type 0 where
  pub direction : Direction
  pub at : Step
  pub j : ℕ
  pub turn : InTurn p direction at j p.run.exchange
  pub messages : Messages s i (p.run.exchange + 1) p.run.exchange
  pub reply : List ℕ
  pub given : (e : Exchange) → Received i e s → exchange (read_request e.request) ≡ p.run.exchange → e.reply ≡ reply
  pub behind : Behind direction at j s i p.run (read_reply reply)

pub told-answers : (s : Course) (i : ℕ) (p : Past) (a : Told s i p) → is_answer p.run (read_reply a.reply) ≡ true
told-answers s i p a = behind-answers a.direction a.at a.j s i p.run (read_reply a.reply) a.behind

-- the opening was received and refused
pub record Refused (s : Course) (i : ℕ) (p : Past) : Type 0 where
  pub begun : is_begun p.run.stage ≡ true
  pub at : p.run.step ≡ step.Opening
  pub all : (x : Issue) → In x s.issued → x.run ≡ i → (e : Exchange) × In e s.exchanged × (e.request ≡ x.frame)
  pub none : (e : Exchange) → Received i e s → return_code (read_reply e.reply) ≡ code_field code.Ok → ⊥

-- where the run p of an order in turn stands
pub data State (s : Course) (i : ℕ) (p : Past) : Type 0 where
  idle : p.run.stage ≡ stage.NotBegun → ((a : Arrival) → In a s.arrived → a.run ≡ i → ToAnother i a.reply s) → State s i p
  asks : Asks s i p → State s i p
  told : Told s i p → State s i p
  refused : Refused s i p → State s i p
  closed : (p.run.stage ≡ stage.Ended Lodged) ⊎ (p.run.stage ≡ stage.Ended Fetched) → State s i p

-- ---- CALLS THAT DO NOT CONCERN THE RUN

pub exchanges-keep : {s t : Course} {i : ℕ} → Same i s t → (x : Issue) → In x s.issued → x.run ≡ i →
    (e : Exchange) × In e s.exchanged × (e.request ≡ x.frame) → (e : Exchange) × In e t.exchanged × (e.request ≡ x.frame)
exchanges-keep {i = i} same x m r (e, n, z) = (e, (same.keeps i e (n, (x, m, r, sym z))).0, z)

module _ {s t : Course} {i : ℕ} (same : Same i s t) where
  messages-stay : {top now : ℕ} → Messages s i top now → Messages t i top now
  messages-stay {top} {now} m = record {
    received = λ e c. m.received e (same.received e c);
    all = λ x n r b. let y = same.issued x n r in exchanges-keep same x y r (m.all x y r b);
    arrived = λ a n r. arrived-by a r (same.arrivals a n r);
    replied = λ e c b. let o = m.replied e (same.received e c) b in (o.0, same.arrived o.0 o.1, o.2, o.3);
  }
    where
      arrived-by : (a : Arrival) → a.run ≡ i → In a s.arrived ⊎ ToAnother i a.reply t →
          (exchange (read_reply a.reply) < now) ⊎ ToAnother i a.reply t
      arrived-by a r (inl n) = or-another (λ b. b) same.keeps (m.arrived a n r)
      arrived-by a r (inr o) = inr o

  module _ (v : Parts s) (untouched : Untouched s v i t) (p : Past)
      (alone : Accepted i s → p.run.stage ≡ stage.Running → open_count_of p.run.subscriber s.bank.bank ≤ 1)
      (running : p.run.stage ≡ stage.Running) where
    open-same : (direction : Direction) {id : Bits128} {n k : ℕ} → Open direction s i p.run.subscriber id n k →
        Open direction t i p.run.subscriber id n k
    open-same direction {id} {n} {k} o =
        let b = opened-by s v direction o in
        open_stays (same.keeps i) same.received
        (λ last a. untouched b.0 id b.1 direction p.run.subscriber k n last
        (λ _. alone (o.opening, o.received, opened-form direction o.opened, o.ok) running) a) o

    before_same : (direction : Direction) (at : Step) (j : ℕ) → Before direction at j s i p.run → Before direction at j t i p.run
    before_same direction step.Opening j b = λ e c. b e (same.received e c)
    before_same direction step.Segment j b = (b.0, b.1, b.2, open-same direction b.3)
    before_same direction step.Receipt j b = (b.0, open-same direction b.1)

    behind-same : (direction : Direction) (at : Step) (j : ℕ) (r : Fields) → Behind direction at j s i p.run r → Behind direction at j t i p.run r
    behind-same Upload step.Opening j r b = (b.0, b.1, b.2, open-same Upload b.3)
    behind-same Upload step.Segment j r b = (b.0, b.1, λ h. open-same Upload (b.2 h))
    behind-same Upload step.Receipt j r b = b
    behind-same Download step.Opening j r b = (b.0, b.1, b.2, open-same Download b.3)
    behind-same Download step.Segment j r b = (b.0, b.1, b.2, open-same Download b.3)
    behind-same Download step.Receipt j r b = b

  pub state-same : (v : Parts s) → Untouched s v i t → (p : Past) →
      (Accepted i s → p.run.stage ≡ stage.Running → open_count_of p.run.subscriber s.bank.bank ≤ 1) → State s i p → State t i p
  state-same v u p alone (idle e n) = idle e (λ a m r. at a r (same.arrivals a m r))
    where
      at : (a : Arrival) → a.run ≡ i → In a s.arrived ⊎ ToAnother i a.reply t → ToAnother i a.reply t
      at a r (inl m) = another-more same.keeps (n a m r)
      at a r (inr o) = o
  state-same v u p alone (asks a) = asks (record {
    direction = a.direction;
    at = a.at;
    j = a.j;
    turn = a.turn;
    messages = messages-stay a.messages;
    before = before_same v u p alone a.turn.running a.direction a.at a.j a.before;
  })
  state-same v u p alone (told a) = told (record {
    direction = a.direction;
    at = a.at;
    j = a.j;
    turn = a.turn;
    messages = messages-stay a.messages;
    reply = a.reply;
    given = λ e c. a.given e (same.received e c);
    behind = behind-same v u p alone a.turn.running a.direction a.at a.j (read_reply a.reply) a.behind;
  })
  state-same v u p alone (refused a) = refused (record {
    begun = a.begun;
    at = a.at;
    all = λ x n r. let y = same.issued x n r in exchanges-keep same x y r (a.all x y r);
    none = λ e c. a.none e (same.received e c);
  })
  state-same v u p alone (closed w) = closed w
