-- A frame that is no copy of a run's request does not touch its transaction, and no receipt of another run empties its mailbox. Assumes
-- nothing.
use Prim.Native.Nat.{ℕ, zero, suc, ◌≤◌, ◌<◌}
use mathlib.Core.Bool.{Bool, true, false, ◌&&◌}
use mathlib.Core.List.Memᴰ.{not-nil as in-none}
use mathlib.Core.List.{List, [], ◌∷◌, Memᴰ as In}
use mathlib.Core.Logic.{◌⊎◌, inl, inr}
use mathlib.Core.Path.{◌≡◌, refl, sym, ap, ◌∙◌, subst}
use native.Mathlib.Decide.{ℕ_discrete}
use native.Mathlib.Omega.{arith}
use lib.Dec.{eqb}
use lib.ListN.{length, get_or}
use borrow.Author.Tests.{eq-eqb}
use Rattle.frame_table.specs.declared.fields.Bits128.{Bits128}
use Rattle.frame_table.specs.declared.fields.Fields.{Fields}
use Rattle.frame_table.specs.declared.table.Form.{Form}
use Rattle.frame_table.specs.Forms as forms
use Rattle.frame_table.specs.Names.{subscriber, transaction, form}
use Rattle.frame_reader.specs.Reader.{read_request}
use Rattle.frame_row.specs.Row.{data_of}
use Rattle.octets.proofs.Tests.{never}
use Rattle.bank_state.specs.Clock.{advanced}
use Rattle.bank_state.specs.Rows.{count_of}
use Rattle.bank_state.specs.declared.state.Download.{Download}
use Rattle.bank_state.specs.Search.{open_count_of}
use Rattle.bank_state.specs.State.{BankState, no_download, download_at}
use Rattle.bank_verdicts.specs.declared.verdict.Context.{Context}
use Rattle.bank_verdicts.specs.declared.verdict.TransactionRequest.{TransactionRequest}
use Rattle.bank_verdicts.specs.declared.verdict.TransactionRequest.TheVariants as asks_for
use Rattle.bank_steps.specs.Steps.{carry_out}
use Rattle.bank.specs.Call.{context_of, respond, FrameInput}
use Rattle.bank_verdicts.specs.declared.verdict.UploadAction.TheVariants as up
use Rattle.bank_verdicts.specs.declared.verdict.DownloadAction.TheVariants as down
use Rattle.bank_verdicts.specs.declared.verdict.Action.{Action}
use Rattle.bank_verdicts.specs.declared.verdict.Action.TheVariants as action
use Rattle.bank_verdicts.specs.declared.verdict.Verdict.{Verdict}
use Rattle.bank_verdicts.specs.declared.verdict.Verdict.TheVariants as verdict
use Rattle.bank_verdicts.specs.Judgement.{judge}
use Rattle.bank_history.specs.History.{Stands, newest, older, ActionIn, is_opening, is_action, opens, exchange_of, call_exchange}
use Rattle.bank_history.specs.History as bank
use Rattle.bank_history.specs.Sound.{AllSound}
use Rattle.bank_steps.proofs.Cases.{
  request_form,
  Happens,
  unreadable,
  refused,
  opens_upload,
  opens_download,
  signs,
  to_upload,
  to_download,
  happens,
}
use Rattle.bank_history.specs.Invariant as bank_invariant
use Rattle.bank_history.specs.Transactions.{DownloadAt}
use Rattle.bank_admitted.proofs.Clock.{each-download}
use Rattle.bank_history.proofs.Clock.{advanced-keeps}
use Rattle.bank_history.proofs.Positions.{action-sound, request-of}
use Rattle.bank_history.proofs.Theorems.{one-opening}
use Rattle.client_history.specs.History as history
use Rattle.client_history.specs.Invariant.{
  UploadIssue,
  upload_opens,
  sends,
  DownloadIssue,
  download_opens,
  asks,
  confirms,
  DownloadStep,
  Invariant,
  not-begun,
  upload,
  download,
}
use Rattle.client_history.proofs.Requests.{form-opening, form-download_opening, form-upload_transfer, id-upload_transfer, id-receipt}
use Rattle.client_history.proofs.Theorems.{segment-opened, not-opening}
use Rattle.client_run.specs.declared.run.Step.{Step}
use Rattle.client_run.specs.declared.run.Step.TheVariants as step
use Rattle.message.specs.declared.editions.Edition.{Edition}
use Rattle.message.specs.Editions.{opening_form}
use Rattle.message.specs.Limits.{subscribers}
use Rattle.message.specs.Requests as requests
use Rattle.exchange.specs.Course.{Issue, Course}
use Rattle.exchange.specs.Terms.{IssuedBy}
use Rattle.exchange.specs.Demand3.{is_named, is_subscribers, OneExchangeNumber}
use Rattle.exchange.proofs.Events.{Empties, case-empties}
use Rattle.exchange.proofs.Told.{Opening, opening-action, opening-at, Gave, file_in, bank-replies}
use Rattle.exchange.proofs.Clients.{as_issue, issues_of, issued-in, OpenedBy, opened-upload, opened-download, Parts, own_past}
use Rattle.exchange.proofs.Courses.{Copied}
use Rattle.exchange.proofs.Joint.{one-opener, counts}

-- ---- requests under a transaction ID

-- the request forms with a transaction ID
pub data Under (q : Fields) : Type 0 where
  sending : form q ≡ forms.UploadTransfer → Under q
  asking : form q ≡ forms.DownloadTransfer → Under q
  confirming : form q ≡ forms.Receipt → Under q

-- and those that open one
abbrev pub Opens : Fields → Type 0
Opens q = ((e : Edition) × (form q ≡ opening_form e)) ⊎ (form q ≡ forms.DownloadOpening)

other-form : {A : Type 0} {f x : Form} (o : (e : Edition) × (f ≡ opening_form e)) → f ≡ x → (x ≡ forms.UploadOpening → ◌≡◌ {A = ℕ} 0 1) →
    (x ≡ forms.ChosenOpening → ◌≡◌ {A = ℕ} 0 1) → A
other-form (e, z) a g k = absurd (let y = not-opening e g k (sym a ∙ z) in omega arith)

pub under-not : {A : Type 0} {q : Fields} → Under q → Opens q → A
under-not (sending e) (inl z) = other-form z e (λ y. cc) (λ y. cc)
under-not (sending e) (inr z) = absurd (let y : ◌≡◌ {A = ℕ} 0 1 = cc in omega arith)
under-not (asking e) (inl z) = other-form z e (λ y. cc) (λ y. cc)
under-not (asking e) (inr z) = absurd (let y : ◌≡◌ {A = ℕ} 0 1 = cc in omega arith)
under-not (confirming e) (inl z) = other-form z e (λ y. cc) (λ y. cc)
under-not (confirming e) (inr z) = absurd (let y : ◌≡◌ {A = ℕ} 0 1 = cc in omega arith)

under-request : {q : Fields} → Under q → is_named (form q) ≡ true
under-request (sending e) = ap is_named e
under-request (asking e) = ap is_named e
under-request (confirming e) = ap is_named e

asked-under : {q : Fields} (r : TransactionRequest) → form q ≡ request_form r → Under q
asked-under asks_for.UploadTransfer e = sending e
asked-under asks_for.DownloadTransfer e = asking e
asked-under asks_for.Receipt e = confirming e

-- an action that opens nothing was asked for under a transaction ID
case-under : {first : ℕ} {w : BankState} {q : Fields} {d : List ℕ} {x : Verdict} → Happens first w q d x →
    {t : Bits128} {k : Action} → x ≡ verdict.Of t k → is_opening k ≡ false → Under q
case-under unreadable z o = absurd (let y : ◌≡◌ {A = ℕ} 0 1 = cc in omega arith)
case-under (refused c e) z o = absurd (let y : ◌≡◌ {A = ℕ} 0 1 = cc in omega arith)
case-under (opens_upload asked a g n inside below) z o = never (sym o ∙ ap opens (sym z))
case-under (opens_download asked a g n) z o = never (sym o ∙ ap opens (sym z))
case-under (signs c) z o = absurd (let y : ◌≡◌ {A = ℕ} 0 1 = cc in omega arith)
case-under (to_upload r a c) z o = asked-under r c.asked
case-under (to_download r a c) z o = asked-under r c.asked

pub id-download_transfer : (s x : ℕ) (t : Bits128) (j : ℕ) → transaction (requests.download_transfer s x t j) ≡ t
unfolding requests.download_transfer
id-download_transfer s x t j = refl

-- an opening is from a subscriber
opened-range : {t : Bits128} {f : bank.Exchange} {g k : List bank.Exchange} → AllSound k → Stands f g k → Opening t f →
    (1 ≤ subscriber f.request) × (subscriber f.request ≤ subscribers)
opened-range {t} {f} {g} sound stands o = at (opening-action o.action o.opening)
  where
    at : ((n : ℕ) × (o.action ≡ action.Upload (up.Opened n))) ⊎ ((n : ℕ) × (o.action ≡ action.Download (down.Opened n))) →
        (1 ≤ subscriber f.request) × (subscriber f.request ≤ subscribers)
    at (inl k) = let s = (action-sound sound stands (o.is ∙ ap (verdict.Of t) k.1)).opening in (s.known, s.most)
    at (inr k) = let s = (action-sound sound stands (o.is ∙ ap (verdict.Of t) k.1)).opening in (s.known, s.most)

stands-short : {f : bank.Exchange} {g k : List bank.Exchange} → Stands f g k → length g < length k
stands-short newest = omega arith
stands-short (older p) = let z = stands-short p in omega arith

-- a transaction is not opened again
not-again : {x : bank.Exchange} {k : List bank.Exchange} {y : Form} {t : Bits128} {issues : List history.Issue} → AllSound (x ∷ k) →
    OpenedBy y k t issues →
    Opening t x → ⊥
not-again {k = k} {t = t} sound o p =
    no_loop (one-opening t.low sound newest (older o.stands) (number p) (number o.opening)).1 o.stands
  where
    number : {f : bank.Exchange} → Opening t f → bank.OpensNumber t.low f
    number a = record { id = t; action = a.action; is = a.is; opening = a.opening; numbered = refl }

    no_loop : {f : bank.Exchange} {g : List bank.Exchange} → k ≡ g → Stands f g k → ⊥
    no_loop {f} {g} e a = let z = stands-short a in let y = ap length e in omega arith

-- ---- the open transactions of one subscriber

module _ {A : Type 0} (p : A → Bool) (d : A) (free : p d ≡ false) where
  one-counted : (l : List A) (i : ℕ) → p (get_or l i d) ≡ true → 1 ≤ count_of p l
  unfolding count_of
  one-counted [] i e = never (sym free ∙ e)
  one-counted (x ∷ l) zero e = rw e (omega arith)
  one-counted (x ∷ l) (suc i) e = let z = one-counted l i e in omega arith

  two-counted : (l : List A) (i j : ℕ) → (i ≡ j → ⊥) → p (get_or l i d) ≡ true → p (get_or l j d) ≡ true → 2 ≤ count_of p l
  unfolding count_of
  two-counted [] i j n e f = never (sym free ∙ e)
  two-counted (x ∷ l) zero zero n e f = absurd (n refl)
  two-counted (x ∷ l) zero (suc j) n e f = rw e (let z = one-counted l j f in omega arith)
  two-counted (x ∷ l) (suc i) zero n e f = rw f (let z = one-counted l i e in omega arith)
  two-counted (x ∷ l) (suc i) (suc j) n e f = let z = two-counted l i j (λ k. n (ap suc k)) e f in omega arith

-- where the subscriber has one transaction open, a download t, the receipt that is confirmed is that of t
pub confirms-own : (context : Context) (time : ℕ) (w : BankState) (q : Fields) (b : List ℕ) (k : List bank.Exchange) (v : bank_invariant.Invariant w k)
    {t u : Bits128} {s d last : ℕ} → DownloadAt w t s d last → open_count_of s w.bank ≤ 1 →
    judge context (advanced time w).bank q (length b) ≡ verdict.Of u (action.Download down.Confirmed) → subscriber q ≡ s → u ≡ t
unfolding open_count_of
confirms-own context time w q b k v {t} {u} {s} a few own from = at (ℕ_discrete a.row before.0)
  where
    n : bank_invariant.Invariant (advanced time w) k
    n = advanced-keeps time w k v

    e : Empties (advanced time w) (carry_out (judge context (advanced time w).bank q (length b)) (advanced time w) q b) q u
    e = case-empties (happens context (advanced time w) q b n.state.sizes.places n.state.sizes.downloads) n.state.sizes own

    before : (j : ℕ) × (download_at w.bank j ≡ download_at (advanced time w).bank e.row)
    before = each-download time w (λ (r : Download). r.used ≡ true → (j : ℕ) × (download_at w.bank j ≡ r)) (λ z. never z)
        (λ j _ _. (j, refl)) e.row e.used

    test : Download → Bool
    test r = r.used && eqb r.subscriber s

    passes : (r : Download) → r.used ≡ true → r.subscriber ≡ s → test r ≡ true
    passes r y z = rw (y, eq-eqb r.subscriber s z)

    at : Dec (a.row ≡ before.0) → u ≡ t
    at (yes z) =
        sym e.own ∙ ap (λ (r : Download). r.transaction) (sym before.1)
        ∙ ap (λ (j : ℕ). (download_at w.bank j).transaction) (sym z) ∙ a.transaction
    at (no z) = absurd (
        let c = two-counted test no_download refl w.bank.downloads a.row before.0 z
        (passes (download_at w.bank a.row) a.used a.subscriber)
        (ap test before.1 ∙ passes (download_at (advanced time w).bank e.row) e.used (e.owner ∙ from)) in
        omega arith)

module _ (s : Course) (v : Parts s) (copies : Copied s) (numbers : OneExchangeNumber s) where
  abbrev h : List bank.Exchange
  h = v.bank.past.history

  sound : AllSound v.bank.past.history
  sound = v.bank.holds.invariant.sound

  -- a request under a transaction ID: its run has had that transaction opened
  pub request-opened : {j : ℕ} {x : Issue} → In x s.issued → x.run ≡ j → Under (read_request x.frame) →
      (y : Form) × OpenedBy y v.bank.past.history (transaction (read_request x.frame)) (issues_of j s.issued)
  request-opened {j} {x} m r under = at (v.runs j).own
    where
      own : In (as_issue x) (issues_of j s.issued)
      own = issued-in j m r

      Out : Type 0
      Out = (y : Form) × OpenedBy y v.bank.past.history (transaction (read_request x.frame)) (issues_of j s.issued)

      under-own : {y : Form} → transaction (read_request x.frame) ≡ (s.runs j).transaction →
          OpenedBy y v.bank.past.history (s.runs j).transaction (issues_of j s.issued) → Out
      under-own {y} e o = (y, subst (λ (t : Bits128). OpenedBy y v.bank.past.history t (issues_of j s.issued)) (sym e) o)

      sent : UploadIssue (s.runs j).terms (s.runs j).subscriber (s.runs j).segments (s.runs j).transaction (s.runs j).issued (s.payloads j)
          (as_issue x) → Out
      sent (upload_opens n time nonce q d) = under-not under (inl ((s.runs j).terms.edition, ap form q ∙ form-opening (s.runs j).terms.edition _ _ _ _ _ _))
      sent (sends n i a b q d) =
          under-own (ap transaction q ∙ id-upload_transfer _ _ _ _ _)
          (opened-upload sound (segment-opened (Gave h) (file_in h) (bank-replies h sound v.bank.proper) (own_past v j) (v.runs j).own
          (as_issue x) own
          (ap form q ∙ form-upload_transfer _ _ _ _ _)))

      held : 1 ≤ (s.runs j).segment → (at : Step) → DownloadStep (Gave v.bank.past.history) (file_in v.bank.past.history) at
          (own_past v j).run (s.files j) (issues_of j s.issued) →
          OpenedBy forms.DownloadOpening v.bank.past.history (s.runs j).transaction (issues_of j s.issued)
      held l step.Opening k = absurd (let z = k.0 in omega arith)
      held l step.Segment k = opened-download sound k
      held l step.Receipt k = opened-download sound k

      fetched : DownloadStep (Gave v.bank.past.history) (file_in v.bank.past.history) (s.runs j).step (own_past v j).run
          (s.files j) (issues_of j s.issued) →
          DownloadIssue (s.runs j).subscriber (s.runs j).segments (s.runs j).transaction (s.runs j).step (s.runs j).segment
          (file_in v.bank.past.history (s.runs j).transaction) (as_issue x) → Out
      fetched k (download_opens n time nonce q d) = under-not under (inr (ap form q ∙ form-download_opening _ _ _ _))
      fetched k (asks n i a b c e q d) = under-own (ap transaction q ∙ id-download_transfer _ _ _ _) (held (omega arith) (s.runs j).step k)
      fetched k (confirms n a b e q d) = under-own (ap transaction q ∙ id-receipt _ _ _ _) (held (omega arith) (s.runs j).step k)

      at : Invariant (Gave v.bank.past.history) (file_in v.bank.past.history) (own_past v j) → Out
      at (not-begun e g) = absurd (in-none (subst (In (as_issue x)) g own))
      at (upload b u) = sent (u.each (as_issue x) own)
      at (download b u) = fetched u.step (u.each (as_issue x) own)

  -- a frame that comes to the bank, a copy where it must be one
  module _ (a : FrameInput) (given : is_subscribers a.frame ≡ true → (j : ℕ) × IssuedBy j a.frame s)
      (later : AllSound (call_exchange v.bank.past.bank_state a ∷ v.bank.past.history)) where
    abbrev x : bank.Exchange
    x = call_exchange v.bank.past.bank_state a

    pub case-of : {t : Bits128} {k : Action} → (call_exchange v.bank.past.bank_state a).verdict ≡ verdict.Of t k →
        is_opening k ≡ false → Under (read_request a.frame)
    unfolding exchange_of respond
    case-of =
        let w = advanced-keeps a.time v.bank.past.bank_state h v.bank.holds.invariant in
        case-under (happens (context_of a) (advanced a.time v.bank.past.bank_state) (read_request a.frame)
        (data_of a.frame) w.state.sizes.places
        w.state.sizes.downloads)

    -- what acts on the transaction of run i is a copy of its request
    pub acts-own : {i : ℕ} {t : Bits128} {y : Form} → OpenedBy y v.bank.past.history t (issues_of i s.issued) →
        ActionIn is_action t (call_exchange v.bank.past.bank_state a) →
        IssuedBy i a.frame s
    unfolding exchange_of
    acts-own {i} {t} o d = by (is_opening d.action) refl
      where
        asked : {k : Action} → x.verdict ≡ verdict.Of t k → is_opening k ≡ false → IssuedBy i a.frame s
        asked {k} own n =
            let r = request-of k n (action-sound later newest own) in
            let u = case-of own n in
            let f = sym (opening-at (λ (e : bank.Exchange). subscriber e.request) 0 sound o.stands o.opening) ∙ r.owner in
            let b = opening-range in
            let c = given (counts s v copies numbers a.frame (under-request u) (let z = b.0 in omega arith)
            (let z = b.1 in omega arith)) in
            let q = ap read_request c.1.3 in
            let p = request-opened c.1.1 c.1.2 (subst Under (sym q) u) in
            let id : transaction (read_request c.1.0.frame) ≡ t = ap transaction q ∙ sym r.same in
            let same : c.0 ≡ i = one-opener s v copies numbers p.1 o (ap (λ (b : Bits128). b.low) id) in
            subst (λ (j : ℕ). IssuedBy j a.frame s) same c.1
          where
            opening-range : (1 ≤ subscriber o.exchange.request) × (subscriber o.exchange.request ≤ subscribers)
            opening-range = opened-range sound o.stands o.opening

        by : (b : Bool) → is_opening d.action ≡ b → IssuedBy i a.frame s
        by false n = asked d.is n
        by true n = absurd (not-again later o (record { action = d.action; is = d.is; opening = n }))
