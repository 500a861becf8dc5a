-- 061101 answers no copy of a download's request: it asks for a segment sent already or the next one, and a receipt finds all N delivered.
-- Assumes nothing.
use Prim.Native.Nat.{ℕ, suc, ◌≤◌}
use mathlib.Core.Bool.{true, false}
use mathlib.Core.List.Memᴰ.{head as here}
use mathlib.Core.List.Memᴰ.{not-nil as in-none}
use mathlib.Core.List.Memᴰ.{tail as there}
use mathlib.Core.List.{
  List,
  [],
  ◌∷◌,
  Memᴰ as In,
}
use mathlib.Core.Logic.{◌⊎◌, inl, inr}
use mathlib.Core.Path.{◌≡◌, refl, sym, ap, ◌∙◌, subst}
use native.Mathlib.Omega.{arith}
use lib.ListN.{length}
use Rattle.frame_table.specs.declared.fields.Bits128.{Bits128}
use Rattle.frame_table.specs.declared.fields.Fields.{Fields}
use Rattle.frame_table.specs.declared.table.Form.{Form}
use Rattle.frame_table.specs.Forms as forms
use Rattle.frame_table.specs.Names.{transaction, segment, return_code, form}
use Rattle.frame_reader.specs.Reader.{read_request, read_reply}
use Rattle.message.specs.declared.codes.ReturnCode.TheVariants as code
use Rattle.message.specs.Codes.{code_field}
use Rattle.message.specs.Editions.{edition_of, opening_form}
use Rattle.message.specs.Segments.{segments_of}
use Rattle.message.specs.Requests as requests
use Rattle.bank.specs.Call.{FrameInput}
use Rattle.bank_session.specs.Session.{LentSession}
use Rattle.bank_verdicts.specs.declared.verdict.UploadAction.TheVariants as up
use Rattle.bank_verdicts.specs.declared.verdict.DownloadAction.TheVariants as down
use Rattle.bank_verdicts.specs.declared.verdict.Action.{Action}
use Rattle.bank_verdicts.specs.declared.verdict.Action.TheVariants as action
use Rattle.bank_verdicts.specs.declared.verdict.Verdict.TheVariants as verdict
use Rattle.bank_history.specs.History.{newest, is_opening, is_upload_opening, is_delivery, times, exchange_of, call_exchange}
use Rattle.bank_history.specs.History as bank
use Rattle.bank_history.specs.FalseEconomies.{Sent}
use Rattle.bank_history.specs.Sound.{AllSound}
use Rattle.bank_history.proofs.Positions.{action-sound}
use Rattle.bank_history.proofs.SentSegments.{sent-most}
use Rattle.bank_history.proofs.Theorems.{ever-stands}
use Rattle.client_run.specs.declared.run.RunTerms.{RunTerms}
use Rattle.client_run.specs.declared.run.Step.{Step}
use Rattle.client_run.specs.declared.run.Step.TheVariants as step
use Rattle.client_history.specs.History as history
use Rattle.client_history.specs.Invariant.{
  UploadIssue,
  upload_opens,
  sends,
  DownloadIssue,
  download_opens,
  asks,
  confirms,
  HeldFile,
  FileHeld,
  DownloadStep,
  Invariant,
  not-begun,
  upload,
  download,
}
use Rattle.client_history.proofs.Requests.{
  form-opening,
  form-download_opening,
  form-upload_transfer,
  form-download_transfer,
  form-receipt,
  id-receipt,
}
use Rattle.client_history.proofs.Theorems.{not-opening}
use Rattle.exchange.specs.Course.{
  Call,
  frame_arrives,
  file_put,
  begins,
  reply_arrives,
  no_reply,
  journal_handed,
  puts_away,
  takes_up,
  Issue,
  Exchange,
  Course,
  start,
  call_number,
  carry_out,
  exec,
  after,
}
use Rattle.exchange.specs.Terms.{IssuedBy}
use Rattle.exchange.specs.Demand3.{is_subscribers, Premise, Allowed, AllAllowed, OneExchangeNumber}
use Rattle.exchange.proofs.Told.{Proper, one-opened, upload-kind, upload-opening, point-given, Gave, file_in}
use Rattle.exchange.proofs.Calls.{by_number}
use Rattle.exchange.proofs.Bank.{Entered, frame-enters}
use Rattle.exchange.proofs.Clients.{as_issue, issues_of, issued-in, OpenedBy, opened-download, Parts, own_past}
use Rattle.exchange.proofs.Issues.{numbers-earlier, numbers-before}
use Rattle.exchange.proofs.Courses.{call-keeps, Copied, copied-call}
use Rattle.exchange.proofs.Outcome.{UploadPoints}
use Rattle.exchange.proofs.Foreign.{Under, sending, asking, confirming, id-download_transfer, case-of}

-- ---- the requests of a download

number-asked : (s x : ℕ) (t : Bits128) (j : ℕ) → segment (requests.download_transfer s x t j) ≡ j
unfolding requests.download_transfer
number-asked s x t j = refl

-- the request asks, under the download t, for a segment sent already or the next one up to N; as a receipt it finds all N delivered
record Fitting (h : List bank.Exchange) (issues : List history.Issue) (t : Bits128) (q : Fields) : Type 0 where
  id : transaction q ≡ t
  opened : OpenedBy forms.DownloadOpening h t issues
  transfer : form q ≡ forms.DownloadTransfer →
      (1 ≤ segment q) × (segment q ≤ suc (times is_delivery t h)) × (segment q ≤ segments_of (length (file_in h t)))
  receipt : form q ≡ forms.Receipt → segments_of (length (file_in h t)) ≤ times is_delivery t h

-- what a run holds was sent
held-sent : {h : List bank.Exchange} {f : List ℕ} {t : Bits128} {n held size : ℕ} {file : List ℕ} {issues : List history.Issue} →
    AllSound h → HeldFile (Gave h) f t n held size file issues → held ≤ times is_delivery t h
held-sent {h} {t = t} {held = held} sound o = sent-most t sound sent
  where
    formed : {r : Fields} → o.last.given.exchange.reply ≡ r →
        (form r ≡ forms.DownloadOpened) ⊎ (form r ≡ forms.DownloadSegment) →
        (form o.last.given.exchange.reply ≡ forms.DownloadOpened) ⊎ (form o.last.given.exchange.reply ≡ forms.DownloadSegment)
    formed e (inl z) = inl (ap form e ∙ z)
    formed e (inr z) = inr (ap form e ∙ z)

    sent : Sent t held h
    sent =
        let a = o.last.given in
        record {
          exchange = a.exchange;
          before = a.before;
          stands = a.stands;
          formed = formed a.reply o.last.formed;
          id = ap transaction a.reply ∙ o.last.id;
          number = ap segment a.reply ∙ o.last.number;
        }

module _ (s : Course) (v : Parts s) (copies : Copied s) (numbers : OneExchangeNumber s) where
  abbrev h : List bank.Exchange
  h = v.bank.past.history

  sound : AllSound v.bank.past.history
  sound = v.bank.holds.invariant.sound

  abbrev DownloadKind : Fields → Type 0
  DownloadKind q = (form q ≡ forms.DownloadTransfer) ⊎ (form q ≡ forms.Receipt)

  fitting : {j : ℕ} {x : Issue} → In x s.issued → x.run ≡ j → DownloadKind (read_request x.frame) →
      Fitting v.bank.past.history (issues_of j s.issued) (s.runs j).transaction (read_request x.frame)
  fitting {j} {x} m r kind = at (v.runs j).own
    where
      own : In (as_issue x) (issues_of j s.issued)
      own = issued-in j m r

      Out : Type 0
      Out = Fitting v.bank.past.history (issues_of j s.issued) (s.runs j).transaction (read_request x.frame)

      other : {f : Form} → form (read_request x.frame) ≡ f → (f ≡ forms.DownloadTransfer → ◌≡◌ {A = ℕ} 0 1) →
          (f ≡ forms.Receipt → ◌≡◌ {A = ℕ} 0 1) → Out
      other e y z = by kind
        where
          by : DownloadKind (read_request x.frame) → Out
          by (inl k) = absurd (let w = y (sym e ∙ k) in omega arith)
          by (inr k) = absurd (let w = z (sym e ∙ k) in omega arith)

      sent : {terms : RunTerms} {n c top : ℕ} {t : Bits128} {payload : List ℕ} → UploadIssue terms n c t top payload (as_issue x) → Out
      sent {terms} (upload_opens n time nonce e d) =
          let w = terms.edition in
          other (ap form e ∙ form-opening w _ _ _ _ _ _) (λ z. not-opening w (λ z. cc) (λ z. cc) (sym z))
          (λ z. not-opening w (λ z. cc) (λ z. cc) (sym z))
      sent (sends n i a b e d) = other (ap form e ∙ form-upload_transfer _ _ _ _ _) (λ z. cc) (λ z. cc)

      Held : Type 0
      Held = FileHeld (Gave v.bank.past.history) (file_in v.bank.past.history) (own_past v j).run (s.files j) (issues_of j s.issued)

      held : 1 ≤ (s.runs j).segment → (at : Step) → DownloadStep (Gave v.bank.past.history) (file_in v.bank.past.history) at
          (own_past v j).run (s.files j) (issues_of j s.issued) → Held
      held l step.Opening k = absurd (let z = k.0 in omega arith)
      held l step.Segment k = k
      held l step.Receipt k = k

      fetched : DownloadStep (Gave v.bank.past.history) (file_in v.bank.past.history) (s.runs j).step (own_past v j).run
          (s.files j) (issues_of j s.issued) →
          DownloadIssue (s.runs j).subscriber (s.runs j).segments (s.runs j).transaction (s.runs j).step (s.runs j).segment
          (file_in v.bank.past.history (s.runs j).transaction) (as_issue x) → Out
      fetched k (download_opens n time nonce e d) = other (ap form e ∙ form-download_opening _ _ _ _) (λ z. cc) (λ z. cc)
      fetched k (asks n i a b c g e d) =
          let f = held (omega arith) (s.runs j).step k in
          let w = held-sent sound f in
          let y : segment (read_request x.frame) ≡ i = ap segment e ∙ number-asked _ _ _ _ in
          let z = f.number in
          record {
            id = ap transaction e ∙ id-download_transfer _ _ _ _;
            opened = opened-download sound f;
            transfer = λ _. (omega arith, omega arith, omega arith);
            receipt = λ g. absurd (let u : forms.DownloadTransfer ≡ forms.Receipt = sym (ap form e ∙ form-download_transfer _ _ _ _) ∙ g in
                let t : ◌≡◌ {A = ℕ} 0 1 = cc in omega arith);
          }
      fetched k (confirms n a b g e d) =
          let f = held (omega arith) (s.runs j).step k in
          let w = held-sent sound f in
          let z = f.number in
          record {
            id = ap transaction e ∙ id-receipt _ _ _ _;
            opened = opened-download sound f;
            transfer = λ y. absurd (let u : forms.Receipt ≡ forms.DownloadTransfer = sym (ap form e ∙ form-receipt _ _ _ _) ∙ y in
                let t : ◌≡◌ {A = ℕ} 0 1 = cc in omega arith);
            receipt = λ _. omega arith;
          }

      at : Invariant (Gave v.bank.past.history) (file_in v.bank.past.history) (own_past v j) → Out
      at (not-begun e g) = absurd (in-none (subst (In (as_issue x)) g own))
      at (upload b u) = sent (u.each (as_issue x) own)
      at (download b u) = fetched u.step (u.each (as_issue x) own)

  -- ---- a frame that comes to the bank

  module _ (a : FrameInput) (given : is_subscribers a.frame ≡ true → (j : ℕ) × IssuedBy j a.frame s)
      (later : AllSound (call_exchange v.bank.past.bank_state a ∷ v.bank.past.history)) where
    as_read : (call_exchange v.bank.past.bank_state a).request ≡ read_request a.frame
    unfolding exchange_of
    as_read = refl

    -- a recovery point does not answer a request that fits
    no-upload : {issues : List history.Issue} {t : Bits128} (n : ℕ) →
        Fitting v.bank.past.history issues t (call_exchange v.bank.past.bank_state a).request →
        (call_exchange v.bank.past.bank_state a).verdict ≡ verdict.Of t (action.Upload (up.Point n)) → ⊥
    no-upload {t = t} n f own =
        let e = ever-stands is_upload_opening t h (action-sound later newest own).upload.opened in
        let o = f.opened in
        let same : e.0 ≡ o.exchange = one-opened sound e.2 o.stands (upload-opening e.3) o.opening in
        let k = upload-kind e.3.action e.3.kind in
        let opens : e.0.verdict ≡ verdict.Of t (action.Upload (up.Opened k.0)) = e.3.is ∙ ap (verdict.Of t) k.1 in
        let w = edition_of e.0.request in
        let y : opening_form w ≡ forms.DownloadOpening = sym (action-sound sound e.2 opens).opening.asked
        ∙ ap (λ (g : bank.Exchange). form g.request) same ∙ ap form o.asked ∙ o.kind in
        let z = not-opening w (λ z. cc) (λ z. cc) (sym y) in omega arith

    no-download : {issues : List history.Issue} {t : Bits128} (n : ℕ) →
        Fitting v.bank.past.history issues t (call_exchange v.bank.past.bank_state a).request →
        DownloadKind (call_exchange v.bank.past.bank_state a).request →
        (call_exchange v.bank.past.bank_state a).verdict ≡ verdict.Of t (action.Download (down.Point n)) → ⊥
    no-download n f (inl k) own =
        let y = f.transfer k in (action-sound later newest own).unfit k y.0 y.1 y.2
    no-download n f (inr k) own =
        let y = f.receipt k in let z = (action-sound later newest own).early k in omega arith

    pub point-uploads : Proper (call_exchange v.bank.past.bank_state a) → is_subscribers a.frame ≡ true →
        return_code (call_exchange v.bank.past.bank_state a).reply ≡ code_field code.RecoverySync →
        form (read_request a.frame) ≡ forms.UploadTransfer
    point-uploads proper counted z = let p = point-given later newest proper z in at p.0 p.1 p.2
      where
        j : ℕ
        j = (given counted).0

        c : IssuedBy (given counted).0 a.frame s
        c = (given counted).1

        Fits : Type 0
        Fits = Fitting v.bank.past.history (issues_of (given counted).0 s.issued) (s.runs (given counted).0).transaction
            (call_exchange v.bank.past.bank_state a).request

        fits : DownloadKind (read_request a.frame) → Fits
        fits k =
            let e : read_request c.0.frame ≡ read_request a.frame = ap read_request c.3 in
            subst (Fitting h (issues_of j s.issued) (s.runs j).transaction) (e ∙ sym as_read)
            (fitting c.1 c.2 (subst DownloadKind (sym e) k))

        by : {t : Bits128} {k : Action} → (call_exchange v.bank.past.bank_state a).verdict ≡ verdict.Of t k → is_opening k ≡ false →
            (DownloadKind (read_request a.frame) → ⊥) → form (read_request a.frame) ≡ forms.UploadTransfer
        by own o none = under (case-of s v copies numbers a given later own o)
          where
            under : Under (read_request a.frame) → form (read_request a.frame) ≡ forms.UploadTransfer
            under (sending e) = e
            under (asking e) = absurd (none (inl e))
            under (confirming e) = absurd (none (inr e))

        at : (t : Bits128) (n : ℕ) →
            ((call_exchange v.bank.past.bank_state a).verdict ≡ verdict.Of t (action.Upload (up.Point n)))
            ⊎ ((call_exchange v.bank.past.bank_state a).verdict ≡ verdict.Of t (action.Download (down.Point n))) →
            form (read_request a.frame) ≡ forms.UploadTransfer
        at t n (inl own) = by own refl (λ k.
            let f = fits k in
            no-upload n f (own ∙ ap (λ (u : Bits128). verdict.Of u (action.Upload (up.Point n)))
            ((action-sound later newest own).upload.request.same ∙ f.id)))
        at t n (inr own) = by own refl (λ k.
            let f = fits k in
            no-download n f (subst DownloadKind (sym as_read) k)
            (own ∙ ap (λ (u : Bits128). verdict.Of u (action.Download (down.Point n)))
            ((action-sound later newest own).request.same ∙ f.id)))

-- ---- over the calls of a list

frame-points : (s : Course) (v : Parts s) → Copied s → OneExchangeNumber s → (lent : LentSession) (a : FrameInput) →
    Premise (frame_arrives lent a) s → call_number (frame_arrives lent a) ≡ 0 → UploadPoints s → UploadPoints (carry_out (frame_arrives lent a) s)
frame-points s v c n lent a q z r e m counted coded = at (subst (In e) en.exchanged m)
  where
    en : Entered s v.bank a (carry_out (frame_arrives lent a) s)
    en = frame-enters s v.bank lent a q.0 q.1 z

    at : In e (en.exchange ∷ s.exchanged) → form (read_request e.request) ≡ forms.UploadTransfer
    at (there i) = r e i counted coded
    at (here y) =
        let f : e.request ≡ a.frame = ap (λ (x : Exchange). x.request) y ∙ en.request in
        ap (λ (l : List ℕ). form (read_request l)) f
        ∙ point-uploads s v c n a q.2 en.sound en.proper (ap is_subscribers (sym f) ∙ counted)
        (ap return_code (sym (ap (λ (x : Exchange). read_reply x.reply) y ∙ en.same.reply)) ∙ coded)

carried-points : (k : Call) (s : Course) → Parts s → Copied s → OneExchangeNumber s → Premise k s → call_number k ≡ 0 → UploadPoints s →
    UploadPoints (carry_out k s)
carried-points (frame_arrives lent a) s v c n q z r = frame-points s v c n lent a q z r
carried-points (file_put rows mailboxes m file) s v c n q z r = r
carried-points (begins i x params l) s v c n q z r = r
carried-points (reply_arrives i x reply l) s v c n q z r = r
carried-points (no_reply i x l) s v c n q z r = r
carried-points (journal_handed i x row) s v c n q z r = r
carried-points (puts_away m buffer) s v c n q z r = r
carried-points (takes_up m image) s v c n q z r = r

points-call : (k : Call) (s : Course) → Parts s → Copied s → Allowed k s → OneExchangeNumber (exec k s) → UploadPoints s →
    UploadPoints (exec k s)
points-call k s v c q n r = by_number k s UploadPoints r (λ z. carried-points k s v c (numbers-earlier k s n) (q z) z r)

pub points-start : UploadPoints start
unfolding start
points-start e m _ _ = absurd (in-none m)

pub points : (ks : List Call) (s : Course) → Parts s → Copied s → AllAllowed ks s → OneExchangeNumber (after ks s) → UploadPoints s →
    UploadPoints (after ks s)
unfolding after
points [] s v c q n r = r
points (k ∷ ks) s v c q n r =
    let later = numbers-before ks (exec k s) n in
    points ks (exec k s) (call-keeps k s v later q.0) (copied-call k s c q.0) q.1 n (points-call k s v c q.0 later r)
