-- The main results, for the crates above: what holds of a client run after any events, and after fair ones.
use Prim.Native.Nat.{ℕ, ◌+◌, ◌<◌, ◌≤◌}
use mathlib.Core.Bool.{true, false}
use mathlib.Core.List.Memᴰ.{head as here}
use mathlib.Core.List.Memᴰ.{not-nil as in-none}
use mathlib.Core.List.{List, Memᴰ as In}
use mathlib.Core.Logic.{◌⊎◌, inl, inr}
use mathlib.Core.Path.{◌≡◌, refl, sym, ap, ◌∙◌, subst}
use native.Mathlib.Omega.{arith}
use lib.ListN.{length}
use Rattle.frame_table.specs.declared.fields.Bits128.{Bits128}
use Rattle.frame_table.specs.declared.fields.Fields.{Fields}
use Rattle.frame_table.specs.declared.table.Form.{Form}
use Rattle.frame_table.specs.Forms as forms
use Rattle.frame_table.specs.Names.{subscriber, exchange, order_type, segment, form}
use Rattle.frame_reader.specs.Reader.{read_reply}
use Rattle.frame_row.specs.Row.{data_of}
use Rattle.octets.proofs.Tests.{never}
use Rattle.message.specs.Limits.{max_segments}
use Rattle.message.specs.Segments.{segments_of}
use Rattle.journal.proofs.Lookup.{same-name}
use Rattle.client_run.specs.declared.run.ClientRun.{ClientRun}
use Rattle.message.specs.declared.directions.Direction.TheVariants.{Upload, Download}
use Rattle.message.specs.declared.editions.Edition.{Edition}
use Rattle.message.specs.declared.editions.Edition.TheVariants.{V24, V25}
use Rattle.client_run.specs.declared.run.RunTerms.{RunTerms}
use Rattle.client_run.specs.declared.run.Stage.{Stage}
use Rattle.client_run.specs.declared.run.Stage.TheVariants as stage
use Rattle.client_run.specs.declared.run.Step.{Step}
use Rattle.client_run.specs.declared.run.Step.TheVariants as step
use Rattle.client_run.specs.declared.run.Word.{Word}
use Rattle.client_run.specs.declared.run.Word.TheVariants as word
use Rattle.client_run.proofs.Apart.{not-both}
use Rattle.client_run.proofs.Names.{subscriber-opening, type-opening}
use Rattle.message.specs.Editions.{opening_form}
use Rattle.client_run.specs.Run.{not_begun, order_type_of, order_name}
use Rattle.client_rules.specs.Decisions.{is_answer}
use Rattle.client_rules.specs.Rulings.{is_begun}
use Rattle.client_history.specs.History.{
  Issue,
  Event,
  Past,
  held_count,
  held_of,
  issue_of,
  after,
  past_of,
  BankReplies,
  GivenTo,
  Fair,
  AllFair,
}
use Rattle.client_history.specs.Bounds.{Numbered, UploadCourse}
use Rattle.client_history.specs.Invariant.{
  Newest,
  Begun,
  is_open,
  Steady,
  UploadIssue,
  upload_opens,
  sends,
  DownloadIssue,
  download_opens,
  asks,
  confirms,
  SegmentSent,
  SegmentAsked,
  ReceiptIssued,
  opened_name,
  Answered,
  UploadOpen,
  UploadStep,
  LastTaken,
  Cancelled,
  UploadStage,
  UploadRun,
  FileHeld,
  DownloadStep,
  Confirmed,
  DownloadStage,
  Receipts,
  DownloadRun,
  Invariant,
  not-begun,
  upload,
  download,
}
-- 0. after any events, fair or not: how many requests, under which numbers, and that each is written
pub use Rattle.client_history.proofs.Bounds.{
  bounds,
  requests-most,
  exchange-fits,
  exchange-rises,
  all_held,
  guards-idle,
}
pub use Rattle.client_history.proofs.Writable.{unrefused}
use Rattle.client_history.proofs.Course.{upload-course, up-segments}
use Rattle.client_history.proofs.Downloads.{whole-file}
use Rattle.client_history.proofs.Issues
use Rattle.client_history.proofs.Keeps
-- the invariant as more replies are given
pub use Rattle.client_history.proofs.Lifting.{lifted}
-- 5. an order in turn: begin, the opening's answer, each segment's, the last one's, the receipt's; and a reply that is
-- ignored
pub use Rattle.client_history.proofs.Liveness.{
  begins,
  upload-opens,
  chosen-opens,
  upload-advances,
  upload-lodges,
  download-opens,
  download-advances,
  download-fetches,
  ignored-stays,
  opening-refused,
  begin-fresh,
}
use Rattle.client_history.proofs.Requests.{
  form-opening,
  form-download_opening,
  form-upload_transfer,
  form-download_transfer,
  form-receipt,
  segment-upload_transfer,
  is-receipt,
}
use Rattle.client_history.proofs.Stays

-- ---- the forms of the requests issued

other-form : {A : Type 0} {f x y : Form} → f ≡ x → f ≡ y → (x ≡ y → ◌≡◌ {A = ℕ} 0 1) → A
other-form a b f = absurd (let z = f (sym a ∙ b) in omega arith)

-- a run not begun
new-begun : {c : ClientRun} → c ≡ not_begun → is_begun c.stage ≡ false
new-begun e = ap (λ (c : ClientRun). is_begun c.stage) e

upload-form : {terms : RunTerms} {s n top : ℕ} {t : Bits128} {y : List ℕ} {x : Issue} → UploadIssue terms s n t top y x
    → (form x.request ≡ opening_form terms.edition) ⊎ (form x.request ≡ forms.UploadTransfer)
upload-form {terms} (upload_opens number time nonce q d) = inl (ap form q ∙ form-opening terms.edition _ _ _ _ _ _)
upload-form (sends number j a c q d) = inr (ap form q ∙ form-upload_transfer _ _ _ _ _)

download-form : {s n next : ℕ} {t : Bits128} {at : Step} {f : List ℕ} {x : Issue} → DownloadIssue s n t at next f x
    → (form x.request ≡ forms.DownloadOpening)
    ⊎ ((form x.request ≡ forms.DownloadTransfer) ⊎ (form x.request ≡ forms.Receipt))
download-form (download_opens number time nonce q d) = inl (ap form q ∙ form-download_opening _ _ _ _)
download-form (asks number j a b c g q d) = inr (inl (ap form q ∙ form-download_transfer _ _ _ _))
download-form (confirms number z a g q d) = inr (inr (ap form q ∙ form-receipt _ _ _ _))

-- an upload's opening of either edition is of no other form
pub not-opening : (e : Edition) {x : Form} → (x ≡ forms.UploadOpening → ◌≡◌ {A = ℕ} 0 1)
    → (x ≡ forms.ChosenOpening → ◌≡◌ {A = ℕ} 0 1) → x ≡ opening_form e → ◌≡◌ {A = ℕ} 0 1
not-opening V24 g k z = k z
not-opening V25 g k z = g z

not-upload : {A : Type 0} {f x : Form} (o : Edition) → (f ≡ opening_form o) ⊎ (f ≡ forms.UploadTransfer) → f ≡ x
    → (x ≡ forms.UploadOpening → ◌≡◌ {A = ℕ} 0 1) → (x ≡ forms.ChosenOpening → ◌≡◌ {A = ℕ} 0 1)
    → (x ≡ forms.UploadTransfer → ◌≡◌ {A = ℕ} 0 1) → A
not-upload o (inl a) e g k h = other-form e a (not-opening o g k)
not-upload o (inr a) e g k h = other-form e a h

not-download : {A : Type 0} {f x : Form}
    → (f ≡ forms.DownloadOpening) ⊎ ((f ≡ forms.DownloadTransfer) ⊎ (f ≡ forms.Receipt)) → f ≡ x
    → (x ≡ forms.DownloadOpening → ◌≡◌ {A = ℕ} 0 1) → (x ≡ forms.DownloadTransfer → ◌≡◌ {A = ℕ} 0 1)
    → (x ≡ forms.Receipt → ◌≡◌ {A = ℕ} 0 1) → A
not-download (inl a) e g h k = other-form e a g
not-download (inr (inl a)) e g h k = other-form e a h
not-download (inr (inr a)) e g h k = other-form e a k

-- the number of a transfer issued
sent-number : {p : Past} {x : Issue} (s : SegmentSent p x) → segment x.request ≡ s.j
sent-number s = ap segment s.request ∙ segment-upload_transfer _ _ _ _ _

module _ (Given : Fields → List ℕ → Fields → List ℕ → Type 0) (file_at : Bits128 → List ℕ)
    (bank : BankReplies Given file_at) where
  -- ---- THE INVARIANT: of every list of fair events, and from event to event

  pub invariant : (es : List Event) → AllFair Given es → Invariant Given file_at (past_of es)
  invariant = Keeps.invariant Given file_at bank

  pub kept : (p : Past) (e : Event) → Fair Given e p → Invariant Given file_at p → Invariant Given file_at (after e p)
  kept = Keeps.kept Given file_at bank

  -- what each event leaves as it was: direction, subscriber, payload and issues; once it is known, the transaction
  pub steady : (p : Past) (e : Event) → Fair Given e p → is_begun p.run.stage ≡ true → Steady p (after e p)
  steady = Stays.steady Given

  -- 8, "the run has ended": it stays as it is and issues nothing more
  pub ended-stays : (p : Past) (w : Word) → p.run.stage ≡ stage.Ended w → (e : Event) → after e p ≡ p
  ended-stays = Stays.ended-stays

  module _ (p : Past) (i : Invariant Given file_at p) where
    -- ---- 1. THE REQUESTS

    begun-of : is_begun p.run.stage ≡ true → Begun p
    begun-of b = go i
      where
        go : Invariant Given file_at p → Begun p
        go (not-begun e f) = never (sym (new-begun e) ∙ b)
        go (upload g u) = g
        go (download g u) = g

    -- a run that issued something has begun
    pub issued-begun : (x : Issue) → In x p.issues → is_begun p.run.stage ≡ true
    issued-begun x m = go i
      where
        go : Invariant Given file_at p → is_begun p.run.stage ≡ true
        go (not-begun e f) = absurd (in-none (subst (In x) f m))
        go (upload g u) = g.bounded.stage
        go (download g u) = g.bounded.stage

    -- exchange numbers: first, first + 1, ... up to the outstanding one, each once
    pub exchange-numbers : is_begun p.run.stage ≡ true
        → (first : ℕ) × Numbered first (p.run.exchange + 1) p.issues
    exchange-numbers b = let g = (begun-of b).bounded in (g.first, g.numbers)

    pub one_number : (x y : Issue) → In x p.issues → In y p.issues → exchange x.request ≡ exchange y.request
        → x ≡ y
    one_number x y m n e = go i
      where
        go : Invariant Given file_at p → x ≡ y
        go (not-begun f g) = absurd (in-none (subst (In x) g m))
        go (upload g u) = Issues.one_number g.bounded.numbers m n e
        go (download g u) = Issues.one_number g.bounded.numbers m n e

    -- all are under the run's subscriber
    pub one-subscriber : (x : Issue) → In x p.issues → subscriber x.request ≡ p.run.subscriber
    one-subscriber x m = go i
      where
        go : Invariant Given file_at p → subscriber x.request ≡ p.run.subscriber
        go (not-begun e f) = absurd (in-none (subst (In x) f m))
        go (upload g u) = g.bounded.own x m
        go (download g u) = g.bounded.own x m

    -- the newest issue is the outstanding request
    pub newest-outstanding : is_begun p.run.stage ≡ true → Newest p
    newest-outstanding b = (begun-of b).newest

    -- a reply that is not ignored was given to the outstanding request itself
    pub answer-to-outstanding : (frame : List ℕ) → is_begun p.run.stage ≡ true → GivenTo Given frame p
        → is_answer p.run (read_reply frame) ≡ true → Answered Given p (read_reply frame) (data_of frame)
    answer-to-outstanding frame b g h =
        Issues.answered Given file_at bank p (read_reply frame) (data_of frame) (begun-of b)
        (record { answers = h; issue = g.issue; own = g.own; given = g.given })

    -- ---- 2. UPLOAD

    module _ (b : is_begun p.run.stage ≡ true) (w : p.run.direction ≡ Upload) where
      -- number of segments, requests issued, step
      pub upload-run : UploadRun Given p.run p.payload p.issues
      upload-run = go i
        where
          go : Invariant Given file_at p → UploadRun Given p.run p.payload p.issues
          go (not-begun e f) = never (sym (new-begun e) ∙ b)
          go (upload g u) = u
          go (download g u) = not-both w u.direction

      -- "It cuts the payload at 256 bytes": 1 to the most segments
      pub upload-segments : (p.run.segments ≡ segments_of (length p.payload))
          × (1 ≤ p.run.segments) × (p.run.segments ≤ max_segments)
      upload-segments =
          let u = upload-course (begun-of b).bounded.course w in
          let n = up-segments p.run (length p.issues) u in
          (u.count ∙ ap segments_of upload-run.size, n.0, n.1)

      -- an upload run issues openings and transfers only
      pub upload-forms : (x : Issue) → In x p.issues
          → (form x.request ≡ opening_form p.run.terms.edition) ⊎ (form x.request ≡ forms.UploadTransfer)
      upload-forms x m = upload-form (upload-run.each x m)

    module _ (x : Issue) (m : In x p.issues) where
      -- every upload transfer issued is a segment of the payload under the run's transaction, none past `issued`
      pub segment-sent : form x.request ≡ forms.UploadTransfer → SegmentSent p x
      segment-sent e = go i
        where
          sent : UploadCourse p.run (length p.issues)
              → UploadIssue p.run.terms p.run.subscriber p.run.segments p.run.transaction p.run.issued p.payload
              x
              → SegmentSent p x
          sent k (upload_opens number time nonce q d) =
              other-form e (ap form q ∙ form-opening p.run.terms.edition _ _ _ _ _ _)
              (not-opening p.run.terms.edition (λ z. cc) (λ z. cc))
          sent k (sends number j a c q d) = record {
            upload-run = k.direction;
            number = number;
            j = j;
            least = a;
            issued = c;
            most = let t = k.within in omega arith;
            request = q;
            bytes = d;
          }

          go : Invariant Given file_at p → SegmentSent p x
          go (not-begun f g) = absurd (in-none (subst (In x) g m))
          go (upload g u) = sent (upload-course g.bounded.course u.direction) (u.each x m)
          go (download g u) = not-download (download-form (u.each x m)) e (λ z. cc) (λ z. cc) (λ z. cc)

      -- "segment N never issued"
      pub last-not-sent : form x.request ≡ forms.UploadTransfer → p.run.issued < p.run.segments
          → segment x.request ≡ p.run.segments → ⊥
      last-not-sent e h n = let s = segment-sent e in let k = s.issued in let j = sent-number s in omega arith

      -- once a segment was issued, an opening of the run was given the run's transaction and order number
      pub segment-opened : form x.request ≡ forms.UploadTransfer → UploadOpen Given p.run p.issues
      segment-opened e = go i
        where
          s : SegmentSent p x
          s = segment-sent e

          opened : (at : Step) → UploadStep Given at p.run p.issues → UploadOpen Given p.run p.issues
          opened step.Opening k = absurd (let a = s.least in let b = s.issued in omega arith)
          opened step.Segment k = k
          opened step.Receipt k = absurd k

          go : Invariant Given file_at p → UploadOpen Given p.run p.issues
          go (not-begun f g) = absurd (in-none (subst (In x) g m))
          go (upload g u) = opened p.run.step u.step
          go (download g u) = not-both s.upload-run u.direction

    -- "'Lodged' names subscriber, type and number together": those of the run's opening and of the answer to it
    pub opened-name : (o : UploadOpen Given p.run p.issues)
        → order_name p.run ≡ opened_name o.got.issue.request o.got.reply
    opened-name o = go i
      where
        named : p.run.direction ≡ Upload
            → UploadIssue p.run.terms p.run.subscriber p.run.segments p.run.transaction p.run.issued p.payload
            o.got.issue
            → order_name p.run ≡ opened_name o.got.issue.request o.got.reply
        named w (upload_opens number time nonce q d) =
            same-name (sym (ap subscriber q ∙ subscriber-opening p.run.terms.edition _ _ _ _ _ _))
            (ap order_type_of w ∙ sym (ap order_type q ∙ type-opening p.run.terms.edition _ _ _ _ _ _)) (sym o.number)
        named w (sends number j a c q d) =
            other-form (ap form q ∙ form-upload_transfer _ _ _ _ _) o.got.asked
            (not-opening p.run.terms.edition (λ z. cc) (λ z. cc))

        go : Invariant Given file_at p → order_name p.run ≡ opened_name o.got.issue.request o.got.reply
        go (not-begun f g) = absurd (in-none (subst (In o.got.issue) g o.got.own))
        go (upload g u) = named u.direction (u.each o.got.issue o.got.own)
        go (download g u) =
            not-download (download-form (u.each o.got.issue o.got.own)) o.got.asked
            (λ z. not-opening p.run.terms.edition (λ z. cc) (λ z. cc) (sym z))
            (λ z. not-opening p.run.terms.edition (λ z. cc) (λ z. cc) (sym z))
            (λ z. not-opening p.run.terms.edition (λ z. cc) (λ z. cc) (sym z))

    -- ---- 3. AN UPLOAD'S END

    -- "lodged (segment N answered 000000)"
    pub lodged : p.run.stage ≡ stage.Ended word.Lodged
        → (p.run.direction ≡ Upload) × LastTaken Given p.run p.issues
    lodged e = go i
      where
        go : Invariant Given file_at p → (p.run.direction ≡ Upload) × LastTaken Given p.run p.issues
        go (not-begun f g) = never (sym (new-begun f) ∙ ap is_begun e)
        go (upload g u) = (u.direction, subst (λ (s : Stage). UploadStage Given s p.run p.issues) e u.stage)
        go (download g u) =
            absurd (subst (λ (s : Stage). DownloadStage Given file_at s p.run p.file p.issues) e u.stage)

    -- "not lodged (segment N never issued, or ended by a reply 01 03 0D of phase 2 with 091102, 091104 or 011101)"
    pub not-lodged : p.run.stage ≡ stage.Ended word.NotLodged
        → (p.run.direction ≡ Upload) × ((p.run.issued < p.run.segments) ⊎ Cancelled Given p.run p.issues)
    not-lodged e = go i
      where
        go : Invariant Given file_at p
            → (p.run.direction ≡ Upload)
            × ((p.run.issued < p.run.segments) ⊎ Cancelled Given p.run p.issues)
        go (not-begun f g) = never (sym (new-begun f) ∙ ap is_begun e)
        go (upload g u) = (u.direction, subst (λ (s : Stage). UploadStage Given s p.run p.issues) e u.stage)
        go (download g u) =
            absurd (subst (λ (s : Stage). DownloadStage Given file_at s p.run p.file p.issues) e u.stage)

    -- ---- 4. DOWNLOAD

    module _ (b : is_begun p.run.stage ≡ true) (w : p.run.direction ≡ Download) where
      -- requests issued, step, receipts
      pub download-run : DownloadRun Given file_at p.run p.file p.issues
      download-run = go i
        where
          go : Invariant Given file_at p → DownloadRun Given file_at p.run p.file p.issues
          go (not-begun e f) = never (sym (new-begun e) ∙ b)
          go (upload g u) = not-both u.direction w
          go (download g u) = u

      -- once opened: the opening's answer, N, and the bytes of segments 1 to held
      pub file-held : is_open p.run.step ≡ true → FileHeld Given file_at p.run p.file p.issues
      file-held o = go p.run.step o download-run.step
        where
          go : (s : Step) → is_open s ≡ true → DownloadStep Given file_at s p.run p.file p.issues
              → FileHeld Given file_at p.run p.file p.issues
          go step.Opening h k = never h
          go step.Segment h k = k
          go step.Receipt h k = k

      -- with all segments held the run's file is the mailbox's at the opening
      pub file-whole : is_open p.run.step ≡ true → held_count p.run ≡ p.run.segments
          → held_of p.run p.file ≡ file_at p.run.transaction
      file-whole o e = whole-file Given (file-held o) e

      -- a download run issues openings, transfers and receipts only
      pub download-forms : (x : Issue) → In x p.issues
          → (form x.request ≡ forms.DownloadOpening)
          ⊎ ((form x.request ≡ forms.DownloadTransfer) ⊎ (form x.request ≡ forms.Receipt))
      download-forms x m = download-form (download-run.each x m)

      -- at its step a receipt was issued: it is the newest issue
      pub receipted-issued : p.run.step ≡ step.Receipt → Receipts p.issues
      receipted-issued h =
          let n = newest-outstanding b in
          let x = issue_of p.run p.payload p.file n.time n.nonce in (
            x,
            subst (In x) (sym n.are) (here refl),
            ap form (is-receipt p.run n.time n.nonce p.payload w h) ∙ form-receipt _ _ _ _,
          )

    module _ (x : Issue) (m : In x p.issues) where
      -- card 10: every download transfer asks for the segment after those held, under the run's transaction
      pub segment-asked : form x.request ≡ forms.DownloadTransfer → SegmentAsked p (file_at p.run.transaction) x
      segment-asked e = go i
        where
          asked : p.run.direction ≡ Download
              → DownloadIssue p.run.subscriber p.run.segments p.run.transaction p.run.step
              p.run.segment
              (file_at p.run.transaction) x → SegmentAsked p (file_at p.run.transaction) x
          asked w (download_opens number time nonce q d) =
              other-form e (ap form q ∙ form-download_opening _ _ _ _) (λ z. cc)
          asked w (asks number j a b c f q d) =
              record { download-run = w; number = number; j = j; least = a; next = b; most = c; file = f; request = q }
          asked w (confirms number z a f q d) = other-form e (ap form q ∙ form-receipt _ _ _ _) (λ z. cc)

          go : Invariant Given file_at p → SegmentAsked p (file_at p.run.transaction) x
          go (not-begun f g) = absurd (in-none (subst (In x) g m))
          go (upload g u) = not-upload p.run.terms.edition (upload-form (u.each x m)) e (λ z. cc) (λ z. cc) (λ z. cc)
          go (download g u) = asked u.direction (u.each x m)

      -- card 8: a run issues no signing, so that demand 3's premise on requests leaves out none of its own
      pub no-signing-issued : form x.request ≡ forms.Signing → ⊥
      no-signing-issued e = go i
        where
          go : Invariant Given file_at p → ⊥
          go (not-begun f g) = in-none (subst (In x) g m)
          go (upload g u) = not-upload p.run.terms.edition (upload-form (u.each x m)) e (λ z. cc) (λ z. cc) (λ z. cc)
          go (download g u) = not-download (download-form (u.each x m)) e (λ z. cc) (λ z. cc) (λ z. cc)

      -- "the run held the whole when, as it issued that receipt, its file was the mailbox's"
      pub receipt-issued : form x.request ≡ forms.Receipt → ReceiptIssued p (file_at p.run.transaction) x
      receipt-issued e = go i
        where
          issued : p.run.direction ≡ Download
              → DownloadIssue p.run.subscriber p.run.segments p.run.transaction p.run.step
              p.run.segment
              (file_at p.run.transaction) x → ReceiptIssued p (file_at p.run.transaction) x
          issued w (download_opens number time nonce q d) =
              other-form e (ap form q ∙ form-download_opening _ _ _ _) (λ z. cc)
          issued w (asks number j a b c f q d) = other-form e (ap form q ∙ form-download_transfer _ _ _ _) (λ z. cc)
          issued w (confirms number z a f q d) =
              record { download-run = w; number = number; at = z; whole = omega arith; file = f; request = q }

          go : Invariant Given file_at p → ReceiptIssued p (file_at p.run.transaction) x
          go (not-begun f g) = absurd (in-none (subst (In x) g m))
          go (upload g u) = not-upload p.run.terms.edition (upload-form (u.each x m)) e (λ z. cc) (λ z. cc) (λ z. cc)
          go (download g u) = issued u.direction (u.each x m)

    -- "fetched (011000)"
    pub fetched : p.run.stage ≡ stage.Ended word.Fetched
        → (p.run.direction ≡ Download) × Confirmed Given file_at p.run p.file p.issues
    fetched e = go i
      where
        go : Invariant Given file_at p
            → (p.run.direction ≡ Download) × Confirmed Given file_at p.run p.file p.issues
        go (not-begun f g) = never (sym (new-begun f) ∙ ap is_begun e)
        go (upload g u) = absurd (subst (λ (s : Stage). UploadStage Given s p.run p.issues) e u.stage)
        go (download g u) = (
          u.direction,
          subst (λ (s : Stage). DownloadStage Given file_at s p.run p.file p.issues) e
              u.stage,
        )

    -- a fetched file is the mailbox's file at its transaction's opening
    pub fetched-file : p.run.stage ≡ stage.Ended word.Fetched
        → held_of p.run p.file ≡ file_at p.run.transaction
    fetched-file e = let k = (fetched e).1 in whole-file Given k.held k.whole
