-- Bank and runs together: each transaction has one run, and what the bank took for it is that run's payload. Assumes nothing.
use Prim.Native.Nat.{ℕ, ◌*◌, ◌≤◌}
use mathlib.Core.Bool.{true}
use mathlib.Core.List.Memᴰ.{not-nil as in-none}
use mathlib.Core.List.{List, Memᴰ as In}
use mathlib.Core.Path.{◌≡◌, refl, sym, ap, ◌∙◌, subst}
use native.Mathlib.Omega.{arith}
use lib.ListN.{length, take}
use borrow.Author.Tests.{le-leb}
use Rattle.frame_table.specs.declared.fields.Bits128.{Bits128}
use Rattle.frame_table.specs.declared.fields.Fields.{Fields}
use Rattle.frame_table.specs.declared.table.Form.{Form}
use Rattle.frame_table.specs.Forms as forms
use Rattle.frame_table.specs.Names.{subscriber, exchange, transaction, segments, segment, return_code, form}
use Rattle.frame_reader.specs.Reader.{read_request}
use Rattle.frame_row.specs.Row.{data_of}
use Rattle.message.specs.Codes.{code_field}
use Rattle.message.specs.Editions.{opening_form}
use Rattle.message.specs.Limits.{subscribers, segment_bytes}
use Rattle.message.specs.Segments.{segments_of, segment_of}
use Rattle.bank_verdicts.specs.declared.verdict.UploadAction.TheVariants as up
use Rattle.bank_verdicts.specs.declared.verdict.DownloadAction.TheVariants as down
use Rattle.bank_verdicts.specs.declared.verdict.Action.TheVariants as action
use Rattle.bank_verdicts.specs.declared.verdict.Verdict.{Verdict}
use Rattle.bank_verdicts.specs.declared.verdict.Verdict.TheVariants as verdict
use Rattle.bank_history.specs.History.{Stands, ActionIn, is_taking, is_booking, is_upload_opening, is_download_opening, ever, times, received, at_opening, opened_by, segments_at}
use Rattle.bank_history.specs.History as bank
use Rattle.bank_history.specs.Sound.{AllSound}
use Rattle.bank_history.proofs.Positions.{stands-behind, action-sound, booking-last}
use Rattle.bank_history.proofs.Replies.{verdict_code}
use Rattle.bank_history.proofs.Theorems.{taking-sound, taken-last-books, booking-takes-last, ever-stands, stands-ever, received-payload}
use Rattle.client_run.specs.declared.run.RunTerms.{RunTerms}
use Rattle.client_run.proofs.Apart.{not-both}
use Rattle.client_history.specs.History as history
use Rattle.client_history.specs.Invariant.{
  UploadIssue,
  upload_opens,
  sends,
  SegmentSent,
  UploadOpen,
  UploadRun,
  Invariant,
  not-begun,
  upload,
  download,
}
use Rattle.client_history.proofs.Requests.{segments-opening, form-upload_transfer, segment-upload_transfer, id-upload_transfer}
use Rattle.client_history.proofs.Theorems.{issued-begun, upload-segments, segment-sent, segment-opened, one-subscriber, not-opening}
use Rattle.exchange.specs.Course.{Issue, Exchange, Course}
use Rattle.exchange.specs.Terms.{IssuedBy, Books, Booked}
use Rattle.exchange.specs.Demand3.{is_named, is_subscribers, OneExchangeNumber}
use Rattle.exchange.proofs.Told.{
  Opening,
  upload-kind,
  download-kind,
  one-numbered,
  opening-at,
  upload-opening,
  download-opening,
  sound-before,
  proper-at,
  coded,
  transfer-taken,
  Gave,
  file_in,
  bank-replies,
}
use Rattle.exchange.proofs.Bank.{Entry, found, listed}
use Rattle.exchange.proofs.Clients.{as_issue, issues_of, issued-in, issue-of, OpenedBy, opened-upload, Parts, own_past}
use Rattle.exchange.proofs.Issues.{number_of, one-issue}
use Rattle.exchange.proofs.Courses.{Copied}

-- the transaction t was opened in a history, by a subscriber
pub record OpenedIn (t : Bits128) (h : List bank.Exchange) : Type 0 where
  pub exchange : bank.Exchange
  pub before : List bank.Exchange
  pub stands : Stands exchange before h
  pub opening : Opening t exchange
  pub low : 1 ≤ subscriber exchange.request
  pub high : subscriber exchange.request ≤ subscribers

pub upload-in : (t : Bits128) {h : List bank.Exchange} → AllSound h → ever is_upload_opening t h ≡ true → OpenedIn t h
upload-in t {h} sound e = let o = ever-stands is_upload_opening t h e in at o (upload-kind o.3.action o.3.kind)
  where
    at : (o : (f : bank.Exchange) × (g : List bank.Exchange) × Stands f g h × ActionIn is_upload_opening t f) →
        (n : ℕ) × (o.3.action ≡ action.Upload (up.Opened n)) → OpenedIn t h
    at o k =
        let own : o.0.verdict ≡ verdict.Of t (action.Upload (up.Opened k.0)) = o.3.is ∙ ap (verdict.Of t) k.1 in
        let s = (action-sound sound o.2 own).opening in
        record { exchange = o.0; before = o.1; stands = o.2; opening = upload-opening o.3; low = s.known; high = s.most }

pub download-in : (t : Bits128) {h : List bank.Exchange} → AllSound h → ever is_download_opening t h ≡ true → OpenedIn t h
download-in t {h} sound e = let o = ever-stands is_download_opening t h e in at o (download-kind o.3.action o.3.kind)
  where
    at : (o : (f : bank.Exchange) × (g : List bank.Exchange) × Stands f g h × ActionIn is_download_opening t f) →
        (n : ℕ) × (o.3.action ≡ action.Download (down.Opened n)) → OpenedIn t h
    at o k =
        let own : o.0.verdict ≡ verdict.Of t (action.Download (down.Opened k.0)) = o.3.is ∙ ap (verdict.Of t) k.1 in
        let s = (action-sound sound o.2 own).opening in
        record { exchange = o.0; before = o.1; stands = o.2; opening = download-opening o.3; low = s.known; high = s.most }

-- what is looked up at a transaction's opening before one of its requests is the same later
pub at_before : {A : Type 0} (look : bank.Exchange → A) (empty : A) (t : Bits128) {f : bank.Exchange} {g h : List bank.Exchange} →
    AllSound h →
    Stands f g h → OpenedIn t g → at_opening look empty t g ≡ at_opening look empty t h
at_before look empty t {g = g} sound stands o =
    let p = o.opening in
    opening-at look empty (sound-before sound stands) o.stands p
    ∙ sym (opening-at look empty sound (stands-behind o.stands stands) p)

-- the number of segments in an upload's opening
opening-segments : {terms : RunTerms} {s n top : ℕ} {t : Bits128} {payload : List ℕ} {x : history.Issue} →
    UploadIssue terms s n t top payload x → form x.request ≡ opening_form terms.edition → segments x.request ≡ n
opening-segments {terms} (upload_opens number time nonce q d) e =
    ap segments q ∙ segments-opening terms.edition _ _ _ _ _ _
opening-segments {terms} (sends number j a b q d) e =
    absurd (let y = not-opening terms.edition (λ z. cc) (λ z. cc) (sym (ap form q ∙ form-upload_transfer _ _ _ _ _) ∙ e) in
    omega arith)

module _ (s : Course) (v : Parts s) (copies : Copied s) (numbers : OneExchangeNumber s) where
  abbrev h : List bank.Exchange
  h = v.bank.past.history

  pub sound : AllSound v.bank.past.history
  sound = v.bank.holds.invariant.sound

  -- the run has a segment of the upload t issued
  pub record Uploads (i : ℕ) (t : Bits128) : Type 0 where
    pub own : (s.runs i).transaction ≡ t
    pub run : UploadRun (Gave v.bank.past.history) (own_past v i).run (s.payloads i) (issues_of i s.issued)
    pub opened : UploadOpen (Gave v.bank.past.history) (own_past v i).run (issues_of i s.issued)

  -- two runs with transactions of one number are one run
  pub one-opener : {y z : Form} {i j : ℕ} {t u : Bits128} → OpenedBy y v.bank.past.history t (issues_of i s.issued) →
      OpenedBy z v.bank.past.history u (issues_of j s.issued) → t.low ≡ u.low → i ≡ j
  one-opener {i = i} {j = j} o p n =
      let x = issue-of i s.issued o.own in
      let y = issue-of j s.issued p.own in
      let same : o.exchange ≡ p.exchange = one-numbered sound o.stands p.stands o.opening p.opening n in
      let asked : o.issue.request ≡ p.issue.request =
      sym o.asked ∙ ap (λ (e : bank.Exchange). e.request) same ∙ p.asked in
      let number : number_of x.issue ≡ number_of y.issue =
      ap (λ (u : history.Issue). exchange u.request) x.same ∙ ap exchange asked
      ∙ ap (λ (u : history.Issue). exchange u.request) (sym y.same) in
      sym x.run ∙ ap (λ (u : Issue). u.run) (one-issue s numbers x.own y.own number) ∙ y.run

  pub one-run : {i j : ℕ} {t : Bits128} → Uploads i t → Uploads j t → i ≡ j
  one-run {i} {j} {t} a b = one-opener (by i a) (by j b) refl
    where
      by : (k : ℕ) → Uploads k t → OpenedBy (opening_form (s.runs k).terms.edition) h t (issues_of k s.issued)
      by k u = subst (λ (x : Bits128). OpenedBy (opening_form (s.runs k).terms.edition) h x (issues_of k s.issued)) u.own
          (opened-upload sound u.opened)

  -- a copy of a run's upload transfer
  module _ {i : ℕ} {frame : List ℕ} (c : IssuedBy i frame s) (asked : form (read_request frame) ≡ forms.UploadTransfer) where
    abbrev own-issue : history.Issue
    own-issue = as_issue c.0

    own_in : In (as_issue c.0) (issues_of i s.issued)
    own_in = issued-in i c.1 c.2

    own-form : form (read_request c.0.frame) ≡ forms.UploadTransfer
    own-form = ap (λ (l : List ℕ). form (read_request l)) c.3 ∙ asked

    sent : SegmentSent (own_past v i) (as_issue c.0)
    sent = segment-sent (Gave h) (file_in h) (bank-replies h sound v.bank.proper) (own_past v i) (v.runs i).own own-issue own_in own-form

    own-request : read_request frame ≡ own-issue.request
    own-request = ap read_request (sym c.3)

    pub sent-id : transaction (read_request frame) ≡ (s.runs i).transaction
    sent-id = ap transaction (own-request ∙ sent.request) ∙ id-upload_transfer _ _ _ _ _

    pub sent-data : data_of frame ≡ segment_of (s.payloads i) (segment (read_request frame))
    sent-data =
        ap data_of (sym c.3) ∙ sent.bytes
        ∙ ap (segment_of (s.payloads i)) (sym (ap segment (own-request ∙ sent.request) ∙ segment-upload_transfer _ _ _ _ _))

    pub sender-uploads : Uploads i (transaction (read_request frame))
    sender-uploads = record {
      own = sym sent-id;
      run = at (v.runs i).own;
      opened = segment-opened (Gave h) (file_in h) (bank-replies h sound v.bank.proper) (own_past v i)
          (v.runs i).own own-issue own_in own-form;
    }
      where
        at : Invariant (Gave v.bank.past.history) (file_in v.bank.past.history) (own_past v i) →
            UploadRun (Gave v.bank.past.history) (own_past v i).run (s.payloads i) (issues_of i s.issued)
        at (not-begun e g) = absurd (in-none (subst (In (as_issue c.0)) g own_in))
        at (upload b u) = u
        at (download b u) = not-both sent.upload-run u.direction

  -- what the history says of a run's upload
  module _ {i : ℕ} {t : Bits128} (u : Uploads i t) where
    opened : OpenedBy (opening_form (s.runs i).terms.edition) v.bank.past.history t (issues_of i s.issued)
    opened = subst (λ (x : Bits128). OpenedBy (opening_form (s.runs i).terms.edition) h x (issues_of i s.issued)) u.own
        (opened-upload sound u.opened)

    pub upload-count : (s.runs i).segments ≡ segments_of (length (s.payloads i))
    upload-count =
        let o = opened in
        let replies = bank-replies h sound v.bank.proper in
        let begun = issued-begun (Gave h) (file_in h) replies (own_past v i) (v.runs i).own o.issue o.own in
        (upload-segments (Gave h) (file_in h) replies (own_past v i) (v.runs i).own begun u.run.direction).0

    pub upload-size : segments_at t v.bank.past.history ≡ segments_of (length (s.payloads i))
    upload-size =
        let o = opened in
        opening-at (λ (e : bank.Exchange). segments e.request) 0 sound o.stands o.opening
        ∙ ap segments o.asked ∙ opening-segments (u.run.each o.issue o.own) o.kind ∙ upload-count

    pub upload-owner : opened_by t v.bank.past.history ≡ (s.runs i).subscriber
    upload-owner =
        let o = opened in
        opening-at (λ (e : bank.Exchange). subscriber e.request) 0 sound o.stands o.opening
        ∙ ap subscriber o.asked
        ∙ one-subscriber (Gave h) (file_in h) (bank-replies h sound v.bank.proper) (own_past v i) (v.runs i).own o.issue o.own

  -- ---- the requests that the bank took

  -- an answered request, no signing, under a subscriber's number
  pub counts : (frame : List ℕ) → is_named (form (read_request frame)) ≡ true → 1 ≤ subscriber (read_request frame) →
      subscriber (read_request frame) ≤ subscribers → is_subscribers frame ≡ true
  unfolding is_subscribers
  counts frame k low high = rw (
    k,
    le-leb 1 (subscriber (read_request frame)) low,
    le-leb
        (subscriber (read_request frame)) subscribers high,
  )

  -- a segment taken was issued by the run of its transaction
  pub record TakenFrom (t : Bits128) (f : bank.Exchange) : Type 0 where
    pub run : ℕ
    pub exchange : Exchange
    pub given : In exchange s.exchanged
    pub same : Entry exchange f
    pub copy : IssuedBy run exchange.request s
    pub asked : form (read_request exchange.request) ≡ forms.UploadTransfer
    pub uploads : Uploads run t

  pub taken-from : {t : Bits128} {f : bank.Exchange} {g : List bank.Exchange} → Stands f g v.bank.past.history →
      ActionIn is_taking t f → TakenFrom t f
  taken-from {t} {f} {g} stands d =
      let k = taking-sound sound stands d in
      let l = listed v.bank.entries stands in
      let o = upload-in t (sound-before sound stands) k.upload.opened in
      let asked : form (read_request l.0.request) ≡ forms.UploadTransfer = ap form l.2.request ∙ k.asked in
      let from : subscriber o.exchange.request ≡ subscriber (read_request l.0.request) =
      sym (opening-at (λ (e : bank.Exchange). subscriber e.request) 0 (sound-before sound stands) o.stands o.opening)
      ∙ k.upload.request.owner ∙ ap subscriber (sym l.2.request) in
      let c = copies l.0 l.1 (counts l.0.request (ap is_named asked) (let z = o.low in omega arith)
      (let z = o.high in omega arith)) in
      let id : transaction (read_request l.0.request) ≡ t = ap transaction l.2.request ∙ sym k.upload.request.same in
      record {
        run = c.0;
        exchange = l.0;
        given = l.1;
        same = l.2;
        copy = c.1;
        asked = asked;
        uploads = subst (Uploads c.0) id (sender-uploads c.1 asked);
      }

  -- what was taken of an upload is the beginning of the run's payload
  pub taken-payload : {i : ℕ} {t : Bits128} → Uploads i t →
      received t v.bank.past.history ≡ take (times is_taking t v.bank.past.history * segment_bytes) (s.payloads i)
  taken-payload {i} {t} u = received-payload t (s.payloads i) sound each
    where
      each : (f : bank.Exchange) (g : List bank.Exchange) → Stands f g v.bank.past.history → ActionIn is_taking t f →
          f.request_data ≡ segment_of (s.payloads i) (segment f.request)
      each f g stands d =
          let k = taken-from stands d in
          sym k.same.request_data ∙ sent-data k.copy k.asked
          ∙ ap (λ (j : ℕ). segment_of (s.payloads j) (segment (read_request k.exchange.request))) (one-run k.uploads u)
          ∙ ap (λ (q : Fields). segment_of (s.payloads i) (segment q)) k.same.request

  -- "An upload is booked when a copy of its segment N gets 000000": that exchange books its transaction
  pub books-booking : {i : ℕ} {e : Exchange} {f : bank.Exchange} {g : List bank.Exchange} → Stands f g v.bank.past.history →
      Entry e f → Books s i e →
      ActionIn is_booking (s.runs i).transaction f
  books-booking {i} {e} {f} {g} stands same b =
      let u = sender-uploads b.copy b.upload in
      let t = (s.runs i).transaction in
      let asked : form f.request ≡ forms.UploadTransfer = ap form (sym same.request) ∙ b.upload in
      let id : transaction f.request ≡ t = ap transaction (sym same.request) ∙ sym u.own in
      let d = subst (λ (x : Bits128). ActionIn is_taking x f) id
      (transfer-taken sound stands (proper-at v.bank.proper stands) asked (ap return_code (sym same.reply) ∙ b.taken)) in
      let o = upload-in t (sound-before sound stands) (taking-sound sound stands d).upload.opened in
      taken-last-books t sound stands d
      (ap segment (sym same.request) ∙ b.last ∙ sym (upload-size (subst (Uploads i) (sym u.own) u))
      ∙ sym (at_before (λ (x : bank.Exchange). segments x.request) 0 t sound stands o))

  pub booked-ever : {i : ℕ} → Booked s i → Uploads i (s.runs i).transaction ×
      (ever is_booking (s.runs i).transaction v.bank.past.history ≡ true)
  unfolding Booked
  booked-ever {i} (e, m, b) =
      let f = found v.bank.entries m in
      let u = sender-uploads b.copy b.upload in (
        subst (Uploads i) (sym u.own) u,
        stands-ever is_booking (s.runs i).transaction f.stands
            (books-booking f.stands f.same b),
      )

  -- and the other way round
  pub ever-booked : {t : Bits128} → ever is_booking t v.bank.past.history ≡ true → (i : ℕ) × Uploads i t × Booked s i
  unfolding Booked
  ever-booked {t} z = at (ever-stands is_booking t h z)
    where
      at : (o : (f : bank.Exchange) × (g : List bank.Exchange) × Stands f g v.bank.past.history × ActionIn is_booking t f) →
          (i : ℕ) × Uploads i t × ((e : Exchange) × In e s.exchanged × Books s i e)
      at (f, g, stands, d) =
          let own : f.verdict ≡ verdict.Of t (action.Upload up.TookLast) = d.is
          ∙ ap (verdict.Of t) (booking-last d.action d.kind) in
          let k = taken-from stands (record { action = action.Upload up.TookLast; is = own; kind = refl }) in
          let o = upload-in t (sound-before sound stands) (action-sound sound stands own).taking.upload.opened in (
            k.run,
            k.uploads,
            (
              k.exchange,
              k.given,
              record {
                copy = k.copy;
                upload = k.asked;
                last = ap segment k.same.request ∙ booking-takes-last t sound stands d
                    ∙ at_before (λ (x : bank.Exchange). segments x.request) 0 t sound stands o ∙ upload-size k.uploads;
                taken = ap return_code k.same.reply ∙ coded sound stands ∙ ap (λ (x : Verdict). code_field (verdict_code x)) own;
              },
            ),
          )
