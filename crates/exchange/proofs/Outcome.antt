-- The clauses of demand 3 on book, closing words and mailboxes, at a course. Assumes nothing.
use Prim.Native.Nat.{ℕ, ◌*◌, ◌≤◌, ◌<◌}
use mathlib.Core.Bool.{Bool, true, false}
use mathlib.Core.List.Memᴰ.{not-nil as in-none}
use mathlib.Core.List.{List, [], ◌∷◌, Memᴰ as In}
use mathlib.Core.Logic.{◌⊎◌, inl, inr}
use mathlib.Core.Path.{◌≡◌, refl, sym, ap, ◌∙◌, subst}
use native.Mathlib.Omega.{arith}
use native.Mathlib.Nat.{mul_comm}
use lib.ListN.{length, take}
use lib.Seq.{take_at}
use Rattle.frame_table.specs.declared.fields.Bits128.{Bits128}
use Rattle.frame_table.specs.declared.fields.Fields.{Fields}
use Rattle.frame_table.specs.declared.table.Form.{Form}
use Rattle.frame_table.specs.Forms as forms
use Rattle.frame_table.specs.Names.{subscriber, order_type, exchange, transaction, segments, segment, return_code, form}
use Rattle.frame_reader.specs.Reader.{read_request, read_reply}
use Rattle.octets.proofs.Tests.{never}
use Rattle.message.specs.declared.codes.ReturnCode.{ReturnCode}
use Rattle.message.specs.declared.codes.ReturnCode.TheVariants as code
use Rattle.message.specs.Codes.{code_field}
use Rattle.message.specs.declared.editions.Edition.{Edition}
use Rattle.message.specs.declared.editions.Edition.TheVariants.{V24, V25}
use Rattle.message.specs.Editions.{form_edition, edition_of, opening_form, opened_form, order_opened}
use Rattle.message.specs.Limits.{ful, subscribers, segment_bytes}
use Rattle.message.specs.Segments.{segments_of}
use Rattle.journal.specs.declared.event.OrderName.{OrderName}
use Rattle.journal.proofs.Lookup.{same-name}
use Rattle.bank_state.specs.Limits.{series_limit}
use Rattle.bank_state.specs.Search.{is_free}
use Rattle.bank_state.specs.State.{BankState, place_at}
use Rattle.bank_state.specs.Store.{part_at}
use Rattle.message.specs.OrderNumbers.{order_number_of}
use Rattle.bank_verdicts.specs.declared.verdict.UploadAction.TheVariants as up
use Rattle.bank_verdicts.specs.declared.verdict.DownloadAction.TheVariants as down
use Rattle.bank_verdicts.specs.declared.verdict.Action.TheVariants as action
use Rattle.bank_verdicts.specs.declared.verdict.Verdict.TheVariants as verdict
use Rattle.bank_history.specs.History.{Stands, newest, older, ActionIn, is_booking, is_ending, did, ever, received, number_in, number_at}
use Rattle.bank_history.specs.History as bank
use Rattle.bank_history.specs.Invariant as whole
use Rattle.bank_history.specs.Opened.{is_upload_opened}
use Rattle.bank_history.specs.JournalOrders.{NeverBooked}
use Rattle.bank_history.specs.Transactions as standing
use Rattle.bank_history.specs.Sound.{AllSound, is_cancelling}
use Rattle.bank_history.proofs.OrderNumbers.{one-order-number}
use Rattle.bank_history.proofs.Positions.{action-sound, booking-last}
use Rattle.bank_history.proofs.Series.{series}
use Rattle.bank_admitted.proofs.Held.{order-limited}
use Rattle.bank_history.proofs.Theorems.{
  booked-order,
  in-book,
  upload-opened,
  download-opened,
  cancels-ends,
  transaction-cancelled,
  ended-unbooked,
  stands-ever,
}
use Rattle.message.specs.declared.directions.Direction.TheVariants.{Download}
use Rattle.client_run.specs.declared.run.RunTerms.{RunTerms}
use Rattle.client_run.specs.declared.run.Stage.TheVariants as stage
use Rattle.client_run.specs.declared.run.Step.{Step}
use Rattle.client_run.specs.Run.{order_name}
use Rattle.client_run.specs.declared.run.Word.TheVariants.{Lodged, NotLodged, Unclear, Fetched}
use Rattle.client_run.proofs.Apart.{not-both}
use Rattle.client_history.specs.History.{Past, BankReplies}
use Rattle.client_history.specs.History as history
use Rattle.client_history.specs.Invariant.{
  UploadIssue,
  upload_opens,
  sends,
  DownloadIssue,
  download_opens,
  asks,
  confirms,
  ReceiptIssued,
  Got,
  Invariant,
  UploadOpen,
  LastTaken,
  Cancelled,
  not-begun,
  upload,
  download,
}
use Rattle.client_history.proofs.Files.{all_held}
use Rattle.client_history.proofs.Requests.{
  form-opening,
  form-download_opening,
  form-upload_transfer,
  form-download_transfer,
  form-receipt,
  id-receipt,
}
use Rattle.client_history.proofs.Theorems.{lodged, not-lodged, last-not-sent, fetched, fetched-file, receipt-issued, one-subscriber, opened-name}
use Rattle.exchange.specs.Course.{Issue, Exchange, Course, held_of}
use Rattle.exchange.specs.Terms.{IssuedBy, Received, Opened, UploadOpenedBy, Books, Booked, Order, name_of, InBook, OrderOf}
use Rattle.exchange.specs.Demand3.{is_named, is_subscribers, OneExchangeNumber, Outcome}
use Rattle.exchange.specs.Lists.{AtMostOne}
use Rattle.exchange.proofs.Told.{
  opening-at,
  opening-edition,
  opens-upload,
  sound-before,
  proper-at,
  did-action,
  did_of,
  done-confirmed,
  Gave,
  file_in,
  bank-replies,
}
use Rattle.exchange.proofs.Bank.{Entry, Entries, found, listed}
use Rattle.exchange.proofs.Clients.{
  as_issue,
  issues_of,
  issued-in,
  issue-of,
  opened-upload,
  Judged,
  as-left,
  lodged-by,
  ended_by,
  Parts,
  own_past,
}
use Rattle.exchange.proofs.Issues.{one-issue}
use Rattle.exchange.proofs.Handed.{unclear-upload}
use Rattle.exchange.proofs.Courses.{Copied}
use Rattle.exchange.proofs.Joint.{
  Uploads,
  one-opener,
  one-run,
  sender-uploads,
  upload-count,
  upload-size,
  upload-owner,
  counts,
  taken-payload,
  books-booking,
  booked-ever,
  ever-booked,
  at_before,
  download-in,
}

-- ---- forms and codes

opening-kind : (e : Edition) → is_named (opening_form e) ≡ true
opening-kind V24 = refl
opening-kind V25 = refl

upload-kind : {terms : RunTerms} {s n top : ℕ} {t : Bits128} {payload : List ℕ} {x : history.Issue} →
    UploadIssue terms s n t top payload x → is_named (form x.request) ≡ true
upload-kind {terms} (upload_opens number time nonce q d) =
    ap is_named (ap form q ∙ form-opening terms.edition _ _ _ _ _ _) ∙ opening-kind terms.edition
upload-kind (sends number j a b q d) = ap is_named (ap form q ∙ form-upload_transfer _ _ _ _ _)

download-kind : {s n next : ℕ} {t : Bits128} {at : Step} {f : List ℕ} {x : history.Issue} → DownloadIssue s n t at next f x →
    is_named (form x.request) ≡ true
download-kind (download_opens number time nonce q d) = ap is_named (ap form q ∙ form-download_opening _ _ _ _)
download-kind (asks number j a b c e q d) = ap is_named (ap form q ∙ form-download_transfer _ _ _ _)
download-kind (confirms number a b e q d) = ap is_named (ap form q ∙ form-receipt _ _ _ _)

pub receipt-id : {p : Past} {f : List ℕ} {x : history.Issue} → ReceiptIssued p f x → transaction x.request ≡ p.run.transaction
receipt-id r = ap transaction r.request ∙ id-receipt _ _ _ _

cancelled-code : {c : ReturnCode} → (c ≡ code.TransactionAbort) ⊎ ((c ≡ code.SegmentNumberExceeded) ⊎ (c ≡ code.SegmentNumberUnderrun)) →
    is_cancelling (code_field c) ≡ true
cancelled-code (inl e) = ap (λ (x : ReturnCode). is_cancelling (code_field x)) e
cancelled-code (inr (inl e)) = ap (λ (x : ReturnCode). is_cancelling (code_field x)) e
cancelled-code (inr (inr e)) = ap (λ (x : ReturnCode). is_cancelling (code_field x)) e

same-opened : {q q' r r' : Fields} → q ≡ q' → r ≡ r' → order_opened q r ≡ order_opened q' r'
same-opened {q' = q'} {r = r} a b = ap (λ (q : Fields). order_opened q r) a ∙ ap (order_opened q') b

-- "the run held the whole when, as it issued that receipt, its file was the mailbox's": and it is so still as e answers it
abbrev pub HeldWhole : Course → Exchange → Type 0
HeldWhole s e = (form (read_request e.request) ≡ forms.Receipt)
    × ((x : Issue) × In x s.issued × (x.frame ≡ e.request) × (x.file ≡ x.box) × (x.file ≡ e.box))

-- "a mailbox is emptied only after its client held the whole"
abbrev pub AllHeldWhole : Course → Type 0
AllHeldWhole s = (e : Exchange) → In e s.exchanged → return_code (read_reply e.reply) ≡ code_field code.DownloadPostprocessDone →
    HeldWhole s e

-- 061101 under a subscriber's number answers an upload's segment, and nothing else
abbrev pub UploadPoints : Course → Type 0
UploadPoints s = (e : Exchange) → In e s.exchanged → is_subscribers e.request ≡ true →
    return_code (read_reply e.reply) ≡ code_field code.RecoverySync → form (read_request e.request) ≡ forms.UploadTransfer

module _ (s : Course) (v : Parts s) (copies : Copied s) (numbers : OneExchangeNumber s) where
  abbrev h : List bank.Exchange
  h = v.bank.past.history

  sound : AllSound v.bank.past.history
  sound = v.bank.holds.invariant.sound

  pub inv : whole.Invariant s.bank v.bank.past.history
  inv = subst (λ (w : BankState). whole.Invariant w v.bank.past.history) v.bank.bank_state v.bank.holds.invariant

  -- ---- a run's requests

  -- a request of a run, and the copy of it that was given a reply
  pub record Copy (i : ℕ) (f : bank.Exchange) : Type 0 where
    pub exchange : Exchange
    pub given : In exchange s.exchanged
    pub same : Entry exchange f
    pub copy : IssuedBy i exchange.request s

  -- each run's request is of a request form, under a subscriber's number
  pub request-of : (i : ℕ) {y : history.Issue} → In y (issues_of i s.issued) →
      (is_named (form y.request) ≡ true) × (1 ≤ subscriber y.request) × (subscriber y.request ≤ subscribers)
  request-of i {y} m = at (v.runs i).own
    where
      at : Invariant (Gave v.bank.past.history) (file_in v.bank.past.history) (own_past v i) →
          (is_named (form y.request) ≡ true) × (1 ≤ subscriber y.request) × (subscriber y.request ≤ subscribers)
      at (not-begun e g) = absurd (in-none (subst (In y) g m))
      at (upload b u) = let z = b.bounded.own y m in (
        upload-kind (u.each y m),
        let l = b.bounded.low in omega arith,
        let l = b.bounded.high in omega arith,
      )
      at (download b u) = let z = b.bounded.own y m in (
        download-kind (u.each y m),
        let l = b.bounded.low in omega arith,
        let l = b.bounded.high in omega arith,
      )

  pub copied-reply : {i : ℕ} {y : history.Issue} {r : Fields} {d : List ℕ} → In y (issues_of i s.issued) →
      (a : Gave v.bank.past.history y.request y.request_data r d) → Copy i a.exchange
  copied-reply {i} {y} m a =
      let l = listed v.bank.entries a.stands in
      let q : read_request l.0.request ≡ y.request = l.2.request ∙ a.request in
      let k = request-of i m in
      let n = ap subscriber q in
      let c = copies l.0 l.1 (counts s v copies numbers l.0.request (ap (λ (f : Fields). is_named (form f)) q ∙ k.0)
      (let z = k.1 in omega arith) (let z = k.2 in omega arith)) in
      let x = issue-of i s.issued m in
      let one : c.1.0 ≡ x.issue = one-issue s numbers c.1.1 x.own
      (ap (λ (b : List ℕ). exchange (read_request b)) c.1.3 ∙ ap exchange q
      ∙ ap (λ (u : history.Issue). exchange u.request) (sym x.same)) in
      record {
        exchange = l.0;
        given = l.1;
        same = l.2;
        copy = (c.1.0, c.1.1, ap (λ (u : Issue). u.run) one ∙ x.run, c.1.3);
      }

  replies : BankReplies (Gave v.bank.past.history) (file_in v.bank.past.history)
  replies = bank-replies h sound v.bank.proper

  -- each request of a run is under its subscriber's number
  own-subscriber : (x : Issue) → In x s.issued → (s.runs x.run).subscriber ≡ subscriber (read_request x.frame)
  own-subscriber x m =
      let i = x.run in
      sym (one-subscriber (Gave h) (file_in h) replies (own_past v i) (v.runs i).own (as_issue x) (issued-in i m refl))

  -- the reply that opened the run's transaction was given to a copy of the run's own request
  opened-by : {i : ℕ} {x y : Form} (g : Got (Gave v.bank.past.history) (issues_of i s.issued) x y code.Ok) →
      transaction g.reply ≡ (s.runs i).transaction → Opened y s i (copied-reply g.own g.given).exchange
  opened-by g id =
      let c = copied-reply g.own g.given in
      let r : read_reply c.exchange.reply ≡ g.reply = c.same.reply ∙ g.given.reply in
      record {
        received = (c.given, c.copy);
        answered = ap form r ∙ g.answered;
        ok = ap return_code r ∙ g.code;
        own = ap transaction r ∙ id;
      }

  -- ---- the book

  -- the number of an upload, from its opening and the reply to it
  opened-number : {e : bank.Exchange} {g : List bank.Exchange} {t : Bits128} → Stands e g h → is_upload_opened e ≡ true →
      transaction e.reply ≡ t → order_opened e.request e.reply ≡ order_number_of (number_at t h)
  opened-number {e} {t = t} stands z id =
      let u = upload-opened sound stands z in
      let own : e.verdict ≡ verdict.Of t (action.Upload (up.Opened u.0)) =
      u.1 ∙ ap (λ (x : Bits128). verdict.Of x (action.Upload (up.Opened u.0))) id in
      u.3 ∙ ap order_number_of (sym (opening-at (λ (x : bank.Exchange). number_in x.verdict) 0 sound stands
      (record { action = action.Upload (up.Opened u.0); is = own; opening = refl }) ∙ ap number_in own))

  -- an accepted upload is of type FUL
  upload-typed : {e : bank.Exchange} {g : List bank.Exchange} → Stands e g h → is_upload_opened e ≡ true →
      order_type e.request ≡ ful
  upload-typed {e} {g} stands z =
      series.typed v.bank.calls (record {
        stands = subst (λ (p : bank.Past). Stands e g p.history) v.bank.since stands;
        opened = z;
        owner = refl;
      })

  -- the reply to a run's opening accepts it
  accepted : {i : ℕ} (o : UploadOpen (Gave v.bank.past.history) (own_past v i).run (issues_of i s.issued)) →
      is_upload_opened o.got.given.exchange ≡ true
  accepted {i} o =
      let a = o.got.given in
      opens-upload (s.runs i).terms.edition a.exchange (ap form a.reply ∙ o.got.answered) (ap return_code a.reply ∙ o.got.code)

  -- and is in the form of the opening's edition
  upload-opened-by : {i : ℕ} (o : UploadOpen (Gave v.bank.past.history) (own_past v i).run (issues_of i s.issued)) →
      UploadOpenedBy s i (copied-reply o.got.own o.got.given).exchange
  upload-opened-by {i} o =
      let c = copied-reply o.got.own o.got.given in
      let same : edition_of (read_request c.exchange.request) ≡ (s.runs i).terms.edition =
      ap form_edition (ap form (c.same.request ∙ o.got.given.request) ∙ o.got.asked) ∙ opening-edition (s.runs i).terms.edition in
      subst (λ (x : Edition). Opened (opened_form x) s i c.exchange) (sym same) (opened-by o.got o.id)

  -- the place of a run's booked upload holds its order
  order-of : {i j : ℕ} {t : Bits128} → Uploads s v copies numbers i t → standing.Order s.bank v.bank.past.history t j →
      (o : Order) → InBook s j o → OrderOf s i o
  order-of {i} {j} {t} u r o b =
      let a = u.opened.got.given in
      let c = copied-reply u.opened.got.own a in
      let p = place_at s.bank.bank j in
      record {
        subscriber = ap (λ (x : Order). x.subscriber) b.is ∙ r.owner ∙ upload-owner s v copies numbers u;
        bytes = ap (λ (x : Order). x.bytes) b.is ∙ ap (take p.length) r.held
            ∙ take_at (received t h) _ p.length (sym r.long) ∙ taken-payload s v copies numbers u
            ∙ ap (λ (n : ℕ). take n (s.payloads i)) (ap (λ (n : ℕ). n * segment_bytes) (r.whole ∙ upload-size s v copies numbers u)
            ∙ mul_comm _ segment_bytes)
            ∙ all_held (s.payloads i) (segments_of (length (s.payloads i))) refl;
        exchange = c.exchange;
        opened = upload-opened-by u.opened;
        typed = ap order_type c.same.request ∙ upload-typed a.stands (accepted u.opened)
            ∙ ap (λ (x : Order). x.order_type) (sym b.is);
        number = same-opened c.same.request c.same.reply
            ∙ opened-number a.stands (accepted u.opened) (ap transaction a.reply ∙ u.opened.id ∙ u.own)
            ∙ ap order_number_of (sym r.number) ∙ ap (λ (x : Order). x.number) (sym b.is);
      }

  pub book-sound : (j : ℕ) (o : Order) → InBook s j o → (i : ℕ) × Booked s i × OrderOf s i o
  book-sound j o b =
      let r = booked-order inv j b.place b.booked in
      let k = ever-booked s v copies numbers r.last in
      (k.0, k.2, order-of k.1 r o b)

  pub book-whole : (i : ℕ) → Booked s i → (j : ℕ) × (o : Order) × InBook s j o × OrderOf s i o
  book-whole i b =
      let k = booked-ever s v copies numbers b in
      let r = in-book inv (s.runs i).transaction k.1 in
      let p = place_at s.bank.bank r.0 in
      let o : Order = record {
        subscriber = p.subscriber;
        order_type = ful;
        number = order_number_of p.number;
        bytes =
            take p.length (part_at s.bank.orders r.0);
      } in
      let n : InBook s r.0 o = record { place = r.1.inside; booked = r.1.used; is = refl } in
      (r.0, o, n, order-of k.0 r.1 o n)

  place-number : {j : ℕ} {o : Order} → InBook s j o → (place_at s.bank.bank j).number < series_limit
  place-number {j} b = order-limited s.bank inv.state j b.place (ap is_free b.booked)

  pub book-single : (j j' : ℕ) (o o' : Order) → InBook s j o → InBook s j' o' → name_of o ≡ name_of o' → j ≡ j'
  book-single j j' o o' a b e =
      inv.state.places_apart j j' a.place b.place (ap is_free a.booked) (ap is_free b.booked)
      (inr (
        ap (λ (x : Order). x.subscriber) (sym a.is) ∙ ap (λ (n : OrderName). n.subscriber) e
            ∙ ap (λ (x : Order). x.subscriber) b.is,
        one-order-number _ _ (place-number a) (place-number b)
            (ap (λ (x : Order). x.number) (sym a.is) ∙ ap (λ (n : OrderName). n.number) e
            ∙ ap (λ (x : Order). x.number) b.is),
      ))

  -- the number of an order is that of its transaction's opening
  number_of : {i : ℕ} {o : Order} → OrderOf s i o → o.number ≡ order_number_of (number_at (s.runs i).transaction h)
  number_of d =
      let o = d.opened in
      let f = found v.bank.entries o.received.0 in
      let z = opens-upload (edition_of (read_request d.exchange.request)) f.exchange (ap form (sym f.same.reply) ∙ o.answered)
      (ap return_code (sym f.same.reply) ∙ o.ok) in
      sym d.number ∙ same-opened f.same.request f.same.reply
      ∙ opened-number f.stands z (ap transaction (sym f.same.reply) ∙ o.own)

  -- one upload explains one place of the book
  pub book-place : (i j j' : ℕ) (o o' : Order) → InBook s j o → InBook s j' o' → OrderOf s i o → OrderOf s i o' → j ≡ j'
  book-place i j j' o o' a b c d =
      book-single j j' o o' a b
      (same-name (c.subscriber ∙ sym d.subscriber)
      (ap (λ (x : Order). x.order_type) a.is ∙ ap (λ (x : Order). x.order_type) (sym b.is))
      (number_of c ∙ sym (number_of d)))

  -- the order of a booked upload
  order-at : {i : ℕ} → Booked s i → (j : ℕ) × standing.Order s.bank h (s.runs i).transaction j
  order-at {i} b = in-book inv (s.runs i).transaction (booked-ever s v copies numbers b).1

  booked-number : (i : ℕ) → Booked s i → number_at (s.runs i).transaction h < series_limit
  booked-number i b =
      let r = order-at b in
      let n = order-limited s.bank inv.state r.0 r.1.inside (ap is_free r.1.used) in
      omega (arith, r.1.number)

  booked-owner : (i : ℕ) (b : Booked s i) → (place_at s.bank.bank (order-at b).0).subscriber ≡ (s.runs i).subscriber
  booked-owner i b = (order-at b).1.owner ∙ upload-owner s v copies numbers (booked-ever s v copies numbers b).0

  pub book-apart : (i i' : ℕ) (o : Order) → Booked s i → Booked s i' → OrderOf s i o → OrderOf s i' o → i ≡ i'
  book-apart i i' o a b c d =
      let x = order-at a in
      let y = order-at b in
      let same = one-order-number _ _ (booked-number i a) (booked-number i' b) (sym (number_of c) ∙ number_of d) in
      let place : x.0 ≡ y.0 = inv.state.places_apart x.0 y.0 x.1.inside y.1.inside (ap is_free x.1.used)
      (ap is_free y.1.used) (inr (
        booked-owner i a ∙ sym c.subscriber ∙ d.subscriber ∙ sym (booked-owner i' b),
        x.1.number ∙ same ∙ sym y.1.number,
      )) in
      one-opener s v copies numbers (opened-upload sound (booked-ever s v copies numbers a).0.opened)
      (opened-upload sound (booked-ever s v copies numbers b).0.opened)
      (ap (λ (u : Bits128). u.low)
      (sym x.1.same ∙ ap (λ (j : ℕ). (place_at s.bank.bank j).transaction) place ∙ y.1.same))

  -- "each upload is booked at most once"
  pub booked-once : (i : ℕ) → AtMostOne (Books s i) s.exchanged
  booked-once i = at v.bank.entries (λ f k p. p)
    where
      t : Bits128
      t = (s.runs i).transaction

      at : {l : List Exchange} {g : List bank.Exchange} → Entries l g →
          ((f : bank.Exchange) (k : List bank.Exchange) → Stands f k g → Stands f k v.bank.past.history) → AtMostOne (Books s i) l
      at Entries.none up = AtMostOne.none
      at (Entries.more {e = e} {f = f} {l = l} {h = g} same r) up =
          by (did is_booking t f.verdict) refl (at r (λ x k p. up x k (older p)))
        where
          by : (b : Bool) → did is_booking t f.verdict ≡ b → AtMostOne (Books s i) l → AtMostOne (Books s i) (e ∷ l)
          by true z rest = AtMostOne.only (λ y m k.
              let x = found r m in
              ⊥-of (did-action is_booking t f z) (stands-ever is_booking t x.stands
              (books-booking s v copies numbers (up _ _ (older x.stands)) x.same k)))
            where
              ⊥-of : ActionIn is_booking t f → ever is_booking t g ≡ true → ⊥
              ⊥-of d k = never (sym (action-sound sound (up _ _ newest)
                  (d.is ∙ ap (verdict.Of t) (booking-last d.action d.kind))).taking.upload.request.unbooked ∙ k)
          by false z rest = AtMostOne.skip (λ k.
              let d = books-booking s v copies numbers (up _ _ newest) same k in never (sym z ∙ did_of is_booking t f d)) rest

  -- ---- the closing words

  -- the order of a booked upload, under the subscriber, type and number that its run names
  booked-names : (i : ℕ) → Booked s i → UploadOpen (Gave v.bank.past.history) (own_past v i).run (issues_of i s.issued) →
      (j : ℕ) × (o : Order) × InBook s j o × OrderOf s i o × (name_of o ≡ order_name (s.runs i))
  booked-names i b o =
      let w = book-whole i b in
      let g = o.got.given in
      let z = accepted o in
      let n = opened-number g.stands z (ap transaction g.reply ∙ o.id) in
      let name = opened-name (Gave h) (file_in h) replies (own_past v i) (v.runs i).own o in (
        w.0,
        w.1,
        w.2,
        w.3,
        same-name w.3.subscriber
            (ap (λ (x : Order). x.order_type) w.2.is ∙ sym (upload-typed g.stands z) ∙ ap order_type g.request
            ∙ sym (ap (λ (x : OrderName). x.order_type) name))
            (number_of w.3 ∙ sym n ∙ same-opened g.request g.reply ∙ o.number),
      )

  -- lodged by its own events: segment N was answered 000000
  own-booked : (i : ℕ) (l : LastTaken (Gave v.bank.past.history) (own_past v i).run (issues_of i s.issued)) → Booked s i
  unfolding Booked
  own-booked i l =
      let c = copied-reply l.got.own l.got.given in
      let a = l.got.given in
      let q : read_request c.exchange.request ≡ l.got.issue.request = c.same.request ∙ a.request in
      let r : read_reply c.exchange.reply ≡ l.got.reply = c.same.reply ∙ a.reply in
      let u = sender-uploads s v copies numbers c.copy (ap form q ∙ l.got.asked) in (
        c.exchange,
        c.given,
        record {
          copy = c.copy;
          upload = ap form q ∙ l.got.asked;
          last = ap segment q ∙ l.last ∙ upload-count s v copies numbers u;
          taken = ap return_code r ∙ l.got.code;
        },
      )

  -- lodged by the journal: its upload was booked, by a copy of its own segment N
  journal-booked : (i : ℕ) → (v.runs i).left ≡ stage.Ended Unclear → ever is_booking (s.runs i).transaction v.bank.past.history ≡ true →
      Booked s i
  journal-booked i e z =
      let o = unclear-upload s v i e in
      let k = ever-booked s v copies numbers z in
      subst (Booked s) (one-run s v copies numbers k.1 (record { own = refl; run = o.0; opened = o.1 })) k.2

  -- "'lodged' names its booked order"
  pub lodged-booked : (i : ℕ) → (s.runs i).stage ≡ stage.Ended Lodged →
      Booked s i × ((j : ℕ) × (o : Order) × InBook s j o × OrderOf s i o × (name_of o ≡ order_name (s.runs i)))
  lodged-booked i z = at (v.runs i).word
    where
      at : Judged v.bank.calls v.bank.past.history (s.runs i) (v.runs i).left →
          Booked s i × ((j : ℕ) × (o : Order) × InBook s j o × OrderOf s i o × (name_of o ≡ order_name (s.runs i)))
      at (as-left y) =
          let l = (lodged (Gave h) (file_in h) replies (own_past v i) (v.runs i).own (y ∙ z)).1 in
          let b = own-booked i l in
          (b, booked-names i b l.opened)
      at (lodged-by y e k) = let b = journal-booked i y k in (b, booked-names i b (unclear-upload s v i y).1)
      at (ended_by y e k) = absurd (let x : ◌≡◌ {A = ℕ} 0 1 = cc in omega arith)

  -- not lodged by its own events: segment N was never issued, or its upload was cancelled
  own-unbooked : (i : ℕ) → ((s.runs i).issued < (s.runs i).segments)
      ⊎ Cancelled (Gave v.bank.past.history) (own_past v i).run (issues_of i s.issued) → Booked s i → ⊥
  unfolding Booked
  own-unbooked i (inl l) b =
      let u = (booked-ever s v copies numbers b).0 in
      let k = b.2 in
      let c = k.copy in
      let q : read_request c.0.frame ≡ read_request b.0.request = ap read_request c.3 in
      last-not-sent (Gave h) (file_in h) replies (own_past v i) (v.runs i).own (as_issue c.0) (issued-in i c.1 c.2)
      (ap form q ∙ k.upload) l
      (ap segment q ∙ k.last ∙ sym (upload-count s v copies numbers u))
  own-unbooked i (inr l) b =
      let a = l.got.given in
      let t = transaction-cancelled sound a.stands (ap form a.reply ∙ l.got.answered)
      (ap is_cancelling (ap return_code a.reply ∙ l.got.code) ∙ cancelled-code l.one) in
      let id : transaction a.exchange.request ≡ (s.runs i).transaction = ap transaction a.request ∙ l.id in
      ended-unbooked (s.runs i).transaction sound
      (stands-ever is_ending (s.runs i).transaction a.stands
      (record { action = t.1; is = t.3 ∙ ap (λ (x : Bits128). verdict.Of x t.1) id; kind = cancels-ends t.2 }))
      (booked-ever s v copies numbers b).1

  -- not lodged by the journal: its upload was cancelled or dropped, and is never booked
  never-booked : (i : ℕ) → NeverBooked v.bank.calls (s.runs i).transaction → Booked s i → ⊥
  never-booked i n b =
      never (sym (n.unbooked []) ∙ ap (λ (p : bank.Past). ever is_booking (s.runs i).transaction p.history) (sym v.bank.since)
      ∙ (booked-ever s v copies numbers b).1)

  -- "'not lodged' means never booked"
  pub not-lodged-unbooked : (i : ℕ) → (s.runs i).stage ≡ stage.Ended NotLodged → Booked s i → ⊥
  not-lodged-unbooked i z = at (v.runs i).word
    where
      at : Judged v.bank.calls v.bank.past.history (s.runs i) (v.runs i).left → Booked s i → ⊥
      at (as-left y) = own-unbooked i (not-lodged (Gave h) (file_in h) replies (own_past v i) (v.runs i).own (y ∙ z)).1
      at (lodged-by y e k) = absurd (let x : ◌≡◌ {A = ℕ} 0 1 = cc in omega arith)
      at (ended_by y e k) = never-booked i k

  -- "a fetched file is the mailbox's file at its transaction's opening"
  pub fetched-box : (i : ℕ) → (s.runs i).stage ≡ stage.Ended Fetched → (e : Exchange) × Opened forms.DownloadOpened s i e
      × (subscriber (read_request e.request) ≡ (s.runs i).subscriber) × (held_of (s.runs i) (s.files i) ≡ e.box)
  unfolding held_of
  fetched-box i e =
      let z = fetched-left (v.runs i).word in
      let k = (fetched (Gave h) (file_in h) replies (own_past v i) (v.runs i).own z).1.held in
      let a = k.got.given in
      let c = copied-reply k.got.own a in
      let d = download-opened sound a.stands (ap form a.reply ∙ k.got.answered) in
      let id : transaction a.exchange.reply ≡ (s.runs i).transaction = ap transaction a.reply ∙ k.id in (
        c.exchange,
        opened-by k.got k.id,
        ap subscriber (c.same.request ∙ a.request)
            ∙ one-subscriber (Gave h) (file_in h) replies (own_past v i) (v.runs i).own k.got.issue k.got.own,
        fetched-file (Gave h) (file_in h) replies (own_past v i) (v.runs i).own z
            ∙ opening-at (λ (x : bank.Exchange). x.file) [] sound a.stands
            (record {
              action = _;
              is = d.0 ∙ ap (λ (x : Bits128). verdict.Of x
                  (action.Download (down.Opened (segments a.exchange.reply)))) id;
              opening = refl;
            })
            ∙ sym c.same.box,
      )
    where
      fetched-left : Judged v.bank.calls v.bank.past.history (s.runs i) (v.runs i).left → (v.runs i).left ≡ stage.Ended Fetched
      fetched-left (as-left y) = y ∙ e
      fetched-left (lodged-by y f k) = absurd (let x : ◌≡◌ {A = ℕ} 0 1 = cc in omega arith)
      fetched-left (ended_by y f k) = absurd (let x : ◌≡◌ {A = ℕ} 0 1 = cc in omega arith)

  -- ---- mailboxes

  -- a receipt answered 011000: its run's file as it issued it is the mailbox's as the bank answers
  pub emptied-held : (e : Exchange) → In e s.exchanged → return_code (read_reply e.reply) ≡ code_field code.DownloadPostprocessDone →
      (form (read_request e.request) ≡ forms.Receipt) × ((x : Issue) × In x s.issued × (x.frame ≡ e.request) × (x.file ≡ e.box))
  emptied-held e m z =
      let f = found v.bank.entries m in
      let d = (done-confirmed sound f.stands (proper-at v.bank.proper f.stands)
      (ap return_code (sym f.same.reply) ∙ z)).1.receipt in
      let t = transaction f.exchange.request in
      let g = sound-before sound f.stands in
      let o = download-in t g d.download.opened in
      let from : subscriber o.exchange.request ≡ subscriber (read_request e.request) =
      sym (opening-at (λ (x : bank.Exchange). subscriber x.request) 0 g o.stands o.opening)
      ∙ d.download.request.owner ∙ ap subscriber (sym f.same.request) in
      let asked : form (read_request e.request) ≡ forms.Receipt = ap form f.same.request ∙ d.asked in
      let c = copies e m (counts s v copies numbers e.request (ap is_named asked) (let y = o.low in omega arith)
      (let y = o.high in omega arith)) in
      let q : read_request c.1.0.frame ≡ read_request e.request = ap read_request c.1.3 in
      let r = receipt-issued (Gave h) (file_in h) replies (own_past v c.0) (v.runs c.0).own (as_issue c.1.0)
      (issued-in c.0 c.1.1 c.1.2) (ap form q ∙ asked) in
      let id : t ≡ (s.runs c.0).transaction = ap transaction (sym f.same.request ∙ sym q) ∙ receipt-id r in (
        asked,
        (
          c.1.0,
          c.1.1,
          c.1.3,
          r.file ∙ sym (ap (file_in h) id)
              ∙ sym (at_before (λ (x : bank.Exchange). x.file) [] t sound f.stands o) ∙ sym d.download.same ∙ sym f.same.box,
        ),
      )

  -- ---- recovery points

  -- so no request of a download run gets it
  no-point : UploadPoints s → (i : ℕ) (e : Exchange) → Received i e s → (s.runs i).direction ≡ Download →
      return_code (read_reply e.reply) ≡ code_field code.RecoverySync → ⊥
  no-point points i e (m, (x, n, own, same)) down z =
      let k = request-of i (issued-in i n own) in
      let q : read_request x.frame ≡ read_request e.request = ap read_request same in
      let u = ap subscriber q in
      let asked = points e m (counts s v copies numbers e.request (ap (λ (f : Fields). is_named (form f)) (sym q) ∙ k.0)
      (let y = k.1 in omega arith) (let y = k.2 in omega arith)) z in
      not-both (sender-uploads s v copies numbers (x, n, own, same) asked).run.direction down

  pub outcome : AllHeldWhole s → UploadPoints s → Outcome s
  outcome held points = record {
    no_point = no-point points;
    once = booked-once;
    sound = book-sound;
    whole = book-whole;
    single = book-single;
    place = book-place;
    apart = book-apart;
    lodged = lodged-booked;
    not_lodged = not-lodged-unbooked;
    fetched = fetched-box;
    mailbox = v.bank.mailboxes;
    emptied = λ e m z.
        let (asked, (x, n, same, whole, still)) = held e m z in
        (asked, (x, n, same, own-subscriber x n ∙ ap (λ (l : List ℕ). subscriber (read_request l)) same, whole, still));
  }
