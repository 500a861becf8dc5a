-- What a request leaves of the rest of what a session may hold, the clock and the drops done, and what it enters.
use Prim.Native.Nat.{ℕ, ◌+◌, ◌*◌, ◌^◌, ◌≤◌, ◌<◌}
use mathlib.Core.Bool.{Bool, true, false, not, cond}
use mathlib.Core.List.Memᴰ.{eq_of_singleton as in_one}
use mathlib.Core.List.Memᴰ.{not-nil as in-none}
use mathlib.Core.List.{
  List,
  [],
  ◌∷◌,
  Memᴰ as In,
}
use mathlib.Core.Path.{◌≡◌, refl, sym, ap, ◌∙◌, subst}
use native.Mathlib.Omega.{arith}
use lib.ListN.{length, get_or, set}
use borrow.Author.Tests.{le-leb}
use Rattle.frame_table.specs.declared.fields.Bits128.{Bits128}
use Rattle.frame_table.specs.declared.fields.Fields.{Fields}
use Rattle.frame_table.specs.declared.table.Form.{Form}
use Rattle.frame_table.specs.Names.{subscriber, nonce, timestamp, transaction, order_number, owner, form}
use Rattle.frame_table.specs.Table.{last_time, timestamp_tag, has, is_request_form, tags_of}
use Rattle.message.specs.declared.editions.Edition.{Edition}
use Rattle.message.specs.declared.editions.Edition.TheVariants as edition
use Rattle.message.specs.Editions.{edition_of, opening_form}
use Rattle.message.specs.Limits.{subscribers}
use Rattle.bank_state.specs.declared.clock.Ended.{Ended}
use Rattle.bank_state.specs.declared.state.Download.{Download}
use Rattle.bank_state.specs.declared.state.Place.{Place}
use Rattle.bank_state.specs.Clock.{end_downloads}
use Rattle.bank_state.specs.Limits.{place_count, nonce_count, series_limit}
use Rattle.bank_state.specs.Search.{is_free, is_open, is_booked, free_place, free_download, free_nonce}
use Rattle.bank_state.specs.State.{Nonce, BankState, bank_state, no_place, no_download, place_at, download_at, with_place, with_downloads, with_files}
use Rattle.bank_state.proofs.Drops.{each-end_downloads}
use Rattle.bank_state.proofs.Found.{upload-found}
use Rattle.bank_state.proofs.Rows.{first_passes}
use Rattle.signers.specs.Signers.{bit_count, has_bit, is_signer, with_signer, signer_count}
use Rattle.signers.proofs.Counts.{count-grows}
use Rattle.bank_verdicts.specs.declared.verdict.TransactionRequest.{TransactionRequest}
use Rattle.bank_verdicts.specs.declared.verdict.UploadAction.{UploadAction}
use Rattle.bank_verdicts.specs.declared.verdict.DownloadAction.{DownloadAction}
use Rattle.bank_verdicts.specs.declared.verdict.Action.TheVariants as action
use Rattle.bank_verdicts.specs.declared.verdict.Verdict.{Verdict}
use Rattle.bank_verdicts.specs.declared.verdict.Verdict.TheVariants as verdict
use Rattle.bank_verdicts.specs.Judgement.{transaction_of, opening_number, mailbox_segments, order_at, upload_at, download_of}
use Rattle.bank_verdicts.proofs.Signing.{order-found}
use Rattle.bank_verdicts.proofs.Sound.{
  Readable,
  Acceptable,
  Numbered,
  UploadSound,
  took,
  took_last,
  upload_point,
  abort,
  underrun,
  exceeded,
  DownloadSound,
  delivered,
  sent_again,
  download_point,
  cancelled,
  confirmed,
  declined,
}
use Rattle.bank_signing.specs.Signings.{sign}
use Rattle.bank_openings.specs.Openings.{remembered, counted, counted_upload, new_place, open_upload, new_download, open_download}
use Rattle.bank_uploads.specs.Uploads.{grown, booked, attempted}
use Rattle.journal.specs.declared.event.Entry.{Entry}
use Rattle.journal.specs.declared.event.Kind.{Kind}
use Rattle.journal.specs.declared.event.Kind.TheVariants as kind
use Rattle.bank_events.specs.Entries.{entry, is_event, signed_kind, order_in, action_entries}
use Rattle.bank_steps.specs.Steps.{upload_acts, download_acts, carry_out}
use Rattle.bank_admitted.specs.Session.{Words, NoncesApart, open_uploads, signers_given}
use Rattle.bank_steps.proofs.Cases.{
  ToUpload,
  ToDownload,
  Happens,
  unreadable,
  refused,
  opens_upload,
  opens_download,
  ToOrder,
  to_upload,
  to_download,
  signs,
}
use Rattle.bank_admitted.proofs.Held.{open-in-use}
use Rattle.bank_admitted.proofs.JournalKept.{EntryHolds}
use Rattle.bank_admitted.proofs.NoncesKept.{nonces-counted}
use Rattle.bank_admitted.proofs.Rows.{count_set, count-set-suc, each-set-all}
use Rattle.bank_admitted.proofs.Parts.{with_signers}
use Rattle.bank_admitted.proofs.PlaceChange.{changed_at}
use Rattle.bank_admitted.proofs.Signers.{given-set, given-more, open-not-booked, free-not-booked}

-- the halves of a transaction ID are numbers of eight bytes
abbrev pub PlaceNumbered : Place → Type 0
PlaceNumbered p = Words p.transaction

abbrev pub DownloadNumbered : Download → Type 0
DownloadNumbered e = Words e.transaction

pub free-numbered : PlaceNumbered no_place
free-numbered = record { high = omega arith; low = omega arith }

-- what is entered of an upload: a number of A000 to ZZZZ, and the transaction ID of an accepted opening
pub record OrderNamed (openings : ℕ) (p : Place) : Type 0 where
  pub ordered : p.number < series_limit
  pub counted : p.transaction.low < openings

-- what a request finds, the clock and the drops done
pub record Found (w : BankState) : Type 0 where
  pub rowed : length w.bank.places ≡ place_count
  pub remembered : length w.bank.nonces ≡ nonce_count
  pub nonces : NoncesApart w.bank.clock w.bank.nonces
  pub places : (i : ℕ) → PlaceNumbered (place_at w.bank i)
  pub downloads : (i : ℕ) → DownloadNumbered (download_at w.bank i)
  pub named : (i : ℕ) → i < place_count → is_free (place_at w.bank i).used ≡ false → OrderNamed w.bank.openings (place_at w.bank i)
  pub unsigned : (i : ℕ) → i < place_count → is_booked (place_at w.bank i).used ≡ false →
      (place_at w.bank i).signers ≡ 0

-- what it leaves with these entries
pub record Left (w v : BankState) (es : List Entry) : Type 0 where
  pub clock : v.bank.clock ≡ w.bank.clock
  pub more : w.bank.openings ≤ v.bank.openings
  pub nonces : NoncesApart v.bank.clock v.bank.nonces
  pub places : (i : ℕ) → PlaceNumbered (place_at v.bank i)
  pub downloads : (i : ℕ) → DownloadNumbered (download_at v.bank i)
  pub entries : (e : Entry) → In e es → EntryHolds v.bank.openings e
  -- an opening has room for two events, of which an open upload has had one, and a signer for one
  pub events : length es + open_uploads v.bank + (2 * w.bank.openings + signers_given w.bank.places)
      ≤ open_uploads w.bank + (2 * v.bank.openings + signers_given v.bank.places)

-- what the frame of an opening brings
pub record OpeningBrought (q : Fields) : Type 0 where
  pub nonce : Words (nonce q)
  pub timestamp : is_request_form (form q) ≡ true → has (tags_of (form q)) timestamp_tag ≡ true → timestamp q ≤ last_time

module _ (first : ℕ) (small : first < 2 ^ 64) (w : BankState) (f : Found w) (q : Fields) (d : List ℕ)
    (brought : OpeningBrought q) where
  -- nothing changed, nothing entered
  unchanged : Left w w []
  unchanged = record {
    clock = refl;
    more = omega arith;
    nonces = f.nonces;
    places = f.places;
    downloads = f.downloads;
    entries = λ e i. absurd (in-none i);
    events = omega arith;
  }

  -- an event of the upload in the place p
  one_entry : (k : Kind) (s : ℕ) (p : Place) (openings : ℕ) → 1 ≤ s → s ≤ subscribers → PlaceNumbered p → OrderNamed openings p →
      is_event k ≡ true → (e : Entry) → In e (entry k s p.number p.transaction ∷ []) → EntryHolds openings e
  one_entry k s p openings known most words named h e i =
      subst (EntryHolds openings) (sym (in_one i))
      (record {
        known = known;
        most = most;
        typed = refl;
        ordered = named.ordered;
        lent = words.high;
        counted = named.counted;
        happened = h;
      })

  -- ---- an accepted opening

  module _ (a : Readable q (length d)) (g : Acceptable w.bank q) (timed : has (tags_of (form q)) timestamp_tag ≡ true) where
    abbrev t : Bits128
    t = transaction_of first w.bank

    new-words : Words t
    new-words = let n = g.numbers in record { high = small; low = omega arith }

    new-nonces : NoncesApart w.bank.clock (counted q w.bank).nonces
    new-nonces =
        nonces-counted w.bank q f.remembered g.unseen g.memory
        (record { words = brought.nonce; ahead = g.ahead; last = brought.timestamp a.request timed }) f.nonces

    -- its order's number, chosen or the bank's own
    abbrev order : ℕ
    order = opening_number w.bank q

    upload-opened : free_place w.bank < place_count → Numbered w.bank q → Left w (bank_state (open_upload t order q w.bank) w.orders w.mailboxes)
        (entry kind.Opened (subscriber q) order t ∷ [])
    unfolding open_upload counted_upload counted free_place
    upload-opened inside own =
        let p = new_place t order w.bank.clock q in
        let m = count-set-suc (λ (r : Place). is_open r.used) w.bank.places (free_place w.bank) p in
        let n = f.rowed in
        let free = first_passes (λ (r : Place). is_free r.used) w.bank.places no_place (omega arith) in
        let none = f.unsigned (free_place w.bank) inside (free-not-booked (place_at w.bank (free_place w.bank)).used free) in
        let k = given-more w.bank.places (free_place w.bank) p no_place (omega arith) none in
        record {
          clock = refl;
          more = omega arith;
          nonces = new-nonces;
          places = each-set-all PlaceNumbered w.bank.places (free_place w.bank) p no_place new-words f.places;
          downloads = f.downloads;
          entries = one_entry kind.Opened (subscriber q) p (w.bank.openings + 1) a.known a.most new-words
              (record { ordered = own.below; counted = omega arith }) refl;
          events = omega arith;
        }

    download-opened : Left w (bank_state (open_download t q w.bank) w.orders w.mailboxes) []
    unfolding open_download counted
    download-opened = record {
      clock = refl;
      more = omega arith;
      nonces = new-nonces;
      places = f.places;
      downloads = each-set-all DownloadNumbered w.bank.downloads (free_download w.bank)
          (new_download t w.bank.clock q) no_download new-words f.downloads;
      entries = λ e i. absurd (in-none i);
      events = omega arith;
    }

  -- ---- a request to an open upload

  -- the place changed, with at most one event where it is not open any more
  place-left : (i : ℕ) → i < place_count → is_open (place_at w.bank i).used ≡ true → (p : Place) (orders : List ℕ)
      (es : List Entry) → PlaceNumbered p → length es + cond (is_open p.used) 1 0 ≤ 1 →
      ((e : Entry) → In e es → EntryHolds w.bank.openings e) →
      Left w (bank_state (with_place i p w.bank) orders w.mailboxes) es
  place-left i inside used p orders es new few entered =
      let h = f.rowed in
      let m = count_set (λ (r : Place). is_open r.used) w.bank.places i p no_place (omega arith) in
      let k = ap (λ (b : Bool). cond {A = ℕ} b 1 0) used in
      let none = f.unsigned i inside (open-not-booked (place_at w.bank i).used used) in
      let g = given-more w.bank.places i p no_place (omega arith) none in
      record {
        clock = refl;
        more = omega arith;
        nonces = f.nonces;
        places = each-set-all PlaceNumbered w.bank.places i p no_place new f.places;
        downloads = f.downloads;
        entries = entered;
        events = omega arith;
      }

  module _ (r : TransactionRequest) (a : UploadAction) (c : ToUpload w q d r a) where
    abbrev i : ℕ
    i = upload_at w.bank q

    abbrev p : Place
    p = place_at w.bank i

    used : is_open p.used ≡ true
    used = ap is_open (upload-found (subscriber q) (transaction q) p c.found).0

    still-few : (b : Bool) → length {A = Entry} [] + cond b 1 0 ≤ 1
    still-few true = omega arith
    still-few false = omega arith

    stays : (p' : Place) (orders : List ℕ) → PlaceNumbered p' →
        Left w (bank_state (with_place i p' w.bank) orders w.mailboxes) []
    stays p' orders new =
        place-left i c.inside used p' orders [] new (still-few (is_open p'.used)) (λ e m. absurd (in-none m))

    ends : (k : Kind) → is_event k ≡ true → (p' : Place) (orders : List ℕ) → is_open p'.used ≡ false → PlaceNumbered p' →
        Left w (bank_state (with_place i p' w.bank) orders w.mailboxes) (entry k (subscriber q) p.number p.transaction ∷ [])
    ends k h p' orders z new =
        place-left i c.inside used p' orders (entry k (subscriber q) p.number p.transaction ∷ []) new
        (let y = ap (λ (b : Bool). cond {A = ℕ} b 1 0) z in omega arith)
        (one_entry k (subscriber q) p w.bank.openings c.readable.known c.readable.most (f.places i)
        (f.named i c.inside (open-in-use p.used used)) h)

    upload-left : {b : UploadAction} → UploadSound r p q b →
        Left w (upload_acts b p.transaction w q d)
        (action_entries (verdict.Of p.transaction (action.Upload b))
        (order_in (verdict.Of p.transaction (action.Upload b)) w.bank q) q)
    unfolding action_entries grown booked attempted
    upload-left (took y below early) = stays (grown w.bank.clock (length d) p) _ (f.places i)
    upload-left (took_last y last mark) = ends kind.Booked refl (booked (length d) p) _ refl (f.places i)
    upload-left (upload_point fits few) = stays (attempted p) _ (f.places i)
    upload-left (abort fits many) = ends kind.Cancelled refl no_place _ refl free-numbered
    upload-left (underrun y below mark) = ends kind.Cancelled refl no_place _ refl free-numbered
    upload-left (exceeded y last mark) = ends kind.Cancelled refl no_place _ refl free-numbered

  -- ---- a request to an open download

  downloads-left : (l : List Download) (files mailboxes : List ℕ) →
      ((i : ℕ) → DownloadNumbered (get_or l i no_download)) →
      Left w (bank_state (with_files files (with_downloads l w.bank)) w.orders mailboxes) []
  downloads-left l files mailboxes new = record {
    clock = refl;
    more = omega arith;
    nonces = f.nonces;
    places = f.places;
    downloads = new;
    entries = λ e i. absurd (in-none i);
    events = omega arith;
  }

  module _ (r : TransactionRequest) (a : DownloadAction) (c : ToDownload w q d r a) where
    abbrev j : ℕ
    j = download_of w.bank q

    changed : (e : Download) → e.transaction ≡ (download_at w.bank j).transaction → (i : ℕ) →
        DownloadNumbered (get_or (set w.bank.downloads j e) i no_download)
    changed e z = each-set-all DownloadNumbered w.bank.downloads j e no_download (subst Words (sym z) (f.downloads j)) f.downloads

    others : (which : Ended) (i : ℕ) → DownloadNumbered (get_or (end_downloads which w.bank.downloads) i no_download)
    others which =
        each-end_downloads DownloadNumbered (record { high = omega arith; low = omega arith }) which w.bank.downloads
        (λ i _ _. f.downloads i)

    download-left : {b : DownloadAction} (u : Bits128) → DownloadSound r (download_at w.bank j) (mailbox_segments (subscriber q) w.bank) q b →
        Left w (download_acts b u w q)
        (action_entries (verdict.Of u (action.Download b)) (order_in (verdict.Of u (action.Download b)) w.bank q) q)
    unfolding action_entries
    download-left u (delivered y next most) = downloads-left _ w.bank.files w.mailboxes (changed _ refl)
    download-left u (sent_again y some most few) = downloads-left _ w.bank.files w.mailboxes (changed _ refl)
    download-left u (download_point fits few) = downloads-left _ w.bank.files w.mailboxes (changed _ refl)
    download-left u (cancelled fits many) = downloads-left _ w.bank.files w.mailboxes (others _)
    download-left u (confirmed y last code) = downloads-left _ _ _ (others _)
    download-left u (declined y last code) = downloads-left _ w.bank.files w.mailboxes (others _)

  -- ---- a booked order signed

  -- its set of signers and the nonces changed, with at most one event for each signer more
  pub order-left : (i : ℕ) → i < place_count → (signers : ℕ) (nonces : List Nonce) (es : List Entry) →
      NoncesApart w.bank.clock nonces → length es + signer_count (place_at w.bank i).signers ≤ signer_count signers →
      ((e : Entry) → In e es → EntryHolds w.bank.openings e) →
      Left w (changed_at i (with_signers signers (place_at w.bank i)) w.bank.openings w.bank.series nonces w.orders w) es
  order-left i inside signers nonces es apart few entered =
      let h = f.rowed in
      let p = with_signers signers (place_at w.bank i) in
      let m = count_set (λ (r : Place). is_open r.used) w.bank.places i p no_place (omega arith) in
      let g = given-set w.bank.places i p no_place (omega arith) in
      record {
        clock = refl;
        more = omega arith;
        nonces = apart;
        places = each-set-all PlaceNumbered w.bank.places i p no_place (f.places i) f.places;
        downloads = f.downloads;
        entries = entered;
        events = omega arith;
      }

  module _ (c : ToOrder w q d) (timed : has (tags_of (form q)) timestamp_tag ≡ true) where
    abbrev at : ℕ
    at = order_at w.bank q

    abbrev signed_at : Place
    signed_at = place_at w.bank at

    order-named : OrderNamed w.bank.openings signed_at
    order-named = f.named at c.signable.inside (ap is_free (order-found (owner q) (order_number q) signed_at c.found).0)

    signed-nonces : NoncesApart w.bank.clock (remembered q w.bank).nonces
    unfolding counted
    signed-nonces =
        nonces-counted w.bank q f.remembered c.signable.unseen c.signable.memory
        (record {
          words = brought.nonce;
          ahead = c.signable.ahead;
          last = brought.timestamp c.readable.request timed;
        }) f.nonces

    has-bit : has_bit (subscriber q) ≡ true
    unfolding has_bit
    has-bit = rw (le-leb 1 (subscriber q) c.readable.known, le-leb (subscriber q) bit_count c.readable.most)

    signed_by_lem : (t : Bool) → is_signer (subscriber q) signed_at.signers ≡ t
        → Left w (bank_state (sign q w.bank) w.orders w.mailboxes)
        (cond (is_event (signed_kind (not t))) (entry (signed_kind (not t)) (owner q) signed_at.number signed_at.transaction ∷ []) [])
    unfolding sign free_nonce
    signed_by_lem true e =
        let g = count-grows (subscriber q) signed_at.signers has-bit in
        order-left at c.signable.inside (with_signer (subscriber q) signed_at.signers) _ [] signed-nonces
        (rw (g, e) (omega arith)) (λ x i. absurd (in-none i))
    signed_by_lem false e =
        let g = count-grows (subscriber q) signed_at.signers has-bit in
        order-left at c.signable.inside (with_signer (subscriber q) signed_at.signers) _
        (entry kind.Signed (owner q) signed_at.number signed_at.transaction ∷ []) signed-nonces (rw (g, e) (omega arith))
        (one_entry kind.Signed (owner q) signed_at w.bank.openings c.signable.known c.signable.most (f.places at)
        order-named refl)

  -- ---- every request

  timed-by : {x : Form} → form q ≡ x → has (tags_of x) timestamp_tag ≡ true → has (tags_of (form q)) timestamp_tag ≡ true
  timed-by e h = ap (λ (y : Form). has (tags_of y) timestamp_tag) e ∙ h

  opening-timed : (e : Edition) → has (tags_of (opening_form e)) timestamp_tag ≡ true
  opening-timed edition.V24 = refl
  opening-timed edition.V25 = refl

  pub request-left : {v : Verdict} → Happens first w q d v →
      Left w (carry_out v w q d) (action_entries v (order_in v w.bank q) q)
  unfolding action_entries
  request-left unreadable = unchanged
  request-left (refused c z) = unchanged
  request-left (opens_upload e a g n inside own) = upload-opened a g (timed-by e (opening-timed (edition_of q))) inside own
  request-left (opens_download e a g n) = download-opened a g (timed-by e refl)
  request-left (to_upload r a c) = upload-left r a c c.sound
  request-left (to_download r a c) = download-left r a c _ c.sound
  request-left (signs c) = signed_by_lem c (timed-by c.asked refl) _ refl
