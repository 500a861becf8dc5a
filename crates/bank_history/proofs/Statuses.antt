-- How each transaction stands by the history is how it stands in the bank: the open rows are those open by the history,
-- with their columns, after the clock's step, after each case of a request, and so after every list of calls.
use Prim.{tt}
use Prim.Native.Nat.{ℕ, ◌+◌, ◌<◌, max}
use mathlib.Core.Bool.{Bool, true, false, cond}
use mathlib.Core.List.{List, [], ◌∷◌}
use mathlib.Core.Path.{◌≡◌, refl, sym, ap, ◌∙◌, subst}
use native.Mathlib.Omega.{arith}
use lib.Dec.{eqb}
use lib.ListN.{length, get_or, set}
use lib.Seq.{get_or-set_same}
use borrow.Author.Tests.{ltb-false, not-true, eq-eqb}
use Rattle.frame_table.specs.declared.fields.Bits128.{Bits128}
use Rattle.frame_table.specs.declared.fields.Fields.{Fields}
use Rattle.frame_table.specs.Names.{subscriber, transaction, same_bits}
use Rattle.frame_table.proofs.Bits.{bits-same}
use Rattle.frame_reader.specs.Reader.{read_request}
use Rattle.frame_row.specs.Row.{data_of}
use Rattle.octets.proofs.Tests.{never, and-true, and-true-right}
use Rattle.message.proofs.Verdicts.{by-test, and-false}
use Rattle.bank_state.specs.declared.clock.Ended.{Ended}
use Rattle.bank_state.specs.declared.clock.Ended.TheVariants as ended
use Rattle.bank_state.specs.declared.state.Download.{Download}
use Rattle.bank_state.specs.declared.state.Place.{Place}
use Rattle.bank_state.specs.declared.state.Use.TheVariants as uses
use Rattle.bank_state.specs.Clock.{is_idle, ends, end_downloads, advanced}
use Rattle.bank_state.specs.Limits.{place_count, idle_limit}
use Rattle.bank_state.specs.Search.{is_free, is_open, is_download, free_place, free_download}
use Rattle.bank_state.specs.State.{BankState, no_place, no_download, fresh, place_at, download_at}
use Rattle.bank_state.proofs.Drops.{each-end_downloads}
use Rattle.bank_state.proofs.Found.{upload-found, download-found}
use Rattle.bank_openings.specs.Openings.{counted, counted_upload, open_upload, open_download}
use Rattle.message.specs.declared.directions.Direction.{Direction}
use Rattle.message.specs.declared.directions.Direction.TheVariants as direction
use Rattle.bank_verdicts.specs.declared.verdict.UploadAction.{UploadAction}
use Rattle.bank_verdicts.specs.declared.verdict.UploadAction.TheVariants as up
use Rattle.bank_verdicts.specs.declared.verdict.DownloadAction.{DownloadAction}
use Rattle.bank_verdicts.specs.declared.verdict.DownloadAction.TheVariants as down
use Rattle.bank_verdicts.specs.declared.verdict.Action.{Action}
use Rattle.bank_verdicts.specs.declared.verdict.Action.TheVariants as action
use Rattle.bank_verdicts.specs.declared.verdict.Verdict.{Verdict}
use Rattle.bank_verdicts.specs.declared.verdict.Verdict.TheVariants as verdict
use Rattle.bank_verdicts.specs.Judgement.{transaction_of, opening_number, mailbox_segments, upload_at, download_of, order_at, signed}
use Rattle.bank_signing.specs.Signings.{sign}
use Rattle.bank_uploads.specs.Uploads.{grown, booked, attempted, place_after}
use Rattle.bank_steps.specs.Steps.{on_upload, carry_out}
use Rattle.bank.specs.Call.{context_of, respond}
use Rattle.bank_history.specs.History.{Exchange, Past, BankCall, is_action, is_opening, did, exchange_of, start, past_of}
use Rattle.bank_admitted.specs.State.{Sizes}
use Rattle.bank_history.specs.Invariant.{Invariant}
use Rattle.bank_admitted.proofs.Files.{filled}
use Rattle.bank_history.specs.Status.{
  Status,
  NotOpened,
  Open,
  Booked,
  Fetched,
  Skipped,
  EndedByReceipt,
  Cancelled,
  Dropped,
  if_open,
  drop_idle,
  refreshed,
  is_download_of,
  upload_status,
  download_status,
  other_download,
  status_after,
  status,
  OpenAs,
  upload,
  download,
}
use Rattle.bank_history.proofs.GoesOn.{upload-goes-on, download-goes-on}
use Rattle.bank_steps.proofs.Cases.{
  Happens,
  unreadable,
  refused,
  opens_upload,
  opens_download,
  signs,
  to_upload,
  to_download,
  upload-acts,
  happens,
}
use Rattle.bank_admitted.proofs.Clock.{advanced-clock, each-advanced, each-download}
use Rattle.bank_history.proofs.Clock.{advanced-keeps}
use Rattle.bank_history.proofs.Counted.{open-used}
use Rattle.bank_history.proofs.Downloads.{download-open, downloads-other, places-other}
use Rattle.bank_history.proofs.Entries.{same_bits_lem, other-bits}
use Rattle.bank_history.proofs.Keeps.{past-holds}
use Rattle.bank_history.proofs.Liveness.{by_call}
use Rattle.bank_history.proofs.OpenUploads as uploads
use Rattle.bank_history.proofs.OpenDownloads as downloads
use Rattle.bank_admitted.proofs.Openings.{free-inside-open}
use Rattle.bank_admitted.proofs.Rows.{each_set, get_d-free}
use Rattle.bank_history.proofs.UploadRequests as own_upload
use Rattle.bank_history.proofs.DownloadRequests as own_download
use Rattle.bank_admitted.proofs.Held.{place-counted}
use Rattle.bank_history.proofs.Uploads.{entry, place_other, download-other}

-- what a status says of the bank: an open transaction is there
abbrev Shown : BankState → Bits128 → Status → Type 0
Shown w t NotOpened = Unit
Shown w t (Open d s last) = OpenAs w t d s last
Shown w t Booked = Unit
Shown w t Fetched = Unit
Shown w t Skipped = Unit
Shown w t EndedByReceipt = Unit
Shown w t Cancelled = Unit
Shown w t Dropped = Unit

abbrev is_confirmed : DownloadAction → Bool
is_confirmed (down.Opened n) = false
is_confirmed (down.Delivered n) = false
is_confirmed (down.SentAgain n) = false
is_confirmed (down.Point d) = false
is_confirmed down.Cancelled = false
is_confirmed down.Confirmed = true
is_confirmed down.Declined = false

-- the bank's open rows and how transactions stand
pub record Told (w : BankState) (σ : Bits128 → Status) : Type 0 where
  pub places : (i : ℕ) → i < place_count → is_open (place_at w.bank i).used ≡ true →
      σ (place_at w.bank i).transaction ≡ Open direction.Upload (place_at w.bank i).subscriber
      (place_at w.bank i).last
  pub downloads : (j : ℕ) → (download_at w.bank j).used ≡ true →
      σ (download_at w.bank j).transaction ≡ Open direction.Download (download_at w.bank j).subscriber
      (download_at w.bank j).last
  pub shown : (t : Bits128) → Shown w t (σ t)

-- open by the history is open in the bank, and open in the bank is open by the history
pub open-shown : {w : BankState} {σ : Bits128 → Status} {t : Bits128} {d : Direction} {s last : ℕ} → Told w σ →
    σ t ≡ Open d s last →
    OpenAs w t d s last
open-shown {w} {σ} {t} told z = subst (Shown w t) z (told.shown t)

pub open_told : {w : BankState} {σ : Bits128 → Status} {t : Bits128} {d : Direction} {s last : ℕ} → Told w σ →
    OpenAs w t d s last →
    σ t ≡ Open d s last
open_told {w} {σ} {t} told (upload {s = s} {last = last} u) =
    ap σ (sym u.transaction) ∙ (told.places u.place u.inside (ap is_open u.used)
    ∙ (ap (λ (m : ℕ). Open direction.Upload m (place_at w.bank u.place).last) u.subscriber
    ∙ ap (Open direction.Upload s) u.fitting))
open_told {w} {σ} {t} told (download {s = s} {last = last} u) =
    ap σ (sym u.transaction) ∙ (told.downloads u.row u.used
    ∙ (ap (λ (m : ℕ). Open direction.Download m (download_at w.bank u.row).last) u.subscriber
    ∙ ap (Open direction.Download s) u.fitting))

-- an open transaction goes on by f
if-shown : (w w' : BankState) (t : Bits128) (f : Direction → ℕ → ℕ → Status) (x : Status) → Shown w t x →
    ((d : Direction) (s last : ℕ) → OpenAs w t d s last → Shown w' t (f d s last)) → Shown w' t (if_open f x)
if-shown w w' t f NotOpened z k = tt
if-shown w w' t f (Open d s last) z k = k d s last z
if-shown w w' t f Booked z k = tt
if-shown w w' t f Fetched z k = tt
if-shown w w' t f Skipped z k = tt
if-shown w w' t f EndedByReceipt z k = tt
if-shown w w' t f Cancelled z k = tt
if-shown w w' t f Dropped z k = tt

-- it stays as it is
still-shown : (w w' : BankState) (t : Bits128) (x : Status) → Shown w t x →
    ((d : Direction) (s last : ℕ) → OpenAs w t d s last → OpenAs w' t d s last) → Shown w' t x
still-shown w w' t NotOpened z k = tt
still-shown w w' t (Open d s last) z k = k d s last z
still-shown w w' t Booked z k = tt
still-shown w w' t Fetched z k = tt
still-shown w w' t Skipped z k = tt
still-shown w w' t EndedByReceipt z k = tt
still-shown w w' t Cancelled z k = tt
still-shown w w' t Dropped z k = tt

-- ---- clock and drops

pub not-dropped : (c : ℕ) (d : Direction) (s last : ℕ) → is_idle c last ≡ false →
    drop_idle c (Open d s last) ≡ Open d s last
not-dropped c d s last z = ap (λ (b : Bool). cond b Dropped (Open d s last)) z

module _ (time : ℕ) (w : BankState) (sizes : Sizes w) where
  abbrev c : ℕ
  c = max w.bank.clock time

  pub open-advanced : {t : Bits128} {d : Direction} {s last : ℕ} → is_idle c last ≡ false → OpenAs w t d s last →
      OpenAs (advanced time w) t d s last
  unfolding is_idle
  open-advanced {t} z (upload {s = s} {k = k} {n = n} {last = last} u) =
      let m = ltb-false (last + idle_limit) c z in
      upload (uploads.advanced-open t s k n last time w sizes (λ _. u) (let l = advanced-clock time w in omega arith))
  open-advanced {t} z (download {s = s} {d = d} {last = last} u) =
      let m = ltb-false (last + idle_limit) c z in
      download (downloads.advanced-open t s d last time w sizes.downloads (λ _. u) (let l = advanced-clock time w in
      omega arith))

  pub advanced-told : (σ : Bits128 → Status) → Told w σ →
      Told (advanced time w) (λ (t : Bits128). drop_idle (advanced time w).bank.clock (σ t))
  advanced-told σ told =
      subst (λ (m : ℕ). Told (advanced time w) (λ (t : Bits128). drop_idle m (σ t))) (sym (advanced-clock time w))
      (record {
        places = each-advanced time w
            (λ (i : ℕ) (p : Place). i < place_count → is_open p.used ≡ true →
            drop_idle c (σ p.transaction) ≡ Open direction.Upload p.subscriber p.last)
            (λ i _ z. never z) sizes
            (λ i idle b o. ap (drop_idle c) (told.places i b o)
            ∙ not-dropped c _ _ _ (and-false (is_open (place_at w.bank i).used) _ idle o));
        downloads = each-download time w
            (λ (e : Download). e.used ≡ true →
            drop_idle c (σ e.transaction) ≡ Open direction.Download e.subscriber e.last)
            (λ z. never z) (λ j idle u. ap (drop_idle c) (told.downloads j u) ∙ not-dropped c _ _ _ idle);
        shown = λ t. if-shown w (advanced time w) t
            (λ (d : Direction) (s last : ℕ). cond (is_idle c last) Dropped (Open d s last)) (σ t)
            (told.shown t)
            (λ d s last o. by-test (Shown (advanced time w) t) (is_idle c last) (λ _. tt) (λ z. open-advanced z o));
      })

-- ---- a request

module _ (w : BankState) (h : List Exchange) (v : Invariant w h) (σ : Bits128 → Status) (told : Told w σ) (q : Fields)
    (d : List ℕ) where
  -- how t stands then
  abbrev then : Verdict → Bits128 → Status
  then u t = status_after t u (entry u w q d) (σ t)

  abbrev PlaceTold : (Bits128 → Status) → Place → Type 0
  PlaceTold ρ p = is_open p.used ≡ true → ρ p.transaction ≡ Open direction.Upload p.subscriber p.last

  abbrev DownloadTold : (Bits128 → Status) → Download → Type 0
  DownloadTold ρ e = e.used ≡ true → ρ e.transaction ≡ Open direction.Download e.subscriber e.last

  -- one place changed, one record changed
  place_set : (ρ : Bits128 → Status) (i : ℕ) (p : Place) → i < place_count → PlaceTold ρ p →
      ((j : ℕ) → (j ≡ i → ⊥) → j < place_count → PlaceTold ρ (place_at w.bank j)) → (j : ℕ) → j < place_count →
      PlaceTold ρ (get_or (set w.bank.places i p) j no_place)
  place_set ρ i p inside new others =
      each_set w.bank.places i p no_place (let l = v.state.sizes.places in omega arith)
      (λ (j : ℕ) (r : Place). j < place_count → PlaceTold ρ r) (λ _. new) others

  download-set : (ρ : Bits128 → Status) (i : ℕ) (e : Download) → i < length w.bank.downloads → DownloadTold ρ e →
      ((j : ℕ) → (j ≡ i → ⊥) → DownloadTold ρ (download_at w.bank j)) → (j : ℕ) →
      DownloadTold ρ (get_or (set w.bank.downloads i e) j no_download)
  download-set ρ i e inside new others =
      each_set w.bank.downloads i e no_download inside (λ (j : ℕ) (r : Download). DownloadTold ρ r) new others

  -- a transaction that the request is not to, and whose mailbox it does not empty, stays open
  open-other : {u : Verdict} {first : ℕ} (t : Bits128) → Happens first w q d u → did is_action t u ≡ false →
      (g : Direction) (s last : ℕ) →
      ((id : Bits128) → u ≡ verdict.Of id (action.Download down.Confirmed) → is_download_of g s (subscriber q) ≡ false) →
      OpenAs w t g s last → OpenAs (carry_out u w q d) t g s last
  open-other {u} {first} t c f g s last n (upload {k = k} {n = m} o) =
      upload (uploads.case_open t s k m last w h v o first q d c f)
  open-other {u} {first} t c f g s last n (download {d = e} o) =
      download (downloads.case_open t s e last w h v o first q d c f
      (λ id z y. never (sym (n id z) ∙ eq-eqb s (subscriber q) (sym y))))

  -- ---- an opening: its number is new

  module _ (t : Bits128) (k : Action) (numbered : t.low ≡ w.bank.openings) (unchanged : (u : Bits128) →
      same_bits u t ≡ false →
      then (verdict.Of t k) u ≡ σ u) where
    elsewhere : (u : Bits128) → u.low < w.bank.openings → then (verdict.Of t k) u ≡ σ u
    elsewhere u l = unchanged u (other-bits u t (λ z. omega arith))

    old-place : (j : ℕ) → j < place_count → PlaceTold (then (verdict.Of t k)) (place_at w.bank j)
    old-place j b z = elsewhere _ (place-counted w v.state j b (open-used (place_at w.bank j).used z))
        ∙ told.places j b z

    old-download : (j : ℕ) → DownloadTold (then (verdict.Of t k)) (download_at w.bank j)
    old-download j z = elsewhere _ (download-open w h v j z).0.counted ∙ told.downloads j z

  -- a row of the bank w' that is in use is an open transaction
  place-open : (w' : BankState) (i : ℕ) (p : Place) → i < place_count → place_at w'.bank i ≡ p → p.used ≡ uses.Open →
      OpenAs w' p.transaction direction.Upload p.subscriber p.last
  place-open w' i p inside is used = upload (record {
    place = i;
    inside = inside;
    used = ap (λ (r : Place). r.used) is ∙ used;
    transaction = ap (λ (r : Place). r.transaction) is;
    subscriber = ap (λ (r : Place). r.subscriber) is;
    taken = refl;
    segments = refl;
    fitting = ap (λ (r : Place). r.last) is;
  })

  record-open : (w' : BankState) (j : ℕ) (e : Download) → j < place_count → download_at w'.bank j ≡ e →
      e.used ≡ true →
      OpenAs w' e.transaction direction.Download e.subscriber e.last
  record-open w' j e inside is used = download (record {
    row = j;
    inside = inside;
    used = ap (λ (r : Download). r.used) is ∙ used;
    transaction = ap (λ (r : Download). r.transaction) is;
    subscriber = ap (λ (r : Download). r.subscriber) is;
    delivered = refl;
    fitting = ap (λ (r : Download). r.last) is;
  })

  no-action : (t u : Bits128) (k : Action) → same_bits t u ≡ false → did is_action t (verdict.Of u k) ≡ false
  no-action t u k z = sym (and-true-right (same_bits t u)) ∙ z

  not_same : (t u : Bits128) (k : Action) → did is_action t (verdict.Of u k) ≡ false → same_bits t u ≡ false
  not_same t u k z = and-true-right (same_bits t u) ∙ z

  -- the transaction of the verdict, and the others
  shown_by : (u : Bits128) (k : Action) (w' : BankState) → Shown w' u (then (verdict.Of u k) u) →
      ((t : Bits128) → same_bits t u ≡ false → Shown w' t (then (verdict.Of u k) t)) → (t : Bits128) →
      Shown w' t (then (verdict.Of u k) t)
  shown_by u k w' own others t = at (same_bits t u) refl
    where
      at : (b : Bool) → same_bits t u ≡ b → Shown w' t (then (verdict.Of u k) t)
      at true e = subst (λ (i : Bits128). Shown w' i (then (verdict.Of u k) i)) (sym (bits-same t u e)) own
      at false e = others t e

  -- ---- a request to the open upload in place i

  module _ (i : ℕ) (inside : i < place_count) (used : (place_at w.bank i).used ≡ uses.Open) where
    abbrev p : Place
    p = place_at w.bank i

    abbrev by : UploadAction → Verdict
    by a = verdict.Of p.transaction (action.Upload a)

    p-told : σ p.transaction ≡ Open direction.Upload p.subscriber p.last
    p-told = told.places i inside (ap is_open used)

    own-status : (a : UploadAction) →
        then (by a) p.transaction ≡ upload_status a (entry (by a) w q d) (σ p.transaction)
    own-status a = rw (same_bits_lem p.transaction)

    after-told : (a : UploadAction) → is_opening (action.Upload a) ≡ false →
        PlaceTold (then (by a)) (place_after a w.bank.clock (length d) p)
    unfolding grown booked attempted
    after-told (up.Opened m) o = never (sym o)
    after-told up.Took o = λ _. own-status up.Took ∙ ap (refreshed w.bank.clock) p-told
    after-told up.TookLast o = λ z. never z
    after-told (up.Point k) o = λ _. own-status (up.Point k) ∙ p-told
    after-told (up.Cancelled e) o = λ z. never z

    is-after : (a : UploadAction) → place_at (on_upload a i w d).bank i ≡ place_after a w.bank.clock (length d) p
    is-after a = get_or-set_same w.bank.places i _ no_place (let l = v.state.sizes.places in omega arith)

    own-shown : (a : UploadAction) → is_opening (action.Upload a) ≡ false →
        Shown (on_upload a i w d) p.transaction (upload_status a (entry (by a) w q d) (σ p.transaction))
    unfolding grown attempted
    own-shown (up.Opened m) o = never (sym o)
    own-shown up.Took o =
        subst (λ (y : Status). Shown (on_upload up.Took i w d) p.transaction (refreshed w.bank.clock y))
        (sym p-told)
        (place-open (on_upload up.Took i w d) i _ inside (is-after up.Took) used)
    own-shown up.TookLast o = tt
    own-shown (up.Point k) o =
        subst (Shown (on_upload (up.Point k) i w d) p.transaction) (sym p-told)
        (place-open (on_upload (up.Point k) i w d) i _ inside (is-after (up.Point k)) used)
    own-shown (up.Cancelled e) o = tt

    upload-told : (a : UploadAction) → is_opening (action.Upload a) ≡ false →
        ((t : Bits128) → did is_action t (by a) ≡ false → (g : Direction) (s last : ℕ) → OpenAs w t g s last →
        OpenAs (on_upload a i w d) t g s last) →
        Told (on_upload a i w d) (then (by a))
    upload-told a o stays = record {
      places = place_set (then (by a)) i _ inside (after-told a o)
          (λ j n b z. rw (not_same _ _ (action.Upload a)
          (place_other w h v i j (action.Upload a) inside b n (ap is_free used)
          (open-used (place_at w.bank j).used z))) (told.places j b z));
      downloads = λ j z. rw (not_same _ _ (action.Upload a)
          (download-other w h v i j (action.Upload a) inside (ap is_free used) z)) (told.downloads j z);
      shown = shown_by p.transaction (action.Upload a) (on_upload a i w d)
          (subst (Shown (on_upload a i w d) p.transaction) (sym (own-status a)) (own-shown a o))
          (λ t z. rw z (still-shown w (on_upload a i w d) t (σ t) (told.shown t)
          (stays t (no-action t p.transaction (action.Upload a) z))));
    }

  -- ---- a request to the open download of record j

  module _ (inside : download_of w.bank q < place_count)
      (found : is_download (subscriber q) (transaction q) (download_at w.bank (download_of w.bank q)) ≡ true) where
    abbrev j : ℕ
    j = download_of w.bank q

    abbrev e : Download
    e = download_at w.bank j

    abbrev at : DownloadAction → Verdict
    at a = verdict.Of e.transaction (action.Download a)

    used : e.used ≡ true
    used = (download-found (subscriber q) (transaction q) e found).0

    e-told : σ e.transaction ≡ Open direction.Download e.subscriber e.last
    e-told = told.downloads j used

    own-record : (a : DownloadAction) →
        then (at a) e.transaction ≡ download_status a (entry (at a) w q d) (σ e.transaction)
    own-record a = rw (same_bits_lem e.transaction)

    -- what is open and is not ended by the receipt
    other-open : (a : DownloadAction) (g : Direction) (s last : ℕ) →
        (a ≡ down.Confirmed → is_download_of g s (subscriber q) ≡ false) →
        other_download a (entry (at a) w q d) (Open g s last) ≡ Open g s last
    other-open (down.Opened m) g s last n = refl
    other-open (down.Delivered m) g s last n = refl
    other-open (down.SentAgain m) g s last n = refl
    other-open (down.Point m) g s last n = refl
    other-open down.Cancelled g s last n = refl
    other-open down.Confirmed g s last n = ap (λ (b : Bool). cond b EndedByReceipt (Open g s last)) (n refl)
    other-open down.Declined g s last n = refl

    other-told : (a : DownloadAction) (u : Bits128) (g : Direction) (s last : ℕ) →
        did is_action u (at a) ≡ false → σ u ≡ Open g s last →
        (a ≡ down.Confirmed → is_download_of g s (subscriber q) ≡ false) →
        then (at a) u ≡ Open g s last
    other-told a u g s last none z n =
        rw (not_same u e.transaction (action.Download a) none) (ap (other_download a (entry (at a) w q d)) z
        ∙ other-open a g s last n)

    places-stay : (a : DownloadAction) (i : ℕ) → i < place_count → PlaceTold (then (at a)) (place_at w.bank i)
    places-stay a i b z =
        other-told a _ _ _ _
        (places-other w h v i j (action.Download a) b (open-used (place_at w.bank i).used z) used)
        (told.places i b z)
        (λ _. refl)

    -- the record moved on
    moved_told : (a : DownloadAction) (r : Download) → (a ≡ down.Confirmed → ⊥) → DownloadTold (then (at a)) r →
        (i : ℕ) →
        DownloadTold (then (at a)) (get_or (set w.bank.downloads j r) i no_download)
    moved_told a r n new =
        download-set (then (at a)) j r (let l = v.state.sizes.downloads in omega arith) new
        (λ i o z. other-told a _ _ _ _ (downloads-other w h v j i (action.Download a) used z o) (told.downloads i z)
        (λ y. absurd (n y)))

    moved-shown : (r : Download) (w' : BankState) → w'.bank.downloads ≡ set w.bank.downloads j r →
        r.used ≡ true →
        OpenAs w' r.transaction direction.Download r.subscriber r.last
    moved-shown r w' same o =
        record-open w' j r inside
        (ap (λ (l : List Download). get_or l j no_download) same
        ∙ get_or-set_same w.bank.downloads j r no_download (let l = v.state.sizes.downloads in omega arith)) o

    -- the records that stay where the record j and perhaps others end
    ended-told : (a : DownloadAction) (which : Ended) → ends which e ≡ true →
        ((r : Download) → ends which r ≡ false → a ≡ down.Confirmed → eqb r.subscriber (subscriber q) ≡ false) →
        (i : ℕ) →
        DownloadTold (then (at a)) (get_or (end_downloads which w.bank.downloads) i no_download)
    ended-told a which gone n =
        each-end_downloads (DownloadTold (then (at a))) (λ z. never z) which w.bank.downloads
        (λ i _ stays z.
        let m = not-true _ (and-true (download_at w.bank i).used _ stays).1 in
        other-told a _ _ _ _
        (downloads-other w h v j i (action.Download a) used z
        (λ y. never (sym m ∙ (ap (λ (l : ℕ). ends which (download_at w.bank l)) y ∙ gone))))
        (told.downloads i z) (n (download_at w.bank i) m))

    -- the others, where none of them ends
    others-shown : {first : ℕ} (a : DownloadAction) → (a ≡ down.Confirmed → ⊥) → Happens first w q d (at a) →
        (t : Bits128) →
        did is_action t (at a) ≡ false → Shown (carry_out (at a) w q d) t (σ t)
    others-shown a n c t f =
        still-shown w (carry_out (at a) w q d) t (σ t) (told.shown t)
        (λ g s last. open-other t c f g s last (λ id z. absurd (n cc)))

    not-confirmed : (a : DownloadAction) → is_confirmed a ≡ false → a ≡ down.Confirmed → ⊥
    not-confirmed a n z = never (sym n ∙ ap is_confirmed z)

    -- it moves on, or is as it was but for an attempt
    stay-told : {first : ℕ} (a : DownloadAction) (r : Download) → is_confirmed a ≡ false → Happens first w q d (at a) →
        (carry_out (at a) w q d).bank.downloads ≡ set w.bank.downloads j r →
        (carry_out (at a) w q d).bank.places ≡ w.bank.places →
        r.used ≡ true → r.transaction ≡ e.transaction →
        then (at a) e.transaction ≡ Open direction.Download r.subscriber r.last →
        ((x : Status) → other_download a (entry (at a) w q d) x ≡ x) → Told (carry_out (at a) w q d) (then (at a))
    stay-told a r n c rows kept o same now still = record {
      places = λ i b. subst (λ (l : List Place). PlaceTold (then (at a)) (get_or l i no_place)) (sym kept)
          (places-stay a i b);
      downloads = λ i. subst (λ (l : List Download). DownloadTold (then (at a)) (get_or l i no_download)) (sym rows)
          (moved_told a r (not-confirmed a n) (λ _. ap (then (at a)) same ∙ now) i);
      shown = shown_by e.transaction (action.Download a) (carry_out (at a) w q d)
          (subst (Shown (carry_out (at a) w q d) e.transaction) (sym now)
          (subst (λ (i : Bits128). OpenAs (carry_out (at a) w q d) i direction.Download r.subscriber r.last) same
          (moved-shown r (carry_out (at a) w q d) rows o)))
          (λ t z. rw z (subst (Shown (carry_out (at a) w q d) t) (sym (still (σ t)))
          (others-shown a (not-confirmed a n) c t (no-action t e.transaction (action.Download a) z))));
    }

    download-told : {first : ℕ} (a : DownloadAction) → is_opening (action.Download a) ≡ false →
        Happens first w q d (at a) →
        Told (carry_out (at a) w q d) (then (at a))
    unfolding ends
    download-told (down.Opened m) o c = never (sym o)
    download-told (down.Delivered m) o c =
        stay-told (down.Delivered m) _ refl c refl refl used refl
        (own-record (down.Delivered m) ∙ ap (refreshed w.bank.clock) e-told) (λ x. refl)
    download-told (down.SentAgain m) o c =
        stay-told (down.SentAgain m) _ refl c refl refl used refl (own-record (down.SentAgain m) ∙ e-told) (λ x. refl)
    download-told (down.Point m) o c =
        stay-told (down.Point m) _ refl c refl refl used refl (own-record (down.Point m) ∙ e-told) (λ x. refl)
    download-told down.Cancelled o c = record {
      places = places-stay down.Cancelled;
      downloads = ended-told down.Cancelled (ended.Transaction (subscriber q) (transaction q)) found
          (λ r m y. absurd (not-confirmed down.Cancelled refl y));
      shown = shown_by e.transaction (action.Download down.Cancelled) _ (rw (same_bits_lem e.transaction) tt)
          (λ t z. rw z (others-shown down.Cancelled (not-confirmed down.Cancelled refl) c t
          (no-action t e.transaction (action.Download down.Cancelled) z)));
    }
    download-told down.Confirmed o c = record {
      places = places-stay down.Confirmed;
      downloads = ended-told down.Confirmed (ended.Mailbox (subscriber q))
          (eq-eqb e.subscriber (subscriber q) (download-found (subscriber q) (transaction q) e found).1)
          (λ r m y. m);
      shown = shown_by e.transaction (action.Download down.Confirmed) _ (rw (same_bits_lem e.transaction) tt)
          (λ t z. rw z (if-shown w (carry_out (at down.Confirmed) w q d) t
          (λ (g : Direction) (s last : ℕ). cond (is_download_of g s (subscriber q)) EndedByReceipt (Open g s last)) (σ t)
          (told.shown t)
          (λ g s last k. by-test (Shown (carry_out (at down.Confirmed) w q d) t) (is_download_of g s (subscriber q))
          (λ _. tt)
          (λ y. open-other t c (no-action t e.transaction (action.Download down.Confirmed) z) g s last
          (λ id x. y) k))));
    }
    download-told down.Declined o c = record {
      places = places-stay down.Declined;
      downloads = ended-told down.Declined (ended.Transaction (subscriber q) (transaction q)) found
          (λ r m y. absurd (not-confirmed down.Declined refl y));
      shown = shown_by e.transaction (action.Download down.Declined) _ (rw (same_bits_lem e.transaction) tt)
          (λ t z. rw z (others-shown down.Declined (not-confirmed down.Declined refl) c t
          (no-action t e.transaction (action.Download down.Declined) z)));
    }

  -- every case of a request
  case-told : {first : ℕ} {u : Verdict} → Happens first w q d u → Told (carry_out u w q d) (then u)
  unfolding open_upload counted_upload open_download counted sign
  case-told unreadable = told
  case-told (refused r z) = told
  case-told {first} (opens_upload asked a g n inside below) =
      let t = transaction_of first w.bank in
      let k = action.Upload (up.Opened (opening_number w.bank q)) in
      let w' = carry_out (verdict.Of t k) w q d in
      let own : then (verdict.Of t k) t ≡ Open direction.Upload (subscriber q) w.bank.clock = rw (same_bits_lem t) in
      record {
        places = place_set (then (verdict.Of t k)) (free_place w.bank) _ inside (λ _. own)
            (λ j _ b. old-place t k refl (λ u z. rw z) j b);
        downloads = old-download t k refl (λ u z. rw z);
        shown = shown_by t k w'
            (subst (Shown w' t) (sym own)
            (upload (own_upload.opened-open first w h v q d t (opening_number w.bank q)
            (opens_upload asked a g n inside below) refl)))
            (λ u z. rw z (still-shown w w' u (σ u) (told.shown u)
            (λ f s last. open-other u (opens_upload asked a g n inside below) (no-action u t k z) f s last
            (λ id y. absurd (let x : ◌≡◌ {A = ℕ} 0 1 = cc in omega arith)))));
      }
  case-told {first} (opens_download asked a g n) =
      let t = transaction_of first w.bank in
      let k = action.Download (down.Opened (mailbox_segments (subscriber q) w.bank)) in
      let w' = carry_out (verdict.Of t k) w q d in
      let own : then (verdict.Of t k) t ≡ Open direction.Download (subscriber q) w.bank.clock = rw (same_bits_lem t) in
      record {
        places = old-place t k refl (λ u z. rw z);
        downloads = download-set (then (verdict.Of t k)) (free_download w.bank) _
            (free-inside-open w.bank v.state.sizes.downloads g.of_all) (λ _. own)
            (λ j _. old-download t k refl (λ u z. rw z) j);
        shown = shown_by t k w'
            (subst (Shown w' t) (sym own)
            (download (own_download.opened-open first w h v q d t _ (opens_download asked a g n) refl)))
            (λ u z. rw z (still-shown w w' u (σ u) (told.shown u)
            (λ f s last. open-other u (opens_download asked a g n) (no-action u t k z) f s last
            (λ id y. absurd (let x : ◌≡◌ {A = ℕ} 0 1 = cc in omega arith)))));
      }
  case-told {first} (to_upload r a s) =
      let i = upload_at w.bank q in
      let t = (place_at w.bank i).transaction in
      let same = upload-acts t s in
      subst (λ (z : BankState). Told z (then (verdict.Of t (action.Upload a)))) (sym same)
      (upload-told i s.inside (upload-found (subscriber q) (transaction q) (place_at w.bank i) s.found).0 a
      (upload-goes-on s.sound)
      (λ u f g y last o. subst (λ (z : BankState). OpenAs z u g y last) same
      (open-other {first = first} u (to_upload r a s) f g y last (λ id z. absurd (let x : ◌≡◌ {A = ℕ} 0 1 = cc in
      omega arith)) o)))
  case-told {first} (to_download r a s) =
      download-told s.inside s.found {first = first} a (download-goes-on s.sound) (to_download r a s)
  case-told {first} (signs s) =
      let i = order_at w.bank q in
      record {
        places = place_set σ i _ s.signable.inside (told.places i s.signable.inside) (λ j _ b. told.places j b);
        downloads = told.downloads;
        shown = λ t. still-shown w (carry_out (signed w.bank q) w q d) t (σ t) (told.shown t)
            (λ g y last. open-other {first = first} t (signs s) refl g y last
            (λ id z. absurd (let x : ◌≡◌ {A = ℕ} 0 1 = cc in omega arith)));
      }

-- ---- after every list of calls

open-filled : (m : ℕ) (f : List ℕ) (w : BankState) {t : Bits128} {d : Direction} {s last : ℕ} → OpenAs w t d s last →
    OpenAs (filled m f w) t d s last
open-filled m f w (upload u) = upload (uploads.upload-moved u refl)
open-filled m f w (download u) = download (downloads.record-moved u u.row u.inside refl)

start-told : Told start.bank_state (λ (t : Bits128). status t start.history)
unfolding start fresh status
start-told = record {
  places = λ i b z. never (sym (ap (λ (p : Place). is_open p.used) (get_d-free no_place place_count i)) ∙ z);
  downloads = λ j z. never (sym (ap (λ (e : Download). e.used) (get_d-free no_download place_count j)) ∙ z);
  shown = λ t. tt;
}

pub past-told : (calls : List BankCall) →
    Told (past_of calls).bank_state (λ (t : Bits128). status t (past_of calls).history)
unfolding past_of exchange_of respond status
past-told [] = start-told
past-told (call ∷ calls) =
    let p = past_of calls in
    let holds = past-holds calls in
    let c = past-told calls in
    by_call (λ (r : Past). Told r.bank_state (λ (t : Bits128). status t r.history)) call p holds c
    (λ a e z.
    let w = advanced a.time p.bank_state in
    let v = advanced-keeps a.time p.bank_state p.history holds.invariant in
    case-told w p.history v _ (advanced-told a.time p.bank_state holds.invariant.state.sizes _ c)
    (read_request a.frame) (data_of a.frame)
    (happens (context_of a) w (read_request a.frame) (data_of a.frame) v.state.sizes.places
    v.state.sizes.downloads))
    (λ m f e. record {
      places = c.places;
      downloads = c.downloads;
      shown = λ t. still-shown p.bank_state (filled m f p.bank_state) t (status t p.history) (c.shown t)
          (λ d s last o. open-filled m f p.bank_state o);
    })
