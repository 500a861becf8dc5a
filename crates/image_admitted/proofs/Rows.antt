-- A session's numbers show the bank and the journal that its rows are; the conditions on records not in use are the
-- wiped rows. Assumes nothing.
use Prim.Native.Nat.{ℕ, ◌+◌, ◌*◌, ◌≤◌, ◌<◌}
use mathlib.Core.Bool.{Bool, true, false}
use mathlib.Core.List.{List}
use mathlib.Core.Path.{◌≡◌, refl, sym, ap, ◌∙◌}
use native.Mathlib.Omega.{arith}
use lib.Dec.{leb, ltb}
use lib.ListN.{length, get_or}
use lib.Seq.{get_or-take, length-take-le}
use borrow.Author.Tests.{leb-true, le-leb, ltb-true, ltb-false}
use Rattle.octets.proofs.Tests.{and-true}
use Rattle.journal.specs.declared.event.Event.{Event}
use Rattle.journal.specs.Events.{record_count}
use Rattle.bank_state.specs.declared.state.Download.{Download}
use Rattle.bank_state.specs.declared.state.Place.{Place}
use Rattle.bank_state.specs.Limits.{place_count, nonce_count}
use Rattle.bank_state.specs.State.{Nonce, no_download, no_nonce, place_at, download_at}
use Rattle.bank_rows.specs.Layout as rows
use Rattle.bank_rows.specs.Layout.{state_size}
use Rattle.bank_rows.specs.State.{download_count_of, nonce_count_of, bank_of, nonce_at, Laid}
use Rattle.bank_rows.proofs.InUse.{free-at}
use Rattle.bank_rows.proofs.Reading.{
  place_from,
  download_from,
  nonce_from,
  file-read,
  series-read,
  place_read,
  download-read,
  nonce-read,
  free-download-at,
}
use Rattle.bank_rows.proofs.Records.{use-number}
use Rattle.bank_rows.proofs.State.{held_rows}
use Rattle.bank_session.specs.Session.{session_size, bank_rows, event_count}
use Rattle.image_records.specs.declared.layout.NonceRecord.{NonceRecord}
use Rattle.image_records.specs.declared.layout.DownloadRecord.{DownloadRecord}
use Rattle.image_records.specs.declared.layout.PlaceRecord.{PlaceRecord}
use Rattle.image_records.specs.Layout as image
use Rattle.image_conditions.specs.Conditions.{
  nonce_count_fits,
  download_count_fits,
  nonces_unused,
  downloads_unused,
  place_test,
  every_place,
}
use Rattle.image_records.proofs.Shapes.{every-at}
use Rattle.image_numbers.specs.Numbers.{numbers_in}
use Rattle.image_numbers.proofs.Records.{
  clock-in,
  openings-in,
  events-in,
  nonce-count-in,
  download-count-in,
  nonce_in,
  download_in,
  place_in,
  nonce-in,
  download-in,
  place-in,
  counter-in,
  file-in,
  event-in,
}
use Rattle.image_admitted.specs.Unused.{Wiped}
use Rattle.image_records.proofs.General.{Below, below_at, by-record, unused-part, unused-parts}
use Rattle.image_admitted.proofs.Shown.{nonce_parts, download_parts, place_parts, Shown, nonces-are, downloads-are}

module _ (s : List ℕ) (row : List Event) (long : length s ≡ session_size) (full : length row ≡ record_count) where
  abbrev t : List ℕ
  t = bank_rows s

  abbrev xs : List ℕ
  xs = numbers_in s row

  -- the bank's numbers are the session's
  own : (p : ℕ) → p < state_size → get_or t p 0 ≡ get_or s p 0
  own p h = get_or-take state_size s p 0 h

  -- a number of the rows, by its place in both
  at_row : (p q : ℕ) → p ≡ q → p < state_size → get_or s p 0 ≡ get_or t q 0
  at_row p q e h = sym (own p h) ∙ ap (λ (k : ℕ). get_or t k 0) e

  pub bank-long : length t ≡ state_size
  bank-long = length-take-le state_size s (omega arith)

  downloads-counted : get_or xs image.download_count_at 0 ≡ download_count_of t
  downloads-counted = download-count-in s row ∙ at_row rows.download_count_at rows.download_count_at refl (omega arith)

  nonces-counted : get_or xs image.nonce_count_at 0 ≡ nonce_count_of t
  nonces-counted = nonce-count-in s row ∙ at_row rows.nonce_count_at rows.nonce_count_at refl (omega arith)

  -- ---- rows that pass the tests are a bank's

  state-told : (orders : List ℕ) → every_place xs orders ≡ true → (i : ℕ) → i < place_count → (image.place_at xs i).state ≤ 2
  unfolding every_place place_test
  state-told orders h i k =
      let a = and-true _ _ (every-at (place_test xs orders) place_count i h k) in
      leb-true (image.place_at xs i).state 2 (and-true (leb (image.place_at xs i).state 2) _ a.0).0

  pub tested-laid : (orders : List ℕ) → nonce_count_fits xs ≡ true → download_count_fits xs ≡ true → every_place xs orders ≡ true
      → Laid t
  tested-laid orders n d h = record {
    long = bank-long;
    downloads = omega (arith, leb-true (get_or xs image.download_count_at 0) place_count d, downloads-counted);
    nonces = omega (arith, leb-true (get_or xs image.nonce_count_at 0) nonce_count n, nonces-counted);
    uses = λ i k.
        let at = rows.places_at + (rows.place_width * i + rows.place_use) in
        omega (arith, state-told orders h i k, ap (λ (r : PlaceRecord). r.state) (place-in s row i k), own at (omega arith));
  }

  module _ (l : Laid t) where
    pub counts-fit : (nonce_count_fits xs ≡ true) × (download_count_fits xs ≡ true)
    counts-fit = (
      le-leb (get_or xs image.nonce_count_at 0) nonce_count (omega (arith, nonces-counted, l.nonces)),
      le-leb (get_or xs image.download_count_at 0) place_count (omega (arith, downloads-counted, l.downloads)),
    )

    -- ---- record by record

    nonce-shown : (i : ℕ) → i < nonce_count_of t → image.nonce_at xs i ≡ nonce_parts (nonce_at (bank_of t) i)
    nonce-shown i h =
        let few = l.nonces in
        let at = rows.nonces_at + rows.nonce_width * i in
        let col : (k : ℕ) → k < rows.nonce_width → get_or s (rows.nonces_at + (rows.nonce_width * i + k)) 0 ≡ get_or t (at + k) 0 =
        λ k b. at_row _ _ (omega arith) (omega arith) in
        let e : nonce_in s i ≡ nonce_parts (nonce_from t at) =
        λ z. record {
          high = col rows.nonce_high (omega arith) z;
          low = col rows.nonce_low (omega arith) z;
          timestamp = col rows.nonce_timestamp (omega arith) z;
        } in
        nonce-in s row i (omega arith) ∙ e ∙ ap nonce_parts (sym (nonce-read t l i h))

    download-shown : (i : ℕ) → i < download_count_of t → image.download_at xs i ≡ download_parts (download_at (bank_of t) i)
    download-shown i h =
        let few = l.downloads in
        let at = rows.downloads_at + rows.download_width * i in
        let col : (k : ℕ) → k < rows.download_width
        → get_or s (rows.downloads_at + (rows.download_width * i + k)) 0 ≡ get_or t (at + k) 0 =
        λ k b. at_row _ _ (omega arith) (omega arith) in
        let e : download_in s i ≡ download_parts (download_from t at) =
        λ z. record {
          subscriber = col rows.download_subscriber (omega arith) z;
          high = col rows.download_high (omega arith) z;
          low = col rows.download_low (omega arith) z;
          delivered = col rows.download_delivered (omega arith) z;
          attempts = col rows.download_attempts (omega arith) z;
          last = col rows.download_last (omega arith) z;
        } in
        download-in s row i (omega arith) ∙ e ∙ ap download_parts (sym (download-read t l i h))

    place-shown : (i : ℕ) → i < place_count
        → image.place_at xs i ≡ place_parts (place_at (bank_of t) i).used (place_at (bank_of t) i)
    place-shown i h =
        let at = rows.places_at + rows.place_width * i in
        let col : (k : ℕ) → k < rows.place_width → get_or s (rows.places_at + (rows.place_width * i + k)) 0 ≡ get_or t (at + k) 0 =
        λ k b. at_row _ _ (omega arith) (omega arith) in
        let number = col rows.place_use (omega arith) in
        let few : get_or t (at + rows.place_use) 0 ≤ 2 =
        omega (arith, l.uses i h, number, own (rows.places_at + (rows.place_width * i + rows.place_use)) (omega arith)) in
        let state = number ∙ sym (use-number (get_or t (at + rows.place_use) 0) few) in
        let e : place_in s i ≡ place_parts (place_from t at).used (place_from t at) =
        λ z. record {
          state = state z;
          subscriber = col rows.place_subscriber (omega arith) z;
          high = col rows.place_high (omega arith) z;
          low = col rows.place_low (omega arith) z;
          order = col rows.place_number (omega arith) z;
          segments = col rows.place_segments (omega arith) z;
          taken = col rows.place_taken (omega arith) z;
          attempts = col rows.place_attempts (omega arith) z;
          last = col rows.place_last (omega arith) z;
          length = col rows.place_length (omega arith) z;
          signers = col rows.place_signers (omega arith) z;
        } in
        place-in s row i h ∙ e ∙ ap (λ (p : Place). place_parts p.used p) (sym (place_read t i h))

    pub shown : Shown xs (bank_of t) (record { events = event_count s; row = row }) (download_count_of t) (nonce_count_of t)
    unfolding bank_of
    shown =
        let held = held_rows t l in
        record {
          clock = clock-in s row ∙ at_row rows.clock_at rows.clock_at refl (omega arith);
          openings = openings-in s row ∙ at_row rows.openings_at rows.openings_at refl (omega arith);
          long_series = held.series;
          counter = λ i h. counter-in s row i h ∙ at_row (rows.series_at + i) (rows.series_at + i) refl (omega arith) ∙ series-read t i h;
          events = events-in s row;
          nonce_total = nonces-counted;
          few_nonces = l.nonces;
          long_nonces = held.nonces;
          used_nonce = λ i h. ap (λ (e : Nonce). e.used) (nonce-read t l i h);
          free_nonce = free-at rows.nonce_width _ _ nonce_count (nonce_count_of t) _;
          nonce = nonce-shown;
          download_total = downloads-counted;
          few_downloads = l.downloads;
          long_downloads = held.downloads;
          used_download = λ i h. ap (λ (e : Download). e.used) (download-read t l i h);
          free_download = free-download-at t;
          download = download-shown;
          long_places = held.places;
          place = place-shown;
          long_files = held.files;
          file = λ i h. file-in s row i h ∙ at_row (rows.files_at + i) (rows.files_at + i) refl (omega arith) ∙ file-read t i h;
          long_row = full;
          event = event-in s row full;
        }

    -- ---- records not in use

    -- a number of the bank's rows that the session's numbers have as 0, and one of an image's
    in_rows : (p q : ℕ) → q ≡ p → p < state_size → get_or s p 0 ≡ 0 → get_or t q 0 ≡ 0
    in_rows p q e h z = sym (at_row p q (sym e) h) ∙ z

    in_image : (p q : ℕ) → p ≡ q → get_or xs p 0 ≡ 0 → get_or xs q 0 ≡ 0
    in_image p q e z = ap (λ (k : ℕ). get_or xs k 0) (sym e) ∙ z

    module _ (h : nonces_unused xs ≡ true) (i : ℕ) (low : nonce_count_of t ≤ i) (high : i < nonce_count) where
      nonce-zero : (p q : ℕ) → p < image.nonce_width → q ≡ image.nonces_at + (i * image.nonce_width + p) → get_or xs q 0 ≡ 0
      unfolding nonces_unused
      nonce-zero p q =
          unused-part xs image.nonces_at image.nonce_width (nonce_count_of t) nonce_count (omega arith) (rw (nonces-are shown) at h) i p q
          low high

      nonce-unused : nonce_in s i ≡ nonce_parts no_nonce
      unfolding image.nonce_at
      nonce-unused =
          let at = image.nonces_at + i * image.nonce_width in
          sym (nonce-in s row i high)
          ∙ (λ z. record {
            high = nonce-zero 0 at (omega arith) (omega arith) z;
            low = nonce-zero 1 (at + 1) (omega arith) (omega arith) z;
            timestamp = nonce-zero 2 (at + 2) (omega arith) (omega arith) z;
          })

      nonce-wiped : Below (λ (p : ℕ). get_or t (rows.nonces_at + (i * rows.nonce_width + p)) 0 ≡ 0) rows.nonce_width
      nonce-wiped = (
        (
          (tt, in_rows _ _ (omega arith) (omega arith) (ap (λ (r : NonceRecord). r.high) nonce-unused)),
          in_rows _ _ (omega arith) (omega arith) (ap (λ (r : NonceRecord). r.low) nonce-unused),
        ),
        in_rows _ _ (omega arith) (omega arith) (ap (λ (r : NonceRecord). r.timestamp) nonce-unused),
      )

    module _ (h : downloads_unused xs ≡ true) (i : ℕ) (low : download_count_of t ≤ i) (high : i < place_count) where
      download-zero : (p q : ℕ) → p < image.download_width → q ≡ image.downloads_at + (i * image.download_width + p)
          → get_or xs q 0 ≡ 0
      unfolding downloads_unused
      download-zero p q =
          unused-part xs image.downloads_at image.download_width (download_count_of t) place_count (omega arith)
          (rw (downloads-are shown) at h) i p q low high

      download-unused : download_in s i ≡ download_parts no_download
      unfolding image.download_at
      download-unused =
          let at = image.downloads_at + i * image.download_width in
          sym (download-in s row i high)
          ∙ (λ z. record {
            subscriber = download-zero 0 at (omega arith) (omega arith) z;
            high = download-zero 1 (at + 1) (omega arith) (omega arith) z;
            low = download-zero 2 (at + 2) (omega arith) (omega arith) z;
            delivered = download-zero 3 (at + 3) (omega arith) (omega arith) z;
            attempts = download-zero 4 (at + 4) (omega arith) (omega arith) z;
            last = download-zero 5 (at + 5) (omega arith) (omega arith) z;
          })

      download-wiped : Below (λ (p : ℕ). get_or t (rows.downloads_at + (i * rows.download_width + p)) 0 ≡ 0) rows.download_width
      download-wiped = (
        (
          (
            (
              (
                (tt, in_rows _ _ (omega arith) (omega arith) (ap (λ (r : DownloadRecord). r.high) download-unused)),
                in_rows _ _ (omega arith) (omega arith) (ap (λ (r : DownloadRecord). r.low) download-unused),
              ),
              in_rows _ _ (omega arith) (omega arith) (ap (λ (r : DownloadRecord). r.subscriber) download-unused),
            ),
            in_rows _ _ (omega arith) (omega arith) (ap (λ (r : DownloadRecord). r.delivered) download-unused),
          ),
          in_rows _ _ (omega arith) (omega arith) (ap (λ (r : DownloadRecord). r.attempts) download-unused),
        ),
        in_rows _ _ (omega arith) (omega arith) (ap (λ (r : DownloadRecord). r.last) download-unused),
      )

    pub tested-wiped : nonces_unused xs ≡ true → downloads_unused xs ≡ true → Wiped t
    tested-wiped n d = record {
      downloads = λ j low below.
          by-record rows.download_width (download_count_of t) place_count (omega arith)
          (λ (k : ℕ). get_or t (rows.downloads_at + k) 0 ≡ 0)
          (λ i p a b. below_at (λ (q : ℕ). get_or t (rows.downloads_at + (i * rows.download_width + q)) 0 ≡ 0) rows.download_width
          (download-wiped d i a b) p)
          j (omega arith) below;
      nonces = λ j low below.
          by-record rows.nonce_width (nonce_count_of t) nonce_count (omega arith) (λ (k : ℕ). get_or t (rows.nonces_at + k) 0 ≡ 0)
          (λ i p a b. below_at (λ (q : ℕ). get_or t (rows.nonces_at + (i * rows.nonce_width + q)) 0 ≡ 0) rows.nonce_width
          (nonce-wiped n i a b) p)
          j (omega arith) below;
    }

    -- and back

    module _ (v : Wiped t) where
      nonce-is : (i : ℕ) → nonce_count_of t ≤ i → (k : i < nonce_count) → image.nonce_at xs i ≡ nonce_parts no_nonce
      nonce-is i low k =
          let zero : (p : ℕ) → p < rows.nonce_width → get_or s (rows.nonces_at + (rows.nonce_width * i + p)) 0 ≡ 0 =
          λ p b.
          at_row _ _ refl (omega arith) ∙ v.nonces (rows.nonce_width * i + p) (omega arith) (omega arith) in
          nonce-in s row i k
          ∙ (λ z. record {
            high = zero rows.nonce_high (omega arith) z;
            low = zero rows.nonce_low (omega arith) z;
            timestamp = zero rows.nonce_timestamp (omega arith) z;
          })

      pub nonces-unused : nonces_unused xs ≡ true
      unfolding nonces_unused image.nonce_at
      nonces-unused =
          rw (nonces-are shown)
          (unused-parts xs image.nonces_at image.nonce_width (nonce_count_of t) nonce_count (omega arith)
          (λ i low k.
          let r = nonce-is i low k in (
            (
              (tt, in_image _ _ (omega arith) (ap (λ (x : NonceRecord). x.high) r)),
              in_image _ _ (omega arith) (ap (λ (x : NonceRecord). x.low) r),
            ),
            in_image _ _ (omega arith) (ap (λ (x : NonceRecord). x.timestamp) r),
          )))

      download-is : (i : ℕ) → download_count_of t ≤ i → (k : i < place_count) → image.download_at xs i ≡ download_parts no_download
      download-is i low k =
          let zero : (p : ℕ) → p < rows.download_width → get_or s (rows.downloads_at + (rows.download_width * i + p)) 0 ≡ 0 =
          λ p b.
          at_row _ _ refl (omega arith) ∙ v.downloads (rows.download_width * i + p) (omega arith) (omega arith) in
          download-in s row i k
          ∙ (λ z. record {
            subscriber = zero rows.download_subscriber (omega arith) z;
            high = zero rows.download_high (omega arith) z;
            low = zero rows.download_low (omega arith) z;
            delivered = zero rows.download_delivered (omega arith) z;
            attempts = zero rows.download_attempts (omega arith) z;
            last = zero rows.download_last (omega arith) z;
          })

      pub downloads-unused : downloads_unused xs ≡ true
      unfolding downloads_unused image.download_at
      downloads-unused =
          rw (downloads-are shown)
          (unused-parts xs image.downloads_at image.download_width (download_count_of t) place_count (omega arith)
          (λ i low k.
          let r = download-is i low k in (
            (
              (
                (
                  (
                    (tt, in_image _ _ (omega arith) (ap (λ (x : DownloadRecord). x.subscriber) r)),
                    in_image _ _ (omega arith) (ap (λ (x : DownloadRecord). x.high) r),
                  ),
                  in_image _ _ (omega arith) (ap (λ (x : DownloadRecord). x.low) r),
                ),
                in_image _ _ (omega arith) (ap (λ (x : DownloadRecord). x.delivered) r),
              ),
              in_image _ _ (omega arith) (ap (λ (x : DownloadRecord). x.attempts) r),
            ),
            in_image _ _ (omega arith) (ap (λ (x : DownloadRecord). x.last) r),
          )))

      -- each record, in use or not

      pub nonce-all : (i : ℕ) → i < nonce_count → image.nonce_at xs i ≡ nonce_parts (nonce_at (bank_of t) i)
      nonce-all i k = at (ltb i (nonce_count_of t)) refl
        where
          at : (u : Bool) → ltb i (nonce_count_of t) ≡ u → image.nonce_at xs i ≡ nonce_parts (nonce_at (bank_of t) i)
          at true e = nonce-shown i (ltb-true i (nonce_count_of t) e)
          at false e =
              let low = ltb-false i (nonce_count_of t) e in
              nonce-is i low k ∙ ap nonce_parts (sym (shown.free_nonce i low))

      pub download-all : (i : ℕ) → i < place_count → image.download_at xs i ≡ download_parts (download_at (bank_of t) i)
      download-all i k = at (ltb i (download_count_of t)) refl
        where
          at : (u : Bool) → ltb i (download_count_of t) ≡ u → image.download_at xs i ≡ download_parts (download_at (bank_of t) i)
          at true e = download-shown i (ltb-true i (download_count_of t) e)
          at false e =
              let low = ltb-false i (download_count_of t) e in
              download-is i low k ∙ ap download_parts (sym (shown.free_download i low))
