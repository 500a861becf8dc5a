-- What each write makes of the rows: the bank with one part changed, stored. Assumes nothing.
use Prim.Native.Nat.{ℕ, ◌+◌, ◌-◌, ◌*◌, max, ◌≤◌, ◌<◌}
use mathlib.Core.Bool.{Bool, true, false}
use mathlib.Core.List.{List, [], ◌∷◌, ◌++◌}
use mathlib.Core.Path.{◌≡◌, refl, sym, ap, ◌∙◌}
use native.Mathlib.Omega.{arith}
use lib.ListN.{length, take, drop, set, length-append, length-set, take-append-drop}
use lib.Seq.{length-take-le, set_out}
use borrow.Rule.Slice.PartMut.{put_mid, mid_of}
use Rattle.octets.specs.Bytes.{overwrite}
use Rattle.octets.proofs.Numbers.{length-overwrite, overwrite-all}
use Rattle.bank_state.specs.declared.state.Place.{Place}
use Rattle.bank_state.specs.declared.state.Download.{Download}
use Rattle.bank_state.specs.State.{Nonce}
use Rattle.bank_state.specs.State.{Bank}
use Rattle.bank_state.specs.Limits.{place_count, nonce_count}
use Rattle.bank_state.specs.Rows.{keep, keep_only}
use Rattle.bank_state.proofs.Rows.{length-keep}
use Rattle.bank_state.proofs.Stores.{part-back}
use Rattle.bank_state.specs.State.{
  no_download,
  no_nonce,
  with_clock,
  with_openings,
  with_downloads,
  with_nonces,
  with_files,
  with_series,
  with_place,
  with_download,
}
use Rattle.bank_rows.specs.Layout.{clock_at, openings_at, files_at, series_at, download_count_at, nonce_count_at, places_at, place_width, downloads_at, download_width, downloads_size, nonces_at, nonce_width, nonces_size}
use Rattle.bank_rows.specs.Rows.{rows_of, rows_in_use, numbers_of, written, KeptRows}
use Rattle.bank_rows.specs.Records.{place_row, download_of, download_row, nonce_of, nonce_row}
use Rattle.bank_rows.specs.State.{
  downloads_part,
  nonces_part,
  download_count_of,
  nonce_count_of,
  bank_of,
  open_downloads,
  remembered_nonces,
  head_of,
  joined,
  stored,
  Laid,
  Held,
}
use Rattle.bank_rows.proofs.General.{overwrite-within, length-numbers, length-rows, numbers-append, numbers-one, numbers-set, written_over, length-written}
use Rattle.bank_rows.proofs.InUse.{keep-then-free, keep-keep_only, keep-added, keep-changed}
use Rattle.bank_rows.proofs.Records.{place-wide, download-wide, nonce-wide}
use Rattle.bank_rows.proofs.State.{
  joined_same,
  set-head,
  over-places,
  over-downloads,
  over-nonces,
  set-download-count,
  set-nonce-count,
  set-file,
  set-series,
  length-downloads,
  length-nonces,
  open-are,
  remembered-are,
  downloads-numbers,
  nonces-numbers,
  downloads-own,
  nonces-own,
  stored-own,
  held_rows,
  head-long,
  places-long,
  downloads-long,
  nonces-long,
}

-- ---- an area whose first n rows are in use, for any width

module _ {A : Type 0} (w : ℕ) (g : A → List ℕ) (wide : (x : A) → length (g x) ≡ w) where
  -- one row more
  pub area-added : (l : List A) (x : A) (n : ℕ) (area : List ℕ) → numbers_of g l ≡ take (w * n) area → w * n + w ≤ length area
      → written (w * n) (numbers_of g (l ++ (x ∷ []))) area ≡ overwrite area (w * n) (g x)
  area-added l x n area e h =
      let one = wide x in
      ap (λ (ns : List ℕ). written (w * n) ns area) (numbers-append g l (x ∷ []) ∙ rw (e, numbers-one g x))
      ∙ written_over (w * n) (w * n) (g x) area (omega arith) (omega arith) (omega arith)

  -- a row in use changed
  pub area-changed : (l : List A) (x : A) (i n : ℕ) (area : List ℕ) → numbers_of g l ≡ take (w * n) area → length l ≡ n → i < n
      → w * n ≤ length area → w * i + w ≤ w * n
      → written (w * n) (numbers_of g (set l i x)) area ≡ overwrite area (w * i) (g x)
  unfolding written
  area-changed l x i n area e k h long fits =
      let one = wide x in
      let t : length (take (w * n) area) ≡ w * n = length-take-le (w * n) area long in
      let m : length (overwrite (take (w * n) area) (w * i) (g x)) ≡ w * n =
      length-overwrite (take (w * n) area) (w * i) (g x) (omega arith) ∙ t in
      let z : w * n - w * n ≡ 0 = omega arith in
      let q : max (w * n) (w * n) ≡ w * n = omega arith in
      let s = numbers-set g w wide l i x (omega arith) ∙ ap (λ (r : List ℕ). overwrite r (w * i) (g x)) e in
      rw (s, m, z, q)
      (sym (overwrite-within (take (w * n) area) (drop (w * n) area) (w * i) (g x) (omega arith))
      ∙ ap (λ (r : List ℕ). overwrite r (w * i) (g x)) (take-append-drop (w * n) area))

-- ---- the rows

module _ (s : List ℕ) (l : Laid s) where
  abbrev b : Bank
  b = bank_of s

  abbrev held : Held b
  held = held_rows s l

  abbrev P : List ℕ
  P = numbers_of place_row b.places

  abbrev D : List ℕ
  D = written (download_width * download_count_of s) (numbers_of download_row (open_downloads b)) (downloads_part s)

  abbrev N : List ℕ
  N = written (nonce_width * nonce_count_of s) (numbers_of nonce_row (remembered_nonces b)) (nonces_part s)

  parts : s ≡ joined (head_of b) P D N
  unfolding stored
  parts = sym (stored-own s l)

  pub clock-write : (c : ℕ) → set s clock_at c ≡ stored (with_clock c b) s
  unfolding stored
  clock-write c =
      ap (λ (r : List ℕ). set r clock_at c) parts ∙ set-head (head_of b) P D N (head-long b held) clock_at c (omega arith)

  pub openings-write : (n : ℕ) → set s openings_at n ≡ stored (with_openings n b) s
  unfolding stored
  openings-write n =
      ap (λ (r : List ℕ). set r openings_at n) parts ∙ set-head (head_of b) P D N (head-long b held) openings_at n (omega arith)

  pub file-write : (i n : ℕ) → i < place_count → set s (files_at + i) n ≡ stored (with_files (set b.files i n) b) s
  unfolding stored
  file-write i n h =
      ap (λ (r : List ℕ). set r (files_at + i) n) parts ∙ set-head (head_of b) P D N (head-long b held) (files_at + i) n (omega arith)
      ∙ joined_same
      (set-file b.clock b.openings b.files b.series (length (open_downloads b)) (length (remembered_nonces b)) held.files held.series i n h) refl refl refl

  pub series-write : (i n : ℕ) → i < place_count → set s (series_at + i) n ≡ stored (with_series (set b.series i n) b) s
  unfolding stored
  series-write i n h =
      ap (λ (r : List ℕ). set r (series_at + i) n) parts ∙ set-head (head_of b) P D N (head-long b held) (series_at + i) n (omega arith)
      ∙ joined_same
      (set-series b.clock b.openings b.files b.series (length (open_downloads b)) (length (remembered_nonces b)) held.files
      held.series i n h) refl refl refl

  -- after the eight there is no series
  pub series-none : (i n : ℕ) → place_count ≤ i → s ≡ stored (with_series (set b.series i n) b) s
  series-none i n h =
      sym (stored-own s l) ∙ ap (λ (r : List ℕ). stored (with_series r b) s) (sym (set_out b.series i n (omega (arith, held.series))))

  pub place-write : (i : ℕ) (p : Place) → i < place_count → overwrite s (places_at + place_width * i) (place_row p) ≡ stored (with_place i p b) s
  unfolding stored
  place-write i p h =
      ap (λ (r : List ℕ). overwrite r (places_at + place_width * i) (place_row p)) parts
      ∙ over-places (head_of b) P D N (head-long b held) (places-long b held) (place_width * i) (place_row p) (omega arith)
      ∙ joined_same refl (sym (numbers-set place_row place_width place-wide b.places i p (omega (arith, held.places)))) refl refl

  -- a part of the downloads' rows, and one of the nonces', written over
  over-open : (k : ℕ) (xs : List ℕ) → k + length xs ≤ downloads_size
      → overwrite s (downloads_at + k) xs ≡ joined (head_of b) P (overwrite (downloads_part s) k xs) N
  over-open k xs h =
      ap (λ (r : List ℕ). overwrite r (downloads_at + k) xs) parts
      ∙ over-downloads (head_of b) P D N (head-long b held) (places-long b held) (downloads-long b held s l) k xs h
      ∙ joined_same refl refl (ap (λ (r : List ℕ). overwrite r k xs) (downloads-own s l)) refl

  over-remembered : (k : ℕ) (xs : List ℕ) → k + length xs ≤ nonces_size
      → overwrite s (nonces_at + k) xs ≡ joined (head_of b) P D (overwrite (nonces_part s) k xs)
  over-remembered k xs h =
      ap (λ (r : List ℕ). overwrite r (nonces_at + k) xs) parts
      ∙ over-nonces (head_of b) P D N (head-long b held) (places-long b held) (downloads-long b held s l) (nonces-long b held s l) k xs h
      ∙ joined_same refl refl refl (ap (λ (r : List ℕ). overwrite r k xs) (nonces-own s l))

  -- the downloads' rows and their count written, and the nonces'
  downloads-write : (k n : ℕ) (xs : List ℕ) (d : List Download) → k + length xs ≤ downloads_size
      → n ≡ length (keep (λ (e : Download). e.used) d)
      → overwrite (downloads_part s) k xs
      ≡ written (download_width * download_count_of s) (numbers_of download_row (keep (λ (e : Download). e.used) d)) (downloads_part s)
      → set (overwrite s (downloads_at + k) xs) download_count_at n ≡ stored (with_downloads d b) s
  unfolding stored
  downloads-write k n xs d h c e =
      ap (λ (r : List ℕ). set r download_count_at n) (over-open k xs h)
      ∙ set-head (head_of b) P (overwrite (downloads_part s) k xs) N (head-long b held) download_count_at n (omega arith)
      ∙ joined_same
      (set-download-count b.clock b.openings b.files b.series (length (open_downloads b)) (length (remembered_nonces b)) held.files held.series n ∙ rw c)
      refl e refl

  nonces-write : (k n : ℕ) (xs : List ℕ) (d : List Nonce) → k + length xs ≤ nonces_size
      → n ≡ length (keep (λ (e : Nonce). e.used) d)
      → overwrite (nonces_part s) k xs
      ≡ written (nonce_width * nonce_count_of s) (numbers_of nonce_row (keep (λ (e : Nonce). e.used) d)) (nonces_part s)
      → set (overwrite s (nonces_at + k) xs) nonce_count_at n ≡ stored (with_nonces d b) s
  unfolding stored
  nonces-write k n xs d h c e =
      ap (λ (r : List ℕ). set r nonce_count_at n) (over-remembered k xs h)
      ∙ set-head (head_of b) P D (overwrite (nonces_part s) k xs) (head-long b held) nonce_count_at n (omega arith)
      ∙ joined_same
      (set-nonce-count b.clock b.openings b.files b.series (length (open_downloads b)) (length (remembered_nonces b)) held.files held.series n ∙ rw c)
      refl refl e

  module _ (e : Download) (u : e.used ≡ true) where
    added-open : download_count_of s < place_count
        → keep (λ (x : Download). x.used) (set b.downloads (download_count_of s) e)
        ≡ rows_of download_width download_of (download_count_of s) (downloads_part s) ++ (e ∷ [])
    unfolding bank_of
    added-open h =
        keep-added download_width download_of no_download (λ (x : Download). x.used) (λ r. refl) refl e u place_count (download_count_of s)
        (downloads_part s) h

    pub download-add : download_count_of s < place_count
        → set (overwrite s (downloads_at + download_width * download_count_of s) (download_row e)) download_count_at (download_count_of s + 1)
        ≡ stored (with_download (download_count_of s) e b) s
    download-add h =
        let n : ℕ = download_count_of s in
        let rows : List Download = rows_of download_width download_of n (downloads_part s) in
        let long = length-downloads s l in
        downloads-write (download_width * n) (n + 1) (download_row e) (set b.downloads n e) (omega arith)
        (sym (ap length (added-open h) ∙ length-append rows (e ∷ []) ∙ ap (λ (k : ℕ). k + 1) (length-rows download_width download_of n (downloads_part s))))
        (sym (ap (λ (d : List Download). written (download_width * n) (numbers_of download_row d) (downloads_part s)) (added-open h)
        ∙ area-added download_width download_row download-wide rows e n (downloads_part s)
        (ap (numbers_of download_row) (sym (open-are s l)) ∙ downloads-numbers s l) (omega arith)))

    changed-open : (i : ℕ) → i < download_count_of s
        → keep (λ (x : Download). x.used) (set b.downloads i e)
        ≡ set (rows_of download_width download_of (download_count_of s) (downloads_part s)) i e
    unfolding bank_of
    changed-open i h =
        keep-changed download_width download_of no_download (λ (x : Download). x.used) (λ r. refl) refl e u place_count (download_count_of s) i
        (downloads_part s) h

    pub download-write : (i : ℕ) → i < download_count_of s
        → overwrite s (downloads_at + download_width * i) (download_row e) ≡ stored (with_download i e b) s
    unfolding stored
    download-write i h =
        let n : ℕ = download_count_of s in
        let rows : List Download = rows_of download_width download_of n (downloads_part s) in
        let long = length-downloads s l in
        let most = l.downloads in
        let count : length (open_downloads b) ≡ length (open_downloads (with_download i e b)) =
        ap length (open-are s l) ∙ sym (length-set rows i e) ∙ ap length (sym (changed-open i h)) in
        over-open (download_width * i) (download_row e) (omega arith)
        ∙ joined_same
        (ap (λ (k : ℕ). b.clock ∷ b.openings ∷ (b.files ++ (b.series ++ (k ∷ length (remembered_nonces b) ∷ [])))) count)
        refl
        (sym (ap (λ (d : List Download). written (download_width * n) (numbers_of download_row d) (downloads_part s)) (changed-open i h)
        ∙ area-changed download_width download_row download-wide rows e i n (downloads_part s)
        (ap (numbers_of download_row) (sym (open-are s l)) ∙ downloads-numbers s l)
        (length-rows download_width download_of n (downloads_part s)) h (omega arith) (omega arith)))
        refl

  module _ (e : Nonce) (u : e.used ≡ true) where
    added-remembered : nonce_count_of s < nonce_count
        → keep (λ (x : Nonce). x.used) (set b.nonces (nonce_count_of s) e)
        ≡ rows_of nonce_width nonce_of (nonce_count_of s) (nonces_part s) ++ (e ∷ [])
    unfolding bank_of
    added-remembered h =
        keep-added nonce_width nonce_of no_nonce (λ (x : Nonce). x.used) (λ r. refl) refl e u nonce_count (nonce_count_of s) (nonces_part s) h

    pub nonce-add : nonce_count_of s < nonce_count
        → set (overwrite s (nonces_at + nonce_width * nonce_count_of s) (nonce_row e)) nonce_count_at (nonce_count_of s + 1)
        ≡ stored (with_nonces (set b.nonces (nonce_count_of s) e) b) s
    nonce-add h =
        let n : ℕ = nonce_count_of s in
        let rows : List Nonce = rows_of nonce_width nonce_of n (nonces_part s) in
        let long = length-nonces s l in
        nonces-write (nonce_width * n) (n + 1) (nonce_row e) (set b.nonces n e) (omega arith)
        (sym (ap length (added-remembered h) ∙ length-append rows (e ∷ []) ∙ ap (λ (k : ℕ). k + 1) (length-rows nonce_width nonce_of n (nonces_part s))))
        (sym (ap (λ (d : List Nonce). written (nonce_width * n) (numbers_of nonce_row d) (nonces_part s)) (added-remembered h)
        ∙ area-added nonce_width nonce_row nonce-wide rows e n (nonces_part s)
        (ap (numbers_of nonce_row) (sym (remembered-are s l)) ∙ nonces-numbers s l) (omega arith)))

  -- the downloads that pass a test kept, and the nonces

  module _ (p : Download → Bool) (strong : (e : Download) → p e ≡ true → e.used ≡ true) (no : p no_download ≡ false) where
    abbrev kept : List Download
    kept = keep p (rows_of download_width download_of (download_count_of s) (downloads_part s))

    kept-open : keep (λ (e : Download). e.used) (keep_only p no_download b.downloads) ≡ kept
    unfolding bank_of rows_in_use
    kept-open =
        keep-keep_only (λ (e : Download). e.used) p strong no_download refl b.downloads
        ∙ keep-then-free p no_download no (rows_of download_width download_of (download_count_of s) (downloads_part s)) (place_count - download_count_of s)

    pub downloads-kept : (area : List ℕ)
        → area ≡ written (download_width * download_count_of s) (numbers_of download_row kept) (downloads_part s)
        → length area ≡ downloads_size
        → set (overwrite s downloads_at area) download_count_at (length kept) ≡ stored (with_downloads (keep_only p no_download b.downloads) b) s
    downloads-kept area e long =
        let whole : overwrite (downloads_part s) 0 area ≡ area = overwrite-all (downloads_part s) area (length-downloads s l ∙ sym long) in
        downloads-write 0 (length kept) area (keep_only p no_download b.downloads) (omega arith) (ap length (sym kept-open))
        (whole ∙ e ∙ ap (λ (d : List Download). written (download_width * download_count_of s) (numbers_of download_row d) (downloads_part s)) (sym kept-open))

    -- an area lent for it
    pub downloads-lent : (n k : ℕ) (x : List ℕ) → n ≡ download_count_of s
        → KeptRows download_width download_of download_row p n k (mid_of downloads_at downloads_size s) x
        → set (put_mid downloads_at downloads_size s x) download_count_at k ≡ stored (with_downloads (keep_only p no_download b.downloads) b) s
    downloads-lent n k x e r =
        let is : x ≡ written (download_width * download_count_of s) (numbers_of download_row kept) (downloads_part s) =
        r.is ∙ ap (λ (m : ℕ). written (download_width * m) (numbers_of download_row (keep p (rows_of download_width download_of m (downloads_part s)))) (downloads_part s)) e in
        let count : k ≡ length kept = r.count ∙ ap (λ (m : ℕ). length (keep p (rows_of download_width download_of m (downloads_part s)))) e in
        let few = length-keep p (rows_of download_width download_of (download_count_of s) (downloads_part s)) in
        let rows = length-rows download_width download_of (download_count_of s) (downloads_part s) in
        let numbers = length-numbers download_row download_width download-wide kept in
        let all = length-downloads s l in
        let most = l.downloads in
        let long : length x ≡ downloads_size =
        ap length is
        ∙ length-written (download_width * download_count_of s) (numbers_of download_row kept) (downloads_part s) (omega arith) (omega arith) ∙ all in
        ap (λ (t : List ℕ). set t download_count_at k) (part-back s x downloads_at downloads_size (omega (arith, l.long)) (long ∙ sym all))
        ∙ ap (set (overwrite s downloads_at x) download_count_at) count ∙ downloads-kept x is long

  module _ (p : Nonce → Bool) (strong : (e : Nonce) → p e ≡ true → e.used ≡ true) (no : p no_nonce ≡ false) where
    abbrev kept_nonces : List Nonce
    kept_nonces = keep p (rows_of nonce_width nonce_of (nonce_count_of s) (nonces_part s))

    kept-remembered : keep (λ (e : Nonce). e.used) (keep_only p no_nonce b.nonces) ≡ kept_nonces
    unfolding bank_of rows_in_use
    kept-remembered =
        keep-keep_only (λ (e : Nonce). e.used) p strong no_nonce refl b.nonces
        ∙ keep-then-free p no_nonce no (rows_of nonce_width nonce_of (nonce_count_of s) (nonces_part s)) (nonce_count - nonce_count_of s)

    pub nonces-kept : (area : List ℕ)
        → area ≡ written (nonce_width * nonce_count_of s) (numbers_of nonce_row kept_nonces) (nonces_part s)
        → length area ≡ nonces_size
        → set (overwrite s nonces_at area) nonce_count_at (length kept_nonces) ≡ stored (with_nonces (keep_only p no_nonce b.nonces) b) s
    nonces-kept area e long =
        let whole : overwrite (nonces_part s) 0 area ≡ area = overwrite-all (nonces_part s) area (length-nonces s l ∙ sym long) in
        nonces-write 0 (length kept_nonces) area (keep_only p no_nonce b.nonces) (omega arith) (ap length (sym kept-remembered))
        (whole ∙ e ∙ ap (λ (d : List Nonce). written (nonce_width * nonce_count_of s) (numbers_of nonce_row d) (nonces_part s)) (sym kept-remembered))

    pub nonces-lent : (n k : ℕ) (x : List ℕ) → n ≡ nonce_count_of s
        → KeptRows nonce_width nonce_of nonce_row p n k (mid_of nonces_at nonces_size s) x
        → set (put_mid nonces_at nonces_size s x) nonce_count_at k ≡ stored (with_nonces (keep_only p no_nonce b.nonces) b) s
    nonces-lent n k x e r =
        let is : x ≡ written (nonce_width * nonce_count_of s) (numbers_of nonce_row kept_nonces) (nonces_part s) =
        r.is ∙ ap (λ (m : ℕ). written (nonce_width * m) (numbers_of nonce_row (keep p (rows_of nonce_width nonce_of m (nonces_part s)))) (nonces_part s)) e in
        let count : k ≡ length kept_nonces = r.count ∙ ap (λ (m : ℕ). length (keep p (rows_of nonce_width nonce_of m (nonces_part s)))) e in
        let few = length-keep p (rows_of nonce_width nonce_of (nonce_count_of s) (nonces_part s)) in
        let rows = length-rows nonce_width nonce_of (nonce_count_of s) (nonces_part s) in
        let numbers = length-numbers nonce_row nonce_width nonce-wide kept_nonces in
        let all = length-nonces s l in
        let most = l.nonces in
        let long : length x ≡ nonces_size =
        ap length is
        ∙ length-written (nonce_width * nonce_count_of s) (numbers_of nonce_row kept_nonces) (nonces_part s) (omega arith) (omega arith) ∙ all in
        ap (λ (t : List ℕ). set t nonce_count_at k) (part-back s x nonces_at nonces_size (omega (arith, l.long)) (long ∙ sym all))
        ∙ ap (set (overwrite s nonces_at x) nonce_count_at) count ∙ nonces-kept x is long
