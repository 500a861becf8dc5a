-- Laws of the bank that the rows are and of the rows after a call. Assumes nothing.
use Prim.Native.Nat.{ℕ, zero, suc, ◌+◌, ◌*◌, max, ◌≤◌, ◌<◌}
use mathlib.Core.Bool.{true}
use mathlib.Core.List.{List, [], ◌∷◌, ◌++◌, append_assoc, append-nil}
use mathlib.Core.Path.{◌≡◌, refl, sym, ap, ◌∙◌}
use native.Mathlib.Omega.{arith}
use lib.ListN.{length, get_or, take, drop, set, replicate, length-append, length-take, length-drop, take-append-drop, get_or-append}
use lib.Seq.{get_or-drop, get_or-take, get_or_at, get_or-append-add, drop-drop, drop_at, take_at, take_all, set_at, set-append_left}
use Rattle.octets.specs.Bytes.{overwrite}
use Rattle.bank_state.specs.declared.state.Use.{Use}
use Rattle.bank_state.specs.declared.state.Use.TheVariants.{Free, Open, Booked}
use Rattle.bank_state.specs.declared.state.Place.{Place}
use Rattle.bank_state.specs.declared.state.Download.{Download}
use Rattle.bank_state.specs.State.{Nonce}
use Rattle.bank_state.specs.State.{Bank}
use Rattle.bank_state.specs.Limits.{place_count, nonce_count}
use Rattle.bank_state.specs.Rows.{keep}
use Rattle.bank_state.proofs.Rows.{length-keep}
use Rattle.bank_state.specs.State.{no_download, no_nonce, fresh}
use Rattle.bank_rows.specs.Layout.{
  clock_at,
  openings_at,
  files_at,
  series_at,
  download_count_at,
  nonce_count_at,
  places_at,
  place_use,
  place_width,
  places_size,
  downloads_at,
  download_width,
  downloads_size,
  nonces_at,
  nonce_width,
  nonces_size,
  state_size,
}
use Rattle.bank_rows.specs.Rows.{rows_of, rows_in_use, numbers_of, written}
use Rattle.bank_rows.specs.Records.{number_of_use, place_of, place_row, download_of, download_row, nonce_of, nonce_row}
use Rattle.bank_rows.specs.State.{
  places_part,
  downloads_part,
  nonces_part,
  download_count_of,
  nonce_count_of,
  bank_of,
  open_downloads,
  remembered_nonces,
  head_of,
  joined,
  stored,
  Laid,
  Held,
}
use Rattle.bank_rows.proofs.General.{set_after, overwrite-after, overwrite-within, listed-take, take-listed, length-numbers, length-rows, numbers-rows, rows-numbers, written-own, length-written}
use Rattle.bank_rows.proofs.InUse.{keep-in-use, in-use-first, length-in-use, keep-true, in-use-back, rows-twice}
use Rattle.bank_rows.proofs.Records.{
  place-wide,
  place-row,
  place-back,
  download-wide,
  download-row,
  download-back,
  nonce-wide,
  nonce-row,
  nonce-back,
}

-- ---- the four parts

pub joined_same : {h i p q d e n m : List ℕ} → h ≡ i → p ≡ q → d ≡ e → n ≡ m → joined h p d n ≡ joined i q e m
joined_same a b c d = rw (a, b, c, d)

module _ (H P D N : List ℕ) (h : length H ≡ places_at) where
  pub set-head : (k v : ℕ) → k < places_at → set (joined H P D N) k v ≡ joined (set H k v) P D N
  unfolding joined
  set-head k v l = set-append_left H (P ++ (D ++ N)) k v (omega arith)

  pub head_at : (j : ℕ) → j < places_at → get_or (joined H P D N) j 0 ≡ get_or H j 0
  unfolding joined
  head_at j l = get_or-append H (P ++ (D ++ N)) 0 j (omega arith)

  after-head : drop places_at (joined H P D N) ≡ P ++ (D ++ N)
  unfolding joined
  after-head = drop_at H (P ++ (D ++ N)) places_at h

  module _ (p : length P ≡ places_size) where
    pub over-places : (k : ℕ) (xs : List ℕ) → k + length xs ≤ places_size
        → overwrite (joined H P D N) (places_at + k) xs ≡ joined H (overwrite P k xs) D N
    unfolding joined
    over-places k xs l =
        overwrite-after H (P ++ (D ++ N)) places_at k xs h
        ∙ ap (λ (r : List ℕ). H ++ r) (overwrite-within P (D ++ N) k xs (omega arith))

    pub places_of_lem : places_part (joined H P D N) ≡ P
    places_of_lem = ap (take places_size) after-head ∙ take_at P (D ++ N) places_size p

    after-places : drop downloads_at (joined H P D N) ≡ D ++ N
    after-places =
        sym (drop-drop places_size places_at (joined H P D N)) ∙ ap (drop places_size) after-head ∙ drop_at P (D ++ N) places_size p

    module _ (d : length D ≡ downloads_size) where
      pub over-downloads : (k : ℕ) (xs : List ℕ) → k + length xs ≤ downloads_size
          → overwrite (joined H P D N) (downloads_at + k) xs ≡ joined H P (overwrite D k xs) N
      unfolding joined
      over-downloads k xs l =
          let e : downloads_at + k ≡ places_at + (places_size + k) = omega arith in
          ap (λ (i : ℕ). overwrite (H ++ (P ++ (D ++ N))) i xs) e
          ∙ overwrite-after H (P ++ (D ++ N)) places_at (places_size + k) xs h
          ∙ ap (λ (r : List ℕ). H ++ r)
          (overwrite-after P (D ++ N) places_size k xs p ∙ ap (λ (r : List ℕ). P ++ r) (overwrite-within D N k xs (omega arith)))

      pub downloads-of : downloads_part (joined H P D N) ≡ D
      downloads-of = ap (take downloads_size) after-places ∙ take_at D N downloads_size d

      after-downloads : drop nonces_at (joined H P D N) ≡ N
      after-downloads =
          sym (drop-drop downloads_size downloads_at (joined H P D N)) ∙ ap (drop downloads_size) after-places ∙ drop_at D N downloads_size d

      module _ (n : length N ≡ nonces_size) where
        pub over-nonces : (k : ℕ) (xs : List ℕ) → k + length xs ≤ nonces_size
            → overwrite (joined H P D N) (nonces_at + k) xs ≡ joined H P D (overwrite N k xs)
        unfolding joined
        over-nonces k xs l =
            let e : nonces_at + k ≡ places_at + (places_size + (downloads_size + k)) = omega arith in
            ap (λ (i : ℕ). overwrite (H ++ (P ++ (D ++ N))) i xs) e
            ∙ overwrite-after H (P ++ (D ++ N)) places_at (places_size + (downloads_size + k)) xs h
            ∙ ap (λ (r : List ℕ). H ++ r)
            (overwrite-after P (D ++ N) places_size (downloads_size + k) xs p
            ∙ ap (λ (r : List ℕ). P ++ r) (overwrite-after D N downloads_size k xs d))

        pub nonces-of : nonces_part (joined H P D N) ≡ N
        nonces-of = ap (take nonces_size) after-downloads ∙ take_all nonces_size N (omega arith)

        pub length-joined : length (joined H P D N) ≡ state_size
        unfolding joined
        length-joined = simp length-append (omega arith)

-- ---- the numbers before the places

module _ (c o : ℕ) (F S : List ℕ) (d n : ℕ) (h : length F ≡ place_count) (k : length S ≡ place_count) where
  abbrev pub head : List ℕ
  head = c ∷ o ∷ (F ++ (S ++ (d ∷ n ∷ [])))

  pub length-head : length head ≡ places_at
  length-head = simp length-append (omega arith)

  -- what stands after the files' lengths
  after-files : (i : ℕ) → get_or head (series_at + i) 0 ≡ get_or (S ++ (d ∷ n ∷ [])) i 0
  after-files i =
      let e : series_at + i ≡ suc (suc (length F + i)) = omega arith in
      ap (λ (j : ℕ). get_or head j 0) e ∙ get_or-append-add F (S ++ (d ∷ n ∷ [])) i 0

  set-after-files : (i x : ℕ) → set head (series_at + i) x ≡ c ∷ o ∷ (F ++ set (S ++ (d ∷ n ∷ [])) i x)
  set-after-files i x =
      let e : series_at + i ≡ suc (suc (length F + i)) = omega arith in
      ap (λ (j : ℕ). set head j x) e ∙ ap (λ (r : List ℕ). c ∷ o ∷ r) (set_after F (S ++ (d ∷ n ∷ [])) i x)

  pub download-count-of : get_or head download_count_at 0 ≡ d
  download-count-of = after-files place_count ∙ get_or_at S d (n ∷ []) 0 place_count k

  pub nonce-count-of : get_or head nonce_count_at 0 ≡ n
  nonce-count-of =
      let e : place_count + 1 ≡ length S + 1 = omega arith in
      after-files (place_count + 1)
      ∙ ap (λ (i : ℕ). get_or (S ++ (d ∷ n ∷ [])) i 0) e ∙ get_or-append-add S (d ∷ n ∷ []) 1 0

  pub files-of : (r : List ℕ) → take place_count (drop files_at (head ++ r)) ≡ F
  files-of r =
      ap (take place_count) (append_assoc F (S ++ (d ∷ n ∷ [])) r) ∙ take_at F ((S ++ (d ∷ n ∷ [])) ++ r) place_count h

  pub series-of : (r : List ℕ) → take place_count (drop series_at (head ++ r)) ≡ S
  series-of r =
      ap (λ (l : List ℕ). take place_count (drop place_count l)) (append_assoc F (S ++ (d ∷ n ∷ [])) r)
      ∙ ap (take place_count) (drop_at F ((S ++ (d ∷ n ∷ [])) ++ r) place_count h ∙ append_assoc S (d ∷ n ∷ []) r)
      ∙ take_at S (d ∷ n ∷ r) place_count k

  pub set-download-count : (x : ℕ) → set head download_count_at x ≡ c ∷ o ∷ (F ++ (S ++ (x ∷ n ∷ [])))
  set-download-count x =
      set-after-files place_count x ∙ ap (λ (r : List ℕ). c ∷ o ∷ (F ++ r)) (set_at S d (n ∷ []) x place_count k)

  pub set-nonce-count : (x : ℕ) → set head nonce_count_at x ≡ c ∷ o ∷ (F ++ (S ++ (d ∷ x ∷ [])))
  set-nonce-count x =
      let e : length (S ++ (d ∷ [])) ≡ place_count + 1 = simp length-append (omega arith) in
      set-after-files (place_count + 1) x
      ∙ ap (λ (r : List ℕ). c ∷ o ∷ (F ++ r))
      (ap (λ (r : List ℕ). set r (place_count + 1) x) (sym (append_assoc S (d ∷ []) (n ∷ [])))
      ∙ set_at (S ++ (d ∷ [])) n [] x (place_count + 1) e ∙ append_assoc S (d ∷ []) (x ∷ []))

  pub set-file : (i x : ℕ) → i < place_count → set head (files_at + i) x ≡ c ∷ o ∷ (set F i x ++ (S ++ (d ∷ n ∷ [])))
  set-file i x l =
      let e : files_at + i ≡ suc (suc i) = omega arith in
      ap (λ (j : ℕ). set head j x) e
      ∙ ap (λ (r : List ℕ). c ∷ o ∷ r) (set-append_left F (S ++ (d ∷ n ∷ [])) i x (omega arith))

  pub set-series : (i x : ℕ) → i < place_count → set head (series_at + i) x ≡ c ∷ o ∷ (F ++ (set S i x ++ (d ∷ n ∷ [])))
  set-series i x l =
      set-after-files i x ∙ ap (λ (r : List ℕ). c ∷ o ∷ (F ++ r)) (set-append_left S (d ∷ n ∷ []) i x (omega arith))

-- ---- the rows themselves

-- number j of a part of n numbers
pub part_at : (from n : ℕ) (s : List ℕ) (j : ℕ) → j < n → get_or (take n (drop from s)) j 0 ≡ get_or s (from + j) 0
part_at from n s j h = get_or-take n (drop from s) j 0 h ∙ get_or-drop from s j 0

pub places-at : (s : List ℕ) (j : ℕ) → j < places_size → get_or (places_part s) j 0 ≡ get_or s (places_at + j) 0
places-at = part_at places_at places_size

pub downloads-at : (s : List ℕ) (j : ℕ) → j < downloads_size → get_or (downloads_part s) j 0 ≡ get_or s (downloads_at + j) 0
downloads-at = part_at downloads_at downloads_size

pub nonces-at : (s : List ℕ) (j : ℕ) → j < nonces_size → get_or (nonces_part s) j 0 ≡ get_or s (nonces_at + j) 0
nonces-at = part_at nonces_at nonces_size

-- what is a place's use in its row
use-at-most : (u : Use) → number_of_use u ≤ 2
use-at-most Free = omega arith
use-at-most Open = omega arith
use-at-most Booked = omega arith

uses-of : (l : List Place) (i : ℕ) → get_or (numbers_of place_row l) (place_width * i) 0 ≤ 2
unfolding numbers_of
uses-of [] i = omega arith
uses-of (p ∷ l) zero = use-at-most p.used
uses-of (p ∷ l) (suc i) =
    let e : place_width * suc i ≡ place_width + place_width * i = omega arith in
    rw (e, get_or-append-add (place_row p) (numbers_of place_row l) (place_width * i) 0) (uses-of l i)

module _ (s : List ℕ) (l : Laid s) where
  pub length-places : length (places_part s) ≡ places_size
  length-places = simp (length-take, length-drop) (omega (arith, l.long))

  pub length-downloads : length (downloads_part s) ≡ downloads_size
  length-downloads = simp (length-take, length-drop) (omega (arith, l.long))

  pub length-nonces : length (nonces_part s) ≡ nonces_size
  length-nonces = simp (length-take, length-drop) (omega (arith, l.long))

  length_front : length (take places_at s) ≡ places_at
  length_front = simp length-take (omega (arith, l.long))

  pub split : s ≡ joined (take places_at s) (places_part s) (downloads_part s) (nonces_part s)
  unfolding joined
  split =
      let n : nonces_part s ≡ drop nonces_at s =
      take_all nonces_size (drop nonces_at s) (simp length-drop (omega (arith, l.long))) in
      let d : downloads_part s ++ nonces_part s ≡ drop downloads_at s =
      ap (λ (r : List ℕ). downloads_part s ++ r) (n ∙ sym (drop-drop downloads_size downloads_at s))
      ∙ take-append-drop downloads_size (drop downloads_at s) in
      let p : places_part s ++ (downloads_part s ++ nonces_part s) ≡ drop places_at s =
      ap (λ (r : List ℕ). places_part s ++ r) (d ∙ sym (drop-drop places_size places_at s))
      ∙ take-append-drop places_size (drop places_at s) in
      sym (ap (λ (r : List ℕ). take places_at s ++ r) p ∙ take-append-drop places_at s)

  pub open-are : open_downloads (bank_of s) ≡ rows_of download_width download_of (download_count_of s) (downloads_part s)
  unfolding bank_of
  open-are = keep-in-use download_width download_of no_download (λ (e : Download). e.used) (λ r. refl) refl place_count (download_count_of s) (downloads_part s)

  pub remembered-are : remembered_nonces (bank_of s) ≡ rows_of nonce_width nonce_of (nonce_count_of s) (nonces_part s)
  unfolding bank_of
  remembered-are = keep-in-use nonce_width nonce_of no_nonce (λ (e : Nonce). e.used) (λ r. refl) refl nonce_count (nonce_count_of s) (nonces_part s)

  pub head-own : head_of (bank_of s) ≡ take places_at s
  unfolding bank_of
  head-own =
      let d : length (open_downloads (bank_of s)) ≡ download_count_of s =
      ap length open-are ∙ length-rows download_width download_of (download_count_of s) (downloads_part s) in
      let n : length (remembered_nonces (bank_of s)) ≡ nonce_count_of s =
      ap length remembered-are ∙ length-rows nonce_width nonce_of (nonce_count_of s) (nonces_part s) in
      rw (
        d,
        n,
        listed-take place_count files_at s (omega (arith, l.long)),
        listed-take place_count series_at s (omega (arith, l.long)),
      )
      (sym (take-listed places_at s (omega (arith, l.long))))

  pub places-own : numbers_of place_row (bank_of s).places ≡ places_part s
  unfolding bank_of
  places-own =
      numbers-rows place_width place_of place_row place_count (places_part s) each
      ∙ take_all places_size (places_part s) (omega (arith, length-places))
    where
      each : (i : ℕ) → i < place_count → place_row (place_of (drop (place_width * i) (places_part s))) ≡ take place_width (drop (place_width * i) (places_part s))
      each i h =
          place-row (drop (place_width * i) (places_part s)) (simp length-drop (omega (arith, length-places)))
          (rw (get_or-drop (place_width * i) (places_part s) place_use 0, places-at s (place_width * i + place_use) (omega arith)) (l.uses i h))

  pub downloads-numbers : numbers_of download_row (open_downloads (bank_of s)) ≡ take (download_width * download_count_of s) (downloads_part s)
  downloads-numbers =
      ap (numbers_of download_row) open-are
      ∙ numbers-rows download_width download_of download_row (download_count_of s) (downloads_part s)
      (λ i h. download-row (drop (download_width * i) (downloads_part s)) (simp length-drop (omega (arith, length-downloads, l.downloads))))

  pub nonces-numbers : numbers_of nonce_row (remembered_nonces (bank_of s)) ≡ take (nonce_width * nonce_count_of s) (nonces_part s)
  nonces-numbers =
      ap (numbers_of nonce_row) remembered-are
      ∙ numbers-rows nonce_width nonce_of nonce_row (nonce_count_of s) (nonces_part s)
      (λ i h. nonce-row (drop (nonce_width * i) (nonces_part s)) (simp length-drop (omega (arith, length-nonces, l.nonces))))

  pub downloads-own : written (download_width * download_count_of s) (numbers_of download_row (open_downloads (bank_of s))) (downloads_part s) ≡ downloads_part s
  downloads-own =
      ap (λ (r : List ℕ). written (download_width * download_count_of s) r (downloads_part s)) downloads-numbers
      ∙ written-own (download_width * download_count_of s) (downloads_part s) (omega (arith, length-downloads, l.downloads))

  pub nonces-own : written (nonce_width * nonce_count_of s) (numbers_of nonce_row (remembered_nonces (bank_of s))) (nonces_part s) ≡ nonces_part s
  nonces-own =
      ap (λ (r : List ℕ). written (nonce_width * nonce_count_of s) r (nonces_part s)) nonces-numbers
      ∙ written-own (nonce_width * nonce_count_of s) (nonces_part s) (omega (arith, length-nonces, l.nonces))

  -- a bank stored over its own rows changes none of them
  pub stored-own : stored (bank_of s) s ≡ s
  unfolding stored
  stored-own = joined_same head-own places-own downloads-own nonces-own ∙ sym split

  pub held_rows : Held (bank_of s)
  unfolding bank_of
  held_rows = record {
    places = length-rows place_width place_of place_count (places_part s);
    downloads = length-in-use download_width download_of no_download place_count (download_count_of s) (downloads_part s) l.downloads;
    nonces = length-in-use nonce_width nonce_of no_nonce nonce_count (nonce_count_of s) (nonces_part s) l.nonces;
    files = simp (length-take, length-drop) (omega (arith, l.long));
    series = simp (length-take, length-drop) (omega (arith, l.long));
    downloads_first =
        in-use-first download_width download_of no_download (λ (e : Download). e.used) (λ r. refl) refl place_count (download_count_of s) (downloads_part s)
        l.downloads;
    nonces_first =
        in-use-first nonce_width nonce_of no_nonce (λ (e : Nonce). e.used) (λ r. refl) refl nonce_count (nonce_count_of s) (nonces_part s) l.nonces;
  }

-- all zeros are a fresh bank
pub fresh-rows : bank_of (replicate state_size 0) ≡ fresh
unfolding bank_of fresh rows_of rows_in_use
fresh-rows = refl

-- ---- a bank stored

abbrev bank : ℕ → ℕ → List ℕ → List Place → List Download → List Nonce → List ℕ → Bank
bank c o r p d n f = record { clock = c; openings = o; series = r; places = p; downloads = d; nonces = n; files = f }

bank-same : {c c1 o o1 : ℕ} {r r1 : List ℕ} {p p1 : List Place} {d d1 : List Download} {n n1 : List Nonce} {f f1 : List ℕ}
    → c ≡ c1 → o ≡ o1 → r ≡ r1 → p ≡ p1 → d ≡ d1 → n ≡ n1 → f ≡ f1 → bank c o r p d n f ≡ bank c1 o1 r1 p1 d1 n1 f1
bank-same a b r c d e f = rw (a, b, r, c, d, e, f)

module _ (b : Bank) (k : Held b) where
  pub few-downloads : length (open_downloads b) ≤ place_count
  few-downloads = omega (arith, k.downloads, length-keep (λ (e : Download). e.used) b.downloads)

  pub few-nonces : length (remembered_nonces b) ≤ nonce_count
  few-nonces = omega (arith, k.nonces, length-keep (λ (e : Nonce). e.used) b.nonces)

  pub head-long : length (head_of b) ≡ places_at
  head-long = length-head b.clock b.openings b.files b.series (length (open_downloads b)) (length (remembered_nonces b)) k.files k.series

  pub places-long : length (numbers_of place_row b.places) ≡ places_size
  places-long = length-numbers place_row place_width place-wide b.places ∙ ap (λ (n : ℕ). place_width * n) k.places

  module _ (old : List ℕ) (l : Laid old) where
    abbrev downloads : List ℕ
    downloads = written (download_width * download_count_of old) (numbers_of download_row (open_downloads b)) (downloads_part old)

    abbrev nonces : List ℕ
    nonces = written (nonce_width * nonce_count_of old) (numbers_of nonce_row (remembered_nonces b)) (nonces_part old)

    pub downloads-long : length downloads ≡ downloads_size
    downloads-long =
        let n = length-numbers download_row download_width download-wide (open_downloads b) in
        length-written (download_width * download_count_of old) (numbers_of download_row (open_downloads b)) (downloads_part old)
        (omega (arith, length-downloads old l, l.downloads)) (omega (arith, length-downloads old l, few-downloads))
        ∙ length-downloads old l

    pub nonces-long : length nonces ≡ nonces_size
    nonces-long =
        let n = length-numbers nonce_row nonce_width nonce-wide (remembered_nonces b) in
        length-written (nonce_width * nonce_count_of old) (numbers_of nonce_row (remembered_nonces b)) (nonces_part old)
        (omega (arith, length-nonces old l, l.nonces)) (omega (arith, length-nonces old l, few-nonces))
        ∙ length-nonces old l

    stored-head : (j : ℕ) → j < places_at → get_or (stored b old) j 0 ≡ get_or (head_of b) j 0
    unfolding stored
    stored-head = head_at (head_of b) (numbers_of place_row b.places) downloads nonces head-long

    pub stored-places : places_part (stored b old) ≡ numbers_of place_row b.places
    unfolding stored
    stored-places = places_of_lem (head_of b) (numbers_of place_row b.places) downloads nonces head-long places-long

    pub stored-downloads : downloads_part (stored b old) ≡ downloads
    unfolding stored
    stored-downloads = downloads-of (head_of b) (numbers_of place_row b.places) downloads nonces head-long places-long downloads-long

    pub stored-nonces : nonces_part (stored b old) ≡ nonces
    unfolding stored
    stored-nonces =
        nonces-of (head_of b) (numbers_of place_row b.places) downloads nonces head-long places-long downloads-long nonces-long

    stored-files : take place_count (drop files_at (stored b old)) ≡ b.files
    unfolding stored joined
    stored-files =
        files-of b.clock b.openings b.files b.series (length (open_downloads b)) (length (remembered_nonces b)) k.files k.series
        (numbers_of place_row b.places ++ (downloads ++ nonces))

    stored-series : take place_count (drop series_at (stored b old)) ≡ b.series
    unfolding stored joined
    stored-series =
        series-of b.clock b.openings b.files b.series (length (open_downloads b)) (length (remembered_nonces b)) k.files k.series
        (numbers_of place_row b.places ++ (downloads ++ nonces))

    pub stored-download-count : download_count_of (stored b old) ≡ length (open_downloads b)
    stored-download-count =
        stored-head download_count_at (omega arith)
        ∙ download-count-of b.clock b.openings b.files b.series (length (open_downloads b)) (length (remembered_nonces b)) k.files k.series

    pub stored-nonce-count : nonce_count_of (stored b old) ≡ length (remembered_nonces b)
    stored-nonce-count =
        stored-head nonce_count_at (omega arith)
        ∙ nonce-count-of b.clock b.openings b.files b.series (length (open_downloads b)) (length (remembered_nonces b)) k.files k.series

    places-back : rows_of place_width place_of place_count (places_part (stored b old)) ≡ b.places
    places-back =
        let all = keep-true b.places in
        let n : length (keep (λ (p : Place). true) b.places) ≡ place_count = ap length all ∙ k.places in
        ap (rows_of place_width place_of place_count) (stored-places ∙ ap (numbers_of place_row) (sym all) ∙ sym (append-nil _))
        ∙ ap (λ (m : ℕ). rows_of place_width place_of m (numbers_of place_row (keep (λ (p : Place). true) b.places) ++ [])) (sym n)
        ∙ rows-numbers place_width place_of place_row (λ (p : Place). true) place-wide place-back b.places [] ∙ all

    downloads-back : rows_in_use download_width download_of no_download place_count (download_count_of (stored b old)) (downloads_part (stored b old)) ≡ b.downloads
    unfolding written
    downloads-back =
        rw (stored-download-count, stored-downloads)
        (in-use-back download_width download_of download_row (λ (e : Download). e.used) download-wide download-back no_download
        b.downloads place_count _ k.downloads k.downloads_first)

    nonces-back : rows_in_use nonce_width nonce_of no_nonce nonce_count (nonce_count_of (stored b old)) (nonces_part (stored b old)) ≡ b.nonces
    unfolding written
    nonces-back =
        rw (stored-nonce-count, stored-nonces)
        (in-use-back nonce_width nonce_of nonce_row (λ (e : Nonce). e.used) nonce-wide nonce-back no_nonce
        b.nonces nonce_count _ k.nonces k.nonces_first)

    -- the rows after a call are the bank that it leaves
    pub stored_back : bank_of (stored b old) ≡ b
    unfolding bank_of
    stored_back =
        bank-same (stored-head clock_at (omega arith)) (stored-head openings_at (omega arith)) stored-series places-back downloads-back nonces-back stored-files

    stored-long : length (stored b old) ≡ state_size
    unfolding stored
    stored-long = length-joined (head_of b) (numbers_of place_row b.places) downloads nonces head-long places-long downloads-long nonces-long

    stored-uses : (i : ℕ) → i < place_count → get_or (stored b old) (places_at + (place_width * i + place_use)) 0 ≤ 2
    stored-uses i h =
        let e : place_width * i + place_use ≡ place_width * i = omega arith in
        rw (← places-at (stored b old) (place_width * i + place_use) (omega arith), stored-places, e) (uses-of b.places i)

    -- and are a bank's again
    pub stored-laid : Laid (stored b old)
    stored-laid = record {
      long = stored-long;
      downloads = rw stored-download-count few-downloads;
      nonces = rw stored-nonce-count few-nonces;
      uses = stored-uses;
    }

-- two calls one after the other are stored as one
module _ (b c : Bank) (old : List ℕ) (kb : Held b) (kc : Held c) (l : Laid old)
    (d : length (open_downloads b) ≤ max (download_count_of old) (length (open_downloads c)))
    (n : length (remembered_nonces b) ≤ max (nonce_count_of old) (length (remembered_nonces c))) where
  downloads-twice : written (download_width * download_count_of (stored b old)) (numbers_of download_row (open_downloads c)) (downloads_part (stored b old))
      ≡ written (download_width * download_count_of old) (numbers_of download_row (open_downloads c)) (downloads_part old)
  downloads-twice =
      let long = length-downloads old l in
      rw (stored-download-count b kb old l, stored-downloads b kb old l)
      (rows-twice download_width download_of download_row (λ (e : Download). e.used) download-wide download-back
      (open_downloads b) (open_downloads c) (download_count_of old) (downloads_part old)
      (omega (arith, l.downloads)) (omega (arith, few-downloads b kb)) (omega (arith, few-downloads c kc)) (omega arith))

  nonces-twice : written (nonce_width * nonce_count_of (stored b old)) (numbers_of nonce_row (remembered_nonces c)) (nonces_part (stored b old))
      ≡ written (nonce_width * nonce_count_of old) (numbers_of nonce_row (remembered_nonces c)) (nonces_part old)
  nonces-twice =
      let long = length-nonces old l in
      rw (stored-nonce-count b kb old l, stored-nonces b kb old l)
      (rows-twice nonce_width nonce_of nonce_row (λ (e : Nonce). e.used) nonce-wide nonce-back
      (remembered_nonces b) (remembered_nonces c) (nonce_count_of old) (nonces_part old)
      (omega (arith, l.nonces)) (omega (arith, few-nonces b kb)) (omega (arith, few-nonces c kc)) (omega arith))

  pub stored-twice : stored c (stored b old) ≡ stored c old
  unfolding stored
  stored-twice = joined_same refl refl downloads-twice nonces-twice
