-- What is read in the rows is what the bank says. Assumes nothing.
use Prim.Native.Nat.{ℕ, ◌+◌, ◌*◌, ◌≤◌, ◌<◌}
use mathlib.Core.Bool.{Bool, true, false, not, ◌&&◌}
use mathlib.Core.List.{List}
use mathlib.Core.Path.{◌≡◌, refl, sym, ap, ◌∙◌}
use native.Mathlib.Nat.{add_assoc}
use native.Mathlib.Omega.{arith}
use lib.Dec.{eqb, ltb}
use borrow.Author.Tests.{lt-ltb, le-ltb, ltb-true, ltb-false}
use lib.ListN.{length, get_or, take, drop}
use lib.Seq.{get_or-drop}
use Rattle.std.specs.Bool.{MatchBool}
use Rattle.octets.proofs.Tests.{never}
use Rattle.frame_table.specs.Names.{same_bits}
use Rattle.frame_table.specs.declared.fields.Bits128.{Bits128}
use Rattle.bank_state.specs.declared.state.Place.{Place}
use Rattle.bank_state.specs.declared.state.Download.{Download}
use Rattle.bank_state.specs.State.{Nonce}
use Rattle.bank_state.specs.Limits.{place_count, nonce_count}
use Rattle.bank_state.specs.Rows.{first_of, count_of}
use Rattle.bank_state.specs.Search.{is_open, is_free, is_upload, free_download, free_nonce, is_remembered}
use Rattle.bank_state.specs.State.{no_place, no_download, no_nonce, place_at, download_at}
use Rattle.bank_state.proofs.Loops.{Searched, Counted}
use Rattle.bank_state.proofs.Rows.{first_passes}
use Rattle.bank_rows.specs.Layout.{
  files_at,
  series_at,
  places_at,
  place_use,
  place_high,
  place_low,
  place_subscriber,
  place_number,
  place_segments,
  place_taken,
  place_attempts,
  place_last,
  place_length,
  place_signers,
  place_width,
  places_size,
  downloads_at,
  download_high,
  download_low,
  download_subscriber,
  download_delivered,
  download_attempts,
  download_last,
  download_width,
  downloads_size,
  nonces_at,
  nonce_high,
  nonce_low,
  nonce_timestamp,
  nonce_width,
  nonces_size,
}
use Rattle.bank_rows.specs.Records.{bits, use_of, place_of, download_of, nonce_of, nonce_record}
use Rattle.bank_rows.specs.State.{
  places_part,
  downloads_part,
  nonces_part,
  download_count_of,
  nonce_count_of,
  bank_of,
  nonce_at,
  Laid,
}
use Rattle.bank_rows.proofs.General.{rows_at, length-rows}
use Rattle.bank_rows.proofs.Ranges.{first-at-most}
use Rattle.bank_rows.proofs.InUse.{in-use-at, free-at, none-in-use, all_in_use, first-after, count-in-use}
use Rattle.bank_rows.proofs.Records.{open_is, free-is}
use Rattle.bank_rows.proofs.State.{part_at, held_rows}

-- ---- a column of a row

pub column : (from n w i j : ℕ) (s : List ℕ) → w * i + j < n
    → get_or (drop (w * i) (take n (drop from s))) j 0 ≡ get_or s (from + w * i + j) 0
column from n w i j s h =
    get_or-drop (w * i) (take n (drop from s)) j 0 ∙ part_at from n s (w * i + j) h
    ∙ ap (λ (k : ℕ). get_or s k 0) (sym (add_assoc from (w * i) j))

-- the place whose row starts at a number
abbrev pub place_from : List ℕ → ℕ → Place
place_from s at = record {
  used = use_of (get_or s (at + place_use) 0);
  transaction = bits (get_or s (at + place_high) 0) (get_or s (at + place_low) 0);
  subscriber = get_or s (at + place_subscriber) 0;
  number = get_or s (at + place_number) 0;
  segments = get_or s (at + place_segments) 0;
  taken = get_or s (at + place_taken) 0;
  attempts = get_or s (at + place_attempts) 0;
  last = get_or s (at + place_last) 0;
  length = get_or s (at + place_length) 0;
  signers = get_or s (at + place_signers) 0;
}

module _ (s : List ℕ) where
  pub length-places-of : length (bank_of s).places ≡ place_count
  unfolding bank_of
  length-places-of = length-rows place_width place_of place_count (places_part s)

  pub file-read : (i : ℕ) → i < place_count → get_or s (files_at + i) 0 ≡ get_or (bank_of s).files i 0
  unfolding bank_of
  file-read i h = sym (part_at files_at place_count s i h)

  pub series-read : (i : ℕ) → i < place_count → get_or s (series_at + i) 0 ≡ get_or (bank_of s).series i 0
  unfolding bank_of
  series-read i h = sym (part_at series_at place_count s i h)

  module _ (i : ℕ) (h : i < place_count) where
    abbrev at : ℕ
    at = places_at + place_width * i

    col : (j : ℕ) → j < place_width → get_or (drop (place_width * i) (places_part s)) j 0 ≡ get_or s (at + j) 0
    col j l = column places_at places_size place_width i j s (omega arith)

    pub place_read : place_at (bank_of s) i ≡ place_from s at
    unfolding bank_of
    place_read =
        rows_at place_width place_of place_count i (places_part s) no_place h
        ∙ rw (
          col place_use (omega arith),
          col place_high (omega arith),
          col place_low (omega arith),
          col place_subscriber (omega arith),
          col place_number (omega arith),
          col place_segments (omega arith),
          col place_taken (omega arith),
          col place_attempts (omega arith),
          col place_last (omega arith),
          col place_length (omega arith),
          col place_signers (omega arith),
        )

    pub open-read : is_open (place_at (bank_of s) i).used ≡ eqb (get_or s (at + place_use) 0) 1
    open-read = ap (λ (p : Place). is_open p.used) place_read ∙ open_is (get_or s (at + place_use) 0)

    pub free-read : is_free (place_at (bank_of s) i).used ≡ eqb (get_or s (at + place_use) 0) 0
    free-read = ap (λ (p : Place). is_free p.used) place_read ∙ free-is (get_or s (at + place_use) 0)

    -- an open upload goes by four numbers of its row
    pub upload-read : (subscriber high low : ℕ) → is_upload subscriber (bits high low) (place_at (bank_of s) i)
        ≡ (eqb (get_or s (at + place_use) 0) 1 && eqb (get_or s (at + place_subscriber) 0) subscriber
        && (eqb (get_or s (at + place_high) 0) high && eqb (get_or s (at + place_low) 0) low))
    unfolding is_upload
    upload-read subscriber high low = ap (is_upload subscriber (bits high low)) place_read ∙ rw (open_is (get_or s (at + place_use) 0))

-- ---- downloads and nonces in use

abbrev pub download_from : List ℕ → ℕ → Download
download_from s at = record {
  used = true;
  transaction = bits (get_or s (at + download_high) 0) (get_or s (at + download_low) 0);
  subscriber = get_or s (at + download_subscriber) 0;
  delivered = get_or s (at + download_delivered) 0;
  attempts = get_or s (at + download_attempts) 0;
  last = get_or s (at + download_last) 0;
}

-- a download's row in an area goes by its numbers there
pub download-from : (area : List ℕ) (at : ℕ) → download_of (drop at area) ≡ download_from area at
download-from area at =
    rw (
      get_or-drop at area download_high 0,
      get_or-drop at area download_low 0,
      get_or-drop at area download_subscriber 0,
      get_or-drop at area download_delivered 0,
      get_or-drop at area download_attempts 0,
      get_or-drop at area download_last 0,
    )

abbrev pub nonce_from : List ℕ → ℕ → Nonce
nonce_from s at = nonce_record (bits (get_or s (at + nonce_high) 0) (get_or s (at + nonce_low) 0)) (get_or s (at + nonce_timestamp) 0)

pub nonce-from : (area : List ℕ) (at : ℕ) → nonce_of (drop at area) ≡ nonce_from area at
nonce-from area at =
    rw (get_or-drop at area nonce_high 0, get_or-drop at area nonce_low 0, get_or-drop at area nonce_timestamp 0)

module _ (s : List ℕ) where
  pub free-download : free_download (bank_of s) ≡ download_count_of s
  unfolding free_download bank_of
  free-download =
      first-after download_width download_of no_download (λ (e : Download). not e.used) (λ r. refl) refl place_count (download_count_of s) (downloads_part s)

  -- after the open downloads stand free records
  pub free-download-at : (i : ℕ) → download_count_of s ≤ i → download_at (bank_of s) i ≡ no_download
  unfolding bank_of
  free-download-at i h = free-at download_width download_of no_download place_count (download_count_of s) (downloads_part s) i h

  pub open-downloads : count_of (λ (e : Download). e.used) (bank_of s).downloads ≡ download_count_of s
  unfolding bank_of
  open-downloads =
      count-in-use download_width download_of no_download (λ (e : Download). e.used) (λ r. refl) refl place_count (download_count_of s) (downloads_part s)

  pub free-nonce : free_nonce (bank_of s) ≡ nonce_count_of s
  unfolding free_nonce bank_of
  free-nonce =
      first-after nonce_width nonce_of no_nonce (λ (e : Nonce). not e.used) (λ r. refl) refl nonce_count (nonce_count_of s) (nonces_part s)

  module _ (l : Laid s) where
    pub length-downloads-of : length (bank_of s).downloads ≡ place_count
    length-downloads-of = (held_rows s l).downloads

    pub length-nonces-of : length (bank_of s).nonces ≡ nonce_count
    length-nonces-of = (held_rows s l).nonces

    pub download-read : (i : ℕ) → i < download_count_of s → download_at (bank_of s) i ≡ download_from s (downloads_at + download_width * i)
    unfolding bank_of
    download-read i h =
        let col : (j : ℕ) → j < download_width
        → get_or (drop (download_width * i) (downloads_part s)) j 0 ≡ get_or s (downloads_at + download_width * i + j) 0 =
        λ j k. column downloads_at downloads_size download_width i j s (omega (arith, l.downloads)) in
        in-use-at download_width download_of no_download place_count (download_count_of s) i (downloads_part s) h
        ∙ rw (
          col download_high (omega arith),
          col download_low (omega arith),
          col download_subscriber (omega arith),
          col download_delivered (omega arith),
          col download_attempts (omega arith),
          col download_last (omega arith),
        )

    pub nonce-read : (i : ℕ) → i < nonce_count_of s → nonce_at (bank_of s) i ≡ nonce_from s (nonces_at + nonce_width * i)
    unfolding bank_of
    nonce-read i h =
        let col : (j : ℕ) → j < nonce_width → get_or (drop (nonce_width * i) (nonces_part s)) j 0 ≡ get_or s (nonces_at + nonce_width * i + j) 0 =
        λ j k. column nonces_at nonces_size nonce_width i j s (omega (arith, l.nonces)) in
        in-use-at nonce_width nonce_of no_nonce nonce_count (nonce_count_of s) i (nonces_part s) h
        ∙ rw (col nonce_high (omega arith), col nonce_low (omega arith), col nonce_timestamp (omega arith))

    -- a search and a count that pass the open downloads
    pub no-download : (p : Download → Bool) → p no_download ≡ false → Searched p (bank_of s).downloads (download_count_of s)
        → place_count ≡ first_of p (bank_of s).downloads
    unfolding bank_of
    no-download p fails d =
        none-in-use download_width download_of no_download p place_count (download_count_of s) (downloads_part s) l.downloads fails d

    pub all-downloads : (p : Download → Bool) → p no_download ≡ false → (m : ℕ) → Counted p (bank_of s).downloads m (download_count_of s)
        → m ≡ count_of p (bank_of s).downloads
    unfolding bank_of
    all-downloads p fails m d =
        all_in_use download_width download_of no_download p place_count (download_count_of s) (downloads_part s) l.downloads fails m d

    pub no-nonce : (p : Nonce → Bool) → p no_nonce ≡ false → Searched p (bank_of s).nonces (nonce_count_of s)
        → nonce_count ≡ first_of p (bank_of s).nonces
    unfolding bank_of
    no-nonce p fails d =
        none-in-use nonce_width nonce_of no_nonce p nonce_count (nonce_count_of s) (nonces_part s) l.nonces fails d

module _ (s : List ℕ) (value : Bits128) where
  abbrev pub is_nonce : Nonce → Bool
  is_nonce e = e.used && same_bits e.value value

  pub not-remembered : nonce_count ≡ first_of is_nonce (bank_of s).nonces → false ≡ is_remembered value (bank_of s)
  unfolding is_remembered
  not-remembered e = sym (le-ltb (first_of is_nonce (bank_of s).nonces) nonce_count (omega arith))

  -- what a search among the nonces in use says
  pub any-nonce : Laid s → (r : Bool)
      → MatchBool r ((i : ℕ) × (i < nonce_count_of s) × (is_nonce (get_or (bank_of s).nonces i no_nonce) ≡ true)) (Searched is_nonce (bank_of s).nonces (nonce_count_of s))
      → r ≡ is_remembered value (bank_of s)
  unfolding is_remembered
  any-nonce l true (i, h, e) =
      let x : i < length (bank_of s).nonces = omega (arith, l.nonces, length-nonces-of s l) in
      let y = first-at-most is_nonce no_nonce (bank_of s).nonces i x e in
      sym (lt-ltb (first_of is_nonce (bank_of s).nonces) nonce_count (omega (arith, l.nonces)))
  any-nonce l false d = not-remembered (no-nonce s l is_nonce refl d)

-- a download that is found is one of those in use
module _ (s : List ℕ) (l : Laid s) (p : Download → Bool) (fails : p no_download ≡ false) where
  found_at : (t : Bool) → ltb (first_of p (bank_of s).downloads) (download_count_of s) ≡ t → first_of p (bank_of s).downloads < place_count
      → first_of p (bank_of s).downloads < download_count_of s
  found_at true e h = ltb-true (first_of p (bank_of s).downloads) (download_count_of s) e
  found_at false e h =
      let i : ℕ = first_of p (bank_of s).downloads in
      let free = free-download-at s i (ltb-false i (download_count_of s) e) in
      let passes = first_passes p (bank_of s).downloads no_download (omega (arith, length-downloads-of s l)) in
      never (sym fails ∙ ap p (sym free) ∙ passes)

  pub found-download : first_of p (bank_of s).downloads < place_count → first_of p (bank_of s).downloads < download_count_of s
  found-download = found_at (ltb (first_of p (bank_of s).downloads) (download_count_of s)) refl
