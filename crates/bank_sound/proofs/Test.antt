-- Laws of the test of the rows: what it tells, and that rows of a bank in range pass it. Assumes nothing.
use Prim.Native.Nat.{ℕ, ◌+◌, ◌-◌, ◌*◌, ◌≤◌, ◌<◌}
use mathlib.Core.Bool.{Bool, true, false, cond}
use mathlib.Core.List.{List}
use mathlib.Core.Path.{◌≡◌, refl, sym, ap, ◌∙◌, subst}
use native.Mathlib.Nat.{add_assoc}
use native.Mathlib.Omega.{arith}
use lib.Dec.{eqb, leb, ltb}
use lib.ListN.{length, get_or, get_or-eq_default}
use borrow.Author.Tests.{eqb-true, eq-eqb, leb-true, le-leb, ltb-true, ltb-false, lt-ltb}
use Rattle.octets.proofs.Tests.{never, and-true}
use Rattle.message.specs.Limits.{file_bytes, segment_bytes, max_segments, subscribers}
use Rattle.message.specs.Segments.{segments_of}
use Rattle.bank_state.specs.State.{Bank}
use Rattle.bank_state.specs.declared.state.Download.{Download}
use Rattle.bank_state.specs.declared.state.Place.{Place}
use Rattle.bank_state.specs.Limits.{place_count, nonce_count, all_signers}
use Rattle.bank_state.specs.Search.{is_open}
use Rattle.bank_state.specs.State.{no_place, place_at, download_at, file_length}
use Rattle.bank_rows.specs.Layout.{files_at, places_at, place_use, place_length, place_signers, place_width, downloads_at, download_width, state_size}
use Rattle.bank_sound.specs.Sound.{is_sound_file, is_sound_upload, is_sound_place, is_sound_download, is_sound, InRange}
use Rattle.bank_rows.specs.Rows.{all_below}
use Rattle.bank_rows.specs.State.{download_count_of, nonce_count_of, bank_of, stored, Laid, Held}
use Rattle.bank_rows.proofs.Reading.{place_from, download_from, length-places-of, file-read, place_read, open-read, download-read, free-download-at}
use Rattle.bank_rows.proofs.Tests.{all-holds, all_from}
use Rattle.bank_rows.proofs.State.{stored_back, stored-laid}

-- ---- what the test tells

only-true : (t u : Bool) → cond t u true ≡ true → t ≡ true → u ≡ true
only-true true u h e = h
only-true false u h e = never e

true-only : (t u : Bool) → (t ≡ true → u ≡ true) → cond t u true ≡ true
true-only true u h = h refl
true-only false u h = refl

-- the numbers of an open upload, and of an open download where the mailboxes' files have these lengths
abbrev UploadRange : Place → Type 0
UploadRange p = (p.segments ≤ max_segments) × (p.taken < p.segments) × (p.length ≤ p.taken * segment_bytes)

abbrev DownloadRange : List ℕ → Download → Type 0
DownloadRange files e =
    (1 ≤ e.subscriber) × (e.subscriber ≤ subscribers) × (e.delivered ≤ segments_of (file_length e.subscriber files))

-- the mailbox's number in the rows says the length of its file
mailbox-read : (s : List ℕ) (subscriber : ℕ) → 1 ≤ subscriber → subscriber ≤ subscribers
    → get_or s (files_at + (subscriber - 1)) 0 ≡ file_length subscriber (bank_of s).files
unfolding file_length
mailbox-read s subscriber a b = file-read s (subscriber - 1) (omega arith)

module _ (s : List ℕ) (e : is_sound s ≡ true) where
  tests : (eqb (length s) state_size ≡ true) × (leb (download_count_of s) place_count ≡ true)
      × (leb (nonce_count_of s) nonce_count ≡ true) × (all_below (is_sound_file s) place_count ≡ true)
      × (all_below (is_sound_place s) place_count ≡ true)
      × (all_below (is_sound_download s) (download_count_of s) ≡ true)
  unfolding is_sound
  tests =
      let a = and-true (eqb (length s) state_size) _ e in
      let b = and-true (leb (download_count_of s) place_count) _ a.1 in
      let c = and-true (leb (nonce_count_of s) nonce_count) _ b.1 in
      let d = and-true (all_below (is_sound_file s) place_count) _ c.1 in
      let f = and-true (all_below (is_sound_place s) place_count) _ d.1 in
      (a.0, b.0, c.0, d.0, f.0, f.1)

  upload-tests : (at : ℕ) → is_sound_upload s at ≡ true → UploadRange (place_from s at)
  unfolding is_sound_upload
  upload-tests at k =
      let p : Place = place_from s at in
      let a = and-true (leb p.segments max_segments) _ k in
      let b = and-true (ltb p.taken p.segments) (leb p.length (p.taken * segment_bytes)) a.1 in
      (leb-true _ _ a.0, ltb-true _ _ b.0, leb-true _ _ b.1)

  module _ (i : ℕ) (h : i < place_count) where
    abbrev at : ℕ
    at = places_at + place_width * i

    place-tests : (get_or s (at + place_use) 0 ≤ 2) × (get_or s (at + place_signers) 0 ≤ all_signers)
        × (get_or s (at + place_length) 0 ≤ file_bytes)
        × (eqb (get_or s (at + place_use) 0) 1 ≡ true → is_sound_upload s at ≡ true)
    place-tests =
        let opens : Bool = eqb (get_or s (at + place_use) 0) 1 in
        let a = and-true (leb (get_or s (at + place_use) 0) 2) _ (all-holds (is_sound_place s) place_count tests.4 i h) in
        let b = and-true (leb (get_or s (at + place_signers) 0) all_signers) _ a.1 in
        let c = and-true (leb (get_or s (at + place_length) 0) file_bytes) (cond opens (is_sound_upload s at) true) b.1 in
        (leb-true _ _ a.0, leb-true _ _ b.0, leb-true _ _ c.0, only-true opens (is_sound_upload s at) c.1)

  download-tests : (i : ℕ) → i < download_count_of s
      → DownloadRange (bank_of s).files (download_from s (downloads_at + download_width * i))
  download-tests i h =
      let d : Download = download_from s (downloads_at + download_width * i) in
      let n : ℕ = segments_of (get_or s (files_at + (d.subscriber - 1)) 0) in
      let a = and-true (leb 1 d.subscriber) _ (all-holds (is_sound_download s) (download_count_of s) tests.5 i h) in
      let b = and-true (leb d.subscriber subscribers) (leb d.delivered n) a.1 in
      let first = leb-true 1 d.subscriber a.0 in
      let last = leb-true d.subscriber subscribers b.0 in
      (first, last, rw (← mailbox-read s d.subscriber first last) (leb-true d.delivered n b.1))

  -- the rows are a bank's
  pub sound-laid : Laid s
  sound-laid = record {
    long = eqb-true (length s) state_size tests.0;
    downloads = leb-true (download_count_of s) place_count tests.1;
    nonces = leb-true (nonce_count_of s) nonce_count tests.2;
    uses = λ i h. rw (← add_assoc places_at (place_width * i) place_use) (place-tests i h).0;
  }

  -- what is open is one of the places, and of the downloads counted
  open-place : (i : ℕ) (t : Bool) → ltb i place_count ≡ t → is_open (place_at (bank_of s) i).used ≡ true → i < place_count
  open-place i true k o = ltb-true i place_count k
  open-place i false k o =
      let h : length (bank_of s).places ≤ i = omega (arith, length-places-of s, ltb-false i place_count k) in
      never (sym (ap (λ (p : Place). is_open p.used) (get_or-eq_default (bank_of s).places no_place h)) ∙ o)

  open-download : (i : ℕ) (t : Bool) → ltb i (download_count_of s) ≡ t → (download_at (bank_of s) i).used ≡ true
      → i < download_count_of s
  open-download i true k o = ltb-true i (download_count_of s) k
  open-download i false k o =
      never (sym (ap (λ (d : Download). d.used) (free-download-at s i (ltb-false i (download_count_of s) k))) ∙ o)

  upload-range : (i : ℕ) → is_open (place_at (bank_of s) i).used ≡ true → UploadRange (place_at (bank_of s) i)
  upload-range i o =
      let h = open-place i (ltb i place_count) refl o in
      subst UploadRange (sym (place_read s i h))
      (upload-tests (at i h) ((place-tests i h).3 (sym (open-read s i h) ∙ o)))

  download-range : (i : ℕ) → (download_at (bank_of s) i).used ≡ true
      → DownloadRange (bank_of s).files (download_at (bank_of s) i)
  download-range i o =
      let h = open-download i (ltb i (download_count_of s)) refl o in
      subst (DownloadRange (bank_of s).files) (sym (download-read s sound-laid i h)) (download-tests i h)

  -- in range
  pub sound-range : InRange (bank_of s)
  sound-range = record {
    files = λ i h. rw (← file-read s i h) (leb-true _ _ (all-holds (is_sound_file s) place_count tests.3 i h));
    lengths = λ i h. rw (ap (λ (p : Place). p.length) (place_read s i h)) (place-tests i h).2;
    signers = λ i h. rw (ap (λ (p : Place). p.signers) (place_read s i h)) (place-tests i h).1;
    few = λ i o. (upload-range i o).0;
    below = λ i o. (upload-range i o).1;
    largest = λ i o. (upload-range i o).2;
    known = λ i o. (download-range i o).0;
    most = λ i o. (download-range i o).1;
    within = λ i o. (download-range i o).2;
  }

-- ---- and what passes it

module _ (s : List ℕ) (l : Laid s) (r : InRange (bank_of s)) where
  file-passes : (i : ℕ) → i < place_count → is_sound_file s i ≡ true
  file-passes i h = le-leb (get_or s (files_at + i) 0) file_bytes (rw (file-read s i h) (r.files i h))

  upload-passes : (at : ℕ) → UploadRange (place_from s at) → is_sound_upload s at ≡ true
  unfolding is_sound_upload
  upload-passes at f = rw (le-leb _ _ f.0, lt-ltb _ _ f.1) (le-leb _ _ f.2)

  place-passes : (i : ℕ) → i < place_count → is_sound_place s i ≡ true
  place-passes i h =
      let at = places_at + place_width * i in
      let opens : Bool = eqb (get_or s (at + place_use) 0) 1 in
      let u : get_or s (at + place_use) 0 ≤ 2 = rw (add_assoc places_at (place_width * i) place_use) (l.uses i h) in
      let n : get_or s (at + place_length) 0 ≤ file_bytes =
      rw (ap (λ (p : Place). p.length) (place_read s i h)) at (r.lengths i h) in
      let m : get_or s (at + place_signers) 0 ≤ all_signers =
      rw (ap (λ (p : Place). p.signers) (place_read s i h)) at (r.signers i h) in
      let open-passes : opens ≡ true → is_sound_upload s at ≡ true =
      λ k.
      let o = open-read s i h ∙ k in
      upload-passes at (subst UploadRange (place_read s i h) (r.few i o, r.below i o, r.largest i o)) in
      rw (le-leb _ _ u, le-leb _ _ m, le-leb _ _ n) (true-only opens (is_sound_upload s at) open-passes)

  download-passes : (i : ℕ) → i < download_count_of s → is_sound_download s i ≡ true
  download-passes i h =
      let read = download-read s l i h in
      let o = ap (λ (d : Download). d.used) read in
      let f = subst (DownloadRange (bank_of s).files) read (r.known i o, r.most i o, r.within i o) in
      rw (le-leb _ _ f.0, le-leb _ _ f.1, mailbox-read s _ f.0 f.1) (le-leb _ _ f.2)

  pub sound-rows : is_sound s ≡ true
  unfolding is_sound
  sound-rows =
      rw (
        eq-eqb (length s) state_size l.long,
        le-leb (download_count_of s) place_count l.downloads,
        le-leb (nonce_count_of s) nonce_count l.nonces,
        all_from (is_sound_file s) place_count file-passes,
        all_from (is_sound_place s) place_count place-passes,
        all_from (is_sound_download s) (download_count_of s) download-passes,
      )

-- rows stored for a bank in range pass again
pub stored-sound : (b : Bank) (old : List ℕ) → Held b → Laid old → InRange b → is_sound (stored b old) ≡ true
stored-sound b old k l r =
    sound-rows (stored b old) (stored-laid b k old l) (subst InRange (sym (stored_back b k old l)) r)
