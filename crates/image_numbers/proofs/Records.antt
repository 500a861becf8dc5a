-- The records in a session's numbers: each is the numbers of the rows at the places that the bank names, or the journal's
-- record. Assumes nothing.
use Prim.Native.Nat.{ℕ, zero, suc, ◌+◌, ◌*◌, ◌<◌}
use mathlib.Core.Bool.{Bool, true, ◌&&◌}
use mathlib.Core.List.{List, [], ◌∷◌, ◌++◌}
use mathlib.Core.Path.{◌≡◌, refl, sym, ap, ◌∙◌}
use native.Mathlib.Nat.{add-zero}
use native.Mathlib.Omega.{arith}
use lib.Dec.{eqb, ltb}
use lib.ListN.{length, get_or, get_or-append}
use lib.Seq.{get_or-append-add}
use borrow.Author.Tests.{eqb-true, ltb-true}
use Rattle.octets.proofs.Tests.{and-true}
use Rattle.journal.specs.declared.event.Event.{Event}
use Rattle.journal.specs.Events.{record_count, no_event}
use Rattle.bank_state.specs.Limits.{place_count, nonce_count}
use Rattle.bank_rows.specs.Layout as rows
use Rattle.bank_rows.specs.Rows.{numbers_of, all_below}
use Rattle.bank_rows.proofs.General.{length-numbers}
use Rattle.bank_rows.proofs.Tests.{all-holds}
use Rattle.opening_counts.specs.Counts.{count_row}
use Rattle.bank_session.specs.Session.{events_at, counts_in}
use Rattle.image_records.specs.declared.layout.NonceRecord.{NonceRecord}
use Rattle.image_records.specs.declared.layout.DownloadRecord.{DownloadRecord}
use Rattle.image_records.specs.declared.layout.PlaceRecord.{PlaceRecord}
use Rattle.image_records.specs.declared.layout.EventRecord.{EventRecord}
use Rattle.image_records.specs.Layout as image
use Rattle.image_records.specs.Layout.{nonce_at, download_at, place_at, event_at, counter_at, file_at, count_at}
use Rattle.image_numbers.specs.Table.{
  nonce_parts,
  download_parts,
  place_parts,
  group_at,
  part_places,
  record_places,
  group_places,
  records_from,
  groups_from,
  session_places,
}
use Rattle.image_numbers.specs.Numbers.{numbers_at, number_of_kind, event_numbers, numbers_in}
use Rattle.image_numbers.proofs.Places.{length_at, length-session}
use Rattle.image_numbers.proofs.Laws.{event-wide, session-number, count-behind}

-- ---- the numbers that stand alone

module _ (s : List ℕ) (row : List Event) where
  alone : (p q : ℕ) → p < image.journal_at → get_or session_places p 0 ≡ q → get_or (numbers_in s row) p 0 ≡ get_or s q 0
  alone p q h e = session-number s row p h ∙ ap (λ (k : ℕ). get_or s k 0) e

  pub clock-in : image.clock (numbers_in s row) ≡ get_or s rows.clock_at 0
  unfolding session_places groups_from group_places records_from record_places part_places group_at
  clock-in = alone image.clock_at rows.clock_at (omega arith) refl

  pub openings-in : image.openings (numbers_in s row) ≡ get_or s rows.openings_at 0
  unfolding session_places groups_from group_places records_from record_places part_places group_at
  openings-in = alone image.openings_at rows.openings_at (omega arith) refl

  pub events-in : image.events (numbers_in s row) ≡ get_or s events_at 0
  unfolding session_places groups_from group_places records_from record_places part_places group_at
  events-in = alone image.events_at events_at (omega arith) refl

  pub nonce-count-in : get_or (numbers_in s row) image.nonce_count_at 0 ≡ get_or s rows.nonce_count_at 0
  unfolding session_places groups_from group_places records_from record_places part_places group_at
  nonce-count-in = alone image.nonce_count_at rows.nonce_count_at (omega arith) refl

  pub download-count-in : get_or (numbers_in s row) image.download_count_at 0 ≡ get_or s rows.download_count_at 0
  unfolding session_places groups_from group_places records_from record_places part_places group_at
  download-count-in = alone image.download_count_at rows.download_count_at (omega arith) refl

-- ---- the records of the rows

-- part j of record i, in the image and in the rows
module _ (at width rows_at rows_width : ℕ) (parts : List ℕ) where
  unfoldable part_stands : ℕ → ℕ → Bool
  part_stands i j =
      ltb (at + i * width + j) image.journal_at
      && eqb (get_or session_places (at + i * width + j) 0) (rows_at + (rows_width * i + get_or parts j 0))

  unfoldable record_stands : ℕ → Bool
  record_stands i = all_below (part_stands i) (length parts)

  module _ (count : ℕ) (all : all_below record_stands count ≡ true) (s : List ℕ) (row : List Event) (i : ℕ) (h : i < count)
    where
      part_in : (j : ℕ) → j < length parts
          → get_or (numbers_in s row) (at + i * width + j) 0 ≡ get_or s (rows_at + (rows_width * i + get_or parts j 0)) 0
      unfolding part_stands record_stands
      part_in j k =
          let t = and-true (ltb (at + i * width + j) image.journal_at) _
          (all-holds (part_stands i) (length parts) (all-holds record_stands count all i h) j k) in
          alone s row _ _ (ltb-true _ _ t.0) (eqb-true _ _ t.1)

      first-in : 0 < length parts → get_or (numbers_in s row) (at + i * width) 0 ≡ get_or s (rows_at + (rows_width * i + get_or parts 0 0)) 0
      first-in k = ap (λ (p : ℕ). get_or (numbers_in s row) p 0) (sym (add-zero (at + i * width))) ∙ part_in 0 k

nonces-stand : all_below (record_stands image.nonces_at image.nonce_width rows.nonces_at rows.nonce_width nonce_parts) nonce_count ≡ true
unfolding part_stands record_stands all_below session_places groups_from group_places records_from record_places part_places group_at
nonces-stand = refl

downloads-stand : all_below (record_stands image.downloads_at image.download_width rows.downloads_at rows.download_width download_parts) place_count ≡ true
unfolding part_stands record_stands all_below session_places groups_from group_places records_from record_places part_places group_at
downloads-stand = refl

places-stand : all_below (record_stands image.places_at image.place_width rows.places_at rows.place_width place_parts) place_count ≡ true
unfolding part_stands record_stands all_below session_places groups_from group_places records_from record_places part_places group_at
places-stand = refl

series-stand : all_below (record_stands image.series_at 1 rows.series_at 1 (0 ∷ [])) place_count ≡ true
unfolding part_stands record_stands all_below session_places groups_from group_places records_from record_places part_places group_at
series-stand = refl

files-stand : all_below (record_stands image.files_at 1 rows.files_at 1 (0 ∷ [])) place_count ≡ true
unfolding part_stands record_stands all_below session_places groups_from group_places records_from record_places part_places group_at
files-stand = refl

-- the records as the rows have them

abbrev pub nonce_in : List ℕ → ℕ → NonceRecord
nonce_in s i =
    record {
      high = get_or s (rows.nonces_at + (rows.nonce_width * i + rows.nonce_high)) 0;
      low = get_or s (rows.nonces_at + (rows.nonce_width * i + rows.nonce_low)) 0;
      timestamp = get_or s (rows.nonces_at + (rows.nonce_width * i + rows.nonce_timestamp)) 0;
    }

abbrev pub download_in : List ℕ → ℕ → DownloadRecord
download_in s i =
    record {
      subscriber = get_or s (rows.downloads_at + (rows.download_width * i + rows.download_subscriber)) 0;
      high = get_or s (rows.downloads_at + (rows.download_width * i + rows.download_high)) 0;
      low = get_or s (rows.downloads_at + (rows.download_width * i + rows.download_low)) 0;
      delivered = get_or s (rows.downloads_at + (rows.download_width * i + rows.download_delivered)) 0;
      attempts = get_or s (rows.downloads_at + (rows.download_width * i + rows.download_attempts)) 0;
      last = get_or s (rows.downloads_at + (rows.download_width * i + rows.download_last)) 0;
    }

abbrev pub place_in : List ℕ → ℕ → PlaceRecord
place_in s i =
    record {
      state = get_or s (rows.places_at + (rows.place_width * i + rows.place_use)) 0;
      subscriber = get_or s (rows.places_at + (rows.place_width * i + rows.place_subscriber)) 0;
      high = get_or s (rows.places_at + (rows.place_width * i + rows.place_high)) 0;
      low = get_or s (rows.places_at + (rows.place_width * i + rows.place_low)) 0;
      order = get_or s (rows.places_at + (rows.place_width * i + rows.place_number)) 0;
      segments = get_or s (rows.places_at + (rows.place_width * i + rows.place_segments)) 0;
      taken = get_or s (rows.places_at + (rows.place_width * i + rows.place_taken)) 0;
      attempts = get_or s (rows.places_at + (rows.place_width * i + rows.place_attempts)) 0;
      last = get_or s (rows.places_at + (rows.place_width * i + rows.place_last)) 0;
      length = get_or s (rows.places_at + (rows.place_width * i + rows.place_length)) 0;
      signers = get_or s (rows.places_at + (rows.place_width * i + rows.place_signers)) 0;
    }

module _ (s : List ℕ) (row : List Event) (i : ℕ) where
  pub nonce-in : i < nonce_count → nonce_at (numbers_in s row) i ≡ nonce_in s i
  unfolding nonce_at
  nonce-in h =
      let at = part_in image.nonces_at image.nonce_width rows.nonces_at rows.nonce_width nonce_parts nonce_count nonces-stand s row i h in
      let first = first-in image.nonces_at image.nonce_width rows.nonces_at rows.nonce_width nonce_parts nonce_count nonces-stand s row i h in
      cc (first (omega arith), at 1 (omega arith), at 2 (omega arith))

  pub download-in : i < place_count → download_at (numbers_in s row) i ≡ download_in s i
  unfolding download_at
  download-in h =
      let at = part_in image.downloads_at image.download_width rows.downloads_at rows.download_width download_parts place_count downloads-stand s row i h in
      let first = first-in image.downloads_at image.download_width rows.downloads_at rows.download_width download_parts place_count downloads-stand s row i h in
      cc (
        first (omega arith),
        at 1 (omega arith),
        at 2 (omega arith),
        at 3 (omega arith),
        at 4 (omega arith),
        at 5 (omega arith),
      )

  pub place-in : i < place_count → place_at (numbers_in s row) i ≡ place_in s i
  unfolding place_at
  place-in h =
      let at = part_in image.places_at image.place_width rows.places_at rows.place_width place_parts place_count places-stand s row i h in
      let first = first-in image.places_at image.place_width rows.places_at rows.place_width place_parts place_count places-stand s row i h in
      cc (
        first (omega arith),
        at 1 (omega arith),
        at 2 (omega arith),
        at 3 (omega arith),
        at 4 (omega arith),
        at 5 (omega arith),
        at 6 (omega arith),
        at 7 (omega arith),
        at 8 (omega arith),
        at 9 (omega arith),
        at 10 (omega arith),
      )

  pub counter-in : i < place_count → counter_at (numbers_in s row) i ≡ get_or s (rows.series_at + i) 0
  unfolding counter_at
  counter-in h =
      let e : image.series_at + i ≡ image.series_at + i * 1 = omega arith in
      let f : rows.series_at + (1 * i + 0) ≡ rows.series_at + i = omega arith in
      ap (λ (p : ℕ). get_or (numbers_in s row) p 0) e
      ∙ first-in image.series_at 1 rows.series_at 1 (0 ∷ []) place_count series-stand s row i h (omega arith)
      ∙ ap (λ (p : ℕ). get_or s p 0) f

  pub file-in : i < place_count → file_at (numbers_in s row) i ≡ get_or s (rows.files_at + i) 0
  unfolding file_at
  file-in h =
      let e : image.files_at + i ≡ image.files_at + i * 1 = omega arith in
      let f : rows.files_at + (1 * i + 0) ≡ rows.files_at + i = omega arith in
      ap (λ (p : ℕ). get_or (numbers_in s row) p 0) e
      ∙ first-in image.files_at 1 rows.files_at 1 (0 ∷ []) place_count files-stand s row i h (omega arith)
      ∙ ap (λ (p : ℕ). get_or s p 0) f

-- ---- the journal's records

abbrev pub event_in : Event → EventRecord
event_in e =
    record {
      number = e.number;
      clock = e.clock;
      subscriber = e.subscriber;
      order_type = e.order_type;
      order = e.order;
      high = e.high;
      low = e.low;
      kind = number_of_kind e.kind;
    }

-- number j of element i
number_of : (row : List Event) (i j : ℕ) → i < length row → j < image.event_width
    → get_or (numbers_of event_numbers row) (i * image.event_width + j) 0 ≡ get_or (event_numbers (get_or row i no_event)) j 0
unfolding numbers_of
number_of [] i j h k = absurd (omega arith)
number_of (e ∷ row) zero j h k =
    let p : 0 * image.event_width + j ≡ j = omega arith in
    ap (λ (q : ℕ). get_or (event_numbers e ++ numbers_of event_numbers row) q 0) p
    ∙ get_or-append (event_numbers e) (numbers_of event_numbers row) 0 j k
number_of (e ∷ row) (suc i) j h k =
    let p : suc i * image.event_width + j ≡ image.event_width + (i * image.event_width + j) = omega arith in
    ap (λ (q : ℕ). get_or (event_numbers e ++ numbers_of event_numbers row) q 0) p
    ∙ get_or-append-add (event_numbers e) (numbers_of event_numbers row) (i * image.event_width + j) 0
    ∙ number_of row i j (omega arith) k

module _ (s : List ℕ) (row : List Event) (long : length row ≡ record_count) (i : ℕ) (h : i < record_count) where
  event-number : (j p : ℕ) → j < image.event_width → p ≡ image.journal_at + (i * image.event_width + j)
      → get_or (numbers_in s row) p 0 ≡ get_or (event_numbers (get_or row i no_event)) j 0
  unfolding numbers_in
  event-number j p k e =
      let n : length (numbers_at session_places s) ≡ image.journal_at = length_at session_places s ∙ length-session in
      let a : List ℕ = numbers_at session_places s in
      let b : List ℕ = numbers_of event_numbers row in
      let c : List ℕ = count_row (counts_in s) in
      let q : ℕ = i * image.event_width + j in
      let f : p ≡ length a + q = omega arith in
      let m = length-numbers event_numbers image.event_width event-wide row in
      ap (λ (k : ℕ). get_or (a ++ (b ++ c)) k 0) f ∙ get_or-append-add a (b ++ c) q 0
      ∙ get_or-append b c 0 q (omega arith) ∙ number_of row i j (omega arith) k

  pub event-in : event_at (numbers_in s row) i ≡ event_in (get_or row i no_event)
  unfolding event_at
  event-in =
      let at = image.journal_at + i * image.event_width in
      cc (
        event-number 0 at (omega arith) (omega arith),
        event-number 1 (at + 1) (omega arith) (omega arith),
        event-number 2 (at + 2) (omega arith) (omega arith),
        event-number 3 (at + 3) (omega arith) (omega arith),
        event-number 4 (at + 4) (omega arith) (omega arith),
        event-number 5 (at + 5) (omega arith) (omega arith),
        event-number 6 (at + 6) (omega arith) (omega arith),
        event-number 7 (at + 7) (omega arith) (omega arith),
      )

-- ---- the counts

-- count i is the session's
pub count-in : (s : List ℕ) (row : List Event) → length row ≡ record_count → (i : ℕ)
    → count_at (numbers_in s row) i ≡ get_or (count_row (counts_in s)) i 0
unfolding count_at
count-in s row long i = count-behind s row long i
