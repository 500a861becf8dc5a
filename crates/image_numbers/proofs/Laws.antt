-- A session's numbers are its rows and its journal again, and an image's numbers are themselves again. Assumes nothing.
use Prim.Native.Nat.{ℕ, ◌+◌, ◌*◌, ◌≤◌, ◌<◌}
use mathlib.Core.Bool.{Bool, true}
use mathlib.Core.List.{List, [], ◌∷◌, ◌++◌}
use mathlib.Core.Path.{◌≡◌, refl, sym, ap, ◌∙◌}
use native.Mathlib.Omega.{arith}
use lib.Dec.{eqb}
use lib.ListN.{length, get_or, take, drop, length-append, length-take, length-drop, take-append-drop}
use lib.Seq.{ext_get_or, get_or-take, get_or-drop, get_or-append-add, drop_at, drop-drop}
use borrow.Author.Tests.{eqb-true}
use Rattle.octets.proofs.Tests.{every-below}
use Rattle.journal.specs.declared.event.Kind.{Kind}
use Rattle.journal.specs.declared.event.Kind.TheVariants.{Unused, Opened, Booked, Cancelled, Dropped, Signed}
use Rattle.journal.specs.declared.event.Event.{Event}
use Rattle.journal.specs.Events.{record_count}
use Rattle.bank_state.specs.Rows.{keep}
use Rattle.bank_rows.specs.Rows.{numbers_of}
use Rattle.bank_rows.proofs.General.{length-numbers, length-rows, numbers-rows, rows-numbers, take-listed}
use Rattle.opening_counts.specs.declared.seven.Counts.{Counts}
use Rattle.opening_counts.specs.Counts.{count_row, counts_from}
use Rattle.bank_session.specs.Session.{counts_at, session_size, counts_in}
use Rattle.image_records.specs.Layout as image
use Rattle.image_records.specs.Layout.{journal_at, event_width, number_count, event_at}
use Rattle.image_records.specs.Records.{last_kind}
use Rattle.image_numbers.specs.Table.{session_places, image_places}
use Rattle.image_numbers.specs.Numbers.{
  numbers_at,
  number_of_kind,
  kind_of,
  event_numbers,
  event_of,
  numbers_in,
  rows_from,
  row_from,
}
use Rattle.image_numbers.proofs.Places.{
  length_at,
  number_at,
  number-before,
  at_places,
  length-session,
  length-image,
  session-inside,
  image-within,
  image-there,
  again,
  session-back,
}
use Rattle.image_numbers.proofs.Counts.{counts-last}

-- ---- lengths

pub event-wide : (e : Event) → length (event_numbers e) ≡ event_width
event-wide e = refl

pub length-numbers_in : (s : List ℕ) (row : List Event) → length row ≡ record_count → length (numbers_in s row) ≡ number_count
unfolding numbers_in
length-numbers_in s row h =
    length-append (numbers_at session_places s) (numbers_of event_numbers row ++ count_row (counts_in s))
    ∙ omega (
      arith,
      length_at session_places s,
      length-session,
      length-append (numbers_of event_numbers row) (count_row (counts_in s)),
      length-numbers event_numbers event_width event-wide row,
    )

pub length-rows_from : (xs : List ℕ) → length (rows_from xs) ≡ session_size
unfolding rows_from
length-rows_from xs =
    length-append (numbers_at image_places xs) (count_row (counts_from image.counts_at xs))
    ∙ omega (arith, length_at image_places xs, length-image)

pub length-row_from : (xs : List ℕ) → length (row_from xs) ≡ record_count
unfolding row_from
length-row_from xs = length-rows event_width event_of record_count (drop journal_at xs)

-- ---- one number of a session's

pub session-number : (s : List ℕ) (row : List Event) (p : ℕ) → p < journal_at
    → get_or (numbers_in s row) p 0 ≡ get_or s (get_or session_places p 0) 0
unfolding numbers_in
session-number s row p h =
    number-before session_places s (numbers_of event_numbers row ++ count_row (counts_in s)) p (rw length-session h)

pub image-number : (xs : List ℕ) (p : ℕ) → p < counts_at → get_or (rows_from xs) p 0 ≡ get_or xs (get_or image_places p 0) 0
unfolding rows_from
image-number xs p h =
    number-before image_places xs (count_row (counts_from image.counts_at xs)) p (rw length-image h)

-- ---- the counts, which stand last

module _ (s : List ℕ) (row : List Event) (long : length row ≡ record_count) where
  pub count-behind : (i : ℕ) → get_or (numbers_in s row) (image.counts_at + i) 0 ≡ get_or (count_row (counts_in s)) i 0
  unfolding numbers_in
  count-behind i =
      let a : List ℕ = numbers_at session_places s in
      let b : List ℕ = numbers_of event_numbers row in
      let c : List ℕ = count_row (counts_in s) in
      let n : length a ≡ journal_at = length_at session_places s ∙ length-session in
      let m : length b ≡ event_width * length row = length-numbers event_numbers event_width event-wide row in
      let e : image.counts_at + i ≡ length a + (length b + i) = omega arith in
      ap (λ (q : ℕ). get_or (a ++ (b ++ c)) q 0) e ∙ get_or-append-add a (b ++ c) (length b + i) 0 ∙ get_or-append-add b c i 0

  pub counts-in : counts_from image.counts_at (numbers_in s row) ≡ counts_in s
  counts-in =
      rw (
        count-behind 0,
        count-behind 1,
        count-behind 2,
        count-behind 3,
        count-behind 4,
        count-behind 5,
        count-behind 6,
      )

count-after : (xs : List ℕ) (i : ℕ) → get_or (rows_from xs) (counts_at + i) 0 ≡ get_or (count_row (counts_from image.counts_at xs)) i 0
unfolding rows_from
count-after xs i =
    let a : List ℕ = numbers_at image_places xs in
    let n : length a ≡ counts_at = length_at image_places xs ∙ length-image in
    let c : List ℕ = count_row (counts_from image.counts_at xs) in
    let e : counts_at + i ≡ length a + i = omega arith in
    ap (λ (q : ℕ). get_or (a ++ c) q 0) e ∙ get_or-append-add a c i 0

pub counts-from : (xs : List ℕ) → counts_in (rows_from xs) ≡ counts_from image.counts_at xs
counts-from xs =
    rw (
      count-after xs 0,
      count-after xs 1,
      count-after xs 2,
      count-after xs 3,
      count-after xs 4,
      count-after xs 5,
      count-after xs 6,
    )

-- ---- the rows again

again-same : (s : List ℕ) → length s ≡ session_size → numbers_at (numbers_at image_places session_places) s ≡ take counts_at s
unfolding again
again-same s h =
    let n : length (numbers_at image_places session_places) ≡ counts_at =
    length_at image_places session_places ∙ length-image in
    let m = length_at (numbers_at image_places session_places) s in
    ext_get_or 0 _ (take counts_at s) (m ∙ n ∙ sym (length-take counts_at s ∙ omega arith))
    (λ i k. number_at (numbers_at image_places session_places) s i (omega arith)
    ∙ ap (λ (p : ℕ). get_or s p 0) (session-back i (omega arith))
    ∙ sym (get_or-take counts_at s i 0 (omega arith)))

pub rows_back : (s : List ℕ) (row : List Event) → length s ≡ session_size → length row ≡ record_count
    → rows_from (numbers_in s row) ≡ s
unfolding rows_from
rows_back s row h r =
    let front =
    at_places session_places s (numbers_in s row) (λ p k. session-number s row p (rw length-session at k)) image_places
    (rw length-session image-within)
    ∙ again-same s h in
    let counts = ap (λ (c : Counts). count_row c) (counts-in s row r) ∙ sym (counts-last s counts_at h) in
    rw (front, counts) (take-append-drop counts_at s)

-- ---- the journal again

kind-back : (k : Kind) → kind_of (number_of_kind k) ≡ k
kind-back Unused = refl
kind-back Opened = refl
kind-back Booked = refl
kind-back Cancelled = refl
kind-back Dropped = refl
kind-back Signed = refl

pub event-back : (e : Event) → true ≡ true → (r : List ℕ) → event_of (event_numbers e ++ r) ≡ e
event-back e t r = rw (kind-back e.kind)

keep-every : (l : List Event) → keep (λ (e : Event). true) l ≡ l
unfolding keep
keep-every [] = refl
keep-every (e ∷ l) = rw (keep-every l)

pub row_back : (s : List ℕ) (row : List Event) → length row ≡ record_count → row_from (numbers_in s row) ≡ row
unfolding row_from numbers_in
row_back s row h =
    let c : List ℕ = count_row (counts_in s) in
    let at-journal = drop_at (numbers_at session_places s) (numbers_of event_numbers row ++ c) journal_at
    (length_at session_places s ∙ length-session) in
    let back = rows-numbers event_width event_of event_numbers (λ (e : Event). true) event-wide event-back row c in
    rw (at-journal, ← h) (rw (keep-every row) at back)

-- ---- an image's numbers again

-- each number of a kind, one by one
kind-number : (n : ℕ) → n ≤ last_kind → number_of_kind (kind_of n) ≡ n
kind-number n h = eqb-true (number_of_kind (kind_of n)) n (every-below is_kind 6 refl n (omega (arith, h)))
  where
    is_kind : ℕ → Bool
    is_kind k = eqb (number_of_kind (kind_of k)) k

event-numbers : (s : List ℕ) → event_width ≤ length s → get_or s 7 0 ≤ last_kind
    → event_numbers (event_of s) ≡ take event_width s
event-numbers s h k = rw (kind-number (get_or s 7 0) k) (sym (take-listed event_width s h))

module _ (xs : List ℕ) (long : length xs ≡ number_count) where
  front-again : numbers_at (numbers_at session_places image_places) xs ≡ take journal_at xs
  front-again =
      let n : length (numbers_at session_places image_places) ≡ journal_at =
      length_at session_places image_places ∙ length-session in
      let m = length_at (numbers_at session_places image_places) xs in
      ext_get_or 0 _ (take journal_at xs) (m ∙ n ∙ sym (length-take journal_at xs ∙ omega arith))
      (λ i k. number_at (numbers_at session_places image_places) xs i (omega arith)
      ∙ ap (λ (p : ℕ). get_or xs p 0) (image-there i (omega arith))
      ∙ sym (get_or-take journal_at xs i 0 (omega arith)))

  rows-again : numbers_at session_places (rows_from xs) ≡ take journal_at xs
  rows-again =
      at_places image_places xs (rows_from xs) (λ p k. image-number xs p (rw length-image at k)) session_places
      (rw length-image session-inside)
      ∙ front-again

  module _ (kinds : (i : ℕ) → i < record_count → (event_at xs i).kind ≤ last_kind) where
    journal-record : (i : ℕ) → i < record_count
        → event_numbers (event_of (drop (event_width * i) (drop journal_at xs)))
        ≡ take event_width (drop (event_width * i) (drop journal_at xs))
    unfolding event_at
    journal-record i h =
        let e : journal_at + (event_width * i + 7) ≡ journal_at + i * event_width + 7 = omega arith in
        event-numbers (drop (event_width * i) (drop journal_at xs)) (simp length-drop (omega arith))
        (rw (get_or-drop (event_width * i) (drop journal_at xs) 7 0, get_or-drop journal_at xs (event_width * i + 7) 0, e)
        (kinds i h))

    journal-again : numbers_of event_numbers (row_from xs) ≡ take (event_width * record_count) (drop journal_at xs)
    unfolding row_from
    journal-again = numbers-rows event_width event_of event_numbers record_count (drop journal_at xs) journal-record

    counts-again : count_row (counts_in (rows_from xs)) ≡ drop (event_width * record_count) (drop journal_at xs)
    counts-again =
        ap (λ (c : Counts). count_row c) (counts-from xs) ∙ sym (counts-last xs image.counts_at long)
        ∙ sym (drop-drop (event_width * record_count) journal_at xs)

    pub numbers-back : numbers_in (rows_from xs) (row_from xs) ≡ xs
    unfolding numbers_in
    numbers-back =
        rw (rows-again, journal-again, counts-again, take-append-drop (event_width * record_count) (drop journal_at xs))
        (take-append-drop journal_at xs)
