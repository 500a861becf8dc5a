-- What the tests of lengths and of the list say. Assumes nothing.
use Rattle.std.specs.Prelude.{◌≡◌, ℕ, zero, suc, ◌+◌, ◌-◌, ◌*◌, ◌^◌, ◌<◌, ◌≤◌, Bool, true, false, ◌&&◌, eqb, ltb, List, [], ◌∷◌, length, get_or, take, drop}
use mathlib.Core.Path.{refl, sym, ap, ◌∙◌}
use native.Mathlib.Omega.{arith}
use lib.Seq.{get_or-drop, get_or-take}
use borrow.Author.Tests.{eqb-true, eq-eqb, ltb-true, ltb-false}
use Rattle.octets.proofs.Tests.{and-true}
use Rattle.journal.specs.declared.event.Event.{Event}
use Rattle.journal.specs.Events.{record_count}
use Rattle.bank_state.specs.Limits.{store_bytes}
use Rattle.bank_session.specs.Session.{LentSession, session, session_size}
use Rattle.image.specs.Items.{image_sizes}
use Rattle.image.specs.Image as codec
use Rattle.image.proofs.Calls.{lent-all}
use Rattle.image.proofs.Theorems as image
use Rattle.image_records.specs.Shapes.{all_of, all_zero, unused}
use Rattle.image_records.specs.Layout.{
  number_count,
  journal_at,
  event_width,
  clock,
  openings,
  events,
  used_events,
  event_at,
}
use Rattle.image_records.specs.Records as records
use Rattle.image_conditions.specs.Conditions as list
use Rattle.image_records.proofs.Shapes.{every-at}
use Rattle.image_records.proofs.OneRecord.{event-listed, event-kinds}
use Rattle.image_calls.specs.Calls.{sizes_right, lengths_right}

-- ---- lengths

-- an image is so short that its places are numbers of 64 bits
pub image-short : image_sizes.image < 2 ^ 32
image-short = omega (arith, (image.image-is).0)

pub numbers-size : image_sizes.numbers ≡ number_count
numbers-size = (image.image-is).1

pub store-size : image_sizes.store ≡ store_bytes
unfolding image_sizes
store-size = refl

module _ (rows records orders mailboxes : ℕ) (h : sizes_right rows records orders mailboxes ≡ true) where
  pub sizes-are : (rows ≡ session_size) × (records ≡ record_count) × (orders ≡ store_bytes) × (mailboxes ≡ store_bytes)
  sizes-are =
      let p = and-true (eqb rows session_size) (eqb records record_count && (eqb orders store_bytes && eqb mailboxes store_bytes)) h in
      let q = and-true (eqb records record_count) (eqb orders store_bytes && eqb mailboxes store_bytes) p.1 in
      let r = and-true (eqb orders store_bytes) (eqb mailboxes store_bytes) q.1 in
      (eqb-true _ _ p.0, eqb-true _ _ q.0, eqb-true _ _ r.0, eqb-true _ _ r.1)

-- the lengths of a session whose row has so many records
pub lengths-are : (rows orders mailboxes : List ℕ) (l : List Event) (records : ℕ) → length l ≡ records
    → (t : Bool) → sizes_right (length rows) records (length orders) (length mailboxes) ≡ t
    → lengths_right (session rows l orders mailboxes) ≡ t
unfolding lengths_right
lengths-are rows orders mailboxes l records e t h = rw e h

pub lengths-right : (m : LentSession) → lengths_right m ≡ true
    → (length m.rows ≡ session_size) × (length m.row ≡ record_count)
    × (length m.orders ≡ store_bytes) × (length m.mailboxes ≡ store_bytes)
unfolding lengths_right
lengths-right m h = sizes-are (length m.rows) (length m.row) (length m.orders) (length m.mailboxes) h

pub right-lengths : (m : LentSession) → length m.rows ≡ session_size → length m.row ≡ record_count
    → length m.orders ≡ store_bytes → length m.mailboxes ≡ store_bytes → lengths_right m ≡ true
unfolding lengths_right
right-lengths m a b c d =
    rw (
      eq-eqb (length m.rows) session_size a,
      eq-eqb (length m.row) record_count b,
      eq-eqb (length m.orders) store_bytes c,
      eq-eqb (length m.mailboxes) store_bytes d,
    )

-- ---- the list

module _ (xs orders mailboxes : List ℕ) (h : list.admitted xs orders mailboxes ≡ true) where
  listed : (length xs ≡ number_count) × (length orders ≡ store_bytes) × (length mailboxes ≡ store_bytes)
      × (list.conditions xs orders mailboxes ≡ true)
  unfolding list.admitted
  listed =
      let c = list.conditions xs orders mailboxes in
      let p = and-true (eqb (length xs) number_count) _ h in
      let q = and-true (eqb (length orders) store_bytes) _ p.1 in
      let r = and-true (eqb (length mailboxes) store_bytes) (c && true) q.1 in
      (eqb-true _ _ p.0, eqb-true _ _ q.0, eqb-true _ _ r.0, (and-true c true r.1).0)

  pub listed-sizes : (length xs ≡ number_count) × (length orders ≡ store_bytes) × (length mailboxes ≡ store_bytes)
  listed-sizes = (listed.0, listed.1, listed.2)

  pub listed-lent : codec.lent xs orders mailboxes ≡ true
  listed-lent =
      lent-all image_sizes refl xs orders mailboxes (listed.0 ∙ sym (numbers-size))
      (listed.1 ∙ sym (store-size)) (listed.2 ∙ sym (store-size))

-- ---- the kinds of events

all-of : (ts : List Bool) → all_of ts ≡ true → (i : ℕ) → get_or ts i true ≡ true
all-of [] h i = refl
all-of (t ∷ ts) h zero = (and-true t (all_of ts) h).0
all-of (t ∷ ts) h (suc i) = all-of ts (and-true t (all_of ts) h).1 i

zero-at : (l : List ℕ) → all_zero l ≡ true → (i : ℕ) → get_or l i 0 ≡ 0
unfolding all_zero
zero-at [] h i = refl
zero-at (x ∷ l) h zero = eqb-true x 0 (and-true (eqb x 0) (all_zero l) h).0
zero-at (x ∷ l) h (suc i) = zero-at l (and-true (eqb x 0) (all_zero l) h).1 i

module _ (xs : List ℕ) where
  abbrev kind_at : ℕ → ℕ
  kind_at i = get_or xs (journal_at + i * event_width + 7) 0

  used-kind : (i : ℕ) → list.event_test xs i ≡ true → kind_at i ≤ records.last_kind
  unfolding list.event_test event_at
  used-kind i h =
      let e = event_at xs i in
      let before = event_at xs (i - 1) in
      let n = events xs in
      event-kinds (clock xs) (openings xs) n i before e (event-listed (clock xs) (openings xs) n i before e h)

  unused-kind : (u i : ℕ) → u ≤ i → i < record_count → unused xs journal_at event_width u record_count ≡ true → kind_at i ≡ 0
  unfolding unused
  unused-kind u i h k e =
      let n : ℕ = event_width * record_count - u * event_width in
      let p : ℕ = journal_at + u * event_width in
      let j : ℕ = i * event_width + 7 - u * event_width in
      let q : journal_at + i * event_width + 7 ≡ p + j = omega arith in
      ap (λ (a : ℕ). get_or xs a 0) q ∙ sym (get_or-drop p xs j 0) ∙ sym (get_or-take n (drop p xs) j 0 (omega arith))
      ∙ zero-at (take n (drop p xs)) e j

  module _ (holds : list.journal_conditions xs ≡ true) where
    parts : (list.every_event xs ≡ true) × (list.journal_unused xs ≡ true)
    unfolding list.journal_conditions
    parts =
        let at = all-of (list.events_fit xs ∷ list.every_event xs ∷ list.journal_unused xs ∷ []) holds in
        (at 1, at 2)

    kind-by : (i : ℕ) → i < record_count → (t : Bool) → ltb i (used_events xs) ≡ t → (event_at xs i).kind ≤ records.last_kind
    unfolding list.every_event list.journal_unused event_at
    kind-by i h true e =
        used-kind i (every-at (list.event_test xs) (used_events xs) i parts.0 (ltb-true i (used_events xs) e))
    kind-by i h false e =
        let k = unused-kind (used_events xs) i (ltb-false i (used_events xs) e) h parts.1 in omega arith

pub listed-kinds : (xs orders mailboxes : List ℕ) → list.admitted xs orders mailboxes ≡ true
    → (i : ℕ) → i < record_count → (event_at xs i).kind ≤ records.last_kind
unfolding list.conditions
listed-kinds xs orders mailboxes h i k =
    let journal = all-of (list.clock_fits xs ∷ list.openings_fit xs ∷ list.series_conditions xs ∷ list.nonce_conditions xs
    ∷ list.download_conditions xs ∷ list.every_place xs orders ∷ list.open_conditions xs
    ∷ list.every_mailbox xs mailboxes ∷ list.journal_conditions xs ∷ list.count_conditions xs ∷ []) (listed xs orders mailboxes h).3 8 in
    kind-by xs journal i k (ltb i (used_events xs)) refl
