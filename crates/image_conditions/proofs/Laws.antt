-- What the list says in the page's own words, of the numbers and bytes of a session that passes it. Assumes nothing.
use Prim.Native.Nat.{ℕ, ◌+◌, ◌-◌, ◌*◌, ◌≤◌, ◌<◌}
use mathlib.Core.Bool.{true}
use mathlib.Core.List.{List}
use mathlib.Core.Path.{◌≡◌, sym, ap, ◌∙◌}
use native.Mathlib.Omega.{arith}
use lib.ListN.{get_or, take, drop}
use lib.Seq.{get_or-take, get_or-drop}
use borrow.Author.Tests.{leb-true, le-leb, lt-ltb, eq-eqb}
use Rattle.octets.proofs.Tests.{never, and-true}
use Rattle.message.specs.Limits.{file_bytes}
use Rattle.bank_state.specs.Limits.{place_count, window, series_limit}
use Rattle.image_records.specs.Shapes.{up_to, count, total, all_zero}
use Rattle.image_records.specs.Layout.{
  clock,
  openings,
  events,
  nonce_at,
  place_at,
  counter_at,
  file_at,
}
use Rattle.image_records.specs.Records.{place_holds}
use Rattle.image_conditions.specs.Conditions.{
  chosen_ahead,
  series_sum,
  same_order,
  orders_distinct,
  nonce_test,
  place_test,
  is_open_slot,
  signers_at,
  signers_in_all,
  bytes_behind,
  place_bytes,
  mailbox_bytes,
  events_fit,
}
use Rattle.signers.specs.Signers.{bit_count}
use Rattle.signers.proofs.Counts.{count_most}
use Rattle.image_records.proofs.Shapes.{total-most}
use Rattle.image_records.proofs.General.{zeros-at, distinct-at}
use Rattle.image_records.proofs.OneRecord as one

-- "each timestamp .. at most clock + window"
pub nonce-ahead : (xs : List ℕ) (i : ℕ) → nonce_test xs i ≡ true → (nonce_at xs i).timestamp ≤ clock xs + window
unfolding nonce_test
nonce-ahead xs i e = one.nonce-ahead (clock xs) (nonce_at xs i) e

-- "the counts and chosen ahead together" add up to at most the openings
pub series-bounded : (xs : List ℕ) → series_sum xs ≡ true →
    total (counter_at xs) place_count + chosen_ahead xs ≤ openings xs
unfolding series_sum
series-bounded xs e = leb-true (total (counter_at xs) place_count + chosen_ahead xs) (openings xs) e

-- "state 1 or 2: the order number is below" 1,213,056
pub order-limited : (xs orders : List ℕ) (i : ℕ) → place_test xs orders i ≡ true → 0 < (place_at xs i).state →
    (place_at xs i).order < series_limit
unfolding place_test
order-limited xs orders i e used =
    let p = place_at xs i in
    let h = (and-true (place_holds (clock xs) (openings xs) p) _ e).0 in
    one.place-ordered (clock xs) (openings xs) p (one.place-listed (clock xs) (openings xs) p h) used

-- "no two places in use have the same subscriber and order number"
pub orders-apart : (xs : List ℕ) → orders_distinct xs ≡ true → (i j : ℕ) → i < place_count → j < i →
    0 < (place_at xs i).state → 0 < (place_at xs j).state → (place_at xs i).subscriber ≡ (place_at xs j).subscriber →
    (place_at xs i).order ≡ (place_at xs j).order → ⊥
unfolding orders_distinct same_order
orders-apart xs e i j below less p q s o =
    let g = distinct-at (same_order xs) place_count e i j below less in
    never
    (sym g
    ∙ rw (
      lt-ltb 0 (place_at xs i).state p,
      lt-ltb 0 (place_at xs j).state q,
      eq-eqb (place_at xs i).subscriber (place_at xs j).subscriber s,
      eq-eqb (place_at xs i).order (place_at xs j).order o,
    ))

-- the bytes of a part of a store behind its length
pub byte-behind : (size : ℕ) (store : List ℕ) (i n k : ℕ) → all_zero (bytes_behind size store i n) ≡ true → n ≤ k →
    k < size → get_or store (i * size + k) 0 ≡ 0
unfolding bytes_behind
byte-behind size store i n k e l h =
    let few : up_to size n ≡ n = rw (le-leb n size (omega arith)) in
    let z : all_zero (take (size - n) (drop (i * size + n) store)) ≡ true = rw few at e in
    let at : i * size + n + (k - n) ≡ i * size + k = omega arith in
    ap (λ (p : ℕ). get_or store p 0) (sym at)
    ∙ (sym (get_or-drop (i * size + n) store (k - n) 0)
    ∙ (sym (get_or-take (size - n) (drop (i * size + n) store) (k - n) 0 (omega arith))
    ∙ zeros-at (take (size - n) (drop (i * size + n) store)) z (k - n)))

-- "the bytes of each place behind its length are 0"
pub place-behind : (xs orders : List ℕ) (i k : ℕ) → place_bytes xs orders i ≡ true →
    (place_at xs i).length ≤ k → k < file_bytes → get_or orders (i * file_bytes + k) 0 ≡ 0
unfolding place_bytes
place-behind xs orders i k e = byte-behind file_bytes orders i (place_at xs i).length k e

-- "the bytes of each mailbox behind its length are 0"
pub mailbox-behind : (xs mailboxes : List ℕ) (i k : ℕ) → mailbox_bytes xs mailboxes i ≡ true →
    file_at xs i ≤ k → k < file_bytes → get_or mailboxes (i * file_bytes + k) 0 ≡ 0
unfolding mailbox_bytes
mailbox-behind xs mailboxes i k e = byte-behind file_bytes mailboxes i (file_at xs i) k e

-- "05 plus the number of open uploads is at most 2 × openings + signers"
pub events-bounded : (xs : List ℕ) → events_fit xs ≡ true →
    events xs + count (is_open_slot xs) place_count ≤ 2 * openings xs + signers_in_all xs
unfolding events_fit
events-bounded xs e =
    leb-true (events xs + count (is_open_slot xs) place_count) (2 * openings xs + signers_in_all xs) e

-- at most 64 signers in all: eight of each place
pub signers-most : (xs : List ℕ) → signers_in_all xs ≤ place_count * bit_count
unfolding signers_in_all signers_at
signers-most xs = total-most (signers_at xs) bit_count (λ i. count_most (place_at xs i).signers) place_count
