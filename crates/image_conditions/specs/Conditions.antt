-- Card 2, "the full list stands under docs/": the conditions of an admitted image, each under its label, those of one
-- record by `image_records`.
use Rattle.std.specs.Prelude.{ℕ, ◌+◌, ◌-◌, ◌*◌, Bool, ◌&&◌, List, [], ◌∷◌, length, get_or, take, drop, leb, ltb, eqb}
use Rattle.frame_table.specs.Table.{last_time}
use Rattle.message.specs.Limits.{subscribers, file_bytes}
use Rattle.bank_state.specs.Limits.{
  place_count,
  nonce_count,
  store_bytes,
  max_open,
  max_open_per_subscriber,
  max_openings,
  series_limit,
}
use Rattle.journal.specs.Events.{record_count}
use Rattle.signers.specs.Signers.{signer_count}
use Rattle.image_records.specs.Shapes.{all_of, implies, up_to, every, count, total, distinct, all_zero, unused}
use Rattle.image_records.specs.Layout.{
  open_state,
  nonces_at,
  nonce_width,
  nonce_count_at,
  downloads_at,
  download_width,
  download_count_at,
  journal_at,
  event_width,
  number_count,
  clock,
  openings,
  events,
  nonces,
  downloads,
  used_events,
  nonce_at,
  download_at,
  place_at,
  event_at,
  counter_at,
  counter_of,
  file_at,
  file_of,
  slot_count,
  slot_at,
  count_size,
  count_at,
}
use Rattle.image_records.specs.Records.{nonce_time, download_holds, is_booked, in_use, place_holds, event_holds}

-- ---- single numbers

-- clock: "clock is at most the last time"
abbrev pub clock_fits : List ℕ → Bool
clock_fits xs = leb (clock xs) last_time

-- openings: "at most 4,294,967,296"
abbrev pub openings_fit : List ℕ → Bool
openings_fit xs = leb (openings xs) max_openings

-- series: "each count at most 1,213,056", here that of subscriber i + 1
unfoldable pub series_fits : List ℕ → ℕ → Bool
series_fits xs i = leb (counter_at xs i) series_limit

-- place i is in use and has "an order number that is not below" its "subscriber's count in 04"
unfoldable pub is_ahead : List ℕ → ℕ → Bool
is_ahead xs i = in_use (place_at xs i) && leb (counter_of xs (place_at xs i).subscriber) (place_at xs i).order

-- "chosen ahead": how many places are so
unfoldable pub chosen_ahead : List ℕ → ℕ
chosen_ahead xs = count (is_ahead xs) place_count

-- series sum: "the eight counts add up to at most openings; form 11 on: the counts and chosen ahead together"
unfoldable pub series_sum : List ℕ → Bool
series_sum xs = leb (total (counter_at xs) place_count + chosen_ahead xs) (openings xs)

-- nonce count: "06 is at most 64"
abbrev pub nonce_count_fits : List ℕ → Bool
nonce_count_fits xs = leb (get_or xs nonce_count_at 0) nonce_count

-- download count: "08 is at most 8"
abbrev pub download_count_fits : List ℕ → Bool
download_count_fits xs = leb (get_or xs download_count_at 0) place_count

-- ---- the nonces in use

-- nonces distinct: "no two records in use have the same nonce"
unfoldable pub same_nonce : List ℕ → ℕ → ℕ → Bool
same_nonce xs i j = eqb (nonce_at xs i).high (nonce_at xs j).high && eqb (nonce_at xs i).low (nonce_at xs j).low

unfoldable pub nonces_distinct : List ℕ → Bool
nonces_distinct xs = distinct (same_nonce xs) (nonces xs)

-- nonces unused: "records from the count on are 0"
unfoldable pub nonces_unused : List ℕ → Bool
nonces_unused xs = unused xs nonces_at nonce_width (nonces xs) nonce_count

-- ---- the open downloads

-- downloads rising: "running rises from record to record"
unfoldable pub download_rises : List ℕ → ℕ → Bool
download_rises xs i = implies (ltb 0 i) (ltb (download_at xs (i - 1)).low (download_at xs i).low)

-- downloads unused: "records from the count on are 0"
unfoldable pub downloads_unused : List ℕ → Bool
downloads_unused xs = unused xs downloads_at download_width (downloads xs) place_count

-- ---- the places

-- orders distinct: "no two places in use have the same subscriber and order number"
unfoldable pub same_order : List ℕ → ℕ → ℕ → Bool
same_order xs i j =
    all_of (in_use (place_at xs i) ∷ in_use (place_at xs j) ∷ eqb (place_at xs i).subscriber (place_at xs j).subscriber
    ∷ eqb (place_at xs i).order (place_at xs j).order ∷ [])

unfoldable pub orders_distinct : List ℕ → Bool
orders_distinct xs = distinct (same_order xs) place_count

-- ---- places and open downloads together

-- numbers distinct: "no two running numbers in use are the same"
unfoldable pub same_number : List ℕ → ℕ → ℕ → Bool
same_number xs i j =
    all_of (ltb 0 (slot_at xs i).state ∷ ltb 0 (slot_at xs j).state ∷ eqb (slot_at xs i).low (slot_at xs j).low ∷ [])

unfoldable pub numbers_distinct : List ℕ → Bool
numbers_distinct xs = distinct (same_number xs) slot_count

unfoldable pub is_open_slot : List ℕ → ℕ → Bool
is_open_slot xs i = eqb (slot_at xs i).state open_state

-- the slot is an open transaction of the subscriber
unfoldable pub is_open_of : List ℕ → ℕ → ℕ → Bool
is_open_of xs s i = eqb (slot_at xs i).state open_state && eqb (slot_at xs i).subscriber s

-- open in all: "open uploads and open downloads are at most 8"
unfoldable pub open_in_all : List ℕ → Bool
open_in_all xs = leb (count (is_open_slot xs) slot_count) max_open

-- open of one: "at most 4 of one subscriber", here of subscriber i + 1
unfoldable pub open_of_one : List ℕ → ℕ → Bool
open_of_one xs i = leb (count (is_open_of xs (i + 1)) slot_count) max_open_per_subscriber

-- the number of signers of place i
unfoldable pub signers_at : List ℕ → ℕ → ℕ
signers_at xs i = signer_count (place_at xs i).signers

-- "signers the bits set in the places' signers, all together"
unfoldable pub signers_in_all : List ℕ → ℕ
signers_in_all xs = total (signers_at xs) place_count

-- events: "05 plus the number of open uploads is at most 2 × openings + signers"
unfoldable pub events_fit : List ℕ → Bool
events_fit xs = leb (events xs + count (is_open_slot xs) place_count) (2 * openings xs + signers_in_all xs)

-- ---- the stores

-- mailbox length: "each at most .. 7,936"
abbrev pub mailbox_length : List ℕ → ℕ → Bool
mailbox_length xs i = leb (file_at xs i) file_bytes

-- the bytes behind this length of part i of a store whose parts have so many bytes
unfoldable pub bytes_behind : ℕ → List ℕ → ℕ → ℕ → List ℕ
bytes_behind size store i n = take (size - up_to size n) (drop (i * size + up_to size n) store)

-- place bytes: "the bytes of each place behind its length are 0 (a free place: all)"
unfoldable pub place_bytes : List ℕ → List ℕ → ℕ → Bool
place_bytes xs orders i = all_zero (bytes_behind file_bytes orders i (place_at xs i).length)

-- mailbox bytes: "the bytes of each mailbox behind its length are 0"
unfoldable pub mailbox_bytes : List ℕ → List ℕ → ℕ → Bool
mailbox_bytes xs mailboxes i = all_zero (bytes_behind file_bytes mailboxes i (file_at xs i))

-- ---- the used events

-- journal unused: "the records behind the used ones are 0"
unfoldable pub journal_unused : List ℕ → Bool
journal_unused xs = unused xs journal_at event_width (used_events xs) record_count

-- ---- the counts

-- counts open: "the first count is the number of open uploads and open downloads"
unfoldable pub counts_open : List ℕ → Bool
counts_open xs = eqb (count_at xs 0) (count (is_open_slot xs) slot_count)

-- place i is a booked order
unfoldable pub is_booked_place : List ℕ → ℕ → Bool
is_booked_place xs i = is_booked (place_at xs i)

-- counts booked: "the second count is the number of places of state 2"
unfoldable pub counts_booked : List ℕ → Bool
counts_booked xs = eqb (count_at xs 1) (count (is_booked_place xs) place_count)

-- counts sum: "the seven counts add up to openings, exactly, without wrap"
unfoldable pub counts_sum : List ℕ → Bool
counts_sum xs = eqb (total (count_at xs) count_size) (openings xs)

-- ---- the list

-- record i of each kind
unfoldable pub nonce_test : List ℕ → ℕ → Bool
nonce_test xs i = nonce_time (clock xs) (nonce_at xs i)

unfoldable pub download_test : List ℕ → ℕ → Bool
download_test xs i =
    download_holds (clock xs) (openings xs) (file_of xs (download_at xs i).subscriber) (download_at xs i)
    && download_rises xs i

unfoldable pub place_test : List ℕ → List ℕ → ℕ → Bool
place_test xs orders i =
    place_holds (clock xs) (openings xs) (place_at xs i) && place_bytes xs orders i

unfoldable pub mailbox_test : List ℕ → List ℕ → ℕ → Bool
mailbox_test xs mailboxes i = mailbox_length xs i && mailbox_bytes xs mailboxes i

unfoldable pub event_test : List ℕ → ℕ → Bool
event_test xs i =
    event_holds (clock xs) (openings xs) (events xs) i (event_at xs (i - 1)) (event_at xs i)

unfoldable pub every_series : List ℕ → Bool
every_series xs = every (series_fits xs) place_count

unfoldable pub every_nonce : List ℕ → Bool
every_nonce xs = every (nonce_test xs) (nonces xs)

unfoldable pub every_download : List ℕ → Bool
every_download xs = every (download_test xs) (downloads xs)

unfoldable pub every_place : List ℕ → List ℕ → Bool
every_place xs orders = every (place_test xs orders) place_count

unfoldable pub every_mailbox : List ℕ → List ℕ → Bool
every_mailbox xs mailboxes = every (mailbox_test xs mailboxes) place_count

unfoldable pub every_subscriber : List ℕ → Bool
every_subscriber xs = every (open_of_one xs) subscribers

unfoldable pub every_event : List ℕ → Bool
every_event xs = every (event_test xs) (used_events xs)

unfoldable pub series_conditions : List ℕ → Bool
series_conditions xs = all_of (every_series xs ∷ series_sum xs ∷ [])

unfoldable pub nonce_conditions : List ℕ → Bool
nonce_conditions xs = all_of (nonce_count_fits xs ∷ every_nonce xs ∷ nonces_distinct xs ∷ nonces_unused xs ∷ [])

unfoldable pub download_conditions : List ℕ → Bool
download_conditions xs = all_of (download_count_fits xs ∷ every_download xs ∷ downloads_unused xs ∷ [])

unfoldable pub open_conditions : List ℕ → Bool
open_conditions xs = all_of (orders_distinct xs ∷ numbers_distinct xs ∷ open_in_all xs ∷ every_subscriber xs ∷ [])

unfoldable pub journal_conditions : List ℕ → Bool
journal_conditions xs = all_of (events_fit xs ∷ every_event xs ∷ journal_unused xs ∷ [])

unfoldable pub count_conditions : List ℕ → Bool
count_conditions xs = all_of (counts_open xs ∷ counts_booked xs ∷ counts_sum xs ∷ [])

-- the conditions, over numbers and stores of their lengths
unfoldable pub conditions : List ℕ → List ℕ → List ℕ → Bool
conditions xs orders mailboxes =
    all_of (clock_fits xs ∷ openings_fit xs ∷ series_conditions xs ∷ nonce_conditions xs ∷ download_conditions xs
    ∷ every_place xs orders ∷ open_conditions xs ∷ every_mailbox xs mailboxes ∷ journal_conditions xs
    ∷ count_conditions xs ∷ [])

-- "What a session may hold is bounded": the session is one of the list
unfoldable pub admitted : List ℕ → List ℕ → List ℕ → Bool
admitted xs orders mailboxes =
    all_of (eqb (length xs) number_count ∷ eqb (length orders) store_bytes
    ∷ eqb (length mailboxes) store_bytes ∷ conditions xs orders mailboxes ∷ [])
