-- The list of conditions taken apart, and put together. Assumes nothing.
use Prim.Native.Nat.{ℕ}
use mathlib.Core.Bool.{true}
use mathlib.Core.List.{List}
use mathlib.Core.Path.{◌≡◌}
use lib.Dec.{eqb}
use lib.ListN.{length}
use borrow.Author.Tests.{eqb-true, eq-eqb}
use Rattle.octets.proofs.Tests.{and-true}
use Rattle.bank_state.specs.Limits.{store_bytes}
use Rattle.image_records.specs.Layout.{number_count}
use Rattle.image_conditions.specs.Conditions.{
  clock_fits,
  openings_fit,
  series_sum,
  nonce_count_fits,
  download_count_fits,
  nonces_distinct,
  nonces_unused,
  downloads_unused,
  orders_distinct,
  numbers_distinct,
  open_in_all,
  events_fit,
  journal_unused,
  every_series,
  every_nonce,
  every_download,
  every_place,
  every_mailbox,
  every_subscriber,
  every_event,
  series_conditions,
  nonce_conditions,
  download_conditions,
  open_conditions,
  journal_conditions,
  counts_open,
  counts_booked,
  counts_sum,
  count_conditions,
  conditions,
  admitted,
}

pub record Listed (xs orders mailboxes : List ℕ) : Type 0 where
  pub clock : clock_fits xs ≡ true
  pub openings : openings_fit xs ≡ true
  pub series : every_series xs ≡ true
  pub series_all : series_sum xs ≡ true
  pub nonce_count : nonce_count_fits xs ≡ true
  pub nonces : every_nonce xs ≡ true
  pub nonces_apart : nonces_distinct xs ≡ true
  pub nonces_over : nonces_unused xs ≡ true
  pub download_count : download_count_fits xs ≡ true
  pub downloads : every_download xs ≡ true
  pub downloads_over : downloads_unused xs ≡ true
  pub places : every_place xs orders ≡ true
  pub orders_apart : orders_distinct xs ≡ true
  pub numbers : numbers_distinct xs ≡ true
  pub open_all : open_in_all xs ≡ true
  pub open_of : every_subscriber xs ≡ true
  pub files : every_mailbox xs mailboxes ≡ true
  pub events : events_fit xs ≡ true
  pub journal : every_event xs ≡ true
  pub journal_over : journal_unused xs ≡ true
  pub count_open : counts_open xs ≡ true
  pub count_booked : counts_booked xs ≡ true
  pub count_sum : counts_sum xs ≡ true

module _ (xs orders mailboxes : List ℕ) where
  pub lengths : admitted xs orders mailboxes ≡ true
      → (length xs ≡ number_count) × (length orders ≡ store_bytes) × (length mailboxes ≡ store_bytes)
  unfolding admitted
  lengths h =
      let a = and-true (eqb (length xs) number_count) _ h in
      let b = and-true (eqb (length orders) store_bytes) _ a.1 in
      let c = and-true (eqb (length mailboxes) store_bytes) _ b.1 in
      (eqb-true _ _ a.0, eqb-true _ _ b.0, eqb-true _ _ c.0)

  pub listed : admitted xs orders mailboxes ≡ true → Listed xs orders mailboxes
  unfolding
      admitted conditions series_conditions nonce_conditions download_conditions open_conditions journal_conditions count_conditions
  listed h =
      let a = and-true (eqb (length xs) number_count) _ h in
      let b = and-true (eqb (length orders) store_bytes) _ a.1 in
      let c = and-true (eqb (length mailboxes) store_bytes) _ b.1 in
      let l = (and-true (conditions xs orders mailboxes) true c.1).0 in
      let clock = and-true (clock_fits xs) _ l in
      let openings = and-true (openings_fit xs) _ clock.1 in
      let series = and-true (series_conditions xs) _ openings.1 in
      let nonces = and-true (nonce_conditions xs) _ series.1 in
      let downloads = and-true (download_conditions xs) _ nonces.1 in
      let places = and-true (every_place xs orders) _ downloads.1 in
      let opens = and-true (open_conditions xs) _ places.1 in
      let files = and-true (every_mailbox xs mailboxes) _ opens.1 in
      let journal = and-true (journal_conditions xs) _ files.1 in
      let counts = and-true (count_conditions xs) true journal.1 in
      let counter = and-true (every_series xs) _ series.0 in
      let sum = and-true (series_sum xs) true counter.1 in
      let nonce = and-true (nonce_count_fits xs) _ nonces.0 in
      let each = and-true (every_nonce xs) _ nonce.1 in
      let apart = and-true (nonces_distinct xs) _ each.1 in
      let over = and-true (nonces_unused xs) true apart.1 in
      let download = and-true (download_count_fits xs) _ downloads.0 in
      let all = and-true (every_download xs) _ download.1 in
      let rest = and-true (downloads_unused xs) true all.1 in
      let order = and-true (orders_distinct xs) _ opens.0 in
      let number = and-true (numbers_distinct xs) _ order.1 in
      let together = and-true (open_in_all xs) _ number.1 in
      let of = and-true (every_subscriber xs) true together.1 in
      let events = and-true (events_fit xs) _ journal.0 in
      let event = and-true (every_event xs) _ events.1 in
      let none = and-true (journal_unused xs) true event.1 in
      let first = and-true (counts_open xs) _ counts.0 in
      let second = and-true (counts_booked xs) _ first.1 in
      let seven = and-true (counts_sum xs) true second.1 in
      record {
        clock = clock.0;
        openings = openings.0;
        series = counter.0;
        series_all = sum.0;
        nonce_count = nonce.0;
        nonces = each.0;
        nonces_apart = apart.0;
        nonces_over = over.0;
        download_count = download.0;
        downloads = all.0;
        downloads_over = rest.0;
        places = places.0;
        orders_apart = order.0;
        numbers = number.0;
        open_all = together.0;
        open_of = of.0;
        files = files.0;
        events = events.0;
        journal = event.0;
        journal_over = none.0;
        count_open = first.0;
        count_booked = second.0;
        count_sum = seven.0;
      }

  pub listing : length xs ≡ number_count → length orders ≡ store_bytes → length mailboxes ≡ store_bytes
      → Listed xs orders mailboxes → admitted xs orders mailboxes ≡ true
  unfolding
      admitted conditions series_conditions nonce_conditions download_conditions open_conditions journal_conditions count_conditions
  listing n o f l =
      rw (
        eq-eqb (length xs) number_count n,
        eq-eqb (length orders) store_bytes o,
        eq-eqb (length mailboxes) store_bytes f,
        l.clock,
        l.openings,
        l.series,
        l.series_all,
        l.nonce_count,
        l.nonces,
        l.nonces_apart,
        l.nonces_over,
        l.download_count,
        l.downloads,
        l.downloads_over,
        l.places,
        l.orders_apart,
        l.numbers,
        l.open_all,
        l.open_of,
        l.files,
        l.events,
        l.journal,
        l.journal_over,
        l.count_open,
        l.count_booked,
        l.count_sum,
      )
