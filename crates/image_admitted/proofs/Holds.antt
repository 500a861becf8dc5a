-- A session of the list holds what a session may hold. Assumes nothing.
use Prim.Native.Nat.{ℕ, ◌^◌, ◌≤◌, ◌<◌}
use mathlib.Core.Bool.{Bool, true, false}
use mathlib.Core.Path.{◌≡◌, refl, sym, subst}
use native.Mathlib.Omega.{arith}
use lib.Dec.{eqb, ltb}
use lib.ListN.{length, get_or}
use borrow.Author.Tests.{eqb-true, leb-true, ltb-true, ltb-false}
use Rattle.octets.proofs.Tests.{never, and-true}
use Rattle.frame_table.specs.Table.{last_time}
use Rattle.message.specs.Limits.{subscribers, file_bytes}
use Rattle.journal.specs.Events.{record_count}
use Rattle.bank_state.specs.declared.state.Download.{Download}
use Rattle.bank_state.specs.declared.state.Use.{Use}
use Rattle.bank_state.specs.declared.state.Use.TheVariants.{Free, Open, Booked}
use Rattle.bank_state.specs.Limits.{place_count, store_bytes, max_openings, all_signers}
use Rattle.bank_state.specs.Search.{is_free, is_open}
use Rattle.bank_state.specs.State.{Bank, BankState, place_at, download_at}
use Rattle.bank_state.specs.Store.{part_at}
use Rattle.bank_rows.specs.State.{download_count_of, nonce_count_of, bank_of, nonce_at, Laid}
use Rattle.bank_steps.specs.Lent.{state_of}
use Rattle.bank_session.specs.Session.{LentSession, session_size, bank_rows, bank_in, journal_in, counts_in}
use Rattle.bank_admitted.specs.State.{mailbox_file, PlaceHolds, DownloadHolds, StateHolds, NoneIdle}
use Rattle.bank_admitted.specs.Session.{Words, record_at, SessionHolds}
use Rattle.bank_admitted.specs.Counts.{CountsHold}
use Rattle.image.specs.Items.{image_items}
use Rattle.image.specs.Image.{fits}
use Rattle.image_records.specs.Layout as image
use Rattle.image_conditions.specs.Conditions.{admitted}
use Rattle.image_calls.specs.Calls.{numbers_of, lengths_right, is_admitted}
use Rattle.image_admitted.specs.Unused.{Wiped}
use Rattle.image_admitted.proofs.Shown.{Shown, download-used}
use Rattle.image_admitted.proofs.Series.{series-hold}
use Rattle.image_admitted.proofs.Nonces.{nonces-hold, nonces-apart}
use Rattle.image_admitted.proofs.Mailboxes.{mailboxes-hold}
use Rattle.image_admitted.proofs.Places.{place-known, place-holds, place-not-idle, place-ordered}
use Rattle.image_admitted.proofs.Downloads.{downloads-hold, download-not-idle, downloads-rise}
use Rattle.image_admitted.proofs.Slots.{places-apart, downloads-apart, open-all, open_of_lem, events-bound}
use Rattle.image_admitted.proofs.Journal.{journal-holds}
use Rattle.image_admitted.proofs.Counts.{counts-hold}
use Rattle.image_admitted.proofs.Rows.{tested-laid, shown, tested-wiped}
use Rattle.image_admitted.proofs.Fits.{nonce-words, download-words, place-words, place-signers, event-word}
use Rattle.image_conditions.proofs.Listed.{Listed, listed}

-- the lengths of what is lent
pub record Long (m : LentSession) : Type 0 where
  pub rows : length m.rows ≡ session_size
  pub row : length m.row ≡ record_count
  pub orders : length m.orders ≡ store_bytes
  pub mailboxes : length m.mailboxes ≡ store_bytes

pub lengths-told : (m : LentSession) → lengths_right m ≡ true → Long m
unfolding lengths_right
lengths-told m h =
    let a = and-true (eqb (length m.rows) session_size) _ h in
    let b = and-true (eqb (length m.row) record_count) _ a.1 in
    let c = and-true (eqb (length m.orders) store_bytes) _ b.1 in
    record {
      rows = eqb-true _ _ a.0;
      row = eqb-true _ _ b.0;
      orders = eqb-true _ _ c.0;
      mailboxes = eqb-true _ _ c.1;
    }

-- what is open is in use
open-used : (u : Use) → is_open u ≡ true → is_free u ≡ false
open-used Free e = never e
open-used Open e = refl
open-used Booked e = refl

module _ (m : LentSession) (right : lengths_right m ≡ true) (h : is_admitted m ≡ true) where
  abbrev w : BankState
  w = state_of (bank_in m)

  abbrev b : Bank
  b = bank_of (bank_rows m.rows)

  long : Long m
  long = lengths-told m right

  list : Listed (numbers_of m) m.orders m.mailboxes
  unfolding is_admitted
  list =
      listed (numbers_of m) m.orders m.mailboxes
      (and-true (admitted (numbers_of m) m.orders m.mailboxes) _ h).0

  fit : fits image_items (numbers_of m) ≡ true
  unfolding is_admitted
  fit = (and-true (admitted (numbers_of m) m.orders m.mailboxes) _ h).1

  -- the rows are a bank's, wiped behind their counts
  pub admitted-laid : Laid (bank_rows m.rows)
  admitted-laid =
      tested-laid m.rows m.row long.rows long.row m.orders list.nonce_count list.download_count list.places

  pub admitted-wiped : Wiped (bank_rows m.rows)
  admitted-wiped =
      tested-wiped m.rows m.row long.rows long.row admitted-laid list.nonces_over list.downloads_over

  v : Shown (numbers_of m) b (journal_in m) (download_count_of (bank_rows m.rows)) (nonce_count_of (bank_rows m.rows))
  v = shown m.rows m.row long.rows long.row admitted-laid

  -- ---- numbers of eight bytes

  nonce-fits : (i : ℕ) → i < nonce_count_of (bank_rows m.rows) → Words (nonce_at b i).value
  nonce-fits i k =
      let f = rw (v.nonce i k) at (nonce-words (numbers_of m) fit i (omega (arith, v.few_nonces))) in
      record { high = f.0; low = f.1 }

  place-fits : (i : ℕ) → i < place_count → Words (place_at b i).transaction
  place-fits i k =
      let f = rw (v.place i k) at (place-words (numbers_of m) fit i k) in
      record { high = f.0; low = f.1 }

  signers-fit : (i : ℕ) → i < place_count → (place_at b i).signers ≤ all_signers
  signers-fit i k = let f = rw (v.place i k) at (place-signers (numbers_of m) fit i k) in omega arith

  download-fits : (i : ℕ) → Words (download_at b i).transaction
  download-fits i = at (ltb i (download_count_of (bank_rows m.rows))) refl
    where
      at : (t : Bool) → ltb i (download_count_of (bank_rows m.rows)) ≡ t → Words (download_at b i).transaction
      at true e =
          let k = ltb-true i (download_count_of (bank_rows m.rows)) e in
          let f = rw (v.download i k) at (download-words (numbers_of m) fit i (omega (arith, v.few_downloads))) in
          record { high = f.0; low = f.1 }
      at false e =
          subst (λ (x : Download). Words x.transaction) (sym (v.free_download i (ltb-false _ _ e)))
          (record { high = omega arith; low = omega arith })

  -- ---- what the session holds

  rooms : (i : ℕ) → i < place_count → get_or b.files i 0 ≤ file_bytes
  rooms i k = (mailboxes-hold v m.mailboxes long.mailboxes list.files i k).room

  places : (i : ℕ) → i < place_count → PlaceHolds (place_at b i).used b.clock b.openings (place_at b i) (part_at m.orders i)
  places i k = place-holds v m.orders long.orders list.places i k (signers-fit i k)

  downloads : (i : ℕ) → DownloadHolds (download_at b i).used b.clock b.openings
      (mailbox_file w (download_at b i).subscriber) (download_at b i)
  downloads = downloads-hold w v long.mailboxes rooms list.downloads

  download-known : (i : ℕ) → (download_at b i).used ≡ true
      → (1 ≤ (download_at b i).subscriber) × ((download_at b i).subscriber ≤ subscribers)
  download-known i u =
      let o = subst (λ (t : Bool). DownloadHolds t b.clock b.openings (mailbox_file w (download_at b i).subscriber) (download_at b i)) u
      (downloads i) in
      (o.known, o.most)

  place-subscriber : (i : ℕ) → i < place_count → is_free (place_at b i).used ≡ false
      → (1 ≤ (place_at b i).subscriber) × ((place_at b i).subscriber ≤ subscribers)
  place-subscriber i k =
      place-known (place_at b i).used b.clock b.openings (place_at b i) (part_at m.orders i) (places i k)

  -- the first half of an event's transaction ID
  event-fits : (i : ℕ) → i < record_count → (record_at (journal_in m) i).high < 2 ^ 64
  event-fits i k = rw (v.event i k) at (event-word (numbers_of m) fit i k)

  state-holds : StateHolds w
  state-holds = record {
    sizes = record {
      places = v.long_places;
      downloads = v.long_downloads;
      nonces = v.long_nonces;
      files = v.long_files;
      series = v.long_series;
      orders = long.orders;
      mailboxes = long.mailboxes;
    };
    numbers = omega (arith, leb-true (image.openings (numbers_of m)) max_openings list.openings, v.openings);
    series = series-hold v place-subscriber list.series list.series_all;
    places = places;
    orders = place-ordered v m.orders long.orders list.places;
    downloads = downloads;
    mailboxes_hold = mailboxes-hold v m.mailboxes long.mailboxes list.files;
    places_apart = places-apart v list.numbers list.orders_apart;
    apart = λ i k p f u. downloads-apart v list.numbers i k p f (download-used v k u);
    in_order = downloads-rise w v long.mailboxes rooms list.downloads;
    nonces = nonces-hold v list.nonces;
    open_all = open-all v list.open_all;
    open_of = open_of_lem v
        (λ i k e. place-subscriber i k (open-used (place_at b i).used e))
        download-known list.open_of;
  }

  none-idle : NoneIdle w
  none-idle = record {
    places = place-not-idle v m.orders long.orders list.places;
    downloads = download-not-idle w v long.mailboxes rooms list.downloads;
  }

  -- "What a session may hold is bounded": the list bounds it
  pub admitted-holds : SessionHolds w (journal_in m)
  admitted-holds = record {
    state = state-holds;
    idle = none-idle;
    clock = omega (arith, leb-true (image.clock (numbers_of m)) last_time list.clock, v.clock);
    nonces = nonces-apart v list.nonces list.nonces_apart nonce-fits;
    places = place-fits;
    downloads = download-fits;
    journal = journal-holds v event-fits list.journal list.journal_over;
    events = events-bound v list.events;
  }

  pub admitted-counts : CountsHold b (counts_in m.rows)
  admitted-counts = counts-hold m.rows m.row long.row v list.count_open list.count_booked list.count_sum
