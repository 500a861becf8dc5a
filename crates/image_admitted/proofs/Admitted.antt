-- A session that holds what a session may hold, in rows wiped behind their counts, is one of the list. Assumes nothing.
use Prim.Native.Nat.{ℕ, suc, ◌≤◌, ◌<◌}
use mathlib.Core.Bool.{true}
use mathlib.Core.Path.{◌≡◌, refl}
use native.Mathlib.Omega.{arith}
use lib.ListN.{length, get_or}
use borrow.Author.Tests.{eq-eqb, le-leb}
use Rattle.frame_table.specs.Table.{last_time}
use Rattle.message.specs.Limits.{file_bytes}
use Rattle.journal.specs.Events.{record_count}
use Rattle.bank_state.specs.declared.state.Download.{Download}
use Rattle.bank_state.specs.Limits.{place_count, store_bytes, max_openings}
use Rattle.bank_state.specs.State.{BankState, no_download, place_at, download_at}
use Rattle.bank_state.specs.Store.{part_at}
use Rattle.bank_rows.specs.State.{download_count_of, nonce_count_of, Laid}
use Rattle.bank_steps.specs.Lent.{state_of}
use Rattle.bank_session.specs.Session.{LentSession, session_size, bank_rows, bank_in, journal_in, counts_in}
use Rattle.bank_admitted.specs.Session.{SessionHolds}
use Rattle.bank_admitted.specs.Counts.{CountsHold}
use Rattle.bank_admitted.proofs.Rows.{packed-rises}
use Rattle.image_records.specs.Layout as image
use Rattle.image_numbers.proofs.Laws.{length-numbers_in}
use Rattle.image_calls.specs.Calls.{numbers_of, lengths_right, is_admitted}
use Rattle.image_admitted.specs.Unused.{Wiped}
use Rattle.image_records.proofs.General.{and_both}
use Rattle.image_admitted.proofs.Shown.{Shown}
use Rattle.image_admitted.proofs.Series.{every-series, series-sum}
use Rattle.image_admitted.proofs.Nonces.{every-nonce, nonces-distinct}
use Rattle.image_admitted.proofs.Mailboxes.{every-mailbox}
use Rattle.image_admitted.proofs.Places.{place-known, every-place}
use Rattle.image_admitted.proofs.Downloads.{every-download}
use Rattle.image_admitted.proofs.Slots.{
  orders-distinct,
  numbers-distinct,
  open-in-all,
  events-fit,
  every-subscriber,
}
use Rattle.image_admitted.proofs.Journal.{every-event, journal-unused}
use Rattle.image_admitted.proofs.Counts.{counts-open, counts-booked, counts-sum, counts-few}
use Rattle.image_admitted.proofs.Rows.{
  counts-fit,
  shown,
  nonces-unused,
  downloads-unused,
  nonce-all,
  download-all,
}
use Rattle.image_conditions.proofs.Listed.{Listed, listing}
use Rattle.image_admitted.proofs.Holds.{Long, lengths-told}
use Rattle.image_admitted.proofs.Small.{numbers_fit}

pub lengths-right : (m : LentSession) → Long m → lengths_right m ≡ true
unfolding lengths_right
lengths-right m l =
    rw (
      eq-eqb (length m.rows) session_size l.rows,
      eq-eqb (length m.row) record_count l.row,
      eq-eqb (length m.orders) store_bytes l.orders,
      eq-eqb (length m.mailboxes) store_bytes l.mailboxes,
    )

module _ (m : LentSession) (right : lengths_right m ≡ true) (o : SessionHolds (state_of (bank_in m)) (journal_in m))
    (n : CountsHold (state_of (bank_in m)).bank (counts_in m.rows)) (l : Laid (bank_rows m.rows))
    (z : Wiped (bank_rows m.rows)) where
  abbrev w : BankState
  w = state_of (bank_in m)

  long : Long m
  long = lengths-told m right

  v : Shown (numbers_of m) w.bank (journal_in m) (download_count_of (bank_rows m.rows)) (nonce_count_of (bank_rows m.rows))
  v = shown m.rows m.row long.rows long.row l

  rooms : (i : ℕ) → i < place_count → get_or w.bank.files i 0 ≤ file_bytes
  rooms i k = (o.state.mailboxes_hold i k).room

  rises : (i k : ℕ) → i < k → k < download_count_of (bank_rows m.rows)
      → (download_at w.bank i).transaction.low < (download_at w.bank k).transaction.low
  rises i k less below =
      packed-rises (λ (e : Download). e.used) no_download (λ (e : Download). e.transaction.low)
      (λ (e : Download). suc e.transaction.low) refl (λ e. omega arith) o.state.in_order i k less (v.used_download k below)

  list : Listed (numbers_of m) m.orders m.mailboxes
  list = record {
    clock = le-leb (image.clock (numbers_of m)) last_time (omega (arith, v.clock, o.clock));
    openings = le-leb (image.openings (numbers_of m)) max_openings (omega (arith, v.openings, o.state.numbers));
    series = every-series v o.state.series;
    series_all = series-sum v
        (λ i k. place-known (place_at w.bank i).used w.bank.clock w.bank.openings (place_at w.bank i) (part_at w.orders i)
        (o.state.places i k)) o.state.series;
    nonce_count = (counts-fit m.rows m.row long.rows long.row l).0;
    nonces = every-nonce v o.nonces o.state.nonces;
    nonces_apart = nonces-distinct v o.nonces o.state.nonces;
    nonces_over = nonces-unused m.rows m.row long.rows long.row l z;
    download_count = (counts-fit m.rows m.row long.rows long.row l).1;
    downloads = every-download w v long.mailboxes rooms o.state.downloads o.idle.downloads o.state.in_order;
    downloads_over = downloads-unused m.rows m.row long.rows long.row l z;
    places = every-place v m.orders long.orders o.state.places o.idle.places o.state.orders;
    orders_apart = orders-distinct v o.state.places_apart o.state.apart rises;
    numbers = numbers-distinct v o.state.places_apart o.state.apart rises;
    open_all = open-in-all v o.state.open_all;
    open_of = every-subscriber v o.state.open_of;
    files = every-mailbox v m.mailboxes long.mailboxes o.state.mailboxes_hold;
    events = events-fit v o.events;
    journal = every-event v o.journal;
    journal_over = journal-unused v o.journal;
    count_open = counts-open m.rows m.row long.row v n;
    count_booked = counts-booked m.rows m.row long.row v n;
    count_sum = counts-sum m.rows m.row long.row v n;
  }

  pub holds-admitted : is_admitted m ≡ true
  unfolding is_admitted
  holds-admitted =
      and_both
      (listing (numbers_of m) m.orders m.mailboxes (length-numbers_in m.rows m.row long.row) long.orders
      long.mailboxes list)
      (numbers_fit w v o (nonce-all m.rows m.row long.rows long.row l z)
      (download-all m.rows m.row long.rows long.row l z)
      (counts-few m.rows m.row long.row v n))
