-- Where the numbers of a session stand, in the order of the image, and its records.
use Rattle.std.specs.Prelude.{ℕ, ◌+◌, ◌-◌, ◌*◌, cond, List, ltb, get_or}
use Rattle.message.specs.Limits.{subscribers}
use Rattle.bank_state.specs.Limits.{place_count, nonce_count}
use Rattle.journal.specs.Events.{record_count}
use Rattle.image_records.specs.declared.layout.NonceRecord.{NonceRecord}
use Rattle.image_records.specs.declared.layout.DownloadRecord.{DownloadRecord}
use Rattle.image_records.specs.declared.layout.PlaceRecord.{PlaceRecord}
use Rattle.image_records.specs.declared.layout.EventRecord.{EventRecord}
use Rattle.image_records.specs.declared.layout.Slot.{Slot}
use Rattle.image_records.specs.Shapes.{within, up_to}

abbrev pub clock_at : ℕ
clock_at = 0

abbrev pub openings_at : ℕ
openings_at = clock_at + 1

-- "series: for subscribers 1 to 8, how far the bank's own numbering of uploads has come"
abbrev pub series_at : ℕ
series_at = openings_at + 1

abbrev pub events_at : ℕ
events_at = series_at + place_count

abbrev pub nonce_count_at : ℕ
nonce_count_at = events_at + 1

-- a nonce has three numbers
abbrev pub nonces_at : ℕ
nonces_at = nonce_count_at + 1

abbrev pub nonce_width : ℕ
nonce_width = 3

abbrev pub download_count_at : ℕ
download_count_at = nonces_at + nonce_width * nonce_count

-- an open download has six
abbrev pub downloads_at : ℕ
downloads_at = download_count_at + 1

abbrev pub download_width : ℕ
download_width = 6

-- a place has eleven
abbrev pub places_at : ℕ
places_at = downloads_at + download_width * place_count

abbrev pub place_width : ℕ
place_width = 11

-- the states of a place
abbrev pub open_state : ℕ
open_state = 1

abbrev pub booked_state : ℕ
booked_state = 2

-- the lengths of the files in the mailboxes
abbrev pub files_at : ℕ
files_at = places_at + place_width * place_count

-- an event has eight
abbrev pub journal_at : ℕ
journal_at = files_at + place_count

abbrev pub event_width : ℕ
event_width = 8

-- "counts: open, booked, fetched, skipped by receipt, ended by another receipt, cancelled, dropped"
abbrev pub counts_at : ℕ
counts_at = journal_at + event_width * record_count

abbrev pub count_size : ℕ
count_size = 7

abbrev pub number_count : ℕ
number_count = counts_at + count_size

abbrev pub clock : List ℕ → ℕ
clock xs = get_or xs clock_at 0

abbrev pub openings : List ℕ → ℕ
openings xs = get_or xs openings_at 0

abbrev pub events : List ℕ → ℕ
events xs = get_or xs events_at 0

-- how many records of a kind are in use, at most those that there are
abbrev pub nonces : List ℕ → ℕ
nonces xs = up_to nonce_count (get_or xs nonce_count_at 0)

abbrev pub downloads : List ℕ → ℕ
downloads xs = up_to place_count (get_or xs download_count_at 0)

-- "used events min(05, 64)"
abbrev pub used_events : List ℕ → ℕ
used_events xs = up_to record_count (events xs)

unfoldable pub nonce_at : List ℕ → ℕ → NonceRecord
nonce_at xs i =
    record {
      high = get_or xs (nonces_at + i * nonce_width) 0;
      low = get_or xs (nonces_at + i * nonce_width + 1) 0;
      timestamp = get_or xs (nonces_at + i * nonce_width + 2) 0;
    }

unfoldable pub download_at : List ℕ → ℕ → DownloadRecord
download_at xs i =
    record {
      subscriber = get_or xs (downloads_at + i * download_width) 0;
      high = get_or xs (downloads_at + i * download_width + 1) 0;
      low = get_or xs (downloads_at + i * download_width + 2) 0;
      delivered = get_or xs (downloads_at + i * download_width + 3) 0;
      attempts = get_or xs (downloads_at + i * download_width + 4) 0;
      last = get_or xs (downloads_at + i * download_width + 5) 0;
    }

unfoldable pub place_at : List ℕ → ℕ → PlaceRecord
place_at xs i =
    record {
      state = get_or xs (places_at + i * place_width) 0;
      subscriber = get_or xs (places_at + i * place_width + 1) 0;
      high = get_or xs (places_at + i * place_width + 2) 0;
      low = get_or xs (places_at + i * place_width + 3) 0;
      order = get_or xs (places_at + i * place_width + 4) 0;
      segments = get_or xs (places_at + i * place_width + 5) 0;
      taken = get_or xs (places_at + i * place_width + 6) 0;
      attempts = get_or xs (places_at + i * place_width + 7) 0;
      last = get_or xs (places_at + i * place_width + 8) 0;
      length = get_or xs (places_at + i * place_width + 9) 0;
      signers = get_or xs (places_at + i * place_width + 10) 0;
    }

unfoldable pub event_at : List ℕ → ℕ → EventRecord
event_at xs i =
    record {
      number = get_or xs (journal_at + i * event_width) 0;
      clock = get_or xs (journal_at + i * event_width + 1) 0;
      subscriber = get_or xs (journal_at + i * event_width + 2) 0;
      order_type = get_or xs (journal_at + i * event_width + 3) 0;
      order = get_or xs (journal_at + i * event_width + 4) 0;
      high = get_or xs (journal_at + i * event_width + 5) 0;
      low = get_or xs (journal_at + i * event_width + 6) 0;
      kind = get_or xs (journal_at + i * event_width + 7) 0;
    }

-- the counter of series i, from 0 on
unfoldable pub counter_at : List ℕ → ℕ → ℕ
counter_at xs i = get_or xs (series_at + i) 0

-- the counter of a subscriber's series; 0 where there is no such subscriber
unfoldable pub counter_of : List ℕ → ℕ → ℕ
counter_of xs s = cond (within 1 subscribers s) (counter_at xs (s - 1)) 0

-- the length of the file in mailbox i, from 0 on
unfoldable pub file_at : List ℕ → ℕ → ℕ
file_at xs i = get_or xs (files_at + i) 0

-- the file length of a subscriber's mailbox; 0 where there is no such subscriber
unfoldable pub file_of : List ℕ → ℕ → ℕ
file_of xs s = cond (within 1 subscribers s) (file_at xs (s - 1)) 0

-- count i, from 0 on
unfoldable pub count_at : List ℕ → ℕ → ℕ
count_at xs i = get_or xs (counts_at + i) 0

-- a slot is a place (0 to 7) or an open download (8 to 15), with the same three states
abbrev pub slot_count : ℕ
slot_count = place_count + place_count

unfoldable pub slot_at : List ℕ → ℕ → Slot
slot_at xs i =
    cond (ltb i place_count)
    (record { state = (place_at xs i).state; subscriber = (place_at xs i).subscriber; low = (place_at xs i).low })
    (record {
      state = cond (ltb (i - place_count) (downloads xs)) open_state 0;
      subscriber = (download_at xs (i - place_count)).subscriber;
      low = (download_at xs (i - place_count)).low;
    })
