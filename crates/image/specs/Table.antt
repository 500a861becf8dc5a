-- Card 2, "written as tagged fields": the fields of an image, each with its records' parts or its store.
use Rattle.std.specs.Prelude.{ℕ, ◌+◌, ◌-◌, ◌*◌, List, [], ◌∷◌, length, get_or}
use Rattle.bank_state.specs.Limits.{place_count, nonce_count, store_bytes}
use Rattle.journal.specs.Events.{record_count}
use Rattle.image.specs.declared.table.Row.{Row}

-- "the form's number: the number of the card that made the form"
abbrev pub form_number : ℕ
form_number = 12

-- the length of a time
abbrev pub time_bytes : ℕ
time_bytes = 8

abbrev pub sum : List ℕ → ℕ
sum [] = 0
sum (w ∷ ws) = w + sum ws

-- lengths as hexadecimal digits, the first one last
abbrev pub hex_digits : List ℕ → ℕ
hex_digits [] = 0
hex_digits (w ∷ ws) = w + 16 * hex_digits ws

-- "a one-byte tag, a two-byte length (high byte first)", as a number of three bytes
abbrev pub head_of : ℕ → ℕ → ℕ
head_of tag size = tag * 65536 + size

-- the form's number: every image has the same content
abbrev pub form_field : ℕ → Row
form_field tag =
    record {
      width = 4;
      head = head_of tag 1 * 256 + form_number;
      records = 0;
      more = 0;
      widths = 0;
      store = 0;
      bytes = 0;
    }

-- a field of numbers: its tag, how many records, the lengths of a record's parts
abbrev pub number_field : ℕ → ℕ → List ℕ → Row
number_field tag count parts =
    record {
      width = 3;
      head = head_of tag (count * sum parts);
      records = count;
      more = length parts - 1;
      widths = hex_digits parts;
      store = 0;
      bytes = count * sum parts;
    }

-- a store: its tag and its size
abbrev pub store_field : ℕ → ℕ → Row
store_field tag size =
    record { width = 3; head = head_of tag size; records = 0; more = 0; widths = 0; store = size; bytes = size }

abbrev pub no_row : Row
no_row = record { width = 0; head = 0; records = 0; more = 0; widths = 0; store = 0; bytes = 0 }

-- the fields in their order
abbrev pub image_fields : List Row
image_fields =
    form_field 0x01  -- "the form's number"
    ∷ number_field 0x02 1 (time_bytes ∷ [])  -- "clock"
    ∷ number_field 0x03 1 (8 ∷ [])  -- "openings accepted"
    -- "series: for subscribers 1 to 8, how far the bank's own numbering of uploads has come"
    ∷ number_field 0x04 place_count (4 ∷ [])
    ∷ number_field 0x05 1 (8 ∷ [])  -- "events entered so far"
    ∷ number_field 0x06 1 (1 ∷ [])  -- "number of nonces remembered"
    ∷ number_field 0x07 nonce_count (8 ∷ 8 ∷ time_bytes ∷ [])  -- nonces: the nonce's halves, timestamp
    ∷ number_field 0x08 1 (1 ∷ [])  -- "number of open downloads"
    -- open downloads: subscriber, lent and running half of the transaction ID, delivered, attempts, last fit
    ∷ number_field 0x09 place_count (2 ∷ 8 ∷ 8 ∷ 2 ∷ 1 ∷ time_bytes ∷ [])
    -- places: state, subscriber, lent and running half, order, segments, taken, attempts, last fit, length, signers
    ∷ number_field 0x0A place_count (1 ∷ 2 ∷ 8 ∷ 8 ∷ 4 ∷ 2 ∷ 2 ∷ 1 ∷ time_bytes ∷ 2 ∷ 1 ∷ [])
    ∷ number_field 0x0B place_count (2 ∷ [])  -- "file lengths of mailboxes 1 to 8"
    -- journal: number, clock, subscriber, type, order, lent and running half of the transaction ID, kind
    ∷ number_field 0x0C record_count (8 ∷ time_bytes ∷ 2 ∷ 3 ∷ 4 ∷ 8 ∷ 8 ∷ 1 ∷ [])
    ∷ store_field 0x0D store_bytes  -- "the place store"
    ∷ store_field 0x0E store_bytes  -- "the mailbox store"
    -- "counts: open, booked, fetched, skipped by receipt, ended by another receipt, cancelled, dropped"
    ∷ number_field 0x0F 7 (8 ∷ [])
    ∷ []

unfoldable pub row_at : ℕ → Row
row_at i = get_or image_fields i no_row
