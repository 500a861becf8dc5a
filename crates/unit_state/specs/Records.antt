-- A record of the input: a letter, its parts, and as many bytes as its length says. "Numbers are high byte first."
use Rattle.std.specs.Prelude.{ℕ, ◌+◌, ◌-◌, Bool, true, false, cond, ◌&&◌, List, [], ◌∷◌, leb, eqb, length, get_or, take, drop}
use Rattle.octets.specs.Bytes.{number}
use Rattle.message.specs.declared.editions.Edition.{Edition}
use Rattle.message.specs.declared.editions.Edition.TheVariants.{V24, V25}
use Rattle.message.specs.Verdicts.{decide}
use Rattle.bank_state.specs.Limits.{id_bytes}
use Rattle.client_run.specs.Run.{nonce_bytes}
use Rattle.unit_state.specs.declared.record.Event.{Event}
use Rattle.unit_state.specs.declared.record.Event.TheVariants.{Upload, Download, Reply, NoReply}
use Rattle.unit_state.specs.declared.record.Kind.{Kind}
use Rattle.unit_state.specs.declared.record.Kind.TheVariants.{
  Frame,
  File,
  Run,
  Journal,
  Away,
  TakeUp,
  Image,
  ValueDay,
  MakeLine,
  PutIn,
  Counts,
  NoCall,
}

-- the letters F, M, U, D, R, N, J, P, T, I, V, L, W and C
unfoldable pub kind_of : ℕ → Kind
kind_of letter =
    decide
    ((eqb letter 70, Frame)
    ∷ (eqb letter 77, File)
    ∷ (eqb letter 85, Run Upload)
    ∷ (eqb letter 68, Run Download)
    ∷ (eqb letter 82, Run Reply)
    ∷ (eqb letter 78, Run NoReply)
    ∷ (eqb letter 74, Journal)
    ∷ (eqb letter 80, Away)
    ∷ (eqb letter 84, TakeUp)
    ∷ (eqb letter 73, Image)
    ∷ (eqb letter 86, ValueDay)
    ∷ (eqb letter 76, MakeLine)
    ∷ (eqb letter 87, PutIn)
    ∷ (eqb letter 67, Counts)
    ∷ [])
    NoCall

-- ---- the parts of a record: how many bytes each has, and where it begins; ID and nonce bytes are as many as are lent

abbrev pub letter_bytes : ℕ
letter_bytes = 1

-- "run 1"
abbrev pub run_bytes : ℕ
run_bytes = 1

-- "the time in `F`, `U`, `D`, `R` and `N` has 8 bytes (milliseconds)"
abbrev pub time_bytes : ℕ
time_bytes = 8

-- "mailbox 2"
abbrev pub mailbox_bytes : ℕ
mailbox_bytes = 2

-- "subscriber 2"
abbrev pub subscriber_bytes : ℕ
subscriber_bytes = 2

-- "first exchange number 4"
abbrev pub first_bytes : ℕ
first_bytes = 4

-- "edition 1"
abbrev pub edition_bytes : ℕ
edition_bytes = 1

-- "order number 4"
abbrev pub order_bytes : ℕ
order_bytes = 4

-- "length 2": of what stands behind the head
abbrev pub size_bytes : ℕ
size_bytes = 2

-- "length 4", "offset 4": in the image room
abbrev pub extent_bytes : ℕ
extent_bytes = 4

-- "line 1"
abbrev pub line_bytes : ℕ
line_bytes = 1

-- "seed 4"
abbrev pub seed_bytes : ℕ
seed_bytes = 4

-- F: bank time and ID bytes, the first part behind the letter, each other behind the one before it
abbrev pub bank_time_at : ℕ
bank_time_at = letter_bytes

abbrev pub ids_at : ℕ
ids_at = bank_time_at + time_bytes

-- M: the mailbox
abbrev pub mailbox_at : ℕ
mailbox_at = letter_bytes

-- U, D, R, N and J: the run; all but J: the time; U and D: subscriber, first exchange number and nonce bytes; U: "behind
-- the nonce bytes", edition and order number
abbrev pub run_number_at : ℕ
run_number_at = letter_bytes

abbrev pub time_at : ℕ
time_at = run_number_at + run_bytes

abbrev pub subscriber_at : ℕ
subscriber_at = time_at + time_bytes

abbrev pub first_at : ℕ
first_at = subscriber_at + subscriber_bytes

abbrev pub nonce_at : ℕ
nonce_at = first_at + first_bytes

abbrev pub edition_at : ℕ
edition_at = nonce_at + nonce_bytes

abbrev pub order_at : ℕ
order_at = edition_at + edition_bytes

-- P and T: the length; I: the offset
abbrev pub extent_at : ℕ
extent_at = letter_bytes

-- V: the booking time
abbrev pub booking_at : ℕ
booking_at = letter_bytes

-- L and W: the line; L: the seed
abbrev pub line_number_at : ℕ
line_number_at = letter_bytes

abbrev pub seed_at : ℕ
seed_at = line_number_at + line_bytes

-- the bytes of a record before those that its length counts: the letter, then the parts in their order
abbrev pub head_of : Kind → ℕ
-- "bank time 8, ID bytes 8, length 2"
head_of Frame = ids_at + id_bytes + size_bytes
-- "mailbox 2, length 2"
head_of File = mailbox_at + mailbox_bytes + size_bytes
-- "run 1, time 8, subscriber 2, first exchange number 4, nonce bytes 12, edition 1, order number 4, length 2"
head_of (Run Upload) = order_at + order_bytes + size_bytes
-- "run 1, time 8, subscriber 2, first exchange number 4, nonce bytes 12"
head_of (Run Download) = nonce_at + nonce_bytes
-- "run 1, time 8, length 2"
head_of (Run Reply) = time_at + time_bytes + size_bytes
-- "run 1, time 8"
head_of (Run NoReply) = time_at + time_bytes
-- "run 1"
head_of Journal = run_number_at + run_bytes
-- "length 4"
head_of Away = extent_at + extent_bytes
head_of TakeUp = extent_at + extent_bytes
-- "offset 4, length 2"
head_of Image = extent_at + extent_bytes + size_bytes
-- "booking time 8"
head_of ValueDay = booking_at + time_bytes
-- "line 1, seed 4"
head_of MakeLine = seed_at + seed_bytes
-- "line 1, length 2"
head_of PutIn = line_number_at + line_bytes + size_bytes
-- the letter alone
head_of Counts = letter_bytes
head_of NoCall = letter_bytes

-- whether a length stands at the end of the head
abbrev pub has_length : Kind → Bool
has_length Frame = true
has_length File = true
has_length (Run Upload) = true
has_length (Run Download) = false
has_length (Run Reply) = true
has_length (Run NoReply) = false
has_length Journal = false
has_length Away = false
has_length TakeUp = false
has_length Image = true
has_length ValueDay = false
has_length MakeLine = false
has_length PutIn = true
has_length Counts = false
has_length NoCall = false

-- n bytes of a record r from a place on, and their number
abbrev pub bytes_at : ℕ → ℕ → List ℕ → List ℕ
bytes_at from n r = take n (drop from r)

unfoldable pub number_at : ℕ → ℕ → List ℕ → ℕ
number_at from n r = number (bytes_at from n r)

abbrev pub letter_of : List ℕ → ℕ
letter_of r = get_or r 0 0

-- F: bank time and ID bytes; M: the mailbox
abbrev pub bank_time_of : List ℕ → ℕ
bank_time_of r = number_at bank_time_at time_bytes r

abbrev pub ids_of : List ℕ → List ℕ
ids_of r = bytes_at ids_at id_bytes r

abbrev pub mailbox_of : List ℕ → ℕ
mailbox_of r = number_at mailbox_at mailbox_bytes r

-- U, D, R, N and J: the run, "numbered 1 to 16"; all but J: the time; U and D: subscriber, first exchange number and
-- nonce bytes
abbrev pub run_of : List ℕ → ℕ
run_of r = number_at run_number_at run_bytes r

abbrev pub time_of : List ℕ → ℕ
time_of r = number_at time_at time_bytes r

abbrev pub subscriber_of : List ℕ → ℕ
subscriber_of r = number_at subscriber_at subscriber_bytes r

abbrev pub first_of : List ℕ → ℕ
first_of r = number_at first_at first_bytes r

abbrev pub nonce_of : List ℕ → List ℕ
nonce_of r = bytes_at nonce_at nonce_bytes r

-- U: the edition's number, and the order number, "any bytes; ignored in 2.5"
abbrev pub edition_in : List ℕ → ℕ
edition_in r = number_at edition_at edition_bytes r

abbrev pub order_of : List ℕ → ℕ
order_of r = number_at order_at order_bytes r

-- P and T: how many bytes of the image room, "the first that many"; I: where its bytes go
abbrev pub lent_length_of : List ℕ → ℕ
lent_length_of r = number_at extent_at extent_bytes r

abbrev pub offset_of : List ℕ → ℕ
offset_of r = number_at extent_at extent_bytes r

-- V: the booking time
abbrev pub booking_time_of : List ℕ → ℕ
booking_time_of r = number_at booking_at time_bytes r

-- L and W: the line, "numbered 1 to 32"; L: the seed
abbrev pub line_of : List ℕ → ℕ
line_of r = number_at line_number_at line_bytes r

abbrev pub seed_of : List ℕ → ℕ
seed_of r = number_at seed_at seed_bytes r

-- what the length says, and the frame, file, payload, reply, bytes or message that it counts
unfoldable pub size_of : Kind → List ℕ → ℕ
size_of k r = cond (has_length k) (number_at (head_of k - size_bytes) size_bytes r) 0

unfoldable pub body_of : Kind → List ℕ → List ℕ
body_of k r = take (size_of k r) (drop (head_of k) r)

-- "16 client runs"
abbrev pub run_count : ℕ
run_count = 16

abbrev pub is_run : ℕ → Bool
is_run n = leb 1 n && leb n run_count

-- "0 is 2.5, 1 is 2.4; another value ends the input"
abbrev pub is_edition : ℕ → Bool
is_edition n = leb n 1

abbrev pub edition_of : ℕ → Edition
edition_of n = cond (eqb n 0) V25 V24

-- the edition is one of the two, where the record names one
abbrev pub has_edition : Event → List ℕ → Bool
has_edition Upload r = is_edition (edition_in r)
has_edition Download r = true
has_edition Reply r = true
has_edition NoReply r = true

-- "The driver has 32 lines, numbered 1 to 32"
abbrev pub line_count : ℕ
line_count = 32

abbrev pub is_line : ℕ → Bool
is_line n = leb 1 n && leb n line_count

-- "The image room is 140,000 bytes of the driver"
abbrev pub room_bytes : ℕ
room_bytes = 140000

-- n bytes from a place on are within it
abbrev pub in_room : ℕ → ℕ → Bool
in_room from n = leb (from + n) room_bytes

-- a run is one of the 16, an edition one of the two, a line one of the 32, where the record names one, and its bytes of
-- the image room are within it; another letter is no call
abbrev pub is_within : Kind → List ℕ → Bool
is_within Frame r = true
is_within File r = true
is_within (Run e) r = is_run (run_of r) && has_edition e r
is_within Journal r = is_run (run_of r)
is_within Away r = in_room 0 (lent_length_of r)
is_within TakeUp r = in_room 0 (lent_length_of r)
is_within Image r = in_room (offset_of r) (size_of Image r)
is_within ValueDay r = true
is_within MakeLine r = is_line (line_of r)
is_within PutIn r = is_line (line_of r)
is_within Counts r = true
is_within NoCall r = false

-- a record of this kind that is not cut short
unfoldable pub is_whole : Kind → List ℕ → Bool
is_whole k r = leb (head_of k) (length r) && leb (head_of k + size_of k r) (length r)

-- "A record that is cut short, another letter, and a run outside 1 to 16 end the input", as do "a `P` or `T` with a
-- length over 140,000, and an `I` whose offset plus length is over 140,000", "a line outside 1 to 32", and another value
-- than 0 and 1 as the edition: they are no call
unfoldable pub call_of : List ℕ → Kind
call_of r =
    let k = kind_of (letter_of r) in
    cond (is_whole k r && is_within k r) k NoCall

-- what ends the input
abbrev pub is_call : Kind → Bool
is_call Frame = true
is_call File = true
is_call (Run e) = true
is_call Journal = true
is_call Away = true
is_call TakeUp = true
is_call Image = true
is_call ValueDay = true
is_call MakeLine = true
is_call PutIn = true
is_call Counts = true
is_call NoCall = false
