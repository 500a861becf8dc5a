-- Document 01, "Who can cause which refusal", as rows: the order of the lines ("Checked in the order given, from top to
-- bottom"), the limits from both sides, card 8's signings, card 11's openings, and the host's numbers. A row of two
-- neighbours is a request with the causes of both and, where that can be, of no other line; the upper one is answered.
-- The calls are the host's on a session, `session_frame_call`, `session_file_call`, `put_away` and `take_up`, on a bank as
-- given. Digits stand here as in the paper.
use Rattle.std.specs.Prelude.{ℕ, zero, suc, ◌-◌, ◌^◌, true, cond, List, [], ◌∷◌, ◌++◌, length, replicate, get_or, take}
use Rattle.octets.specs.Bytes.{number}
use Rattle.octets.specs.Texts.{ascii}
use Rattle.frame_table.specs.declared.fields.Fields.{Fields}
use Rattle.frame_table.specs.Names.{order_number, with}
use Rattle.frame_table.specs.Table.{phase_tag, order_type_tag, last_mark_tag, data_tag, order_attribute_tag}
use Rattle.frame_table.specs.Table.{order_number_tag, version_tag}
use Rattle.frame_writer.specs.Writer.{frame_of}
use Rattle.message.specs.OrderNumbers.{order_number_of}
use Rattle.message.specs.Requests.{upload_opening, download_opening, upload_transfer, download_transfer, receipt, signing}
use Rattle.message.specs.Requests.{chosen_opening}
use Rattle.signers.specs.Signers.{signer_count, is_released}
use Rattle.journal.specs.Events.{no_event}
use Rattle.bank_state.specs.declared.state.Use.TheVariants.{Open, Booked}
use Rattle.bank_state.specs.declared.state.Place.{Place}
use Rattle.bank_state.specs.declared.state.Download.{Download}
use Rattle.bank_state.specs.State.{
  Nonce,
  Bank,
  no_place,
  no_download,
  no_nonce,
  place_at,
  series_of,
  with_clock,
  with_openings,
  with_series,
}
use Rattle.bank_rows.specs.Layout.{state_size}
use Rattle.bank_rows.specs.State.{stored}
use Rattle.bank_state.specs.Search.{is_remembered}
use Rattle.bank_steps.specs.Lent.{state_of}
use Rattle.bank.specs.Call.{FrameInput}
use Rattle.opening_counts.specs.Counts.{no_counts}
use Rattle.bank_session.specs.Session.{LentSession, session, event_count, bank_in, with_numbers}
use Rattle.bank_session.specs.Session.{SessionFrameCall, session_frame_call, session_file_call}
use Rattle.image_calls.specs.Calls.{put_away, take_up}
use Rattle.case_rows.specs.Rows.{Case, ◌gives◌, clock, id_of, six, bytes_in, reply_in}

-- ---- a bank as given

-- an upload of subscriber s, by opening n: of 3 segments so many are taken, after so many attempts
abbrev pub upload_of : ℕ → ℕ → ℕ → ℕ → Place
upload_of s n taken attempts = record {
  used = Open;
  transaction = id_of n;
  subscriber = s;
  number = n;
  segments = 3;
  taken = taken;
  attempts = attempts;
  last = clock;
  length = taken;
  signers = 0;
}

-- one just opened
abbrev pub opened : ℕ → ℕ → Place
opened s n = upload_of s n 0 0

-- an order of subscriber s, of 1 byte, booked, with a set of signers as bits
abbrev pub signed_by : ℕ → ℕ → ℕ → Place
signed_by signers s n = record {
  used = Booked;
  transaction = id_of n;
  subscriber = s;
  number = n;
  segments = 0;
  taken = 0;
  attempts = 0;
  last = 0;
  length = 1;
  signers = signers;
}

-- one that nobody has signed
abbrev pub booked : ℕ → ℕ → Place
booked = signed_by 0

-- a download of subscriber s, by opening n: of 3 segments so many are delivered, after so many attempts
abbrev pub download_of : ℕ → ℕ → ℕ → ℕ → Download
download_of s n delivered attempts =
    record {
      used = true;
      transaction = id_of n;
      subscriber = s;
      delivered = delivered;
      attempts = attempts;
      last = clock;
    }

-- one just opened
abbrev pub loading : ℕ → ℕ → Download
loading s n = download_of s n 1 0

-- the nonce n with a timestamp, and with the clock's
abbrev pub nonce_at : ℕ → ℕ → Nonce
nonce_at timestamp n = record { used = true; value = id_of n; timestamp = timestamp }

abbrev pub nonce : ℕ → Nonce
nonce = nonce_at clock

-- so many, by the openings from one on
unfoldable pub from : {A : Type 0} → ℕ → ℕ → (ℕ → A) → List A
from first zero f = []
from first (suc n) f = f first ∷ from (suc first) n f

-- these records, and free ones after them: so many in all
abbrev pub filled : {A : Type 0} → ℕ → A → List A → List A
filled n free l = l ++ replicate (n - length l) free

-- "8 order places and 8 mailboxes", "64 nonces"; mailbox 1 is empty, the others hold 600 bytes, so 3 segments
abbrev pub bank_with : List Place → List Download → List Nonce → Bank
bank_with places downloads nonces = record {
  clock = clock;
  openings = 100;
  series = replicate 8 100;
  places = filled 8 no_place places;
  downloads = filled 8 no_download downloads;
  nonces = filled 64 no_nonce nonces;
  files = 0 ∷ replicate 7 600;
}

-- nothing open, booked or remembered
abbrev pub idle : Bank
idle = bank_with [] [] []

-- subscriber 1 has 4 open uploads
abbrev pub four : Bank
four = bank_with (from 0 4 (opened 1)) [] []

-- ---- the requests, all under exchange number 1

-- an upload of n segments is opened, with a timestamp and a nonce
abbrev pub opens_upload : ℕ → ℕ → ℕ → ℕ → Fields
opens_upload s nonce timestamp n = upload_opening s 1 (id_of nonce) timestamp n

-- one of 1 segment by a subscriber, in time and with a nonce that is not remembered
abbrev pub uploads : ℕ → Fields
uploads s = opens_upload s 900 clock 1

abbrev pub downloads : ℕ → Fields
downloads s = download_opening s 1 (id_of 900) clock

-- the same with another type
abbrev pub typed : List ℕ → Fields → Fields
typed letters q = with order_type_tag (number letters) q

-- segment s of the upload 0 of subscriber u, with a last mark
abbrev pub sends : ℕ → ℕ → ℕ → Fields
sends u s last_mark = upload_transfer u 1 (id_of 0) s last_mark

-- segment s of the download 0 of subscriber u, and its receipt with a code
abbrev pub asks : ℕ → ℕ → Fields
asks u s = download_transfer u 1 (id_of 0) s

abbrev pub confirms : ℕ → ℕ → Fields
confirms u c = receipt u 1 (id_of 0) c

-- card 8: subscriber s signs the order of this number and owner, with a timestamp
abbrev pub signs_at : ℕ → ℕ → List ℕ → ℕ → Fields
signs_at timestamp s order owner = signing s 1 (id_of 900) timestamp (number order) owner

abbrev pub signs : ℕ → List ℕ → ℕ → Fields
signs = signs_at clock

-- the same with another attribute
abbrev pub attributed : List ℕ → Fields → Fields
attributed letters q = with order_attribute_tag (number letters) q

-- data of so many bytes
abbrev pub bytes : ℕ → List ℕ
bytes n = replicate n 7

-- a timestamp that is not in time
abbrev pub late : ℕ
late = 699999

-- ---- a call on its session

-- the numbers of a session with this bank
abbrev pub numbers_of : Bank → List ℕ
numbers_of b = with_numbers (stored b (replicate state_size 0)) 0 no_counts

-- a session with this bank, with so many records, and stores of so many bytes
abbrev pub lending : ℕ → ℕ → ℕ → Bank → LentSession
lending records orders mailboxes b =
    session (numbers_of b) (replicate records no_event) (replicate orders 0) (replicate mailboxes 0)

-- "a journal in a lent row of 64 records", "stores of 63,488"
abbrev pub session_with : Bank → LentSession
session_with = lending 64 63488 63488

-- a frame at a bank time, with so many ID bytes and a reply buffer of so many, the other banks counting so many
abbrev pub asking : ℕ → ℕ → ℕ → ℕ → List ℕ → FrameInput
asking time ids buffer others frame = record {
  time = time;
  ids = replicate ids 0;
  frame = frame;
  buffer = replicate buffer 0;
  others = others;
}

-- a call of the host
pub data HostCall : Type 0 where
  -- a request with its data, at a bank, the other banks counting so many: the code of its reply
  code_with : ℕ → Bank → Fields → List ℕ → HostCall
  -- the same of idle banks: how many signers the order in the first place has then, and whether it is released: 1, or 0
  signers_after : Bank → Fields → List ℕ → HostCall
  released_after : Bank → Fields → List ℕ → HostCall
  -- the same: how many events the journal has then, and under whom the first of them is entered: 0 where there is none
  events_after : Bank → Fields → List ℕ → HostCall
  entered_under : Bank → Fields → List ℕ → HostCall
  -- a frame at a bank time, those banks idle: a number that is asked of what the call leaves
  asked : (SessionFrameCall → ℕ) → ℕ → Bank → List ℕ → HostCall
  -- the opening of an upload with so many records, bytes in the stores of orders and of mailboxes, ID bytes, bytes in
  -- the reply buffer, and at a bank time: its number
  frame_with : ℕ → ℕ → ℕ → ℕ → ℕ → ℕ → HostCall
  -- a file for a mailbox of so many bytes, with the numbers of a session, and a store of so many bytes: its number
  file_with : List ℕ → ℕ → ℕ → ℕ → HostCall
  -- an image of no bytes is taken up, with a store of mailboxes of so many bytes: its number
  take_up_with : ℕ → HostCall
  -- a session with this bank is put away in a buffer of so many bytes: its number
  put_away_with : Bank → ℕ → HostCall

-- the session after a request at a bank, the other banks being idle
abbrev pub session_after : Bank → Fields → List ℕ → LentSession
session_after b q d = (session_frame_call (session_with b) (asking clock 8 312 6 (frame_of q d))).session

-- the signers of the order in the first place of a session's bank, and under whom its journal's first event is
abbrev pub signers_in : LentSession → ℕ
signers_in m = (place_at (state_of (bank_in m)).bank 0).signers

abbrev pub first_under : LentSession → ℕ
first_under m = (get_or m.row 0 no_event).subscriber

-- what comes of it
abbrev pub come : HostCall → ℕ
come (code_with others b q d) = (session_frame_call (session_with b) (asking clock 8 312 others (frame_of q d))).code
come (signers_after b q d) = signer_count (signers_in (session_after b q d))
come (released_after b q d) = cond (is_released (signers_in (session_after b q d))) 1 0
come (events_after b q d) = event_count (session_after b q d).rows
come (entered_under b q d) = first_under (session_after b q d)
come (asked of time b frame) = of (session_frame_call (session_with b) (asking time 8 312 6 frame))
come (frame_with records orders mailboxes ids buffer time) =
    (session_frame_call (lending records orders mailboxes idle) (asking time ids buffer 6 (frame_of (uploads 1) []))).number
come (file_with numbers store mailbox n) = (session_file_call numbers mailbox (bytes n) (replicate store 0)).number
come (take_up_with mailboxes) = (take_up (lending 64 63488 mailboxes idle) []).number
come (put_away_with b buffer) = (put_away (session_with b) (replicate buffer 0)).number

-- a row of the table
abbrev pub Row : Type 0
Row = Case HostCall ℕ

-- the other three banks being idle, each counts the 2 that it is sure of
abbrev pub code_of : Bank → Fields → List ℕ → HostCall
code_of = code_with 6

-- ---- the order of the lines: what the upper of two neighbours answers

unfoldable pub order_cases : List Row
order_cases =
    -- 091010 before 091003: a last mark outside its list, to an upload that is open for subscriber 9
    (code_of (bank_with (opened 9 0 ∷ []) [] []) (with last_mark_tag 2 (sends 9 1 1)) (bytes 1) gives six 091010)
    -- a frame of 1,025 bytes of subscriber 9; one of 1,024 is read (its data is over 256 too: 091003 before 091009)
    ∷ (code_of idle (sends 9 1 1) (bytes 978) gives six 091010)
    ∷ (code_of idle (sends 9 1 1) (bytes 977) gives six 091003)
    -- 091003 before 091009: 257 bytes to it
    ∷ (code_of (bank_with (opened 9 0 ∷ []) [] []) (sends 9 1 0) (bytes 257) gives six 091003)
    -- 091009 before 091101: 257 bytes to a transaction that is not open
    ∷ (code_of idle (sends 1 1 0) (bytes 257) gives six 091009)
    -- 091005 before 061002: type FUX, 0 segments
    ∷ (code_of idle (typed (ascii "FUX") (opens_upload 1 900 clock 0)) [] gives six 091005)
    -- 061002 before 091118: "opening form of the other direction", 32 segments
    ∷ (code_of idle (typed (ascii "FDL") (opens_upload 1 900 clock 32)) [] gives six 061002)
    -- 061002 before 091103, where 091118 cannot be: FUL in the download's form, or 0 segments, not in time
    ∷ (code_of idle (typed (ascii "FUL") (download_opening 2 1 (id_of 900) late)) [] gives six 061002)
    ∷ (code_of idle (opens_upload 1 900 late 0) [] gives six 061002)
    -- 091118 before 091103: 32 segments, "timestamp not in time, or nonce remembered"
    ∷ (code_of idle (opens_upload 1 900 late 32) [] gives six 091118)
    ∷ (code_of (bank_with [] [] (nonce 900 ∷ [])) (opens_upload 1 900 clock 32) [] gives six 091118)
    -- 091103 before 090005: "download, mailbox empty"
    ∷ (code_of idle (download_opening 1 1 (id_of 900) late) [] gives six 091103)
    ∷ (code_of (bank_with [] [] (nonce 900 ∷ [])) (downloads 1) [] gives six 091103)
    -- 091103 before 091119, where 090005 cannot be: an upload of a subscriber with 4 open
    ∷ (code_of four (opens_upload 1 900 late 1) [] gives six 091103)
    ∷ (code_of (bank_with (from 0 4 (opened 1)) [] (nonce 900 ∷ [])) (uploads 1) [] gives six 091103)
    -- 090005 before 091119: a download of a subscriber with 4 open, its mailbox empty
    ∷ (code_of four (downloads 1) [] gives six 090005)
    -- 090005 before 061099, where 091119 is not: the mailbox empty, 8 open
    ∷ (code_of (bank_with (from 0 4 (opened 3)) (from 4 4 (loading 2)) []) (downloads 1) [] gives six 090005)
    -- "061099, after 091119": 4 open of the subscriber, and "8 transactions open"
    ∷ (code_of (bank_with (from 0 4 (opened 1)) (from 4 4 (loading 2)) []) (uploads 1) [] gives six 091119)
    -- "an upload with 8 places in use"
    ∷ (code_of (bank_with (from 0 4 (opened 1) ++ from 4 4 (booked 1)) [] []) (uploads 1) [] gives six 091119)
    -- "64 nonces remembered"
    ∷ (code_of (bank_with (from 0 4 (opened 1)) [] (from 0 64 nonce)) (uploads 1) [] gives six 091119)
    -- "The limit of 1,213,056 ... holds per series, the running number's end joins it"
    ∷ (code_of (with_series (replicate 8 1213056) four) (uploads 1) [] gives six 091119)
    ∷ (code_of (with_openings 4294967296 four) (uploads 1) [] gives six 091119)
    -- the share of four banks
    ∷ (code_with 14 four (uploads 1) [] gives six 091119)
    ∷ []

-- No request meets two of the lines 091119 and 091101 (an opening, a transaction's request), 091101 and 061101 (not
-- open, open), 061101 and 091102 (the first five attempts, the sixth), 091102 and 011101 (does not fit, fits), 011101
-- and 091104 (below N, N). A last mark cancels only where the segment fits: else the request is a recovery attempt.

-- the upload of subscriber 1 with so many segments of 3 taken, after so many attempts
abbrev pub sending : ℕ → ℕ → Bank
sending taken attempts = bank_with (upload_of 1 0 taken attempts ∷ []) [] []

-- the download of subscriber 2 with so many segments of 3 delivered, after so many attempts
abbrev pub fetching : ℕ → ℕ → Bank
fetching delivered attempts = bank_with [] (download_of 2 0 delivered attempts ∷ []) []

unfoldable pub transaction_cases : List Row
transaction_cases =
    -- 091101: "transaction ID not open for this subscriber": of none, of another, booked
    (code_of idle (sends 1 1 0) (bytes 1) gives six 091101)
    ∷ (code_of (sending 1 0) (sends 2 2 0) (bytes 1) gives six 091101)
    ∷ (code_of (bank_with (booked 1 0 ∷ []) [] []) (sends 1 1 1) (bytes 1) gives six 091101)
    -- "With k segments taken of N, only segment k + 1 fits", in the last place too
    ∷ (code_of (sending 1 5) (sends 1 2 0) (bytes 1) gives six 000000)
    ∷ (code_of (sending 2 5) (sends 1 3 1) (bytes 1) gives six 000000)
    ∷ (code_of (bank_with (from 1 7 (booked 2) ++ (opened 1 0 ∷ [])) [] []) (sends 1 1 0) (bytes 1) gives six 000000)
    -- "The first five get 061101 ...; the sixth gets 091102"
    ∷ (code_of (sending 1 4) (sends 1 1 0) (bytes 1) gives six 061101)
    ∷ (code_of (sending 1 5) (sends 1 1 0) (bytes 1) gives six 091102)
    -- 061101 and 091102, not 011101: below N with last mark 1, but not k + 1
    ∷ (code_of (sending 1 4) (sends 1 1 1) (bytes 1) gives six 061101)
    ∷ (code_of (sending 1 5) (sends 1 1 1) (bytes 1) gives six 091102)
    -- 061101 and 091102, not 091104: N with last mark 0, but not k + 1
    ∷ (code_of (sending 1 4) (sends 1 3 0) (bytes 1) gives six 061101)
    ∷ (code_of (sending 1 5) (sends 1 3 0) (bytes 1) gives six 091102)
    -- "the wrong form for its direction included"
    ∷ (code_of (sending 1 4) (asks 1 2) [] gives six 061101)
    ∷ (code_of (sending 1 5) (confirms 1 0) [] gives six 091102)
    -- 011101: "fitting segment below N with last mark 1"; 091104: "fitting segment N with last mark 0"
    ∷ (code_of (sending 1 5) (sends 1 2 1) (bytes 1) gives six 011101)
    ∷ (code_of (sending 2 5) (sends 1 3 0) (bytes 1) gives six 091104)
    -- a download: "segment d + 1 (up to N) fits; 1 to d are sent again but count as recovery attempts"
    ∷ (code_of (fetching 1 5) (asks 2 2) [] gives six 000000)
    ∷ (code_of (fetching 1 4) (asks 2 1) [] gives six 000000)
    ∷ (code_of (fetching 1 5) (asks 2 1) [] gives six 091102)
    ∷ (code_of (fetching 1 4) (asks 2 3) [] gives six 061101)
    ∷ (code_of (fetching 1 5) (asks 2 3) [] gives six 091102)
    ∷ (code_of (fetching 3 4) (asks 2 4) [] gives six 061101)
    ∷ (code_of (fetching 1 4) (asks 2 0) [] gives six 061101)
    ∷ (code_of (fetching 1 4) (sends 2 2 0) (bytes 1) gives six 061101)
    -- "A receipt fits when d = N. Code 0 is answered 011000", "Code 1 is answered 011001"
    ∷ (code_of (fetching 2 4) (confirms 2 0) [] gives six 061101)
    ∷ (code_of (fetching 2 5) (confirms 2 0) [] gives six 091102)
    ∷ (code_of (fetching 3 5) (confirms 2 0) [] gives six 011000)
    ∷ (code_of (fetching 3 5) (confirms 2 1) [] gives six 011001)
    ∷ []

-- ---- the limits, from below and from above (those of timestamps, idle time, segments, series and running numbers: in
-- the table of `cases`)

unfoldable pub limit_cases : List Row
limit_cases =
    -- "a value outside its list": a receipt code of 2, a small letter in an order type; "Values over"
    -- 253,402,300,799,999 "in a frame get 091010"
    (code_of (fetching 3 0) (confirms 2 2) [] gives six 091010)
    ∷ (code_of idle (typed (ascii "FUl") (uploads 1)) [] gives six 091010)
    ∷ (code_of idle (opens_upload 1 900 253402300800000 1) [] gives six 091010)
    ∷ (code_of idle (opens_upload 1 900 253402300799999 1) [] gives six 091103)
    -- "Subscribers are 1 to 8"
    ∷ (code_of idle (uploads 1) [] gives six 000000)
    ∷ (code_of idle (uploads 8) [] gives six 000000)
    ∷ (code_of idle (uploads 0) [] gives six 091003)
    ∷ (code_of idle (uploads 9) [] gives six 091003)
    -- "256 data bytes pass, 257 get 091009"
    ∷ (code_of (sending 1 0) (sends 1 2 0) (bytes 256) gives six 000000)
    ∷ (code_of (sending 1 0) (sends 1 2 0) (bytes 257) gives six 091009)
    -- "remembered, against all subscribers, while its timestamp is at most" 300,000 "behind the clock"
    ∷ (code_of (bank_with [] [] (nonce_at 700000 900 ∷ [])) (uploads 2) [] gives six 091103)
    ∷ (code_of (bank_with [] [] (nonce_at 699999 900 ∷ [])) (uploads 2) [] gives six 000000)
    -- "the subscriber has 4 open transactions": 3 and 4, uploads, downloads, and both; and 4 of another
    ∷ (code_of (bank_with (from 0 3 (opened 1)) [] []) (uploads 1) [] gives six 000000)
    ∷ (code_of four (uploads 1) [] gives six 091119)
    ∷ (code_of (bank_with [] (from 4 3 (loading 2)) []) (downloads 2) [] gives six 000000)
    ∷ (code_of (bank_with [] (from 4 4 (loading 2)) []) (downloads 2) [] gives six 091119)
    ∷ (code_of (bank_with (opened 2 0 ∷ []) (from 4 2 (loading 2)) []) (downloads 2) [] gives six 000000)
    ∷ (code_of (bank_with (opened 2 0 ∷ opened 2 1 ∷ []) (from 4 2 (loading 2)) []) (downloads 2) [] gives six 091119)
    ∷ (code_of four (uploads 2) [] gives six 000000)
    -- "8 transactions open": 7 and 8
    ∷ (code_of (bank_with (from 0 4 (opened 3)) (from 4 3 (loading 2)) []) (uploads 1) [] gives six 000000)
    ∷ (code_of (bank_with (from 0 4 (opened 3)) (from 4 4 (loading 2)) []) (uploads 1) [] gives six 061099)
    ∷ (code_of (bank_with (from 0 4 (opened 3)) (from 4 3 (loading 2)) []) (downloads 4) [] gives six 000000)
    ∷ (code_of (bank_with (from 0 4 (opened 3)) (from 4 4 (loading 2)) []) (downloads 4) [] gives six 061099)
    -- "an upload with 8 places in use": 7 and 8; a download needs none
    ∷ (code_of (bank_with (from 0 7 (booked 1)) [] []) (uploads 1) [] gives six 000000)
    ∷ (code_of (bank_with (from 0 8 (booked 1)) [] []) (uploads 1) [] gives six 061099)
    ∷ (code_of (bank_with (from 0 8 (booked 1)) [] []) (downloads 2) [] gives six 000000)
    -- "64 nonces remembered": 63 and 64; one of them forgotten; 091103 by the last of 64
    ∷ (code_of (bank_with [] [] (from 0 63 nonce)) (uploads 1) [] gives six 000000)
    ∷ (code_of (bank_with [] [] (from 0 64 nonce)) (uploads 1) [] gives six 061099)
    ∷ (code_of (bank_with [] [] (nonce_at late 64 ∷ from 0 63 nonce)) (uploads 1) [] gives six 000000)
    ∷ (code_of (bank_with [] [] (from 0 64 nonce)) (opens_upload 1 63 clock 1) [] gives six 091103)
    ∷ []

-- card 13: "A bank with two or more open may open another only while the sum, over the four banks, of the larger of 2
-- and its open transactions is below 16, else it is 061099": what the others count, and so many open of subscriber 3
abbrev pub sharing : ℕ → ℕ → HostCall
sharing others n = code_with others (bank_with (from 0 n (opened 3)) [] []) (uploads 1) []

unfoldable pub share_cases : List Row
share_cases =
    (sharing 13 2 gives six 000000)
    ∷ (sharing 14 2 gives six 061099)
    ∷ (sharing 12 3 gives six 000000)
    ∷ (sharing 13 3 gives six 061099)
    -- "each bank is sure of two"
    ∷ (sharing 14 1 gives six 000000)
    ∷ (sharing 16 1 gives six 000000)
    ∷ (sharing 16 0 gives six 000000)
    ∷ []

-- ---- card 8: signings

-- order A000 of subscriber 1, with these signers; and nothing else
abbrev pub lodged : ℕ → Bank
lodged signers = bank_with (signed_by signers 1 0 ∷ []) [] []

-- it, signed by nobody, with so many nonces remembered: the last is that of the signings below
abbrev pub remembering : ℕ → Bank
remembering n = bank_with (booked 1 0 ∷ []) [] (from (901 - n) n nonce)

-- nothing in the book, and 64 nonces remembered
abbrev pub full : Bank
full = bank_with [] [] (from 0 64 nonce)

-- the lines in their order: 091010, 091003 (subscriber or owner), 091005, 061002, 091103, 091114, 061099. 091009 and
-- 091118 cannot be: a signing has no data and no segments. 091005 and 061002 are two types.
unfoldable pub signing_cases : List Row
signing_cases =
    -- accepted: by its owner, by another, and "Signing again answers 000000"
    (code_of (lodged 0) (signs 1 (ascii "A000") 1) [] gives six 000000)
    ∷ (code_of (lodged 0) (signs 8 (ascii "A000") 1) [] gives six 000000)
    ∷ (code_of (lodged 2) (signs 2 (ascii "A000") 1) [] gives six 000000)
    -- 091010: "attribute UZHNN"; phase 1; 257 bytes of data, which the form does not have
    ∷ (code_of (lodged 0) (attributed (ascii "UZHNM") (signs 2 (ascii "A000") 1)) [] gives six 091010)
    ∷ (code_of (lodged 0) (attributed (ascii "UZHNO") (signs 2 (ascii "A000") 1)) [] gives six 091010)
    ∷ (code_of (lodged 0) (with phase_tag 2 (signs 2 (ascii "A000") 1)) [] gives six 091010)
    ∷ (code_of (lodged 0) (with data_tag 0 (signs 2 (ascii "A000") 1)) (bytes 257) gives six 091010)
    -- 091010 before 091003: another attribute, and owner 9, subscriber 9
    ∷ (code_of (lodged 0) (attributed (ascii "UZHNM") (signs 2 (ascii "A000") 9)) [] gives six 091010)
    ∷ (code_of (lodged 0) (attributed (ascii "UZHNM") (signs 9 (ascii "A000") 1)) [] gives six 091010)
    -- 091003: "an owner outside 1 to 8 gets 091003", and a subscriber outside
    ∷ (code_of (lodged 0) (signs 2 (ascii "A000") 0) [] gives six 091003)
    ∷ (code_of (bank_with (booked 9 0 ∷ []) [] []) (signs 2 (ascii "A000") 9) [] gives six 091003)
    ∷ (code_of (bank_with (booked 8 0 ∷ []) [] []) (signs 2 (ascii "A000") 8) [] gives six 000000)
    ∷ (code_of (lodged 0) (signs 0 (ascii "A000") 1) [] gives six 091003)
    ∷ (code_of (lodged 0) (signs 9 (ascii "A000") 1) [] gives six 091003)
    -- 091003 before 091005: owner 9, subscriber 9, type FUX
    ∷ (code_of (lodged 0) (typed (ascii "FUX") (signs 2 (ascii "A000") 9)) [] gives six 091003)
    ∷ (code_of (lodged 0) (typed (ascii "FUX") (signs 9 (ascii "A000") 1)) [] gives six 091003)
    -- 091003 before 061002, where 091005 cannot be: owner 9, subscriber 9, type FDL
    ∷ (code_of (lodged 0) (typed (ascii "FDL") (signs 2 (ascii "A000") 9)) [] gives six 091003)
    ∷ (code_of (lodged 0) (typed (ascii "FDL") (signs 9 (ascii "A000") 1)) [] gives six 091003)
    -- 091005 before 091103, where 061002 cannot be: type FUX, not in time, or nonce remembered; and alone
    ∷ (code_of (lodged 0) (typed (ascii "FUX") (signs_at late 2 (ascii "A000") 1)) [] gives six 091005)
    ∷ (code_of (remembering 1) (typed (ascii "FUX") (signs 2 (ascii "A000") 1)) [] gives six 091005)
    ∷ (code_of (lodged 0) (typed (ascii "FUX") (signs 2 (ascii "A000") 1)) [] gives six 091005)
    -- 061002 before 091103: "Type FDL gets 061002 here", the same
    ∷ (code_of (lodged 0) (typed (ascii "FDL") (signs_at late 2 (ascii "A000") 1)) [] gives six 061002)
    ∷ (code_of (remembering 1) (typed (ascii "FDL") (signs 2 (ascii "A000") 1)) [] gives six 061002)
    ∷ (code_of (lodged 0) (typed (ascii "FDL") (signs 2 (ascii "A000") 1)) [] gives six 061002)
    -- 091103 before 091114: not in time, or nonce remembered, and nothing in the book
    ∷ (code_of idle (signs_at late 2 (ascii "A000") 1) [] gives six 091103)
    ∷ (code_of (bank_with [] [] (nonce 900 ∷ [])) (signs 2 (ascii "A000") 1) [] gives six 091103)
    -- 091103 before 061099, where 091114 is not: 64 nonces, the signing's the last of them
    ∷ (code_of (remembering 64) (signs 2 (ascii "A000") 1) [] gives six 091103)
    -- its timestamp, from both sides
    ∷ (code_of (lodged 0) (signs_at 700000 2 (ascii "A000") 1) [] gives six 000000)
    ∷ (code_of (lodged 0) (signs_at 1300000 2 (ascii "A000") 1) [] gives six 000000)
    ∷ (code_of (lodged 0) (signs_at 699999 2 (ascii "A000") 1) [] gives six 091103)
    ∷ (code_of (lodged 0) (signs_at 1300001 2 (ascii "A000") 1) [] gives six 091103)
    -- 091114: "an order not in the book": none, another number, another owner's, open
    ∷ (code_of idle (signs 2 (ascii "A000") 1) [] gives six 091114)
    ∷ (code_of (lodged 0) (signs 2 (ascii "A001") 1) [] gives six 091114)
    ∷ (code_of (lodged 0) (signs 2 (ascii "a000") 1) [] gives six 091114)
    ∷ (code_of (lodged 0) (signs 2 (ascii "A000") 2) [] gives six 091114)
    ∷ (code_of (bank_with (opened 1 0 ∷ []) [] []) (signs 2 (ascii "A000") 1) [] gives six 091114)
    -- in the last place too
    ∷ (code_of (bank_with (from 1 7 (booked 2) ++ (booked 1 0 ∷ [])) [] []) (signs 2 (ascii "A000") 1) []
    gives six 000000)
    -- 091114 before 061099: 64 nonces, and nothing in the book
    ∷ (code_of full (signs 2 (ascii "A000") 1) [] gives six 091114)
    -- each with the causes of all that come after it: not in time, nothing in the book, 64 nonces
    ∷ (code_of full (attributed (ascii "UZHNM") (typed (ascii "FUX") (signs_at late 9 (ascii "A000") 9))) []
    gives six 091010)
    ∷ (code_of full (typed (ascii "FUX") (signs_at late 9 (ascii "A000") 1)) [] gives six 091003)
    ∷ (code_of full (typed (ascii "FUX") (signs_at late 2 (ascii "A000") 9)) [] gives six 091003)
    ∷ (code_of full (typed (ascii "FDL") (signs_at late 2 (ascii "A000") 9)) [] gives six 091003)
    ∷ (code_of full (typed (ascii "FUX") (signs_at late 2 (ascii "A000") 1)) [] gives six 091005)
    ∷ (code_of full (typed (ascii "FDL") (signs_at late 2 (ascii "A000") 1)) [] gives six 061002)
    ∷ (code_of full (signs_at late 2 (ascii "A000") 1) [] gives six 091103)
    -- "of 091119's and 061099's causes only the 64 nonces apply": 63 and 64
    ∷ (code_of (bank_with (booked 1 0 ∷ []) [] (from 0 63 nonce)) (signs 2 (ascii "A000") 1) [] gives six 000000)
    ∷ (code_of (bank_with (booked 1 0 ∷ []) [] (from 0 64 nonce)) (signs 2 (ascii "A000") 1) [] gives six 061099)
    -- 4 open of the subscriber, 8 open, 8 places in use, the series' end, the running number's end, the share
    ∷ (code_of (bank_with (booked 1 0 ∷ from 1 4 (opened 2)) [] []) (signs 2 (ascii "A000") 1) [] gives six 000000)
    ∷ (code_of (bank_with (booked 1 0 ∷ from 1 4 (opened 3)) (from 5 4 (loading 4)) []) (signs 2 (ascii "A000") 1) []
    gives six 000000)
    ∷ (code_of (bank_with (from 0 8 (booked 1)) [] []) (signs 2 (ascii "A000") 1) [] gives six 000000)
    ∷ (code_of (with_series (replicate 8 1213056) (lodged 0)) (signs 2 (ascii "A000") 1) [] gives six 000000)
    ∷ (code_of (with_openings 4294967296 (lodged 0)) (signs 2 (ascii "A000") 1) [] gives six 000000)
    ∷ (code_with 14 (bank_with (booked 1 0 ∷ from 1 2 (opened 3)) [] []) (signs 2 (ascii "A000") 1) []
    gives six 000000)
    ∷ []

-- "the number of signatures given is the count of signers; two or more make the order released": of the signers as
-- given, 1 is subscriber 1, 2 subscriber 2, 128 subscriber 8, 127 are the first seven, 255 all
unfoldable pub signer_cases : List Row
signer_cases =
    -- segment 3 of 3 books the order: nobody is a signer, the owner neither
    (signers_after (sending 2 0) (sends 1 3 1) (bytes 1) gives 0)
    ∷ (released_after (sending 2 0) (sends 1 3 1) (bytes 1) gives 0)
    -- one signer, the owner or another
    ∷ (signers_after (lodged 0) (signs 1 (ascii "A000") 1) [] gives 1)
    ∷ (released_after (lodged 0) (signs 1 (ascii "A000") 1) [] gives 0)
    ∷ (released_after (lodged 0) (signs 8 (ascii "A000") 1) [] gives 0)
    -- "Signing again ... adds nobody"
    ∷ (signers_after (lodged 2) (signs 2 (ascii "A000") 1) [] gives 1)
    ∷ (released_after (lodged 2) (signs 2 (ascii "A000") 1) [] gives 0)
    -- two
    ∷ (signers_after (lodged 2) (signs 1 (ascii "A000") 1) [] gives 2)
    ∷ (released_after (lodged 2) (signs 1 (ascii "A000") 1) [] gives 1)
    ∷ (released_after (lodged 128) (signs 7 (ascii "A000") 1) [] gives 1)
    -- all
    ∷ (signers_after (lodged 127) (signs 8 (ascii "A000") 1) [] gives 8)
    ∷ (signers_after (lodged 255) (signs 8 (ascii "A000") 1) [] gives 8)
    -- a refused signing adds nobody
    ∷ (signers_after (lodged 2) (signs_at late 1 (ascii "A000") 1) [] gives 1)
    ∷ (signers_after (lodged 2) (signs 1 (ascii "A001") 1) [] gives 1)
    -- nor does a request of another form
    ∷ (signers_after (lodged 2) (uploads 1) [] gives 1)
    -- "kind signed, once a signer, under the owner": subscriber 2 signs subscriber 1's
    ∷ (events_after (lodged 0) (signs 2 (ascii "A000") 1) [] gives 1)
    ∷ (entered_under (lodged 0) (signs 2 (ascii "A000") 1) [] gives 1)
    ∷ (events_after (lodged 2) (signs 2 (ascii "A000") 1) [] gives 0)
    ∷ (events_after (lodged 2) (signs 1 (ascii "A001") 1) [] gives 0)
    ∷ []

-- ---- card 11: openings of edition 2.4, and the bank's own numbering

-- an upload of n segments is opened with a nonce, a timestamp and a number
abbrev pub opens_chosen : ℕ → ℕ → ℕ → ℕ → List ℕ → Fields
opens_chosen s nonce timestamp n order = chosen_opening s 1 (id_of nonce) timestamp n (number order)

-- one of 1 segment by a subscriber, in time and with a nonce that is not remembered
abbrev pub chooses : ℕ → List ℕ → Fields
chooses s order = opens_chosen s 900 clock 1 order

-- the same with another value of field 11
abbrev pub versioned : List ℕ → Fields → Fields
versioned letters q = with version_tag (number letters) q

-- the bank that a call leaves
abbrev pub bank_left : SessionFrameCall → Bank
bank_left c = (state_of (bank_in c.session)).bank

-- so many bytes of a request's frame, and a request at a bank time: the code
abbrev pub cut_to : ℕ → Bank → Fields → HostCall
cut_to n b q = asked (λ (c : SessionFrameCall). c.code) clock b (take n (frame_of q []))

abbrev pub code_at : ℕ → Bank → Fields → HostCall
code_at time b q = asked (λ (c : SessionFrameCall). c.code) time b (frame_of q [])

-- of a request's reply: its bytes as one number, how many they are, and its order number, 0 where it has none
abbrev pub reply_of : Bank → Fields → HostCall
reply_of b q = asked (λ (c : SessionFrameCall). number (bytes_in c.answer c.buffer)) clock b (frame_of q [])

abbrev pub length_of : Bank → Fields → HostCall
length_of b q = asked (λ (c : SessionFrameCall). length (bytes_in c.answer c.buffer)) clock b (frame_of q [])

abbrev pub order_of : Bank → Fields → HostCall
order_of b q = asked (λ (c : SessionFrameCall). order_number (reply_in c.answer c.buffer)) clock b (frame_of q [])

-- of the bank then: how far subscriber 1's series has come, the number in the first place, the openings accepted, and
-- whether the requests' nonce is remembered: 1, or 0
abbrev pub series_after : Bank → Fields → HostCall
series_after b q = asked (λ (c : SessionFrameCall). series_of 1 (bank_left c).series) clock b (frame_of q [])

abbrev pub number_after : Bank → Fields → HostCall
number_after b q = asked (λ (c : SessionFrameCall). (place_at (bank_left c) 0).number) clock b (frame_of q [])

abbrev pub openings_after : Bank → Fields → HostCall
openings_after b q = asked (λ (c : SessionFrameCall). (bank_left c).openings) clock b (frame_of q [])

abbrev pub remembered_after : Bank → Fields → HostCall
remembered_after b q =
    asked (λ (c : SessionFrameCall). cond (is_remembered (id_of 900) (bank_left c)) 1 0) clock b (frame_of q [])

-- "An upload opening with field 11 (4 bytes, H003) and 0E, besides 01 to 07, is such a client's; the reply leaves 0E
-- out"
unfoldable pub edition_cases : List Row
edition_cases =
    (code_of idle (chooses 1 (ascii "A000")) [] gives six 000000)
    -- 01 03 08 0D: phase 1, exchange number 1, the running number 100, 000000
    ∷ (reply_of idle (chooses 1 (ascii "A000"))
    gives number
    (0x01 ∷ 0 ∷ 1 ∷ 1 ∷ 0x03 ∷ 0 ∷ 4 ∷ 0 ∷ 0 ∷ 0 ∷ 1
    ∷ 0x08 ∷ 0 ∷ 16 ∷ (replicate 15 0 ++ (100 ∷ 0x0D ∷ 0 ∷ 6 ∷ ascii "000000"))))
    ∷ (length_of idle (chooses 1 (ascii "A000")) gives 39)
    ∷ (length_of idle (uploads 1) gives 46)
    -- 091010: another value of field 11, another phase, data, one of the tags left out
    ∷ (code_of idle (versioned (ascii "H002") (chooses 1 (ascii "A000"))) [] gives six 091010)
    ∷ (code_of idle (versioned (ascii "H004") (chooses 1 (ascii "A000"))) [] gives six 091010)
    ∷ (code_of idle (versioned (ascii "h003") (chooses 1 (ascii "A000"))) [] gives six 091010)
    ∷ (code_of idle (with phase_tag 2 (chooses 1 (ascii "A000"))) [] gives six 091010)
    ∷ (code_of idle (with data_tag 0 (chooses 1 (ascii "A000"))) (bytes 1) gives six 091010)
    ∷ (code_of idle (with order_number_tag (number (ascii "A000")) (uploads 1)) [] gives six 091010)
    ∷ (code_of idle (versioned (ascii "H003") (uploads 1)) [] gives six 091010)
    ∷ (code_of idle (versioned (ascii "H003") (with order_number_tag (number (ascii "A000")) (downloads 2))) []
    gives six 091010)
    -- its 71 bytes, cut: behind 0E it is no form, behind 07 a good opening of 2.5, which gets the bank's own number
    ∷ (cut_to 71 idle (chooses 1 (ascii "A000")) gives six 000000)
    ∷ (cut_to 70 idle (chooses 1 (ascii "A000")) gives six 091010)
    ∷ (cut_to 64 idle (chooses 1 (ascii "A000")) gives six 091010)
    ∷ (cut_to 57 idle (chooses 1 (ascii "A000")) gives six 000000)
    ∷ (asked (λ (c : SessionFrameCall). order_number (reply_in c.answer c.buffer)) clock idle
    (take 57 (frame_of (chooses 1 (ascii "A000")) []))
    gives order_number_of 100)
    ∷ (cut_to 56 idle (chooses 1 (ascii "A000")) gives six 091010)
    -- a signing cut behind 06 has the form of a download's opening
    ∷ (cut_to 52 (lodged 0) (signs 2 (ascii "A000") 1) gives six 061002)
    ∷ []

-- "It refuses a number that is none of A000 to ZZZZ with 061002": each character at its limits
abbrev pub chosen : List ℕ → HostCall
chosen order = code_of idle (chooses 1 order) []

unfoldable pub number_cases : List Row
number_cases =
    (chosen (ascii "ZZZZ") gives six 000000)
    ∷ (chosen (ascii "@000") gives six 061002)
    ∷ (chosen (ascii "[000") gives six 061002)
    ∷ (chosen (ascii "9000") gives six 061002)
    ∷ (chosen (ascii "a000") gives six 061002)
    ∷ (chosen (ascii "A900") gives six 000000)
    ∷ (chosen (ascii "AA00") gives six 000000)
    ∷ (chosen (ascii "A/00") gives six 061002)
    ∷ (chosen (ascii "A:00") gives six 061002)
    ∷ (chosen (ascii "A@00") gives six 061002)
    ∷ (chosen (ascii "A[00") gives six 061002)
    ∷ (chosen (ascii "A090") gives six 000000)
    ∷ (chosen (ascii "A0A0") gives six 000000)
    ∷ (chosen (ascii "A0/0") gives six 061002)
    ∷ (chosen (ascii "A0:0") gives six 061002)
    ∷ (chosen (ascii "A0@0") gives six 061002)
    ∷ (chosen (ascii "A0[0") gives six 061002)
    ∷ (chosen (ascii "A009") gives six 000000)
    ∷ (chosen (ascii "A00A") gives six 000000)
    ∷ (chosen (ascii "A00/") gives six 061002)
    ∷ (chosen (ascii "A00:") gives six 061002)
    ∷ (chosen (ascii "A00@") gives six 061002)
    ∷ (chosen (ascii "A00[") gives six 061002)
    ∷ (chosen (ascii "Aa00") gives six 061002)
    ∷ (chosen (ascii "A0a0") gives six 061002)
    ∷ (chosen (ascii "A00a") gives six 061002)
    -- the number of the place
    ∷ (number_after idle (chooses 1 (ascii "A007")) gives 7)
    ∷ (number_after idle (chooses 1 (ascii "A00Z")) gives 35)
    ∷ (number_after idle (chooses 1 (ascii "AZZZ")) gives 46655)
    ∷ (number_after idle (chooses 1 (ascii "ZZZZ")) gives 1213055)
    ∷ []

-- the causes of 091115 for A000, of 091119 and of 061099: subscriber 1 has 4 open and 4 booked, 4 downloads are open,
-- 64 nonces are remembered, and the running numbers are at their end
abbrev pub crowded : Bank
crowded =
    with_openings 4294967296
    (bank_with (from 0 4 (opened 1) ++ from 4 4 (booked 1)) (from 8 4 (loading 2)) (from 0 64 nonce))

-- the lines in their order: 091010, 091003, 091005, 061002, 091118, 091103, 091115, 091119, 061099. 091009 and 090005
-- cannot be: such an opening has no data and is an upload's
unfoldable pub chosen_cases : List Row
chosen_cases =
    -- 091010 before 091003: another value of field 11, subscriber 9
    (code_of idle (versioned (ascii "H004") (chooses 9 (ascii "A000"))) [] gives six 091010)
    -- 091003 before 091005 and before 061002: subscriber 9, type FUX, a bad number
    ∷ (code_of idle (typed (ascii "FUX") (chooses 9 (ascii "A000"))) [] gives six 091003)
    ∷ (code_of idle (chooses 9 (ascii "@000")) [] gives six 091003)
    -- 091005 before 061002: type FUX, a bad number
    ∷ (code_of idle (typed (ascii "FUX") (chooses 1 (ascii "@000"))) [] gives six 091005)
    -- 061002 before 091118: a bad number, FDL, 32 segments
    ∷ (code_of idle (opens_chosen 1 900 clock 32 (ascii "@000")) [] gives six 061002)
    ∷ (code_of idle (typed (ascii "FDL") (opens_chosen 1 900 clock 32 (ascii "A000"))) [] gives six 061002)
    -- 061002 before 091103, where 091118 is not: a bad number, 0 segments, not in time
    ∷ (code_of idle (opens_chosen 1 900 late 1 (ascii "@000")) [] gives six 061002)
    ∷ (code_of idle (opens_chosen 1 900 late 0 (ascii "A000")) [] gives six 061002)
    -- 091118 before 091103: 32 segments, not in time, or nonce remembered; 31 segments pass
    ∷ (code_of idle (opens_chosen 1 900 late 32 (ascii "A000")) [] gives six 091118)
    ∷ (code_of (bank_with [] [] (nonce 900 ∷ [])) (opens_chosen 1 900 clock 32 (ascii "A000")) [] gives six 091118)
    ∷ (code_of idle (opens_chosen 1 900 clock 31 (ascii "A000")) [] gives six 000000)
    -- 091118 before 091115, where 091103 is not
    ∷ (code_of (bank_with (booked 1 0 ∷ []) [] []) (opens_chosen 1 900 clock 32 (ascii "A000")) [] gives six 091118)
    -- 091103 before 091115: not in time, or nonce remembered, and the number held
    ∷ (code_of (bank_with (booked 1 0 ∷ []) [] []) (opens_chosen 1 900 late 1 (ascii "A000")) [] gives six 091103)
    ∷ (code_of (bank_with (booked 1 0 ∷ []) [] (nonce 900 ∷ [])) (chooses 1 (ascii "A000")) [] gives six 091103)
    -- 091103 before 091119, where 091115 is not
    ∷ (code_of four (opens_chosen 1 900 late 1 (ascii "B000")) [] gives six 091103)
    -- 091115 before 091119: the number held, 4 open of the subscriber
    ∷ (code_of four (chooses 1 (ascii "A000")) [] gives six 091115)
    -- 091115 before 061099, where 091119 is not: 8 open, 8 places in use, 64 nonces, the running number's end, share
    ∷ (code_of (bank_with (booked 1 0 ∷ from 1 4 (opened 3)) (from 5 4 (loading 2)) []) (chooses 1 (ascii "A000")) []
    gives six 091115)
    ∷ (code_of (bank_with (from 0 8 (booked 1)) [] []) (chooses 1 (ascii "A000")) [] gives six 091115)
    ∷ (code_of (bank_with (booked 1 0 ∷ []) [] (from 0 64 nonce)) (chooses 1 (ascii "A000")) [] gives six 091115)
    ∷ (code_of (with_openings 4294967296 (bank_with (booked 1 0 ∷ []) [] [])) (chooses 1 (ascii "A000")) []
    gives six 091115)
    ∷ (code_with 14 (bank_with (booked 1 0 ∷ from 1 2 (opened 3)) [] []) (chooses 1 (ascii "A000")) [] gives six 091115)
    -- 091119 before 061099: 4 open of the subscriber and each of these, a number that is not held
    ∷ (code_of (bank_with (from 0 4 (opened 1)) (from 4 4 (loading 2)) []) (chooses 1 (ascii "B000")) [] gives six 091119)
    ∷ (code_of (bank_with (from 0 4 (opened 1) ++ from 4 4 (booked 1)) [] []) (chooses 1 (ascii "B000")) []
    gives six 091119)
    ∷ (code_of (bank_with (from 0 4 (opened 1)) [] (from 0 64 nonce)) (chooses 1 (ascii "B000")) [] gives six 091119)
    ∷ (code_of (with_openings 4294967296 four) (chooses 1 (ascii "B000")) [] gives six 091119)
    ∷ (code_with 14 four (chooses 1 (ascii "B000")) [] gives six 091119)
    ∷ (code_of four (chooses 1 (ascii "B000")) [] gives six 091119)
    -- 061099 by each of them
    ∷ (code_of (bank_with (from 0 4 (opened 3)) (from 4 4 (loading 2)) []) (chooses 1 (ascii "B000")) [] gives six 061099)
    ∷ (code_of (bank_with (from 0 8 (booked 1)) [] []) (chooses 1 (ascii "B000")) [] gives six 061099)
    ∷ (code_of (bank_with [] [] (from 0 64 nonce)) (chooses 1 (ascii "B000")) [] gives six 061099)
    ∷ (code_of (with_openings 4294967296 idle) (chooses 1 (ascii "B000")) [] gives six 061099)
    ∷ (code_with 14 (bank_with (from 0 2 (opened 3)) [] []) (chooses 1 (ascii "B000")) [] gives six 061099)
    -- each with the causes of all that come after it
    ∷ (code_of crowded (versioned (ascii "H004") (typed (ascii "FUX") (opens_chosen 9 900 late 32 (ascii "@000")))) []
    gives six 091010)
    ∷ (code_of crowded (typed (ascii "FUX") (opens_chosen 9 900 late 32 (ascii "@000"))) [] gives six 091003)
    ∷ (code_of crowded (typed (ascii "FUX") (opens_chosen 1 900 late 32 (ascii "@000"))) [] gives six 091005)
    ∷ (code_of crowded (opens_chosen 1 900 late 32 (ascii "@000")) [] gives six 061002)
    ∷ (code_of crowded (opens_chosen 1 900 late 32 (ascii "A000")) [] gives six 091118)
    ∷ (code_of crowded (opens_chosen 1 900 late 1 (ascii "A000")) [] gives six 091103)
    ∷ (code_of crowded (chooses 1 (ascii "A000")) [] gives six 091115)
    ∷ (code_of crowded (chooses 1 (ascii "B000")) [] gives six 091119)
    ∷ []

-- "one held by an open or booked upload of that subscriber and type with 091115"
unfoldable pub held_cases : List Row
held_cases =
    -- by an open one, by a booked one, in the last place, the last number
    (code_of (bank_with (opened 1 0 ∷ []) [] []) (chooses 1 (ascii "A000")) [] gives six 091115)
    ∷ (code_of (bank_with (booked 1 0 ∷ []) [] []) (chooses 1 (ascii "A000")) [] gives six 091115)
    ∷ (code_of (bank_with (replicate 7 no_place ++ (booked 1 0 ∷ [])) [] []) (chooses 1 (ascii "A000")) []
    gives six 091115)
    ∷ (code_of (bank_with (booked 1 1213055 ∷ []) [] []) (chooses 1 (ascii "ZZZZ")) [] gives six 091115)
    ∷ (code_of (bank_with (booked 8 0 ∷ []) [] []) (chooses 8 (ascii "A000")) [] gives six 091115)
    -- not another number, not another subscriber's; an opening of 2.5 never
    ∷ (code_of (bank_with (booked 1 0 ∷ []) [] []) (chooses 1 (ascii "A001")) [] gives six 000000)
    ∷ (code_of (bank_with (booked 1 1 ∷ []) [] []) (chooses 1 (ascii "A000")) [] gives six 000000)
    ∷ (code_of (bank_with (opened 2 0 ∷ booked 3 0 ∷ []) [] []) (chooses 1 (ascii "A000")) [] gives six 000000)
    ∷ (code_of (bank_with (booked 1 100 ∷ []) [] []) (uploads 1) [] gives six 000000)
    -- "A cancelled or dropped order's number may be chosen again": open for an hour, then dropped; a booked one stays
    ∷ (code_at 4600000 (bank_with (opened 1 0 ∷ []) [] []) (opens_chosen 1 900 4600000 1 (ascii "A000")) gives six 091115)
    ∷ (code_at 4600001 (bank_with (opened 1 0 ∷ []) [] []) (opens_chosen 1 900 4600001 1 (ascii "A000")) gives six 000000)
    ∷ (code_at 4600001 (bank_with (booked 1 0 ∷ []) [] []) (opens_chosen 1 900 4600001 1 (ascii "A000")) gives six 091115)
    ∷ []

-- subscriber 1's series at a number, with these orders
abbrev pub come_to : ℕ → List Place → Bank
come_to n places = with_series (replicate 8 n) (bank_with places [] [])

-- "The bank's own numbering, which such openings neither move nor need, skips numbers held by that subscriber's open or
-- booked uploads; past ZZZZ it is 061099"
unfoldable pub numbering_cases : List Row
numbering_cases =
    -- none is skipped, one, several, as many as there can be beside a free place
    (order_of (come_to 100 []) (uploads 1) gives order_number_of 100)
    ∷ (order_of (come_to 100 (opened 1 100 ∷ [])) (uploads 1) gives order_number_of 101)
    ∷ (order_of (come_to 100 (booked 1 100 ∷ [])) (uploads 1) gives order_number_of 101)
    ∷ (order_of (come_to 100 (booked 1 102 ∷ opened 1 100 ∷ booked 1 101 ∷ [])) (uploads 1) gives order_number_of 103)
    ∷ (order_of (come_to 100 (from 100 7 (booked 1))) (uploads 1) gives order_number_of 107)
    ∷ (order_of (come_to 100 (replicate 7 no_place ++ (booked 1 100 ∷ []))) (uploads 1) gives order_number_of 101)
    ∷ (order_of (come_to 100 (booked 8 100 ∷ [])) (uploads 8) gives order_number_of 101)
    -- only held ones, and only from the counter on, of that subscriber
    ∷ (order_of (come_to 100 (booked 1 100 ∷ booked 1 102 ∷ [])) (uploads 1) gives order_number_of 101)
    ∷ (order_of (come_to 100 (booked 1 99 ∷ booked 1 101 ∷ [])) (uploads 1) gives order_number_of 100)
    ∷ (order_of (come_to 100 (booked 2 100 ∷ opened 3 100 ∷ [])) (uploads 1) gives order_number_of 100)
    -- the counter becomes that number plus one, where the opening is accepted
    ∷ (series_after (come_to 100 []) (uploads 1) gives 101)
    ∷ (series_after (come_to 100 (booked 1 100 ∷ [])) (uploads 1) gives 102)
    ∷ (series_after (come_to 100 (from 100 7 (booked 1))) (uploads 1) gives 108)
    ∷ (series_after (come_to 100 (booked 1 100 ∷ [])) (opens_upload 1 900 late 1) gives 100)
    ∷ (series_after (come_to 100 []) (uploads 2) gives 100)
    -- an opening of 2.4 leaves it, whatever it brings; running number and nonce are taken as ever
    ∷ (series_after (come_to 100 []) (chooses 1 (ascii "A02R")) gives 100)
    ∷ (series_after (come_to 100 []) (chooses 1 (ascii "A000")) gives 100)
    ∷ (series_after (come_to 100 []) (chooses 1 (ascii "A02S")) gives 100)
    ∷ (series_after (come_to 100 []) (chooses 1 (ascii "ZZZZ")) gives 100)
    ∷ (number_after (come_to 100 []) (chooses 1 (ascii "A02S")) gives 100)
    ∷ (openings_after idle (chooses 1 (ascii "A000")) gives 101)
    ∷ (remembered_after idle (chooses 1 (ascii "A000")) gives 1)
    -- refused it takes none
    ∷ (openings_after (come_to 100 (booked 1 0 ∷ [])) (chooses 1 (ascii "A000")) gives 100)
    ∷ (remembered_after (come_to 100 (booked 1 0 ∷ [])) (chooses 1 (ascii "A000")) gives 0)
    -- ZZZZ is 1,213,055: the last one, and past it, the last ones being held
    ∷ (order_of (come_to 1213055 []) (uploads 1) gives number (ascii "ZZZZ"))
    ∷ (code_of (come_to 1213056 []) (uploads 1) [] gives six 061099)
    ∷ (code_of (come_to 1213055 (booked 1 1213055 ∷ [])) (uploads 1) [] gives six 061099)
    ∷ (code_of (come_to 1213055 (booked 2 1213055 ∷ [])) (uploads 1) [] gives six 000000)
    ∷ (order_of (come_to 1213054 (booked 1 1213054 ∷ [])) (uploads 1) gives number (ascii "ZZZZ"))
    ∷ (code_of (come_to 1213054 (opened 1 1213055 ∷ booked 1 1213054 ∷ [])) (uploads 1) [] gives six 061099)
    ∷ (series_after (come_to 1213055 (booked 1 1213055 ∷ [])) (uploads 1) gives 1213055)
    -- 091119 before it
    ∷ (code_of (come_to 1213055 (from 1213052 4 (opened 1))) (uploads 1) [] gives six 091119)
    -- an opening of 2.4 does not need it
    ∷ (code_of (come_to 1213056 []) (chooses 1 (ascii "A000")) [] gives six 000000)
    ∷ (code_of (come_to 1213056 []) (chooses 1 (ascii "ZZZZ")) [] gives six 000000)
    ∷ (code_of (come_to 1213055 (booked 1 1213055 ∷ [])) (chooses 1 (ascii "ZZZY")) [] gives six 000000)
    ∷ []

-- ---- the host's numbers ("a number, nothing changed, clock included")

-- 1: "a lent length differs from the above or is too short for what is to be written"
unfoldable pub frame_cases : List Row
frame_cases =
    (frame_with 64 63488 63488 8 312 clock gives 0)
    ∷ (frame_with 63 63488 63488 8 312 clock gives 1)
    ∷ (frame_with 65 63488 63488 8 312 clock gives 1)
    ∷ (frame_with 64 63487 63488 8 312 clock gives 1)
    ∷ (frame_with 64 63489 63488 8 312 clock gives 1)
    ∷ (frame_with 64 63488 63487 8 312 clock gives 1)
    ∷ (frame_with 64 63488 63489 8 312 clock gives 1)
    ∷ (frame_with 64 63488 63488 7 312 clock gives 1)
    ∷ (frame_with 64 63488 63488 9 312 clock gives 1)
    ∷ (frame_with 64 63488 63488 8 311 clock gives 1)
    ∷ (frame_with 64 63488 63488 8 313 clock gives 0)
    -- card 3: "Values over 253,402,300,799,999 ... as bank or client time number 1"
    ∷ (frame_with 64 63488 63488 8 312 253402300799999 gives 0)
    ∷ (frame_with 64 63488 63488 8 312 253402300800000 gives 1)
    ∷ []

-- a store of so many bytes, a mailbox, and a file of so many bytes; mailbox 1 is empty
abbrev pub file : ℕ → ℕ → ℕ → HostCall
file = file_with (numbers_of idle)

unfoldable pub file_cases : List Row
file_cases =
    -- 1 before 2: mailbox 9
    (file 63487 9 1 gives 1)
    ∷ (file 63489 9 1 gives 1)
    ∷ (file_with [] 63488 9 1 gives 1)
    -- 2 before 3: "mailbox not 1 to 8", "file of 0 or over" 7,936 "bytes"
    ∷ (file 63488 9 0 gives 2)
    ∷ (file 63488 0 7937 gives 2)
    -- 3 before 4: mailboxes 2 to 8 hold a file
    ∷ (file 63488 2 0 gives 3)
    ∷ (file 63488 8 7937 gives 3)
    -- 4: "mailbox holds a file"
    ∷ (file 63488 2 1 gives 4)
    ∷ (file 63488 8 1 gives 4)
    -- each limit of an empty mailbox
    ∷ (file 63488 1 0 gives 3)
    ∷ (file 63488 1 1 gives 0)
    ∷ (file 63488 1 7936 gives 0)
    ∷ (file 63488 1 7937 gives 3)
    ∷ []

-- ---- images: "with number 9 after number 1"

-- a clock that 8 bytes do not hold: no session of the list
abbrev pub beyond : Bank
beyond = with_clock (2 ^ 64) idle

unfoldable pub image_cases : List Row
image_cases =
    -- 1 before 9: a store of another length, a buffer too short
    (take_up_with 63487 gives 1)
    ∷ (put_away_with beyond 0 gives 1)
    -- 9: "out of form", "outside that list"
    ∷ (take_up_with 63488 gives 9)
    ∷ (put_away_with beyond 200000 gives 9)
    ∷ []

unfoldable pub bank_cases : List Row
bank_cases =
    order_cases
    ++ (transaction_cases ++ (limit_cases ++ (share_cases
    ++ (signing_cases ++ (signer_cases
    ++ (edition_cases ++ (number_cases ++ (chosen_cases ++ (held_cases ++ (numbering_cases
    ++ (frame_cases ++ (file_cases ++ image_cases))))))))))))
