-- Document 01, "Cases; starred ones are proved", card 5's numbers, card 8's signings and card 11's openings: each row is
-- what is asked of its calls, and what must come. The calls are `frame_call` and `file_call`, on a bank with its whole
-- stores: a fresh one where nothing else is said. The order of the refusals and the other limits: the table of
-- `bank_cases`.
use Rattle.std.specs.Prelude.{ℕ, ◌+◌, max, cond, List, [], ◌∷◌, ◌++◌, map, length, replicate, set}
use Rattle.frame_table.specs.declared.fields.Fields.{Fields}
use Rattle.octets.specs.Bytes.{number}
use Rattle.octets.specs.Texts.{ascii}
use Rattle.frame_table.specs.Names.{segment, segments, transaction, return_code, order_number}
use Rattle.frame_writer.specs.Writer.{frame_of, reply_room}
use Rattle.message.specs.declared.codes.ReturnCode.TheVariants as code
use Rattle.message.specs.Limits.{segment_bytes}
use Rattle.message.specs.OrderNumbers.{order_number_of}
use Rattle.message.specs.Requests.{upload_opening, download_opening, upload_transfer, download_transfer, receipt, signing}
use Rattle.message.specs.Requests.{chosen_opening}
use Rattle.message.specs.Replies.{upload_opened, download_opened, segment_taken, download_segment, receipt_answered}
use Rattle.message.specs.Replies.{unreadable, refusal, chosen_opened}
use Rattle.signers.specs.Signers.{signer_count, is_released}
use Rattle.bank_state.specs.declared.state.Place.{Place}
use Rattle.bank_state.specs.Limits.{store_bytes, id_bytes}
use Rattle.bank_state.specs.Search.{is_booked}
use Rattle.bank_state.specs.Rows.{count_of}
use Rattle.bank_state.specs.State.{Bank, BankState, bank_state, fresh, place_at, with_openings, with_series}
use Rattle.bank.specs.Call.{frame_input, frame_call}
use Rattle.bank.specs.Mailbox.{file_call}
use Rattle.case_rows.specs.Rows.{Case, ◌gives◌, clock, id_of, six, reply_in}

-- ---- what is called: subscriber 1 at bank time 1,000,000 or later, exchange number 1, lent ID bytes 0

-- a call: a file of so many bytes goes into mailbox 1, or at a time the frame of a request with its data arrives
pub data HostCall : Type 0 where
  put : ℕ → HostCall
  request : ℕ → Fields → List ℕ → HostCall

abbrev pub upload : ℕ → ℕ → HostCall
upload timestamp n = request clock (upload_opening 1 1 (id_of 0) timestamp n) []

-- an upload of one segment by a subscriber, with a nonce of its own
abbrev pub upload_by : ℕ → ℕ → HostCall
upload_by s nonce = request clock (upload_opening s 1 (id_of nonce) clock 1) []

-- card 11: one of edition 2.4 at a time, of n segments, with a nonce and a number
abbrev pub chosen_at : ℕ → ℕ → ℕ → ℕ → List ℕ → HostCall
chosen_at time s nonce n order = request time (chosen_opening s 1 (id_of nonce) time n (number order)) []

abbrev pub chosen_by : ℕ → ℕ → ℕ → List ℕ → HostCall
chosen_by = chosen_at clock

abbrev pub sent_at : ℕ → ℕ → ℕ → HostCall
sent_at time s last_mark = request time (upload_transfer 1 1 (id_of 0) s last_mark) (7 ∷ [])

abbrev pub sent : ℕ → ℕ → HostCall
sent = sent_at clock

abbrev pub download : HostCall
download = request clock (download_opening 1 1 (id_of 0) clock) []

abbrev pub receipt0 : HostCall
receipt0 = request clock (receipt 1 1 (id_of 0) 0) []

-- card 8: the order A000 of subscriber 1 is signed by a subscriber, with a nonce
abbrev pub sign_by : ℕ → ℕ → HostCall
sign_by s nonce = request clock (signing s 1 (id_of nonce) clock (number (ascii "A000")) 1) []

-- a fresh bank, "and every lent byte kept between calls 0"
abbrev pub start_of : Bank → BankState
start_of b = bank_state b (replicate store_bytes 0) (replicate store_bytes 0)

-- one that has accepted so many openings, so many of them uploads of subscriber 1, and has nothing of them left
abbrev pub counting : ℕ → ℕ → BankState
counting openings uploads = start_of (with_openings openings (with_series (set fresh.series 0 uploads) fresh))

-- where calls start: fresh, before the last number of subscriber 1's series, before the last running number
pub data Start : Type 0 where
  new : Start
  last_of_series : Start
  last_of_all : Start

abbrev pub started : Start → BankState
started new = start_of fresh
started last_of_series = counting 1213055 1213055
started last_of_all = counting 4294967295 0

-- ---- what comes of calls one after the other

-- the bank after the calls, and their replies, the first one first
pub record Played : Type 0 where
  pub bank : BankState
  pub replies : List Fields

unfoldable pub called : HostCall → Played → Played
called (put n) p =
    let c = file_call p.bank.bank 1 (replicate n 7) p.bank.mailboxes in
    record { bank = bank_state c.bank p.bank.orders c.mailboxes; replies = p.replies }
called (request time q d) p =
    let c = frame_call p.bank (frame_input time (replicate id_bytes 0) (frame_of q d) (replicate reply_room 0)) in
    record { bank = c.bank_state; replies = p.replies ++ (reply_in c.answer c.buffer ∷ []) }

unfoldable pub played : List HostCall → Played → Played
played [] p = p
played (c ∷ l) p = played l (called c p)

abbrev pub after : Start → List HostCall → Played
after s l = played l (record { bank = started s; replies = [] })

-- what is asked: of each reply to calls from a start a number; how many orders are booked after the calls of a fresh
-- bank; how many signers the order in its first place has then, and whether it is released (1, or 0); or numbers as
-- they are
pub data Question : Type 0 where
  each_from : Start → (Fields → ℕ) → List HostCall → Question
  booked : List HostCall → Question
  signers : List HostCall → Question
  numbers : List ℕ → Question

abbrev pub booked_in : Played → ℕ
booked_in p = count_of (λ (e : Place). is_booked e.used) p.bank.bank.places

abbrev pub signers_in : Played → List ℕ
signers_in p = let set = (place_at p.bank.bank 0).signers in signer_count set ∷ cond (is_released set) 1 0 ∷ []

abbrev pub come : Question → List ℕ
come (each_from s g l) = map g (after s l).replies
come (booked l) = booked_in (after new l) ∷ []
come (signers l) = signers_in (after new l)
come (numbers l) = l

-- a row of the table
abbrev pub Row : Type 0
Row = Case Question (List ℕ)

abbrev pub each : (Fields → ℕ) → List HostCall → Question
each = each_from new

-- the number of an accepted opening: the low half of its transaction ID
abbrev pub running_number : Fields → ℕ
running_number r = (transaction r).low

-- the return codes
abbrev pub codes_from : Start → List HostCall → Question
codes_from s = each_from s return_code

abbrev pub codes : List HostCall → Question
codes = codes_from new

-- the largest of some lengths
unfoldable pub largest : List ℕ → ℕ
largest [] = 0
largest (n ∷ l) = max n (largest l)

-- a whole segment
abbrev pub whole : List ℕ
whole = replicate segment_bytes 7

-- the lengths of the request forms with a whole segment, and of the reply forms
unfoldable pub request_lengths : List ℕ
request_lengths =
    length (frame_of (upload_opening 1 1 (id_of 0) clock 1) [])
    ∷ length (frame_of (download_opening 1 1 (id_of 0) clock) [])
    ∷ length (frame_of (upload_transfer 1 1 (id_of 0) 1 1) whole)
    ∷ length (frame_of (download_transfer 1 1 (id_of 0) 1) [])
    ∷ length (frame_of (receipt 1 1 (id_of 0) 0) [])
    ∷ length (frame_of (signing 1 1 (id_of 0) clock 0 1) [])
    ∷ length (frame_of (chosen_opening 1 1 (id_of 0) clock 1 0) [])
    ∷ []

unfoldable pub reply_lengths : List ℕ
reply_lengths =
    length (frame_of (upload_opened 1 (id_of 0) 0) [])
    ∷ length (frame_of (chosen_opened 1 (id_of 0)) [])
    ∷ length (frame_of (download_opened 1 1 (id_of 0) 1) whole)
    ∷ length (frame_of (segment_taken 1 (id_of 0) 1) [])
    ∷ length (frame_of (download_segment 1 (id_of 0) 1 1) whole)
    ∷ length (frame_of (receipt_answered 1 (id_of 0) code.DownloadPostprocessDone) [])
    ∷ length (frame_of unreadable [])
    ∷ length (frame_of (refusal 1 1 code.MessageReplay) [])
    ∷ []

-- ---- the table, by document 01's lines

-- in milliseconds: "Clock 1000: timestamps 700 and 1300 pass, 699 and 1301 get 091103."
unfoldable pub timestamp_cases : List Row
timestamp_cases =
    (codes (upload 700000 1 ∷ []) gives (six 0 ∷ []))
    ∷ (codes (upload 1300000 1 ∷ []) gives (six 0 ∷ []))
    ∷ (codes (upload 699999 1 ∷ []) gives (six 91103 ∷ []))
    ∷ (codes (upload 1300001 1 ∷ []) gives (six 91103 ∷ []))
    ∷ []

-- in milliseconds: "open at 3,600, gone at 3,601"
unfoldable pub idle_cases : List Row
idle_cases =
    (codes (upload clock 2 ∷ sent_at (clock + 3600000) 1 0 ∷ []) gives (six 0 ∷ six 0 ∷ []))
    ∷ (codes (upload clock 2 ∷ sent_at (clock + 3600001) 1 0 ∷ []) gives (six 0 ∷ six 91101 ∷ []))
    ∷ []

-- "Order numbers 0, 35 (A00Z), 46,655 (AZZZ), 1,213,055": A is 65, Z 90, 0 is 48
unfoldable pub order_number_cases : List Row
order_number_cases =
    (numbers (order_number_of 0 ∷ []) gives (number (65 ∷ 48 ∷ 48 ∷ 48 ∷ []) ∷ []))
    ∷ (numbers (order_number_of 35 ∷ []) gives (number (65 ∷ 48 ∷ 48 ∷ 90 ∷ []) ∷ []))
    ∷ (numbers (order_number_of 46655 ∷ []) gives (number (65 ∷ 90 ∷ 90 ∷ 90 ∷ []) ∷ []))
    ∷ (numbers (order_number_of 1213055 ∷ []) gives (number (90 ∷ 90 ∷ 90 ∷ 90 ∷ []) ∷ []))
    -- and the first opening's reply has the number 0
    ∷ (each order_number (upload clock 1 ∷ []) gives (order_number_of 0 ∷ []))
    ∷ []

-- "Uploads of a subscriber and type now count from A000 on their own. Transaction IDs keep the common running number",
-- "allowed up to 4,294,967,295. The limit of 1,213,056 in 061099 holds per series, the running number's end joins it."
unfoldable pub series_cases : List Row
series_cases =
    (each order_number (upload_by 1 1 ∷ upload_by 2 2 ∷ upload_by 1 3 ∷ [])
    gives (order_number_of 0 ∷ order_number_of 0 ∷ order_number_of 1 ∷ []))
    ∷ (each running_number (upload_by 1 1 ∷ upload_by 2 2 ∷ upload_by 1 3 ∷ []) gives (0 ∷ 1 ∷ 2 ∷ []))
    -- the last number of subscriber 1; then its uploads are refused, those of subscriber 2 and its downloads are not
    ∷ (each_from last_of_series order_number (upload_by 1 1 ∷ []) gives (order_number_of 1213055 ∷ []))
    ∷ (codes_from last_of_series (put 1 ∷ upload_by 1 1 ∷ upload_by 1 2 ∷ upload_by 2 3 ∷ download ∷ [])
    gives (six 0 ∷ six 61099 ∷ six 0 ∷ six 0 ∷ []))
    -- the last running number; then every opening is refused
    ∷ (each_from last_of_all running_number (upload_by 1 1 ∷ []) gives (4294967295 ∷ []))
    ∷ (codes_from last_of_all (put 1 ∷ upload_by 1 1 ∷ upload_by 1 2 ∷ download ∷ [])
    gives (six 0 ∷ six 61099 ∷ six 61099 ∷ []))
    ∷ []

-- with a timestamp of 8 bytes: "Frame lengths: upload opening" 57, "largest request 303, largest reply 312."; card 8's
-- signing, 01 to 06, 0E, 0F, 10 with 1, 2, 4, 3, 16, 8, 4, 5 and 2 bytes, and its reply, 01 03 0D with 1, 4 and 6; card
-- 11's opening, 01 to 07, 0E, 11 with 1, 2, 4, 3, 16, 8, 2, 4 and 4, and its reply, 01 03 08 0D with 1, 4, 16 and 6
unfoldable pub length_cases : List Row
length_cases =
    (numbers (length (frame_of (upload_opening 1 1 (id_of 0) clock 1) []) ∷ []) gives (57 ∷ []))
    ∷ (numbers (length (frame_of (signing 1 1 (id_of 0) clock 0 1) []) ∷ []) gives (72 ∷ []))
    ∷ (numbers (length (frame_of (refusal 1 1 code.Ok) []) ∷ []) gives (20 ∷ []))
    ∷ (numbers (length (frame_of (chosen_opening 1 1 (id_of 0) clock 1 0) []) ∷ []) gives (71 ∷ []))
    ∷ (numbers (length (frame_of (chosen_opened 1 (id_of 0)) []) ∷ []) gives (39 ∷ []))
    ∷ (numbers (largest request_lengths ∷ []) gives (303 ∷ []))
    ∷ (numbers (largest reply_lengths ∷ []) gives (312 ∷ []))
    ∷ []

-- card 6: "Allow 31 segments", "091118 begins at 32"
unfoldable pub segment_cases : List Row
segment_cases =
    (codes (upload clock 31 ∷ []) gives (six 0 ∷ [])) ∷ (codes (upload clock 32 ∷ []) gives (six 91118 ∷ [])) ∷ []

-- "N = 2, segment 1 twice: 000000, then 061101 with 1."
unfoldable pub repeat_cases : List Row
repeat_cases =
    (codes (upload clock 2 ∷ sent 1 0 ∷ sent 1 0 ∷ []) gives (six 0 ∷ six 0 ∷ six 61101 ∷ []))
    ∷ (each segment (upload clock 2 ∷ sent 1 0 ∷ sent 1 0 ∷ []) gives (0 ∷ 1 ∷ 1 ∷ []))
    ∷ []

-- "N = 1, last mark 0: 091104, nothing booked."
unfoldable pub last_mark_cases : List Row
last_mark_cases =
    (codes (upload clock 1 ∷ sent 1 0 ∷ []) gives (six 0 ∷ six 91104 ∷ []))
    ∷ (booked (upload clock 1 ∷ sent 1 0 ∷ []) gives (0 ∷ []))
    ∷ []

-- "N = 1, booked, segment repeated: 091101."
unfoldable pub booked_cases : List Row
booked_cases =
    (codes (upload clock 1 ∷ sent 1 1 ∷ sent 1 1 ∷ []) gives (six 0 ∷ six 0 ∷ six 91101 ∷ []))
    ∷ (booked (upload clock 1 ∷ sent 1 1 ∷ sent 1 1 ∷ []) gives (1 ∷ []))
    ∷ []

-- "File of 256 bytes: one segment; 257: two."
unfoldable pub file_cases : List Row
file_cases =
    (each segments (put 256 ∷ download ∷ []) gives (1 ∷ []))
    ∷ (each segments (put 257 ∷ download ∷ []) gives (2 ∷ []))
    ∷ []

-- "Receipt while d < N: 061101."
unfoldable pub receipt_cases : List Row
receipt_cases = (codes (put 257 ∷ download ∷ receipt0 ∷ []) gives (six 0 ∷ six 61101 ∷ [])) ∷ []

-- card 8: "the subscriber becomes a signer of that booked order", "two or more make the order released", "Signing again
-- answers 000000 and adds nobody"
unfoldable pub signer_cases : List Row
signer_cases =
    (signers (upload clock 1 ∷ sent 1 1 ∷ []) gives (0 ∷ 0 ∷ []))
    ∷ (signers (upload clock 1 ∷ sent 1 1 ∷ sign_by 2 1 ∷ sign_by 2 2 ∷ []) gives (1 ∷ 0 ∷ []))
    ∷ (signers (upload clock 1 ∷ sent 1 1 ∷ sign_by 2 1 ∷ sign_by 2 2 ∷ sign_by 1 3 ∷ []) gives (2 ∷ 1 ∷ []))
    -- "an order not in the book": signed while it is open, it gets 091114, and later nobody is its signer
    ∷ (signers (upload clock 1 ∷ sign_by 2 1 ∷ sent 1 1 ∷ []) gives (0 ∷ 0 ∷ []))
    ∷ []

-- card 8: "refused openings are not remembered", a signing neither, "its nonce is remembered" where it is accepted; "It
-- opens no transaction and takes no running number", and none of a series
unfoldable pub signing_cases : List Row
signing_cases =
    (codes (upload clock 1 ∷ sign_by 2 1 ∷ sent 1 1 ∷ sign_by 2 1 ∷ sign_by 3 1 ∷ upload_by 2 1 ∷ [])
    gives (six 0 ∷ six 91114 ∷ six 0 ∷ six 0 ∷ six 91103 ∷ six 91103 ∷ []))
    ∷ (each running_number (upload clock 1 ∷ sent 1 1 ∷ sign_by 2 1 ∷ upload_by 2 2 ∷ []) gives (0 ∷ 0 ∷ 0 ∷ 1 ∷ []))
    ∷ (each order_number (upload clock 1 ∷ sent 1 1 ∷ sign_by 1 1 ∷ sign_by 2 2 ∷ upload_by 1 3 ∷ upload_by 2 4 ∷ [])
    gives (order_number_of 0 ∷ 0 ∷ 0 ∷ 0 ∷ order_number_of 1 ∷ order_number_of 0 ∷ []))
    ∷ []

-- card 11: "one held by an open or booked upload of that subscriber and type with 091115", "A cancelled or dropped
-- order's number may be chosen again"
unfoldable pub chosen_cases : List Row
chosen_cases =
    -- open, and booked
    (codes (chosen_by 1 1 1 (ascii "A000") ∷ chosen_by 1 2 1 (ascii "A000") ∷ []) gives (six 0 ∷ six 91115 ∷ []))
    ∷ (codes (chosen_by 1 1 1 (ascii "A000") ∷ sent 1 1 ∷ chosen_by 1 2 1 (ascii "A000") ∷ [])
    gives (six 0 ∷ six 0 ∷ six 91115 ∷ []))
    -- of another subscriber, and after a booked one another number
    ∷ (codes
    (chosen_by 1 1 1 (ascii "A000") ∷ sent 1 1 ∷ chosen_by 2 2 1 (ascii "A000") ∷ chosen_by 1 3 1 (ascii "A001") ∷ [])
    gives (six 0 ∷ six 0 ∷ six 0 ∷ six 0 ∷ []))
    -- cancelled by 011101, by 091104, and dropped; then held again
    ∷ (codes
    (chosen_by 1 1 2 (ascii "A000") ∷ sent 1 1 ∷ chosen_by 1 2 1 (ascii "A000") ∷ chosen_by 1 3 1 (ascii "A000") ∷ [])
    gives (six 0 ∷ six 11101 ∷ six 0 ∷ six 91115 ∷ []))
    ∷ (codes (chosen_by 1 1 1 (ascii "A000") ∷ sent 1 0 ∷ chosen_by 1 2 1 (ascii "A000") ∷ [])
    gives (six 0 ∷ six 91104 ∷ six 0 ∷ []))
    ∷ (codes (chosen_by 1 1 1 (ascii "A000") ∷ chosen_at (clock + 3600000) 1 2 1 (ascii "A000") ∷ [])
    gives (six 0 ∷ six 91115 ∷ []))
    ∷ (codes (chosen_by 1 1 1 (ascii "A000") ∷ chosen_at (clock + 3600001) 1 2 1 (ascii "A000") ∷ [])
    gives (six 0 ∷ six 0 ∷ []))
    -- a number that the bank gave, held and cancelled
    ∷ (codes (upload_by 1 1 ∷ chosen_by 1 2 1 (ascii "A000") ∷ sent 1 0 ∷ chosen_by 1 3 1 (ascii "A000") ∷ [])
    gives (six 0 ∷ six 91115 ∷ six 91104 ∷ six 0 ∷ []))
    ∷ []

-- card 11: "The bank's own numbering, which such openings neither move nor need, skips numbers held by that
-- subscriber's open or booked uploads; past ZZZZ it is 061099"
unfoldable pub own_cases : List Row
own_cases =
    (each order_number (upload_by 1 1 ∷ chosen_by 1 2 1 (ascii "A001") ∷ upload_by 1 3 ∷ upload_by 1 4 ∷ [])
    gives (order_number_of 0 ∷ 0 ∷ order_number_of 2 ∷ order_number_of 3 ∷ []))
    ∷ (each running_number (upload_by 1 1 ∷ chosen_by 1 2 1 (ascii "A001") ∷ upload_by 1 3 ∷ upload_by 1 4 ∷ [])
    gives (0 ∷ 1 ∷ 2 ∷ 3 ∷ []))
    -- booked, and of another subscriber
    ∷ (each order_number (chosen_by 1 1 1 (ascii "A000") ∷ sent 1 1 ∷ upload_by 2 2 ∷ upload_by 1 3 ∷ [])
    gives (0 ∷ 0 ∷ order_number_of 0 ∷ order_number_of 1 ∷ []))
    -- cancelled, its number is not held; what was passed over does not come again
    ∷ (each order_number (chosen_by 1 1 1 (ascii "A000") ∷ sent 1 0 ∷ upload_by 1 2 ∷ [])
    gives (0 ∷ 0 ∷ order_number_of 0 ∷ []))
    ∷ (each order_number (chosen_by 1 1 1 (ascii "A000") ∷ upload_by 1 2 ∷ sent 1 0 ∷ upload_by 1 3 ∷ [])
    gives (0 ∷ order_number_of 1 ∷ 0 ∷ order_number_of 2 ∷ []))
    -- the last number of the series, taken by an opening of 2.4: then the bank has none, and 2.4 needs none
    ∷ (codes_from last_of_series
    (chosen_by 1 1 1 (ascii "ZZZZ") ∷ upload_by 1 2 ∷ chosen_by 1 3 1 (ascii "A000") ∷ upload_by 2 4 ∷ [])
    gives (six 0 ∷ six 61099 ∷ six 0 ∷ six 0 ∷ []))
    ∷ []

unfoldable pub cases : List Row
cases =
    timestamp_cases
    ++ (idle_cases
    ++ (order_number_cases
    ++ (series_cases
    ++ (length_cases
    ++ (segment_cases ++ (repeat_cases ++ (last_mark_cases ++ (booked_cases
    ++ (file_cases ++ (receipt_cases ++ (signer_cases ++ (signing_cases ++ (chosen_cases ++ own_cases)))))))))))))
