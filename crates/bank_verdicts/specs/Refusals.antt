-- Document 01, "Who can cause which refusal", with the lines of cards 8 and 11: its list from top to bottom, each line with its test and its row.
-- A row has the line's code, its test, and the verdict that it gives.
use Rattle.std.specs.Prelude.{ℕ, ◌+◌, Bool, true, false, not, ◌&&◌, ◌||◌, List, [], ◌∷◌, ltb, leb, eqb}
use Rattle.frame_table.specs.declared.fields.Fields.{Fields}
use Rattle.frame_table.specs.Names.{
  subscriber,
  order_type,
  nonce,
  timestamp,
  segments,
  transaction,
  segment,
  last_mark,
  receipt_code,
  order_number,
  owner,
  form,
}
use Rattle.frame_table.specs.Table.{is_request_form}
use Rattle.message.specs.declared.codes.ReturnCode.{ReturnCode}
use Rattle.message.specs.declared.codes.ReturnCode.TheVariants as code
use Rattle.message.specs.Limits.{ful, fdl, subscribers, segment_bytes, max_segments, max_attempts}
use Rattle.message.specs.declared.editions.Edition.{Edition}
use Rattle.message.specs.declared.editions.Edition.TheVariants as edition
use Rattle.message.specs.Editions.{edition_of}
use Rattle.message.specs.OrderNumbers.{order_number_of, is_order_number, order_in}
use Rattle.bank_state.specs.State.{Bank}
use Rattle.bank_state.specs.declared.state.Download.{Download}
use Rattle.bank_state.specs.declared.state.Place.{Place}
use Rattle.bank_state.specs.Limits.{place_count, nonce_count, window, max_open, max_open_per_subscriber}
use Rattle.bank_state.specs.Limits.{max_openings, series_limit, shared_open, sure_open}
use Rattle.bank_state.specs.Rows.{first_of}
use Rattle.bank_state.specs.Search.{
  is_booked,
  free_place,
  free_nonce,
  open_count,
  open_count_of,
  is_remembered,
  is_number_held,
  find_upload,
  find_download,
}
use Rattle.bank_state.specs.Numbers.{next_number}
use Rattle.bank_state.specs.State.{file_length}
use Rattle.message.specs.declared.directions.Direction.{Direction}
use Rattle.message.specs.declared.directions.Direction.TheVariants as direction
use Rattle.bank_verdicts.specs.declared.verdict.TransactionRequest.{TransactionRequest}
use Rattle.bank_verdicts.specs.declared.verdict.TransactionRequest.TheVariants as asked
use Rattle.bank_verdicts.specs.declared.verdict.UploadAction.{UploadAction}
use Rattle.bank_verdicts.specs.declared.verdict.UploadAction.TheVariants as up
use Rattle.bank_verdicts.specs.declared.verdict.DownloadAction.{DownloadAction}
use Rattle.bank_verdicts.specs.declared.verdict.DownloadAction.TheVariants as down
use Rattle.bank_verdicts.specs.declared.verdict.Verdict.{Verdict}
use Rattle.bank_verdicts.specs.declared.verdict.Verdict.TheVariants.{Unreadable, Refused}

-- a line of the list: its return code, its test, and what it gives where the test holds
abbrev pub Row : Type 0 → Type 0
Row A = ReturnCode × Bool × A

-- a refusal that changes nothing
abbrev pub refusing : ReturnCode → Bool → Row Verdict
refusing c test = (c, test, Refused c)

-- "transaction cancelled": 091102, 011101, 091104
abbrev pub cancels : ReturnCode → Bool
cancels code.Ok = false
cancels code.DownloadPostprocessDone = false
cancels code.DownloadPostprocessSkipped = false
cancels code.SegmentNumberUnderrun = true
cancels code.InvalidRequest = false
cancels code.InternalError = false
cancels code.RecoverySync = false
cancels code.NoDownloadDataAvailable = false
cancels code.UserUnknown = false
cancels code.InvalidOrderType = false
cancels code.SegmentSizeExceeded = false
cancels code.InvalidXml = false
cancels code.UnknownTransaction = false
cancels code.TransactionAbort = true
cancels code.MessageReplay = false
cancels code.SegmentNumberExceeded = true
cancels code.OrderIdUnknown = false
cancels code.OrderIdAlreadyExists = false
cancels code.MaxSegmentsExceeded = false
cancels code.MaxTransactionsExceeded = false

-- ---- THE SENDER OF A FRAME: every request, with n bytes of data

-- 091010: no request form, over 1,024 bytes, or a value outside its list (what is read of it then has no form)
abbrev pub is_unreadable : Fields → Bool
is_unreadable q = not (is_request_form (form q))

-- 091003: subscriber not 1 to 8
unfoldable pub no_subscriber : Fields → Bool
no_subscriber q = ltb (subscriber q) 1 || ltb subscribers (subscriber q)

-- 091009: data over 256 bytes
unfoldable pub long_data : ℕ → Bool
long_data n = ltb segment_bytes n

unfoldable pub request_rows : Fields → ℕ → List (Row Verdict)
request_rows q n =
    (code.InvalidXml, is_unreadable q, Unreadable)
    ∷ refusing code.UserUnknown (no_subscriber q)
    ∷ refusing code.SegmentSizeExceeded (long_data n)
    ∷ []

-- ---- an opening, in the form of this direction, to the bank b

-- 091005: order type neither FUL nor FDL
unfoldable pub unknown_type : Fields → Bool
unknown_type q = not (eqb (order_type q) ful || eqb (order_type q) fdl)

-- card 11, "It refuses a number that is none of A000 to ZZZZ with 061002": one that an opening of edition 2.4 brings
abbrev pub bad_number : Edition → Fields → Bool
bad_number edition.V24 q = not (is_order_number (order_number q))
bad_number edition.V25 q = false

abbrev pub no_order_number : Fields → Bool
no_order_number q = bad_number (edition_of q) q

-- 061002: opening form of the other direction, 0 segments, or no order number
abbrev pub other_direction : Direction → Fields → Bool
other_direction direction.Upload q = eqb (order_type q) fdl || (eqb (segments q) 0 || no_order_number q)
other_direction direction.Download q = eqb (order_type q) ful

-- 091118: too many segments; "091118 begins at 32"
unfoldable pub many_segments : Fields → Bool
many_segments q = ltb max_segments (segments q)

-- 091103: timestamp not in time, or nonce remembered; "in time when it differs from the clock by at most" the window
unfoldable pub in_time : ℕ → ℕ → Bool
in_time time clock = leb time (clock + window) && leb clock (time + window)

unfoldable pub is_replay : Bank → Fields → Bool
is_replay b q = not (in_time (timestamp q) b.clock) || is_remembered (nonce q) b

-- 091115: "one held by an open or booked upload of that subscriber and type with 091115, directly after 091103"
abbrev pub holds_chosen : Edition → Bank → Fields → Bool
holds_chosen edition.V24 b q = is_number_held (subscriber q) (order_in (order_number q)) b
holds_chosen edition.V25 b q = false

abbrev pub is_held : Bank → Fields → Bool
is_held b q = holds_chosen (edition_of q) b q

-- ---- THE SUBSCRIBER, BY THE COURSE OF THE ORDER: an opening

-- 090005: download, mailbox empty
abbrev pub empty_mailbox : Direction → Bank → Fields → Bool
empty_mailbox direction.Upload b q = false
empty_mailbox direction.Download b q = eqb (file_length (subscriber q) b.files) 0

-- 091119: the subscriber has 4 open transactions
unfoldable pub many_open : Bank → Fields → Bool
many_open b q = leb max_open_per_subscriber (open_count_of (subscriber q) b)

-- ---- ALL SUBSCRIBERS TOGETHER

-- "an upload with 8 places in use"
abbrev pub no_place_free : Direction → Bank → Bool
no_place_free direction.Upload b = leb place_count (free_place b)
no_place_free direction.Download b = false

-- "The bank's own numbering, which such openings neither move nor need ... past ZZZZ it is 061099"
abbrev pub numbering_ended : Edition → Bank → Fields → Bool
numbering_ended edition.V24 b q = false
numbering_ended edition.V25 b q = leb series_limit (next_number (subscriber q) b)

-- "The limit of 1,213,056 in 061099 holds per series": an upload of a subscriber whose numbering has come to it
abbrev pub series_ended : Direction → Bank → Fields → Bool
series_ended direction.Upload b q = numbering_ended (edition_of q) b q
series_ended direction.Download b q = false

-- 061099, after 091119: 8 transactions open, an upload with 8 places in use, 64 nonces remembered, the
-- end of the upload's series, or "the running number's end": 4,294,967,296 openings accepted
unfoldable pub is_full : Direction → Bank → Fields → Bool
is_full d b q =
    leb max_open (open_count b)
    || (no_place_free d b || (leb nonce_count (free_nonce b) || (series_ended d b q || leb max_openings b.openings)))

-- "A bank with two or more open may open another only while the sum ... is below 16"; the others' part is given
unfoldable pub no_share : ℕ → Bank → Bool
no_share others b = leb sure_open (open_count b) && leb shared_open (others + open_count b)

unfoldable pub opening_rows : Direction → ℕ → Bank → Fields → List (Row Verdict)
opening_rows d others b q =
    refusing code.InvalidOrderType (unknown_type q)
    ∷ refusing code.InvalidRequest (other_direction d q)
    ∷ refusing code.MaxSegmentsExceeded (many_segments q)
    ∷ refusing code.MessageReplay (is_replay b q)
    ∷ refusing code.OrderIdAlreadyExists (is_held b q)
    ∷ refusing code.NoDownloadDataAvailable (empty_mailbox d b q)
    ∷ refusing code.MaxTransactionsExceeded (many_open b q)
    ∷ refusing code.InternalError (is_full d b q || no_share others b)
    ∷ []

-- ---- a signing, to the bank b: "Signing an order already lodged" (document 02, card 8)

-- 091003: "an owner outside 1 to 8 gets 091003"
unfoldable pub no_owner : Fields → Bool
no_owner q = ltb (owner q) 1 || ltb subscribers (owner q)

-- 061002: "Type FDL gets 061002 here"
unfoldable pub signs_download : Fields → Bool
signs_download q = eqb (order_type q) fdl

-- the booked order of this owner with this order number: an upload's, so of type FUL, and "open ones do not count"
unfoldable pub is_order : ℕ → ℕ → Place → Bool
is_order owner order p = is_booked p.used && eqb p.subscriber owner && eqb (order_number_of p.number) order

unfoldable pub find_order : ℕ → ℕ → Bank → ℕ
find_order owner order b = first_of (is_order owner order) b.places

-- 091114: "It refuses an order not in the book with 091114, directly after 091103"
unfoldable pub not_booked : Bank → Fields → Bool
not_booked b q = leb place_count (find_order (owner q) (order_number q) b)

-- 061099: "of 091119's and 061099's causes only the 64 nonces apply"
unfoldable pub no_memory : Bank → Bool
no_memory b = leb nonce_count (free_nonce b)

unfoldable pub signing_rows : Bank → Fields → List (Row Verdict)
signing_rows b q =
    refusing code.UserUnknown (no_owner q)
    ∷ refusing code.InvalidOrderType (unknown_type q)
    ∷ refusing code.InvalidRequest (signs_download q)
    ∷ refusing code.MessageReplay (is_replay b q)
    ∷ refusing code.OrderIdUnknown (not_booked b q)
    ∷ refusing code.InternalError (no_memory b)
    ∷ []

-- ---- THE SUBSCRIBER, BY THE COURSE OF THE ORDER: a request to a transaction

-- 091101: transaction ID not open for this subscriber
unfoldable pub not_open : Bank → Fields → Bool
not_open b q =
    leb place_count (find_upload (subscriber q) (transaction q) b)
    && leb place_count (find_download (subscriber q) (transaction q) b)

unfoldable pub transaction_rows : Bank → Fields → List (Row Verdict)
transaction_rows b q = refusing code.UnknownTransaction (not_open b q) ∷ []

-- ---- a request to the open upload in the place p

-- "With k segments taken of N, only segment k + 1 fits"
abbrev pub fits_upload : TransactionRequest → Place → Fields → Bool
fits_upload asked.UploadTransfer p q = eqb (segment q) (p.taken + 1)
fits_upload asked.DownloadTransfer p q = false
fits_upload asked.Receipt p q = false

-- "Every other request to an open transaction of its subscriber ... is a recovery attempt", "The first five get 061101"
unfoldable pub upload_attempt : TransactionRequest → Place → Fields → Bool
upload_attempt r p q = not (fits_upload r p q) && ltb p.attempts max_attempts

-- 011101: fitting segment below N with last mark 1
unfoldable pub is_underrun : Place → Fields → Bool
is_underrun p q = ltb (segment q) p.segments && eqb (last_mark q) 1

-- 091104: fitting segment N with last mark 0
unfoldable pub is_exceeded : Place → Fields → Bool
is_exceeded p q = eqb (segment q) p.segments && eqb (last_mark q) 0

-- "cancelled, place zeroed and freed"
abbrev pub cancelling : ReturnCode → Bool → Row UploadAction
cancelling c test = (c, test, up.Cancelled c)

-- the lines for a segment that fits
unfoldable pub segment_rows : Place → Fields → List (Row UploadAction)
segment_rows p q =
    cancelling code.SegmentNumberUnderrun (is_underrun p q)
    ∷ cancelling code.SegmentNumberExceeded (is_exceeded p q)
    ∷ []

unfoldable pub upload_rows : TransactionRequest → Place → Fields → List (Row UploadAction)
upload_rows r p q =
    (code.RecoverySync, upload_attempt r p q, up.Point p.taken)
    ∷ cancelling code.TransactionAbort (not (fits_upload r p q))
    ∷ segment_rows p q

-- ---- a request to the open download e of n segments

-- "With d delivered, segment d + 1 (up to N) fits"; "A receipt fits when d = N"
abbrev pub fits_download : TransactionRequest → Download → ℕ → Fields → Bool
fits_download asked.UploadTransfer e n q = false
fits_download asked.DownloadTransfer e n q = eqb (segment q) (e.delivered + 1) && leb (segment q) n
fits_download asked.Receipt e n q = eqb e.delivered n

-- "1 to d are sent again but count as recovery attempts"
abbrev pub is_sent_again : TransactionRequest → Download → Fields → Bool
is_sent_again asked.UploadTransfer e q = false
is_sent_again asked.DownloadTransfer e q = ltb 0 (segment q) && leb (segment q) e.delivered
is_sent_again asked.Receipt e q = false

-- "The first five get 061101 with k or d (a download segment sent again carries 000000 instead)"
unfoldable pub download_attempt : TransactionRequest → Download → ℕ → Fields → Bool
download_attempt r e n q = not (fits_download r e n q) && ltb e.attempts max_attempts

-- "Code 0 is answered 011000"; "Code 1 is answered 011001"
abbrev pub is_receipt : TransactionRequest → Bool
is_receipt asked.UploadTransfer = false
is_receipt asked.DownloadTransfer = false
is_receipt asked.Receipt = true

-- the lines for a request that fits
unfoldable pub receipt_rows : TransactionRequest → Fields → List (Row DownloadAction)
receipt_rows r q =
    (code.DownloadPostprocessDone, is_receipt r && eqb (receipt_code q) 0, down.Confirmed)
    ∷ (code.DownloadPostprocessSkipped, is_receipt r, down.Declined)
    ∷ []

unfoldable pub download_rows : TransactionRequest → Download → ℕ → Fields → List (Row DownloadAction)
download_rows r e n q =
    (code.RecoverySync, download_attempt r e n q && not (is_sent_again r e q), down.Point e.delivered)
    ∷ (code.Ok, download_attempt r e n q && is_sent_again r e q, down.SentAgain n)
    ∷ (code.TransactionAbort, not (fits_download r e n q), down.Cancelled)
    ∷ receipt_rows r q
