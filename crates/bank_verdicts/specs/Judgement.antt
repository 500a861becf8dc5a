-- How a request is judged: "Checked in the order given, from top to bottom." The clock and the drops are done.
use Rattle.std.specs.Prelude.{ℕ, ◌+◌, Bool, false, not, cond, List, [], ◌∷◌, ltb, eqb}
use Rattle.frame_table.specs.declared.fields.Bits128.{Bits128}
use Rattle.frame_table.specs.declared.fields.Fields.{Fields}
use Rattle.frame_table.specs.declared.table.Form.{Form}
use Rattle.frame_table.specs.declared.table.Form.TheVariants.{NoForm, Request, Reply}
use Rattle.frame_table.specs.declared.table.RequestForm.{RequestForm}
use Rattle.frame_table.specs.declared.table.RequestForm.TheVariants as requests
use Rattle.frame_table.specs.Names.{subscriber, transaction, order_number, owner, form}
use Rattle.message.specs.declared.codes.ReturnCode.{ReturnCode}
use Rattle.message.specs.Codes.{code_value}
use Rattle.message.specs.declared.editions.Edition.{Edition}
use Rattle.message.specs.declared.editions.Edition.TheVariants as edition
use Rattle.message.specs.Editions.{edition_of}
use Rattle.message.specs.OrderNumbers.{order_in}
use Rattle.message.specs.Segments.{segments_of}
use Rattle.signers.specs.Signers.{is_signer}
use Rattle.bank_state.specs.State.{Bank}
use Rattle.bank_state.specs.declared.state.Download.{Download}
use Rattle.bank_state.specs.declared.state.Place.{Place}
use Rattle.bank_state.specs.Limits.{place_count}
use Rattle.bank_state.specs.Search.{find_upload, find_download}
use Rattle.bank_state.specs.Numbers.{next_number}
use Rattle.bank_state.specs.State.{place_at, download_at, file_length}
use Rattle.bank_verdicts.specs.declared.verdict.Context.{Context}
use Rattle.message.specs.declared.directions.Direction.{Direction}
use Rattle.message.specs.declared.directions.Direction.TheVariants as direction
use Rattle.bank_verdicts.specs.declared.verdict.TransactionRequest.{TransactionRequest}
use Rattle.bank_verdicts.specs.declared.verdict.TransactionRequest.TheVariants as asked
use Rattle.bank_verdicts.specs.declared.verdict.UploadAction.{UploadAction}
use Rattle.bank_verdicts.specs.declared.verdict.UploadAction.TheVariants as up
use Rattle.bank_verdicts.specs.declared.verdict.DownloadAction.{DownloadAction}
use Rattle.bank_verdicts.specs.declared.verdict.DownloadAction.TheVariants as down
use Rattle.bank_verdicts.specs.declared.verdict.Action.{Action}
use Rattle.bank_verdicts.specs.declared.verdict.Action.TheVariants as action
use Rattle.bank_verdicts.specs.declared.verdict.Verdict.{Verdict}
use Rattle.bank_verdicts.specs.declared.verdict.Verdict.TheVariants.{Unreadable, Of, Signed}
use Rattle.bank_verdicts.specs.Refusals.{Row, request_rows, opening_rows, find_order, signing_rows}
use Rattle.bank_verdicts.specs.Refusals.{transaction_rows, upload_rows, download_rows}

-- what the first line whose test holds gives; the last one where none does
abbrev pub judged : {A : Type 0} → List (Row A) → A → A
judged [] other = other
judged (row ∷ rows) other = cond row.1 row.2 (judged rows other)

-- the test of the line with this code
abbrev pub test_of : {A : Type 0} → ReturnCode → List (Row A) → Bool
test_of c [] = false
test_of c (row ∷ rows) = cond (eqb (code_value c) (code_value row.0)) row.1 (test_of c rows)

-- "The transaction ID is the 8 lent bytes, then the number in 8 bytes", "the common running number" of all openings; the
-- lent bytes as a number
abbrev pub transaction_of : ℕ → Bank → Bits128
transaction_of first b = record { high = first; low = b.openings }

-- the number of segments of a subscriber's mailbox
abbrev pub mailbox_segments : ℕ → Bank → ℕ
mailbox_segments s b = segments_of (file_length s b.files)

-- the number of an upload by its opening's edition: up to 2.4 "the client chose the order number", from 2.5 on it is the
-- bank's own, "from A000 on"
abbrev pub number_by : Edition → Bank → Fields → ℕ
number_by edition.V24 b q = order_in (order_number q)
number_by edition.V25 b q = next_number (subscriber q) b

unfoldable pub opening_number : Bank → Fields → ℕ
opening_number b q = number_by (edition_of q) b q

-- an accepted opening
abbrev pub accepted : Direction → ℕ → Bank → Fields → Verdict
accepted direction.Upload first b q =
    Of (transaction_of first b) (action.Upload (up.Opened (opening_number b q)))
accepted direction.Download first b q =
    Of (transaction_of first b) (action.Download (down.Opened (mailbox_segments (subscriber q) b)))

-- the number of the upload that a verdict opens; 0 where it opens none
abbrev pub upload_number : UploadAction → ℕ
upload_number (up.Opened n) = n
upload_number up.Took = 0
upload_number up.TookLast = 0
upload_number (up.Point k) = 0
upload_number (up.Cancelled c) = 0

abbrev pub opened_number : Action → ℕ
opened_number (action.Upload a) = upload_number a
opened_number (action.Download a) = 0

-- an opening in the form of this direction
unfoldable pub judge_opening : Direction → Context → Bank → Fields → Verdict
judge_opening d c b q = judged (opening_rows d c.others b q) (accepted d c.prefix b q)

-- the place of the booked order that a signing names
abbrev pub order_at : Bank → Fields → ℕ
order_at b q = find_order (owner q) (order_number q) b

-- an accepted signing, with its order's number in the owner's series: "the subscriber becomes a signer of that booked
-- order", "Signing again answers 000000 and adds nobody"
abbrev pub signed : Bank → Fields → Verdict
signed b q =
    let p = place_at b (order_at b q) in
    Signed (record { transaction = p.transaction; number = p.number }) (not (is_signer (subscriber q) p.signers))

-- a signing
unfoldable pub judge_signing : Bank → Fields → Verdict
judge_signing b q = judged (signing_rows b q) (signed b q)

-- "Segment N books the order"
unfoldable pub takes : Place → UploadAction
takes p = cond (eqb (p.taken + 1) p.segments) up.TookLast up.Took

-- a request to the open upload in the place p
unfoldable pub judge_upload : TransactionRequest → Place → Fields → UploadAction
judge_upload r p q = judged (upload_rows r p q) (takes p)

-- a request to the open download e of n segments
unfoldable pub judge_download : TransactionRequest → Download → ℕ → Fields → DownloadAction
judge_download r e n q = judged (download_rows r e n q) (down.Delivered n)

-- the place of the request's upload, and the record of its download
abbrev pub upload_at : Bank → Fields → ℕ
upload_at b q = find_upload (subscriber q) (transaction q) b

abbrev pub download_of : Bank → Fields → ℕ
download_of b q = find_download (subscriber q) (transaction q) b

-- a request to an open transaction: an upload's, else a download's
unfoldable pub judge_open : TransactionRequest → Bank → Fields → Verdict
judge_open r b q =
    let p = place_at b (upload_at b q) in
    let e = download_at b (download_of b q) in
    cond (ltb (upload_at b q) place_count)
    (Of p.transaction (action.Upload (judge_upload r p q)))
    (Of e.transaction (action.Download (judge_download r e (mailbox_segments (subscriber q) b) q)))

-- a request to a transaction
unfoldable pub judge_transaction : TransactionRequest → Bank → Fields → Verdict
judge_transaction r b q = judged (transaction_rows b q) (judge_open r b q)

-- a readable request by its form
abbrev pub judge_request : RequestForm → Context → Bank → Fields → Verdict
judge_request requests.UploadOpening c b q = judge_opening direction.Upload c b q
judge_request requests.DownloadOpening c b q = judge_opening direction.Download c b q
judge_request requests.UploadTransfer c b q = judge_transaction asked.UploadTransfer b q
judge_request requests.DownloadTransfer c b q = judge_transaction asked.DownloadTransfer b q
judge_request requests.Receipt c b q = judge_transaction asked.Receipt b q
judge_request requests.Signing c b q = judge_signing b q
judge_request requests.ChosenOpening c b q = judge_opening direction.Upload c b q

abbrev pub judge_form : Form → Context → Bank → Fields → Verdict
judge_form NoForm c b q = Unreadable
judge_form (Request x) c b q = judge_request x c b q
judge_form (Reply x) c b q = Unreadable

-- a request with n bytes of data, in a context
unfoldable pub judge : Context → Bank → Fields → ℕ → Verdict
judge c b q n = judged (request_rows q n) (judge_form (form q) c b q)
