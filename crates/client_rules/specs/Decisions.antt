-- "The client run": what fits each step, and what each event leads to.
use Rattle.std.specs.Prelude.{ℕ, Bool, not, cond, ◌&&◌, ◌||◌, List, [], ◌∷◌, ltb, leb, eqb}
use Rattle.frame_table.specs.declared.fields.Fields.{Fields}
use Rattle.frame_table.specs.declared.table.Form.{Form}
use Rattle.frame_table.specs.declared.table.Form.TheVariants.{NoForm, Request, Reply}
use Rattle.frame_table.specs.declared.table.ReplyForm.{ReplyForm}
use Rattle.frame_table.specs.declared.table.ReplyForm.TheVariants as reply
use Rattle.frame_table.specs.declared.table.RequestForm.{RequestForm}
use Rattle.frame_table.specs.declared.table.RequestForm.TheVariants as request
use Rattle.frame_table.specs.Forms as forms
use Rattle.frame_table.specs.Names.{
  phase,
  exchange,
  segments,
  transaction,
  segment,
  last_mark,
  return_code,
  form,
  same_bits,
}
use Rattle.frame_table.specs.Table.{is_reply_form}
use Rattle.message.specs.declared.codes.ReturnCode.{ReturnCode}
use Rattle.message.specs.declared.codes.ReturnCode.TheVariants as code
use Rattle.message.specs.Codes.{code_field}
use Rattle.message.specs.Limits.{
  segment_bytes,
  max_segments,
  max_attempts,
  initialisation_phase,
  transfer_phase,
  receipt_phase,
}
use Rattle.message.specs.Segments.{last_mark_of}
use Rattle.message.specs.Verdicts.{decide}
use Rattle.client_run.specs.declared.run.ClientRun.{ClientRun}
use Rattle.client_run.specs.declared.run.Decision.{Decision}
use Rattle.client_run.specs.declared.run.Decision.TheVariants.{Ignore, Opened, Advance, Return, Repeat, Close}
use Rattle.message.specs.declared.directions.Direction.{Direction}
use Rattle.message.specs.declared.directions.Direction.TheVariants.{Upload, Download}
use Rattle.message.specs.Editions.{opened_form}
use Rattle.client_run.specs.declared.run.Step.{Step}
use Rattle.client_run.specs.declared.run.Step.TheVariants as step
use Rattle.client_run.specs.declared.run.Word.{Word}
use Rattle.client_run.specs.declared.run.Word.TheVariants as word

-- the place of a form in document 01's list with those of cards 8 and 11, by which two forms are compared
abbrev pub request_index : RequestForm → ℕ
request_index request.UploadOpening = 1
request_index request.DownloadOpening = 2
request_index request.UploadTransfer = 3
request_index request.DownloadTransfer = 4
request_index request.Receipt = 5
request_index request.Signing = 6
request_index request.ChosenOpening = 7

abbrev pub reply_index : ReplyForm → ℕ
reply_index reply.UploadOpened = 8
reply_index reply.DownloadOpened = 9
reply_index reply.SegmentTaken = 10
reply_index reply.DownloadSegment = 11
reply_index reply.ReceiptAnswered = 12
reply_index reply.Unreadable = 13
reply_index reply.Refusal = 14

abbrev pub form_index : Form → ℕ
form_index NoForm = 0
form_index (Request x) = request_index x
form_index (Reply x) = reply_index x

-- the reply is of this form with this code and this phase:
-- "A reply fits only in its step's form, with code 000000 ..., with that step's phase"
unfoldable pub says : Form → ReturnCode → ℕ → Fields → Bool
says x c p r = eqb (form_index (form r)) (form_index x) && eqb (return_code r) (code_field c) && eqb (phase r) p

-- "the run's transaction ID once one is known"
unfoldable pub is_own : ClientRun → Fields → Bool
is_own c r = same_bits (transaction r) c.transaction

-- a download's closing word where nothing else is said: "held, unconfirmed (a receipt was issued); else not fetched".
-- After its receipt a download issues nothing else
abbrev pub download_word : Step → Word
download_word step.Opening = word.NotFetched
download_word step.Segment = word.NotFetched
download_word step.Receipt = word.HeldUnconfirmed

-- either direction's; an upload's: "not lodged (segment N never issued ...); else unclear"
abbrev pub closing_word : Direction → ClientRun → Word
closing_word Upload c = cond (ltb c.issued c.segments) word.NotLodged word.Unclear
closing_word Download c = download_word c.step

unfoldable pub rest_word : ClientRun → Word
rest_word c = closing_word c.direction c

-- "These repeats and returns number at most five; the sixth ends the run"
unfoldable pub may_repeat : ClientRun → Bool
may_repeat c = ltb c.repeats max_attempts

-- "ended by a reply 01 03 0D of phase 2 with 091102, 091104 or 011101"
unfoldable pub ends_upload : Fields → Bool
ends_upload r =
    says forms.Refusal code.TransactionAbort transfer_phase r
    || says forms.Refusal code.SegmentNumberExceeded transfer_phase r
    || says forms.Refusal code.SegmentNumberUnderrun transfer_phase r

-- a segment's answer, of this form:
-- "with code 000000 ..., with that step's phase, the run's transaction ID once one is known and the segment number
-- requested"
unfoldable pub answers_segment : Form → ClientRun → Fields → Bool
answers_segment x c r = says x code.Ok transfer_phase r && is_own c r && eqb (segment r) c.segment

-- "its data 256 bytes before segment N, 1 to 256 in it": segment s of n with d bytes
unfoldable pub fits_data : ℕ → ℕ → ℕ → Bool
fits_data s n d = cond (eqb s n) (leb 1 d && leb d segment_bytes) (eqb d segment_bytes)

-- "... with last mark 1 there only"; "a download's N must be 1 to" the most segments, and no call leaves an s outside 1
-- to N
unfoldable pub fits_segment : ℕ → ℕ → ℕ → Fields → Bool
fits_segment s n d r =
    leb 1 s && leb s n && leb n max_segments && eqb (last_mark r) (last_mark_of s n) && fits_data s n d

-- "a recovery point has instead its point's phase, as under the frame, and its own r": "1 for segment 0 of an upload,
-- else 2"
unfoldable pub is_point : ClientRun → Fields → Bool
is_point c r =
    says forms.SegmentTaken code.RecoverySync (cond (eqb (segment r) 0) initialisation_phase transfer_phase) r && is_own c r

-- an upload goes on from a recovery point, as one of five, "if r < N and segment r + 1 was issued or is next"
unfoldable pub upload_returns : ClientRun → Fields → Bool
upload_returns c r =
    is_point c r && ltb (segment r) c.segments && leb (segment r) c.issued && may_repeat c

-- an upload's opening is answered: a run takes only its edition's reply
abbrev pub opens_upload : ClientRun → Fields → Bool
opens_upload c r = says (opened_form c.terms.edition) code.Ok initialisation_phase r

-- a download's opening is answered: "segment 1 is in it"
unfoldable pub opens_download : ℕ → Fields → Bool
opens_download d r =
    says forms.DownloadOpened code.Ok initialisation_phase r && eqb (segment r) 1 && fits_segment 1 (segments r) d r

-- "lodged (segment N answered 000000)"
unfoldable pub lodges : ClientRun → Fields → Bool
lodges c r = answers_segment forms.SegmentTaken c r && eqb c.segment c.segments

-- a segment before N answered 000000: "An answered step leads to the next"
unfoldable pub takes_segment : ClientRun → Fields → Bool
takes_segment c r = answers_segment forms.SegmentTaken c r && ltb c.segment c.segments

-- a download's segment arrived, with d bytes
unfoldable pub brings_segment : ClientRun → Fields → ℕ → Bool
brings_segment c r d = answers_segment forms.DownloadSegment c r && fits_segment c.segment c.segments d r

-- "fetched (011000)": the receipt is answered
unfoldable pub confirms : ClientRun → Fields → Bool
confirms c r = says forms.ReceiptAnswered code.DownloadPostprocessDone receipt_phase r && is_own c r

-- what a reply under the outstanding exchange number leads to in an upload, by step, from top to bottom:
-- "No 061101 fits an opening"
abbrev pub upload_rules : Step → ClientRun → Fields → List (Bool × Decision)
upload_rules step.Opening c r = (opens_upload c r, Opened) ∷ []
upload_rules step.Segment c r =
    (lodges c r, Close word.Lodged)
    ∷ (takes_segment c r, Advance)
    ∷ (upload_returns c r, Return (segment r))
    ∷ (ends_upload r, Close word.NotLodged)
    ∷ []
upload_rules step.Receipt c r = []

-- the same in a download; d is the length of the reply's data. Card 10: 061101 "ends the run like any other ill-fitting
-- one"
abbrev pub download_rules : Step → ClientRun → Fields → ℕ → List (Bool × Decision)
download_rules step.Opening c r d = (opens_download d r, Opened) ∷ []
download_rules step.Segment c r d = (brings_segment c r d, Advance) ∷ []
download_rules step.Receipt c r d = (confirms c r, Close word.Fetched) ∷ []

-- "the sixth ends the run, as does any other or ill-fitting reply"
unfoldable pub on_upload : Step → ClientRun → Fields → Decision
on_upload at c r = decide (upload_rules at c r) (Close (rest_word c))

unfoldable pub on_download : Step → ClientRun → Fields → ℕ → Decision
on_download at c r d = decide (download_rules at c r d) (Close (rest_word c))

-- the outstanding request is answered
abbrev pub on_answer : Direction → ClientRun → Fields → ℕ → Decision
on_answer Upload c r d = on_upload c.step c r
on_answer Download c r d = on_download c.step c r d

-- "A reply that is unreadable or lacks the outstanding request's exchange number is ignored"; a reply 0D has none
unfoldable pub is_answer : ClientRun → Fields → Bool
is_answer c r =
    is_reply_form (form r)
    && not (eqb (form_index (form r)) (form_index forms.Unreadable))
    && eqb (exchange r) c.exchange

-- a reply arrived: r is what is read of it, d the length of its data
unfoldable pub on_reply : ClientRun → Fields → ℕ → Decision
on_reply c r d = cond (is_answer c r) (on_answer c.direction c r d) Ignore

-- "No reply repeats the request under a new exchange number"
unfoldable pub on_no_reply : ClientRun → Decision
on_no_reply c = cond (may_repeat c) Repeat (Close (rest_word c))
