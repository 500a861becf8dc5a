-- What is true of every exchange in a history, seen from the exchanges before it.
use Rattle.std.specs.Prelude.{ℕ, suc, ◌<◌, ◌≤◌, Bool, true, false, not, ◌||◌, List, [], ◌∷◌, ◌≡◌, eqb, length}
use Rattle.frame_table.specs.declared.fields.Bits128.{Bits128}
use Rattle.frame_table.specs.declared.table.Form.{Form}
use Rattle.frame_table.specs.Forms as forms
use Rattle.frame_table.specs.Names.{
  subscriber,
  order_type,
  transaction,
  segments,
  segment,
  last_mark,
  receipt_code,
  order_number,
  owner,
  form,
}
use Rattle.message.specs.declared.codes.ReturnCode.{ReturnCode}
use Rattle.message.specs.declared.codes.ReturnCode.TheVariants as code
use Rattle.message.specs.Codes.{code_field}
use Rattle.message.specs.declared.editions.Edition.{Edition}
use Rattle.message.specs.declared.editions.Edition.TheVariants as edition
use Rattle.message.specs.Editions.{edition_of, opening_form}
use Rattle.message.specs.Limits.{ful, subscribers, segment_bytes, max_segments}
use Rattle.message.specs.OrderNumbers.{order_number_of}
use Rattle.message.specs.Segments.{segments_of, segment_of}
use Rattle.signers.specs.Signers.{is_signer}
use Rattle.bank_state.specs.Limits.{series_limit}
use Rattle.bank_verdicts.specs.declared.verdict.UploadAction.{UploadAction}
use Rattle.bank_verdicts.specs.declared.verdict.UploadAction.TheVariants as up
use Rattle.bank_verdicts.specs.declared.verdict.DownloadAction.{DownloadAction}
use Rattle.bank_verdicts.specs.declared.verdict.DownloadAction.TheVariants as down
use Rattle.bank_verdicts.specs.declared.verdict.Action.{Action}
use Rattle.bank_verdicts.specs.declared.verdict.Action.TheVariants as action
use Rattle.bank_verdicts.specs.declared.verdict.SignedOrder.{SignedOrder}
use Rattle.bank_verdicts.specs.declared.verdict.Verdict.{Verdict}
use Rattle.bank_verdicts.specs.declared.verdict.Verdict.TheVariants as verdict
use Rattle.bank_verdicts.specs.Refusals.{cancels}
use Rattle.bank_verdicts.specs.Replies.{reply_to}
use Rattle.bank_history.specs.History.{
  Exchange,
  is_upload_opening,
  is_download_opening,
  is_booking,
  is_taking,
  is_delivery,
  is_ending,
  ever,
  times,
  accepted,
  own_numbering,
  opened_by,
  number_at,
  segments_at,
  file_at_opening,
}
use Rattle.bank_history.specs.Signatures.{signed_name, signers_in}

-- field 0D is 091102, 011101 or 091104, the codes that cancel
abbrev pub is_cancelling : ℕ → Bool
is_cancelling n = eqb n (code_field code.TransactionAbort) || eqb n (code_field code.SegmentNumberUnderrun) || eqb n
    (code_field code.SegmentNumberExceeded)

-- "The accepted openings are numbered from 0": t has the next number; the request is of this opening form, from a
-- subscriber 1 to 8
pub record SoundOpening (f : Form) (t : Bits128) (e : Exchange) (h : List Exchange) : Type 0 where
  pub numbered : t.low ≡ accepted h
  pub asked : form e.request ≡ f
  pub known : 1 ≤ subscriber e.request
  pub most : subscriber e.request ≤ subscribers

-- its order number, by the request's edition: up to 2.4 the one that "the client chose", from 2.5 on one that the bank's
-- own numbering has not passed
abbrev pub NumberedAs : Edition → ℕ → Exchange → List Exchange → Type 0
NumberedAs edition.V24 n e h = order_number e.request ≡ order_number_of n
NumberedAs edition.V25 n e h = own_numbering (subscriber e.request) h ≤ n

-- an upload opened: "The limit of 1,213,056 ... holds per series", and ZZZZ is the last number to choose; "0 segments"
-- and, from 32 on, too many are refused
pub record SoundUploadOpening (n : ℕ) (t : Bits128) (e : Exchange) (h : List Exchange) : Type 0 where
  pub opening : SoundOpening (opening_form (edition_of e.request)) t e h
  pub number : NumberedAs (edition_of e.request) n e h
  pub limited : n < series_limit
  pub some : 1 ≤ segments e.request
  pub few : segments e.request ≤ max_segments
  pub bare : e.reply_data ≡ []

-- a download opened: its mailbox is not empty, N is right, "segment 1 is in it"
pub record SoundDownloadOpening (n : ℕ) (t : Bits128) (e : Exchange) (h : List Exchange) : Type 0 where
  pub opening : SoundOpening forms.DownloadOpening t e h
  pub full : 1 ≤ length e.file
  pub count : n ≡ segments_of (length e.file)
  pub part : e.reply_data ≡ segment_of e.file 1

-- a request to an open transaction "of its subscriber": the ID is the request's, and nothing has ended it or booked it
pub record SoundRequest (t : Bits128) (e : Exchange) (h : List Exchange) : Type 0 where
  pub same : t ≡ transaction e.request
  pub owner : opened_by t h ≡ subscriber e.request
  pub going : ever is_ending t h ≡ false
  pub unbooked : ever is_booking t h ≡ false

pub record SoundUpload (t : Bits128) (e : Exchange) (h : List Exchange) : Type 0 where
  pub request : SoundRequest t e h
  pub opened : ever is_upload_opening t h ≡ true
  pub bare : e.reply_data ≡ []

-- "With k segments taken of N, only segment k + 1 fits"
pub record SoundTaking (t : Bits128) (e : Exchange) (h : List Exchange) : Type 0 where
  pub upload : SoundUpload t e h
  pub asked : form e.request ≡ forms.UploadTransfer
  pub next : segment e.request ≡ suc (times is_taking t h)
  pub short : length e.request_data ≤ segment_bytes

-- "Its last mark must be 1 exactly when k + 1 = N"
pub record SoundTook (t : Bits128) (e : Exchange) (h : List Exchange) : Type 0 where
  pub taking : SoundTaking t e h
  pub below : segment e.request < segments_at t h
  pub mark : last_mark e.request ≡ 1 → ⊥

pub record SoundTookLast (t : Bits128) (e : Exchange) (h : List Exchange) : Type 0 where
  pub taking : SoundTaking t e h
  pub last : segment e.request ≡ segments_at t h
  pub mark : last_mark e.request ≡ 0 → ⊥

pub record SoundUploadPoint (k : ℕ) (t : Bits128) (e : Exchange) (h : List Exchange) : Type 0 where
  pub upload : SoundUpload t e h
  pub point : k ≡ times is_taking t h

-- a download's mailbox "holds exactly the file" of its opening, and N is its number of segments
pub record SoundDownload (n : ℕ) (t : Bits128) (e : Exchange) (h : List Exchange) : Type 0 where
  pub request : SoundRequest t e h
  pub opened : ever is_download_opening t h ≡ true
  pub same : e.file ≡ file_at_opening t h
  pub count : n ≡ segments_of (length (file_at_opening t h))

-- the reply's data is the segment asked for, of the file at the opening
pub record SoundData (n : ℕ) (t : Bits128) (e : Exchange) (h : List Exchange) : Type 0 where
  pub download : SoundDownload n t e h
  pub asked : form e.request ≡ forms.DownloadTransfer
  pub some : 1 ≤ segment e.request
  pub within : segment e.request ≤ n
  pub part : e.reply_data ≡ segment_of (file_at_opening t h) (segment e.request)

-- "With d delivered, segment d + 1 (up to N) fits"
pub record SoundDelivery (n : ℕ) (t : Bits128) (e : Exchange) (h : List Exchange) : Type 0 where
  pub carried : SoundData n t e h
  pub next : segment e.request ≡ suc (times is_delivery t h)

-- "1 to d are sent again"
pub record SoundAgain (n : ℕ) (t : Bits128) (e : Exchange) (h : List Exchange) : Type 0 where
  pub carried : SoundData n t e h
  pub again : segment e.request ≤ times is_delivery t h

pub record SoundDownloadPoint (d : ℕ) (t : Bits128) (e : Exchange) (h : List Exchange) : Type 0 where
  pub request : SoundRequest t e h
  pub opened : ever is_download_opening t h ≡ true
  pub point : d ≡ times is_delivery t h
  -- it asks for none of the segments 1 to d + 1 up to N, and as a receipt it comes before segment N is delivered
  pub unfit : form e.request ≡ forms.DownloadTransfer → 1 ≤ segment e.request →
      segment e.request ≤ suc (times is_delivery t h) →
      segment e.request ≤ segments_of (length (file_at_opening t h)) → ⊥
  pub early : form e.request ≡ forms.Receipt → times is_delivery t h < segments_of (length (file_at_opening t h))
  pub bare : e.reply_data ≡ []

-- "A receipt fits when d = N"
pub record SoundReceipt (t : Bits128) (e : Exchange) (h : List Exchange) : Type 0 where
  pub download : SoundDownload (times is_delivery t h) t e h
  pub asked : form e.request ≡ forms.Receipt
  pub bare : e.reply_data ≡ []

pub record SoundConfirmed (t : Bits128) (e : Exchange) (h : List Exchange) : Type 0 where
  pub receipt : SoundReceipt t e h
  pub taken : receipt_code e.request ≡ 0

pub record SoundCancelled (c : ReturnCode) (t : Bits128) (e : Exchange) (h : List Exchange) : Type 0 where
  pub request : SoundRequest t e h
  pub cancelling : cancels c ≡ true
  pub bare : e.reply_data ≡ []

-- an accepted signing of the order n: "the subscriber becomes a signer of that booked order", so the order was booked
-- before; "Signing again answers 000000 and adds nobody"
pub record SoundSigning (n : SignedOrder) (added : Bool) (e : Exchange) (h : List Exchange) : Type 0 where
  pub asked : form e.request ≡ forms.Signing
  pub known : 1 ≤ subscriber e.request
  pub most : subscriber e.request ≤ subscribers
  pub typed : order_type e.request ≡ ful
  pub named : order_number e.request ≡ order_number_of n.number
  pub opened : ever is_upload_opening n.transaction h ≡ true
  pub owned : opened_by n.transaction h ≡ owner e.request
  pub order : number_at n.transaction h ≡ n.number
  pub booked : ever is_booking n.transaction h ≡ true
  pub adds : added ≡ not (is_signer (subscriber e.request) (signers_in (signed_name e) h))
  pub bare : e.reply_data ≡ []

-- a refusal that changes nothing beyond clock and drops
pub record SoundRefusal (c : ReturnCode) (e : Exchange) : Type 0 where
  pub harmless : cancels c ≡ false
  pub bare : e.reply_data ≡ []

abbrev pub SoundUploadAction : UploadAction → Bits128 → Exchange → List Exchange → Type 0
SoundUploadAction (up.Opened n) t e h = SoundUploadOpening n t e h
SoundUploadAction up.Took t e h = SoundTook t e h
SoundUploadAction up.TookLast t e h = SoundTookLast t e h
SoundUploadAction (up.Point k) t e h = SoundUploadPoint k t e h
SoundUploadAction (up.Cancelled c) t e h = SoundCancelled c t e h

abbrev pub SoundDownloadAction : DownloadAction → Bits128 → Exchange → List Exchange → Type 0
SoundDownloadAction (down.Opened n) t e h = SoundDownloadOpening n t e h
SoundDownloadAction (down.Delivered n) t e h = SoundDelivery n t e h
SoundDownloadAction (down.SentAgain n) t e h = SoundAgain n t e h
SoundDownloadAction (down.Point d) t e h = SoundDownloadPoint d t e h
SoundDownloadAction down.Cancelled t e h = SoundCancelled code.TransactionAbort t e h
SoundDownloadAction down.Confirmed t e h = SoundConfirmed t e h
SoundDownloadAction down.Declined t e h = SoundReceipt t e h

abbrev pub SoundAction : Action → Bits128 → Exchange → List Exchange → Type 0
SoundAction (action.Upload a) t e h = SoundUploadAction a t e h
SoundAction (action.Download a) t e h = SoundDownloadAction a t e h

-- a verdict by its kind
abbrev pub SoundVerdict : Verdict → Exchange → List Exchange → Type 0
SoundVerdict verdict.Unreadable e h = e.reply_data ≡ []
SoundVerdict (verdict.Refused c) e h = SoundRefusal c e
SoundVerdict (verdict.Of t k) e h = SoundAction k t e h
SoundVerdict (verdict.Signed n added) e h = SoundSigning n added e h

-- an exchange after the history h: its reply's fields are those of its verdict, and what its verdict says is so
pub record Sound (e : Exchange) (h : List Exchange) : Type 0 where
  pub reply : e.reply ≡ reply_to e.verdict e.request
  pub verdict : SoundVerdict e.verdict e h

-- every exchange of a history is sound
pub data AllSound : List Exchange → Type 0 where
  none : AllSound []
  more : {e : Exchange} {h : List Exchange} → Sound e h → AllSound h → AllSound (e ∷ h)
