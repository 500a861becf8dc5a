-- What holds of a client run and of all that it issued, over which reply was given to which request.
use Rattle.std.specs.Prelude.{ℕ, ◌+◌, ◌-◌, ◌*◌, ◌<◌, ◌≤◌, Bool, true, false, ◌⊎◌, ◌≡◌, length, take}
use mathlib.Core.List.{List, [], ◌∷◌, Memᴰ as In}
use Rattle.frame_table.specs.declared.fields.Bits128.{Bits128}
use Rattle.frame_table.specs.declared.fields.Fields.{Fields}
use Rattle.frame_table.specs.declared.table.Form.{Form}
use Rattle.frame_table.specs.Forms as forms
use Rattle.frame_table.specs.Names.{phase, subscriber, order_type, transaction, segment, return_code, form}
use Rattle.message.specs.declared.codes.ReturnCode.{ReturnCode}
use Rattle.message.specs.declared.codes.ReturnCode.TheVariants as code
use Rattle.message.specs.Codes.{code_field}
use Rattle.message.specs.Editions.{opening_form, opened_form, order_opened}
use Rattle.message.specs.Limits.{segment_bytes, file_bytes, initialisation_phase, transfer_phase}
use Rattle.message.specs.Requests.{download_opening, upload_transfer, download_transfer, receipt}
use Rattle.message.specs.Segments.{segments_of, segment_of, last_mark_of}
use Rattle.journal.specs.declared.event.OrderName.{OrderName}
use Rattle.client_run.specs.declared.run.ClientRun.{ClientRun}
use Rattle.message.specs.declared.directions.Direction.TheVariants.{Upload, Download}
use Rattle.client_run.specs.declared.run.RunTerms.{RunTerms}
use Rattle.client_run.specs.declared.run.Stage.{Stage}
use Rattle.client_run.specs.declared.run.Stage.TheVariants as stage
use Rattle.client_run.specs.declared.run.Step.{Step}
use Rattle.client_run.specs.declared.run.Step.TheVariants as step
use Rattle.client_run.specs.declared.run.Word.{Word}
use Rattle.client_run.specs.declared.run.Word.TheVariants as word
use Rattle.client_run.specs.Requests.{terms_opening, outstanding, outstanding_data}
use Rattle.client_run.specs.Run.{not_begun}
use Rattle.client_rules.specs.Rulings.{is_begun}
use Rattle.client_history.specs.Bounds.{Bounded}
use Rattle.client_history.specs.History.{Issue, Past, held_count, issue_of}

-- ---- THE REQUESTS ISSUED

-- the newest issue is the outstanding request, with the run's file as it is
pub record Newest (p : Past) : Type 0 where
  pub time : ℕ
  pub nonce : List ℕ
  pub older : List Issue
  pub are : p.issues ≡ issue_of p.run p.payload p.file time nonce ∷ older

-- what a begun run of either direction keeps: the bounds, which any events keep, and its outstanding request
pub record Begun (p : Past) : Type 0 where
  pub bounded : Bounded p.run p.issues
  pub newest : Newest p

-- what an upload of n segments with these terms, under the transaction t, issues, segments up to top
pub data UploadIssue (terms : RunTerms) (s n : ℕ) (t : Bits128) (top : ℕ) (payload : List ℕ) (x : Issue) : Type 0 where
  upload_opens : (number time : ℕ) (nonce : Bits128) → x.request ≡ terms_opening terms s number nonce time n
      → x.request_data ≡ []
      → UploadIssue terms s n t top payload x
  -- "It cuts the payload at 256 bytes"
  sends : (number j : ℕ) → 1 ≤ j → j ≤ top → x.request ≡ upload_transfer s number t j (last_mark_of j n)
      → x.request_data ≡ segment_of payload j
      → UploadIssue terms s n t top payload x

-- what a download of the file f, of n segments under the transaction t, issues up to the step `at` and the segment `next`
pub data DownloadIssue (s n : ℕ) (t : Bits128) (at : Step) (next : ℕ) (f : List ℕ) (x : Issue) : Type 0 where
  download_opens : (number time : ℕ) (nonce : Bits128) → x.request ≡ download_opening s number nonce time
      → x.request_data ≡ []
      → DownloadIssue s n t at next f x
  -- as it asks for segment j it holds segments 1 to j - 1, so no held segment is ever asked for
  asks : (number j : ℕ) → 2 ≤ j → j ≤ next → j ≤ n → x.file ≡ take (segment_bytes * (j - 1)) f
      → x.request ≡ download_transfer s number t j
      → x.request_data ≡ []
      → DownloadIssue s n t at next f x
  -- "the run held the whole when, as it issued that receipt, its file was the mailbox's"
  confirms : (number : ℕ) → at ≡ step.Receipt → next ≡ n + 1 → x.file ≡ f → x.request ≡ receipt s number t 0
      → x.request_data ≡ []
      → DownloadIssue s n t at next f x

-- the run's transaction is known: its opening was answered
abbrev pub is_open : Step → Bool
is_open step.Opening = false
is_open step.Segment = true
is_open step.Receipt = true

-- what an event leaves as it was: of a begun run, and of one with its transaction known
pub record Steady (p q : Past) : Type 0 where
  pub begun : is_begun q.run.stage ≡ true
  pub direction : q.run.direction ≡ p.run.direction
  pub subscriber-same : q.run.subscriber ≡ p.run.subscriber
  pub terms-same : q.run.terms ≡ p.run.terms
  pub payload : q.payload ≡ p.payload
  pub issues : (x : Issue) → In x p.issues → In x q.issues
  pub known : is_open p.run.step ≡ true → is_open q.run.step ≡ true
  pub transaction-same : is_open p.run.step ≡ true → q.run.transaction ≡ p.run.transaction
  pub number : is_open p.run.step ≡ true → q.run.number ≡ p.run.number
  pub segments : is_open p.run.step ≡ true → q.run.segments ≡ p.run.segments

-- an upload transfer issued: segment j of the payload
pub record SegmentSent (p : Past) (x : Issue) : Type 0 where
  pub upload-run : p.run.direction ≡ Upload
  pub number : ℕ
  pub j : ℕ
  pub least : 1 ≤ j
  pub issued : j ≤ p.run.issued
  pub most : j ≤ p.run.segments
  pub request : x.request ≡ upload_transfer p.run.subscriber number p.run.transaction j
      (last_mark_of j p.run.segments)
  pub bytes : x.request_data ≡ segment_of p.payload j

-- a download transfer issued: segment j of the file f is asked for, with segments 1 to j - 1 held
pub record SegmentAsked (p : Past) (f : List ℕ) (x : Issue) : Type 0 where
  pub download-run : p.run.direction ≡ Download
  pub number : ℕ
  pub j : ℕ
  pub least : 2 ≤ j
  pub next : j ≤ p.run.segment
  pub most : j ≤ p.run.segments
  pub file : x.file ≡ take (segment_bytes * (j - 1)) f
  pub request : x.request ≡ download_transfer p.run.subscriber number p.run.transaction j

-- a receipt issued, over the whole file f
pub record ReceiptIssued (p : Past) (f : List ℕ) (x : Issue) : Type 0 where
  pub download-run : p.run.direction ≡ Download
  pub number : ℕ
  pub at : p.run.step ≡ step.Receipt
  pub whole : held_count p.run ≡ p.run.segments
  pub file : x.file ≡ f
  pub request : x.request ≡ receipt p.run.subscriber number p.run.transaction 0

-- what names that upload: "subscriber, type and number together"
abbrev pub opened_name : Fields → Fields → OrderName
opened_name q r = record { subscriber = subscriber q; order_type = order_type q; number = order_opened q r }

-- a receipt was issued
abbrev pub Receipts : List Issue → Type 0
Receipts issues = (x : Issue) × In x issues × (form x.request ≡ forms.Receipt)

module _ (Given : Fields → List ℕ → Fields → List ℕ → Type 0) where
  -- a reply was given to the outstanding request
  pub record Answered (p : Past) (r : Fields) (d : List ℕ) : Type 0 where
    pub time : ℕ
    pub nonce : List ℕ
    pub own : In (issue_of p.run p.payload p.file time nonce) p.issues
    pub given : Given (outstanding p.run time nonce) (outstanding_data p.run p.payload) r d

  -- an issue of this request form was given a reply of this form with this code
  pub record Got (issues : List Issue) (x y : Form) (c : ReturnCode) : Type 0 where
    pub issue : Issue
    pub own : In issue issues
    pub asked : form issue.request ≡ x
    pub reply : Fields
    pub bytes : List ℕ
    pub given : Given issue.request issue.request_data reply bytes
    pub answered : form reply ≡ y
    pub code : return_code reply ≡ code_field c

  -- ---- UPLOAD

  -- "the order number opened with its transaction ID": an opening with these terms was answered in its edition's form
  pub record OpenedAs (terms : RunTerms) (t : Bits128) (n : ℕ) (issues : List Issue) : Type 0 where
    pub got : Got issues (opening_form terms.edition) (opened_form terms.edition) code.Ok
    pub phase-1 : phase got.reply ≡ initialisation_phase
    pub id : transaction got.reply ≡ t
    pub number : order_opened got.issue.request got.reply ≡ n

  abbrev pub UploadOpen : ClientRun → List Issue → Type 0
  UploadOpen c issues = OpenedAs c.terms c.transaction c.number issues

  abbrev pub UploadStep : Step → ClientRun → List Issue → Type 0
  UploadStep step.Opening c issues = c.issued ≡ 0
  UploadStep step.Segment c issues = UploadOpen c issues
  UploadStep step.Receipt c issues = ⊥

  -- "lodged (segment N answered 000000)"
  pub record LastTaken (c : ClientRun) (issues : List Issue) : Type 0 where
    pub got : Got issues forms.UploadTransfer forms.SegmentTaken code.Ok
    pub last : segment got.issue.request ≡ c.segments
    pub id : transaction got.issue.request ≡ c.transaction
    pub opened : UploadOpen c issues

  -- "ended by a reply 01 03 0D of phase 2 with 091102, 091104 or 011101"
  pub record Cancelled (c : ClientRun) (issues : List Issue) : Type 0 where
    pub why : ReturnCode
    pub one : (why ≡ code.TransactionAbort) ⊎ ((why ≡ code.SegmentNumberExceeded) ⊎ (why ≡ code.SegmentNumberUnderrun))
    pub got : Got issues forms.UploadTransfer forms.Refusal why
    pub phase-2 : phase got.reply ≡ transfer_phase
    pub id : transaction got.issue.request ≡ c.transaction

  abbrev pub UploadWord : Word → ClientRun → List Issue → Type 0
  UploadWord word.Lodged c issues = LastTaken c issues
  UploadWord word.NotLodged c issues = (c.issued < c.segments) ⊎ Cancelled c issues
  UploadWord word.Unclear c issues = c.segments ≤ c.issued
  UploadWord word.Fetched c issues = ⊥
  UploadWord word.HeldUnconfirmed c issues = ⊥
  UploadWord word.NotFetched c issues = ⊥

  abbrev pub UploadStage : Stage → ClientRun → List Issue → Type 0
  UploadStage stage.NotBegun c issues = ⊥
  UploadStage stage.Running c issues = Unit {0}
  UploadStage (stage.Ended w) c issues = UploadWord w c issues

  pub record UploadRun (c : ClientRun) (payload : List ℕ) (issues : List Issue) : Type 0 where
    pub direction : c.direction ≡ Upload
    pub size : c.length ≡ length payload
    pub each : (x : Issue) → In x issues
        → UploadIssue c.terms c.subscriber c.segments c.transaction c.issued payload x
    pub step : UploadStep c.step c issues
    pub stage : UploadStage c.stage c issues

  -- ---- DOWNLOAD

  -- segment n was sent under the transaction t: the opening's reply has segment 1 in it
  pub record Brought (t : Bits128) (n : ℕ) : Type 0 where
    pub request : Fields
    pub request_data : List ℕ
    pub reply : Fields
    pub bytes : List ℕ
    pub given : Given request request_data reply bytes
    pub formed : (form reply ≡ forms.DownloadOpened) ⊎ (form reply ≡ forms.DownloadSegment)
    pub id : transaction reply ≡ t
    pub number : segment reply ≡ n

  -- the transaction t of the file f, of n segments, is open to the run, which holds segments 1 to held, size bytes
  pub record HeldFile (f : List ℕ) (t : Bits128) (n held size : ℕ) (file : List ℕ) (issues : List Issue) : Type 0 where
    pub got : Got issues forms.DownloadOpening forms.DownloadOpened code.Ok
    pub id : transaction got.reply ≡ t
    pub number : n ≡ segments_of (length f)
    pub least : 0 < length f
    pub most : length f ≤ file_bytes
    pub some : 1 ≤ held
    pub top : held ≤ n
    pub last : Brought t held
    pub end : size ≡ length (take (segment_bytes * held) f)
    -- "A run's file is its file buffer up to the end of the last segment held"
    pub bytes : take size file ≡ take (segment_bytes * held) f

  module _ (file_at : Bits128 → List ℕ) where
    abbrev pub FileHeld : ClientRun → List ℕ → List Issue → Type 0
    FileHeld c file issues =
        HeldFile (file_at c.transaction) c.transaction c.segments (held_count c) c.length file issues

    abbrev pub DownloadStep : Step → ClientRun → List ℕ → List Issue → Type 0
    DownloadStep step.Opening c file issues = (c.segment ≡ 0) × (c.length ≡ 0)
    DownloadStep step.Segment c file issues = FileHeld c file issues
    DownloadStep step.Receipt c file issues = FileHeld c file issues

    -- "fetched (011000)"
    pub record Confirmed (c : ClientRun) (file : List ℕ) (issues : List Issue) : Type 0 where
      pub held : FileHeld c file issues
      pub whole : held_count c ≡ c.segments
      pub got : Got issues forms.Receipt forms.ReceiptAnswered code.DownloadPostprocessDone
      pub id : transaction got.issue.request ≡ c.transaction

    abbrev pub DownloadWord : Word → ClientRun → List ℕ → List Issue → Type 0
    DownloadWord word.Lodged c file issues = ⊥
    DownloadWord word.NotLodged c file issues = ⊥
    DownloadWord word.Unclear c file issues = ⊥
    DownloadWord word.Fetched c file issues = Confirmed c file issues
    DownloadWord word.HeldUnconfirmed c file issues = c.step ≡ step.Receipt
    DownloadWord word.NotFetched c file issues = c.step ≡ step.Receipt → ⊥

    abbrev pub DownloadStage : Stage → ClientRun → List ℕ → List Issue → Type 0
    DownloadStage stage.NotBegun c file issues = ⊥
    DownloadStage stage.Running c file issues = Unit {0}
    DownloadStage (stage.Ended w) c file issues = DownloadWord w c file issues

    pub record DownloadRun (c : ClientRun) (file : List ℕ) (issues : List Issue) : Type 0 where
      pub direction : c.direction ≡ Download
      pub each : (x : Issue) → In x issues
          → DownloadIssue c.subscriber c.segments c.transaction c.step c.segment
          (file_at c.transaction) x
      pub step : DownloadStep c.step c file issues
      pub stage : DownloadStage c.stage c file issues

    -- ---- EITHER

    pub data Invariant (p : Past) : Type 0 where
      not-begun : p.run ≡ not_begun → p.issues ≡ [] → Invariant p
      upload : Begun p → UploadRun p.run p.payload p.issues → Invariant p
      download : Begun p → DownloadRun p.run p.file p.issues → Invariant p
