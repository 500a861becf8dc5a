-- Each message with numbers in their widths is a frame that the writer writes: its form, and its length. Assumes nothing.
use Prim.Native.Nat.{ℕ, ◌^◌, ◌≤◌, ◌<◌}
use mathlib.Core.List.{List, []}
use mathlib.Core.Bool.{true, false}
use mathlib.Core.Path.{◌≡◌, refl, ap, ◌∙◌}
use native.Mathlib.Omega.{arith}
use lib.ListN.{length, get_or}
use Rattle.frame_table.specs.declared.fields.Bits128.{Bits128}
use Rattle.frame_table.specs.declared.fields.Fields.{Fields}
use Rattle.frame_table.specs.declared.table.Form.{Form}
use Rattle.frame_table.specs.declared.table.Values.TheVariants.{Any}
use Rattle.frame_table.specs.Forms as forms
use Rattle.octets.specs.Bytes.{bytes_of}
use Rattle.frame_table.specs.Table.{
  frame_limit,
  phase_tag,
  subscriber_tag,
  exchange_tag,
  order_type_tag,
  nonce_tag,
  timestamp_tag,
  last_time,
  segments_tag,
  transaction_tag,
  segment_tag,
  last_mark_tag,
  data_tag,
  receipt_code_tag,
  return_code_tag,
  order_number_tag,
  order_attribute_tag,
  owner_tag,
  version_tag,
  uzhnn,
  h003,
  width,
  values_of,
  in_range,
  allowed,
  has,
  row_fits,
  find_form,
  form_of,
  is_form,
}
use Rattle.frame_table.specs.Names.{form, with, with_wide}
use Rattle.frame_table.specs.Names.{no_fields}
use Rattle.frame_row.specs.Row.{spelled, listed}
use Rattle.frame_writer.specs.Writer.{frame_of, form_length, field_writable, writable, segment_bytes}
use Rattle.frame.proofs.RoundTrip.{Sized}
use Rattle.frame.proofs.Lengths.{segment-fits, form-length}
use Rattle.frame.proofs.Build.{
  Fine,
  HasRow,
  fine-none,
  fine-number,
  fine-any,
  fine-bits,
  fine-range,
  fine-data,
  fine-writable,
  data-writable,
  no-data-writable,
}
use Rattle.message.specs.declared.codes.ReturnCode.{ReturnCode}
use Rattle.message.specs.declared.codes.ReturnCode.TheVariants as code
use Rattle.message.specs.Limits.{initialisation_phase, transfer_phase, receipt_phase, ful, fdl}
use Rattle.message.specs.Codes.{code_field}
use Rattle.message.specs.Requests.{
  request_of,
  opening_of,
  upload_opening,
  download_opening,
  transfer_of,
  upload_transfer,
  download_transfer,
  receipt,
  signing,
  chosen_opening,
}
use Rattle.message.specs.Replies.{
  reply_of,
  with_code,
  upload_opened,
  chosen_opened,
  with_segment,
  download_opened,
  point_of,
  segment_taken,
  recovery_point,
  download_segment,
  receipt_answered,
  unreadable,
  refusal,
}
use Rattle.message.proofs.CodeFields.{code-listed, code_lt}

-- f with the data d is written as a frame of the form x, as long as the tables say
pub record WrittenAs (f : Fields) (d : List ℕ) (x : Form) : Type 0 where
  pub long : Sized f
  pub accepted : writable f d ≡ true
  pub named : form f ≡ x
  pub size : length (frame_of f d) ≡ form_length x (length d)

-- a transaction ID or a nonce is two numbers of 64 bits
abbrev pub Wide : Bits128 → Type 0
Wide v = (v.high < 2 ^ 64) × (v.low < 2 ^ 64)

-- ---- one field more

module _ (f : Fields) (d : List ℕ) (a : Fine f d) where
  with-short : (t v : ℕ) → HasRow t 2 Any → v < 2 ^ 16 → Fine (with t v f) d
  with-short t v row h = fine-any f d a t 2 v row (omega arith) h

  with-long : (t v : ℕ) → HasRow t 4 Any → v < 2 ^ 32 → Fine (with t v f) d
  with-long t v row h = fine-any f d a t 4 v row (omega arith) h

  with-wide : (t : ℕ) (v : Bits128) → HasRow t 16 Any → Wide v → Fine (with_wide t v f) d
  with-wide t v row b = fine-bits f d a t v row b.0 b.1

  with-phase : (phase : ℕ) → 1 ≤ phase → phase ≤ 3 → Fine (with phase_tag phase f) d
  unfolding width values_of
  with-phase phase h k = fine-range f d a phase_tag 1 phase 1 3 (refl, refl, refl) (omega arith) (omega arith) h k

  with-last-mark : (mark : ℕ) → mark ≤ 1 → Fine (with last_mark_tag mark f) d
  unfolding width values_of
  with-last-mark mark h = fine-range f d a last_mark_tag 1 mark 0 1 (refl, refl, refl) (omega arith) (omega arith)
      (omega arith) h

  with-timestamp : (time : ℕ) → time ≤ last_time → Fine (with timestamp_tag time f) d
  unfolding width values_of
  with-timestamp time h = fine-range f d a timestamp_tag 8 time 0 last_time (refl, refl, refl) (omega arith)
      (omega arith) (omega arith) h

  with-receipt-code : (code : ℕ) → code ≤ 1 → Fine (with receipt_code_tag code f) d
  unfolding width values_of
  with-receipt-code code h = fine-range f d a receipt_code_tag 1 code 0 1 (refl, refl, refl) (omega arith)
      (omega arith) (omega arith) h

  with-attribute : Fine (with order_attribute_tag uzhnn f) d
  unfolding width values_of
  with-attribute = fine-range f d a order_attribute_tag 5 uzhnn uzhnn uzhnn (refl, refl, refl) (omega arith) (omega arith)
      (omega arith) (omega arith)

  with-version : Fine (with version_tag h003 f) d
  unfolding width values_of
  with-version = fine-range f d a version_tag 4 h003 h003 h003 (refl, refl, refl) (omega arith) (omega arith)
      (omega arith) (omega arith)

  with-type : (v : ℕ) → v < 2 ^ 24 → listed order_type_tag (bytes_of 3 v) ≡ true → Fine (with order_type_tag v f) d
  unfolding width
  with-type v h l = fine-number order_type_tag v f d a (omega arith) (omega arith) h l

  with-code : (c : ReturnCode) → Fine (with_code c f) d
  unfolding width
  with-code c =
      let k = code_lt c in
      fine-number return_code_tag (code_field c) f d a (omega arith) (omega arith) k (code-listed c)

-- ---- the whole message

module _ (f : Fields) (x : Form) where
  written : (d : List ℕ) → Fine f d → form f ≡ x → is_form x ≡ true → form_length x (length d) ≤ frame_limit
      → field_writable data_tag f d ≡ true → WrittenAs f d x
  written d a named known fits g =
      let e : form_length (form f) (length d) ≡ form_length x (length d) = ap (λ (y : Form). form_length y (length d))
      named in
      let w = fine-writable f d a g (rw named known) (omega arith) in
      record { long = a.long; accepted = w; named = named; size = form-length f d w ∙ e }

  -- without data
  plain : Fine f [] → form f ≡ x → is_form x ≡ true → has f.tags data_tag ≡ false → get_or f.high data_tag 0 ≡ 0
      → get_or f.low data_tag 0 ≡ 0 → WrittenAs f [] x
  plain a named known off high low =
      written [] a named known (segment-fits x known 0 (omega arith)) (no-data-writable f off high low)

-- the data of a message of the form x: some bytes, and the frame with them not too long
pub record Content (d : List ℕ) (x : Form) : Type 0 where
  pub some : 0 < length d
  pub most : length d ≤ frame_limit
  pub fits : form_length x (length d) ≤ frame_limit

-- at most a whole segment is
pub segment-content : (d : List ℕ) (x : Form) → is_form x ≡ true → 0 < length d → length d ≤ segment_bytes → Content d x
segment-content d x known some most =
    record { some = some; most = omega arith; fits = segment-fits x known (length d) most }

-- with data
carrying : (f : Fields) (x : Form) (d : List ℕ) → Content d x → Fine f d → form f ≡ x → is_form x ≡ true
    → has f.tags data_tag ≡ true → get_or f.high data_tag 0 ≡ 0 → get_or f.low data_tag 0 ≡ 0 → WrittenAs f d x
carrying f x d c a named known on high low =
    written f x d a named known c.fits (data-writable f d on high low c.some c.most)

-- ---- requests

-- a subscriber's number and an exchange number
abbrev pub Sender : ℕ → ℕ → Type 0
Sender subscriber exchange = (subscriber < 2 ^ 16) × (exchange < 2 ^ 32)

module _ (subscriber exchange : ℕ) (s : Sender subscriber exchange) where
  request-fine : (d : List ℕ) (phase : ℕ) → 1 ≤ phase → phase ≤ 3 → Fine (request_of phase subscriber exchange) d
  unfolding width values_of
  request-fine d phase h k =
      let p = with-phase no_fields d (fine-none d) phase h k in
      with-long _ d (with-short _ d p subscriber_tag subscriber (refl, refl, refl) s.0) exchange_tag exchange
      (refl, refl, refl) s.1

  module _ (nonce : Bits128) (timestamp : ℕ) (v : Wide nonce) (t : timestamp ≤ last_time) where
    opening-fine : (order_type : ℕ) → order_type < 2 ^ 24 → listed order_type_tag (bytes_of 3 order_type) ≡ true
        → Fine (opening_of subscriber exchange order_type nonce timestamp) []
    unfolding width values_of
    opening-fine order_type h l =
        let a = with-type _ [] (request-fine [] initialisation_phase (omega arith) (omega arith)) order_type h l in
        with-timestamp _ [] (with-wide _ [] a nonce_tag nonce (refl, refl, refl) v) timestamp t

    pub upload-opening-written : (segments : ℕ) → segments < 2 ^ 16
        → WrittenAs (upload_opening subscriber exchange nonce timestamp segments) [] forms.UploadOpening
    unfolding upload_opening width values_of listed spelled bytes_of allowed in_range form_of find_form row_fits
    upload-opening-written segments h =
        let a = with-short _ [] (opening-fine ful (omega arith) refl) segments_tag segments (refl, refl, refl) h in
        plain _ forms.UploadOpening a refl refl refl refl refl

    pub download-opening-written : WrittenAs (download_opening subscriber exchange nonce timestamp) []
        forms.DownloadOpening
    unfolding download_opening width values_of listed spelled bytes_of allowed in_range form_of find_form row_fits
    download-opening-written =
        plain _ forms.DownloadOpening (opening-fine fdl (omega arith) refl) refl refl refl refl refl

    pub chosen-opening-written : (segments order_number : ℕ) → segments < 2 ^ 16 → order_number < 2 ^ 32
        → WrittenAs (chosen_opening subscriber exchange nonce timestamp segments order_number) [] forms.ChosenOpening
    unfolding chosen_opening upload_opening width values_of listed spelled bytes_of allowed in_range form_of find_form row_fits
    chosen-opening-written segments order_number h k =
        let a = with-short _ [] (opening-fine ful (omega arith) refl) segments_tag segments (refl, refl, refl) h in
        let b = with-version _ [] (with-long _ [] a order_number_tag order_number (refl, refl, refl) k) in
        plain _ forms.ChosenOpening b refl refl refl refl refl

    pub signing-written : (order_number owner : ℕ) → order_number < 2 ^ 32 → owner < 2 ^ 16
        → WrittenAs (signing subscriber exchange nonce timestamp order_number owner) [] forms.Signing
    unfolding signing width values_of listed spelled bytes_of allowed in_range form_of find_form row_fits
    signing-written order_number owner h k =
        let a = with-long _ [] (opening-fine ful (omega arith) refl) order_number_tag order_number (refl, refl, refl) h in
        let b = with-short _ [] (with-attribute _ [] a) owner_tag owner (refl, refl, refl) k in
        plain _ forms.Signing b refl refl refl refl refl

  module _ (transaction : Bits128) (v : Wide transaction) where
    transfer-fine : (d : List ℕ) (segment : ℕ) → segment < 2 ^ 16 → Fine (transfer_of subscriber exchange transaction segment) d
    unfolding width values_of
    transfer-fine d segment h =
        let a = with-wide _ d (request-fine d transfer_phase (omega arith) (omega arith)) transaction_tag transaction
        (refl, refl, refl) v in
        with-short _ d a segment_tag segment (refl, refl, refl) h

    pub upload-transfer-written : (segment last_mark : ℕ) (d : List ℕ) → segment < 2 ^ 16 → last_mark ≤ 1
        → Content d forms.UploadTransfer
        → WrittenAs (upload_transfer subscriber exchange transaction segment last_mark) d forms.UploadTransfer
    unfolding upload_transfer width form_of find_form row_fits
    upload-transfer-written segment last_mark d h k c =
        let a = with-last-mark _ d (transfer-fine d segment h) last_mark k in
        carrying _ forms.UploadTransfer d c (fine-data _ d a) refl refl refl refl refl

    pub download-transfer-written : (segment : ℕ) → segment < 2 ^ 16
        → WrittenAs (download_transfer subscriber exchange transaction segment) [] forms.DownloadTransfer
    unfolding download_transfer width form_of find_form row_fits
    download-transfer-written segment h =
        plain _ forms.DownloadTransfer (transfer-fine [] segment h) refl refl refl refl refl

    pub receipt-written : (code : ℕ) → code ≤ 1
        → WrittenAs (receipt subscriber exchange transaction code) [] forms.Receipt
    unfolding receipt width values_of form_of find_form row_fits
    receipt-written code h =
        let a = with-wide _ [] (request-fine [] receipt_phase (omega arith) (omega arith)) transaction_tag transaction
        (refl, refl, refl) v in
        plain _ forms.Receipt (with-receipt-code _ [] a code h) refl refl refl refl refl

-- ---- replies

pub unreadable-written : WrittenAs unreadable [] forms.Unreadable
unfolding unreadable form_of find_form row_fits width
unreadable-written =
    plain _ forms.Unreadable (with-code no_fields [] (fine-none []) code.InvalidXml) refl refl refl refl refl

module _ (exchange : ℕ) (s : exchange < 2 ^ 32) where
  reply-fine : (d : List ℕ) (phase : ℕ) → 1 ≤ phase → phase ≤ 3 → Fine (reply_of phase exchange) d
  unfolding width values_of
  reply-fine d phase h k = with-long _ d (with-phase no_fields d (fine-none d) phase h k) exchange_tag exchange
      (refl, refl, refl) s

  pub refusal-written : (phase : ℕ) (c : ReturnCode) → 1 ≤ phase → phase ≤ 3
      → WrittenAs (refusal phase exchange c) [] forms.Refusal
  unfolding refusal form_of find_form row_fits width
  refusal-written phase c h k =
      plain _ forms.Refusal (with-code _ [] (reply-fine [] phase h k) c) refl refl refl refl refl

  module _ (transaction : Bits128) (v : Wide transaction) where
    answer-fine : (d : List ℕ) (phase : ℕ) → 1 ≤ phase → phase ≤ 3 → Fine (with_wide transaction_tag transaction (reply_of phase exchange)) d
    unfolding width values_of
    answer-fine d phase h k = with-wide _ d (reply-fine d phase h k) transaction_tag transaction (refl, refl, refl) v

    pub upload-opened-written : (order_number : ℕ) → order_number < 2 ^ 32
        → WrittenAs (upload_opened exchange transaction order_number) [] forms.UploadOpened
    unfolding upload_opened width values_of form_of find_form row_fits
    upload-opened-written order_number h =
        let a = with-code _ [] (answer-fine [] initialisation_phase (omega arith) (omega arith)) code.Ok in
        plain _ forms.UploadOpened (with-long _ [] a order_number_tag order_number (refl, refl, refl) h) refl refl refl
        refl refl

    pub chosen-opened-written : WrittenAs (chosen_opened exchange transaction) [] forms.ReceiptAnswered
    unfolding chosen_opened form_of find_form row_fits width
    chosen-opened-written =
        let a = with-code _ [] (answer-fine [] initialisation_phase (omega arith) (omega arith)) code.Ok in
        plain _ forms.ReceiptAnswered a refl refl refl refl refl

    point-written : (phase segment : ℕ) (c : ReturnCode) → 1 ≤ phase → phase ≤ 3 → segment < 2 ^ 16
        → WrittenAs (point_of phase exchange transaction segment c) [] forms.SegmentTaken
    unfolding width values_of form_of find_form row_fits
    point-written phase segment c h k l =
        let a = with-short _ [] (answer-fine [] phase h k) segment_tag segment (refl, refl, refl) l in
        plain _ forms.SegmentTaken (with-code _ [] a c) refl refl refl refl refl

    pub segment-taken-written : (segment : ℕ) → segment < 2 ^ 16
        → WrittenAs (segment_taken exchange transaction segment) [] forms.SegmentTaken
    unfolding segment_taken
    segment-taken-written segment h = point-written transfer_phase segment code.Ok (omega arith) (omega arith) h

    pub recovery-point-written : (phase segment : ℕ) → 1 ≤ phase → phase ≤ 3 → segment < 2 ^ 16
        → WrittenAs (recovery_point phase exchange transaction segment) [] forms.SegmentTaken
    unfolding recovery_point
    recovery-point-written phase segment = point-written phase segment code.RecoverySync

    pub receipt-answered-written : (c : ReturnCode)
        → WrittenAs (receipt_answered exchange transaction c) [] forms.ReceiptAnswered
    unfolding receipt_answered form_of find_form row_fits width
    receipt-answered-written c =
        let a = with-code _ [] (answer-fine [] receipt_phase (omega arith) (omega arith)) c in
        plain _ forms.ReceiptAnswered a refl refl refl refl refl

    segment-fine : (f : Fields) (d : List ℕ) (segment last_mark : ℕ) → Fine f d → segment < 2 ^ 16 → last_mark ≤ 1
        → Fine (with_segment segment last_mark f) d
    unfolding width values_of
    segment-fine f d segment last_mark a h k =
        fine-data _ d (with-last-mark _ d (with-short f d a segment_tag segment (refl, refl, refl) h) last_mark k)

    pub download-opened-written : (segments last_mark : ℕ) (d : List ℕ) → segments < 2 ^ 16 → last_mark ≤ 1
        → Content d forms.DownloadOpened
        → WrittenAs (download_opened exchange segments transaction last_mark) d forms.DownloadOpened
    unfolding download_opened width values_of form_of find_form row_fits
    download-opened-written segments last_mark d h k c =
        let r = with-short _ d (reply-fine d initialisation_phase (omega arith) (omega arith)) segments_tag segments
        (refl, refl, refl) h in
        let a = segment-fine _ d 1 last_mark (with-wide _ d r transaction_tag transaction (refl, refl, refl) v)
        (omega arith) k in
        carrying _ forms.DownloadOpened d c (with-code _ d a code.Ok) refl refl refl refl refl

    pub download-segment-written : (segment last_mark : ℕ) (d : List ℕ) → segment < 2 ^ 16 → last_mark ≤ 1
        → Content d forms.DownloadSegment
        → WrittenAs (download_segment exchange transaction segment last_mark) d forms.DownloadSegment
    unfolding download_segment form_of find_form row_fits width
    download-segment-written segment last_mark d h k c =
        let a = segment-fine _ d segment last_mark (answer-fine d transfer_phase (omega arith) (omega arith)) h k in
        carrying _ forms.DownloadSegment d c (with-code _ d a code.Ok) refl refl refl refl refl
