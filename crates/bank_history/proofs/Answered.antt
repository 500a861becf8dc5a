-- A frame call with right lent lengths and time is answered where its reply can be written; a reply's data is short.
use Prim.Native.Nat.{ℕ, ◌≤◌}
use mathlib.Core.Bool.{true}
use mathlib.Core.List.{List, []}
use mathlib.Core.Path.{◌≡◌, refl, ap}
use native.Mathlib.Omega.{arith}
use lib.ListN.{length}
use Rattle.frame_table.specs.declared.fields.Bits128.{Bits128}
use Rattle.frame_table.specs.Names.{segment}
use Rattle.frame_reader.specs.Reader.{read_request}
use Rattle.frame_row.specs.Row.{data_of}
use Rattle.frame_writer.specs.Writer.{frame_of, writable}
use Rattle.frame_writer.proofs.Written.{written-in-front}
use Rattle.message.specs.Limits.{segment_bytes}
use Rattle.message.specs.Segments.{segments_of}
use Rattle.bank_state.specs.Clock.{advanced}
use Rattle.bank_state.specs.Limits.{reply_room}
use Rattle.bank.specs.Call.{context_of, Step, respond, lent_right, frame_call, FrameInput, RightInput}
use Rattle.bank.proofs.Right.{right-tested}
use Rattle.bank_verdicts.specs.declared.verdict.UploadAction.{UploadAction}
use Rattle.bank_verdicts.specs.declared.verdict.UploadAction.TheVariants as up
use Rattle.bank_verdicts.specs.declared.verdict.DownloadAction.{DownloadAction}
use Rattle.bank_verdicts.specs.declared.verdict.DownloadAction.TheVariants as down
use Rattle.bank_verdicts.specs.declared.verdict.Action.{Action}
use Rattle.bank_verdicts.specs.declared.verdict.Action.TheVariants as action
use Rattle.bank_verdicts.specs.declared.verdict.Verdict.{Verdict}
use Rattle.bank_verdicts.specs.declared.verdict.Verdict.TheVariants as verdict
use Rattle.bank_history.specs.History.{Exchange, Stands, Past, Frame, after, file_at_opening}
use Rattle.bank_history.specs.Sound.{
  SoundData,
  SoundUploadAction,
  SoundDownloadAction,
  SoundAction,
  SoundVerdict,
  AllSound,
}
use Rattle.bank_history.specs.Invariant.{Holds}
use Rattle.bank_history.specs.Transactions.{answered}
use Rattle.message.proofs.SegmentNumbers.{some-segment, segment-length}
use Rattle.bank_history.proofs.Positions.{sound-at}

-- the stores that the calls left have the lengths that a frame call asks for
pub lent-right : (p : Past) (a : FrameInput) → Holds p → RightInput a → lent_right p.bank_state a ≡ true
lent-right p a holds =
    let s = holds.invariant.state.sizes in right-tested p.bank_state a s.orders s.mailboxes

-- such a call is answered, where its reply can be written in at most 312 bytes
pub frame-answered : (a : FrameInput) (p : Past) → Holds p → RightInput a →
    (let s = respond (context_of a) (advanced a.time p.bank_state) (read_request a.frame)
    (data_of a.frame) in
    (writable s.reply s.reply_data ≡ true) × (length (frame_of s.reply s.reply_data) ≤ reply_room)) →
    after (Frame a) p ≡ answered a p
unfolding after frame_call
frame-answered a p holds right can =
    let s : Step =
    respond (context_of a) (advanced a.time p.bank_state) (read_request a.frame) (data_of a.frame) in
    let short = can.1 in
    let fits : length (frame_of s.reply s.reply_data) ≤ length a.buffer = omega (arith, right.room) in
    let front = (written-in-front s.reply s.reply_data a.buffer _ can.0 refl fits).0 in
    rw (lent-right p a holds right, front)

-- ---- a reply's data

module _ (e : Exchange) (g : List Exchange) where
  carried : (n : ℕ) (t : Bits128) → SoundData n t e g → length e.reply_data ≤ segment_bytes
  carried n t s =
      let file = file_at_opening t g in
      let a : segment e.request ≤ segments_of (length file) = (let b = s.within in let c = s.download.count in omega arith) in
      let l = (segment-length file (segment e.request) s.some a).1 in
      let z = ap length s.part in
      omega arith

  bare : e.reply_data ≡ [] → length e.reply_data ≤ segment_bytes
  bare z = let l = ap length z in omega arith

  upload-short : (a : UploadAction) (t : Bits128) → SoundUploadAction a t e g → length e.reply_data ≤ segment_bytes
  upload-short (up.Opened n) t s = bare s.bare
  upload-short up.Took t s = bare s.taking.upload.bare
  upload-short up.TookLast t s = bare s.taking.upload.bare
  upload-short (up.Point k) t s = bare s.upload.bare
  upload-short (up.Cancelled c) t s = bare s.bare

  download-short : (a : DownloadAction) (t : Bits128) → SoundDownloadAction a t e g → length e.reply_data ≤ segment_bytes
  download-short (down.Opened n) t s =
      let l = (segment-length e.file 1 (omega arith) (some-segment (length e.file) s.full)).1 in
      let z = ap length s.part in
      omega arith
  download-short (down.Delivered n) t s = carried n t s.carried
  download-short (down.SentAgain n) t s = carried n t s.carried
  download-short (down.Point d) t s = bare s.bare
  download-short down.Cancelled t s = bare s.bare
  download-short down.Confirmed t s = bare s.receipt.bare
  download-short down.Declined t s = bare s.bare

  action-short : (k : Action) (t : Bits128) → SoundAction k t e g → length e.reply_data ≤ segment_bytes
  action-short (action.Upload a) t s = upload-short a t s
  action-short (action.Download a) t s = download-short a t s

  verdict-short : (v : Verdict) → SoundVerdict v e g → length e.reply_data ≤ segment_bytes
  verdict-short verdict.Unreadable s = bare s
  verdict-short (verdict.Refused c) s = bare s.bare
  verdict-short (verdict.Signed n added) s = bare s.bare
  verdict-short (verdict.Of t k) s = action-short k t s

-- no reply of the history carries more than 256 bytes of data
pub data-short : {e : Exchange} {g h : List Exchange} → AllSound h → Stands e g h → length e.reply_data ≤ segment_bytes
data-short {e} {g} sound stands = verdict-short e g e.verdict (sound-at sound stands).verdict
