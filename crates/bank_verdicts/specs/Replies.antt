-- "Reply forms": what is replied by a verdict on the request q.
use Rattle.std.specs.Prelude.{ℕ, cond, eqb}
use Rattle.frame_table.specs.declared.fields.Bits128.{Bits128}
use Rattle.frame_table.specs.declared.fields.Fields.{Fields}
use Rattle.frame_table.specs.Names.{phase, exchange, segment}
use Rattle.message.specs.declared.codes.ReturnCode.TheVariants as code
use Rattle.message.specs.Limits.{initialisation_phase, transfer_phase}
use Rattle.message.specs.declared.editions.Edition.{Edition}
use Rattle.message.specs.declared.editions.Edition.TheVariants as edition
use Rattle.message.specs.Editions.{edition_of}
use Rattle.message.specs.OrderNumbers.{order_number_of}
use Rattle.message.specs.Replies.{
  upload_opened,
  chosen_opened,
  download_opened,
  segment_taken,
  recovery_point,
  download_segment,
  receipt_answered,
  unreadable,
  refusal,
}
use Rattle.message.specs.Segments.{last_mark_of}
use Rattle.bank_verdicts.specs.declared.verdict.UploadAction.{UploadAction}
use Rattle.bank_verdicts.specs.declared.verdict.UploadAction.TheVariants as up
use Rattle.bank_verdicts.specs.declared.verdict.DownloadAction.{DownloadAction}
use Rattle.bank_verdicts.specs.declared.verdict.DownloadAction.TheVariants as down
use Rattle.bank_verdicts.specs.declared.verdict.Action.{Action}
use Rattle.bank_verdicts.specs.declared.verdict.Action.TheVariants as action
use Rattle.bank_verdicts.specs.declared.verdict.Verdict.{Verdict}
use Rattle.bank_verdicts.specs.declared.verdict.Verdict.TheVariants as verdict

-- a recovery point's phase: "1 for segment 0 of an upload, else 2"
abbrev pub upload_point_phase : ℕ → ℕ
upload_point_phase k = cond (eqb k 0) initialisation_phase transfer_phase

-- "a download's opening delivered segment 1 and counts as phase 1 while only that is delivered"
abbrev pub download_point_phase : ℕ → ℕ
download_point_phase d = cond (eqb d 1) initialisation_phase transfer_phase

-- the segment of n that the request asks for
abbrev pub segment_reply : ℕ → Bits128 → Fields → Fields
segment_reply n t q = download_segment (exchange q) t (segment q) (last_mark_of (segment q) n)

-- to an accepted upload opening, by its edition: to that of 2.4 "the reply leaves 0E out"
abbrev pub opened_reply : Edition → ℕ → Bits128 → Fields → Fields
opened_reply edition.V24 n t q = chosen_opened (exchange q) t
opened_reply edition.V25 n t q = upload_opened (exchange q) t (order_number_of n)

-- to a request to the upload t
abbrev pub upload_reply : UploadAction → Bits128 → Fields → Fields
upload_reply (up.Opened n) t q = opened_reply (edition_of q) n t q
upload_reply up.Took t q = segment_taken (exchange q) t (segment q)
upload_reply up.TookLast t q = segment_taken (exchange q) t (segment q)
upload_reply (up.Point k) t q = recovery_point (upload_point_phase k) (exchange q) t k
upload_reply (up.Cancelled c) t q = refusal (phase q) (exchange q) c

-- to a request to the download t
abbrev pub download_reply : DownloadAction → Bits128 → Fields → Fields
download_reply (down.Opened n) t q = download_opened (exchange q) n t (last_mark_of 1 n)
download_reply (down.Delivered n) t q = segment_reply n t q
download_reply (down.SentAgain n) t q = segment_reply n t q
download_reply (down.Point d) t q = recovery_point (download_point_phase d) (exchange q) t d
download_reply down.Cancelled t q = refusal (phase q) (exchange q) code.TransactionAbort
download_reply down.Confirmed t q = receipt_answered (exchange q) t code.DownloadPostprocessDone
download_reply down.Declined t q = receipt_answered (exchange q) t code.DownloadPostprocessSkipped

abbrev pub action_reply : Action → Bits128 → Fields → Fields
action_reply (action.Upload a) t q = upload_reply a t q
action_reply (action.Download a) t q = download_reply a t q

-- the reply's fields; a signing's "reply is 01 03 0D", the form of a refusal, with 000000
abbrev pub reply_to : Verdict → Fields → Fields
reply_to verdict.Unreadable q = unreadable
reply_to (verdict.Refused c) q = refusal (phase q) (exchange q) c
reply_to (verdict.Of t a) q = action_reply a t q
reply_to (verdict.Signed n added) q = refusal (phase q) (exchange q) code.Ok

-- the mailbox's segment whose bytes are the reply's data; 0 stands for none

abbrev pub download_segment_in : DownloadAction → Fields → ℕ
download_segment_in (down.Opened n) q = 1
download_segment_in (down.Delivered n) q = segment q
download_segment_in (down.SentAgain n) q = segment q
download_segment_in (down.Point d) q = 0
download_segment_in down.Cancelled q = 0
download_segment_in down.Confirmed q = 0
download_segment_in down.Declined q = 0

abbrev pub action_segment_in : Action → Fields → ℕ
action_segment_in (action.Upload a) q = 0
action_segment_in (action.Download a) q = download_segment_in a q

abbrev pub segment_in : Verdict → Fields → ℕ
segment_in verdict.Unreadable q = 0
segment_in (verdict.Refused c) q = 0
segment_in (verdict.Of t a) q = action_segment_in a q
segment_in (verdict.Signed n added) q = 0
