-- Which replies accept an opening, by form and return code alone: "upload opened", "download opened", and, to an opening
-- of edition 2.4, whose "reply leaves 0E out", the tags of "receipt answered" with 000000.
use Rattle.std.specs.Prelude.{ℕ, Bool, true, false, eqb}
use Rattle.frame_table.specs.declared.table.Form.{Form}
use Rattle.frame_table.specs.declared.table.Form.TheVariants.{NoForm, Request, Reply}
use Rattle.frame_table.specs.declared.table.ReplyForm.{ReplyForm}
use Rattle.frame_table.specs.declared.table.ReplyForm.TheVariants as replies
use Rattle.frame_table.specs.Names.{return_code, form}
use Rattle.message.specs.declared.codes.ReturnCode.TheVariants as code
use Rattle.message.specs.Codes.{code_field}
use Rattle.bank_history.specs.History.{Exchange}

-- what is said of a reply by its form; none where it is of no reply form
abbrev pub of_reply : {A : Type 0} → A → (ReplyForm → A) → Form → A
of_reply none f NoForm = none
of_reply none f (Request x) = none
of_reply none f (Reply x) = f x

abbrev pub is_ok : ℕ → Bool
is_ok c = eqb c (code_field code.Ok)

-- an upload with a number of the bank's own: the reply has field 0E
abbrev pub is_own_form : ReplyForm → Bool
is_own_form replies.UploadOpened = true
is_own_form replies.DownloadOpened = false
is_own_form replies.SegmentTaken = false
is_own_form replies.DownloadSegment = false
is_own_form replies.ReceiptAnswered = false
is_own_form replies.Refusal = false
is_own_form replies.Unreadable = false

-- an upload of either edition, by the reply's return code
abbrev pub is_upload_form : ℕ → ReplyForm → Bool
is_upload_form c replies.UploadOpened = true
is_upload_form c replies.DownloadOpened = false
is_upload_form c replies.SegmentTaken = false
is_upload_form c replies.DownloadSegment = false
is_upload_form c replies.ReceiptAnswered = is_ok c
is_upload_form c replies.Refusal = false
is_upload_form c replies.Unreadable = false

abbrev pub is_opened_form : ℕ → ReplyForm → Bool
is_opened_form c replies.UploadOpened = true
is_opened_form c replies.DownloadOpened = true
is_opened_form c replies.SegmentTaken = false
is_opened_form c replies.DownloadSegment = false
is_opened_form c replies.ReceiptAnswered = is_ok c
is_opened_form c replies.Refusal = false
is_opened_form c replies.Unreadable = false

abbrev pub is_own_opened : Exchange → Bool
is_own_opened e = of_reply false is_own_form (form e.reply)

abbrev pub is_upload_opened : Exchange → Bool
is_upload_opened e = of_reply false (is_upload_form (return_code e.reply)) (form e.reply)

abbrev pub is_opened : Exchange → Bool
is_opened e = of_reply false (is_opened_form (return_code e.reply)) (form e.reply)
