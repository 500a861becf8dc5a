-- How transactions stand by requests, replies and clocks alone: no verdict, no file and no state of the bank is looked
-- at.
use Rattle.std.specs.Prelude.{ℕ, suc, max, Bool, true, false, cond, ◌&&◌, List, [], ◌∷◌, ◌++◌, eqb, ltb}
use Rattle.frame_table.specs.declared.fields.Bits128.{Bits128}
use Rattle.frame_table.specs.declared.table.ReplyForm.{ReplyForm}
use Rattle.frame_table.specs.declared.table.ReplyForm.TheVariants as replies
use Rattle.frame_table.specs.Names.{subscriber, transaction, segments, segment, return_code, form, same_bits}
use Rattle.message.specs.declared.codes.ReturnCode.TheVariants as code
use Rattle.message.specs.Codes.{code_field}
use Rattle.message.specs.Editions.{order_opened}
use Rattle.message.specs.OrderNumbers.{order_in}
use Rattle.message.specs.declared.directions.Direction.TheVariants as direction
use Rattle.bank_history.specs.History.{Exchange}
use Rattle.bank_history.specs.Opened.{of_reply, is_own_opened, is_upload_opened, is_opened}
use Rattle.bank_history.specs.Sound.{is_cancelling}
use Rattle.bank_history.specs.Status.{
  Status,
  NotOpened,
  Open,
  Booked,
  Fetched,
  Skipped,
  Cancelled,
  drop_idle,
  refreshed,
  ended_by_receipt,
}

-- ---- accepted openings

-- how many there were
unfoldable pub opened_count : List Exchange → ℕ
opened_count [] = 0
opened_count (e ∷ h) = cond (is_opened e) (suc (opened_count h)) (opened_count h)

-- the number of an upload's order, by request and reply: A000 is 0
abbrev pub number_given : Exchange → ℕ
number_given e = order_in (order_opened e.request e.reply)

-- how far the bank's own numbering of a subscriber's uploads has come: one past the number that it gave last
unfoldable pub own_given : ℕ → List Exchange → ℕ
own_given s [] = 0
own_given s (e ∷ h) =
    cond (is_own_opened e && eqb (subscriber e.request) s) (suc (number_given e)) (own_given s h)

-- the transactions that they opened, the oldest first
unfoldable pub opened_ids : List Exchange → List Bits128
opened_ids [] = []
opened_ids (e ∷ h) = opened_ids h ++ cond (is_opened e) (transaction e.reply ∷ []) []

-- something of the exchange that opened t
unfoldable pub at_opened : {A : Type 0} → (Exchange → A) → A → Bits128 → List Exchange → A
at_opened f none t [] = none
at_opened f none t (e ∷ h) =
    cond (is_opened e && same_bits t (transaction e.reply)) (f e) (at_opened f none t h)

-- its subscriber; its order number, brought by its opening or given in the reply; its N; whether it is an upload
abbrev pub owner_of : Bits128 → List Exchange → ℕ
owner_of t h = at_opened (λ (e : Exchange). subscriber e.request) 0 t h

abbrev pub order_of : Bits128 → List Exchange → ℕ
order_of t h = at_opened (λ (e : Exchange). number_given e) 0 t h

abbrev pub segment_count_of : Bits128 → List Exchange → ℕ
segment_count_of t h = at_opened (λ (e : Exchange). segments e.request) 0 t h

abbrev pub is_upload_id : Bits128 → List Exchange → Bool
is_upload_id t h = at_opened (λ (e : Exchange). is_upload_opened e) false t h

-- ---- how a transaction stands

-- the highest number of a segment sent of the download t: its opening's reply has segment 1 in it
abbrev pub is_sending_form : ReplyForm → Bool
is_sending_form replies.UploadOpened = false
is_sending_form replies.DownloadOpened = true
is_sending_form replies.SegmentTaken = false
is_sending_form replies.DownloadSegment = true
is_sending_form replies.ReceiptAnswered = false
is_sending_form replies.Refusal = false
is_sending_form replies.Unreadable = false

unfoldable pub sent_up_to : Bits128 → List Exchange → ℕ
sent_up_to t [] = 0
sent_up_to t (e ∷ h) =
    cond (of_reply false is_sending_form (form e.reply) && same_bits t (transaction e.reply))
    (max (sent_up_to t h) (segment e.reply)) (sent_up_to t h)

abbrev pub is_code : ℕ → Exchange → Bool
is_code c e = eqb (return_code e.reply) c

-- "upload segment taken" with 000000, a fitting request: segment N books the order; 061101 changes nothing here
abbrev pub taken_status : Bits128 → Exchange → List Exchange → Status → Status
taken_status t e h x =
    cond (is_code (code_field code.Ok) e)
    (cond (eqb (segment e.request) (segment_count_of t h)) Booked (refreshed e.clock x)) x

-- a segment of a download above all sent before is a fitting request
abbrev pub sent_status : Bits128 → Exchange → List Exchange → Status → Status
sent_status t e h x = cond (ltb (sent_up_to t h) (segment e.reply)) (refreshed e.clock x) x

-- its receipt, answered 011000 or 011001; "011000: mailbox emptied, every download of that mailbox ended"
abbrev pub receipt_status : Exchange → Status
receipt_status e = cond (is_code (code_field code.DownloadPostprocessDone) e) Fetched Skipped

abbrev pub other_receipt : Exchange → Status → Status
other_receipt e x =
    cond (is_code (code_field code.DownloadPostprocessDone) e) (ended_by_receipt (subscriber e.request) x) x

-- an upload's opening accepted, of either edition
abbrev pub upload_opened_status : Bits128 → Exchange → Status → Status
upload_opened_status t e x =
    cond (same_bits t (transaction e.reply)) (Open direction.Upload (subscriber e.request) e.clock) x

-- what the reply of e, after the history h, says of t that stood so; a refusal has no transaction ID, its request has;
-- the tags of "receipt answered" with 000000 accept an opening of edition 2.4
abbrev pub reply_status : Bits128 → Exchange → List Exchange → Status → ReplyForm → Status
reply_status t e h x replies.UploadOpened = upload_opened_status t e x
reply_status t e h x replies.DownloadOpened =
    cond (same_bits t (transaction e.reply)) (Open direction.Download (subscriber e.request) e.clock) x
reply_status t e h x replies.SegmentTaken = cond (same_bits t (transaction e.reply)) (taken_status t e h x) x
reply_status t e h x replies.DownloadSegment = cond (same_bits t (transaction e.reply)) (sent_status t e h x) x
reply_status t e h x replies.ReceiptAnswered =
    cond (is_upload_opened e) (upload_opened_status t e x)
    (cond (same_bits t (transaction e.reply)) (receipt_status e) (other_receipt e x))
reply_status t e h x replies.Refusal =
    cond (same_bits t (transaction e.request)) (cond (is_cancelling (return_code e.reply)) Cancelled x) x
reply_status t e h x replies.Unreadable = x

-- how t stands after a history: each call first drops, then its reply says what it did
unfoldable pub standing : Bits128 → List Exchange → Status
standing t [] = NotOpened
standing t (e ∷ h) =
    let x = drop_idle e.clock (standing t h) in
    of_reply x (reply_status t e h x) (form e.reply)
