-- What a reply tells of its verdict: its form, its return code, its exchange number, and the verdict back from the form.
use Prim.Native.Nat.{ℕ}
use mathlib.Core.Bool.{Bool, true, false}
use mathlib.Core.Logic.{◌⊎◌, inl, inr}
use mathlib.Core.Path.{◌≡◌, refl, ap, ◌∙◌, subst}
use native.Mathlib.Omega.{arith}
use Rattle.frame_table.specs.declared.fields.Bits128.{Bits128}
use Rattle.frame_table.specs.declared.fields.Fields.{Fields}
use Rattle.frame_table.specs.declared.table.Form.{Form}
use Rattle.frame_table.specs.declared.table.Form.TheVariants.{NoForm, Request, Reply}
use Rattle.frame_table.specs.declared.table.ReplyForm.{ReplyForm}
use Rattle.frame_table.specs.declared.table.ReplyForm.TheVariants as replies
use Rattle.frame_table.specs.Forms as forms
use Rattle.frame_table.specs.Names.{exchange, transaction, return_code, form}
use Rattle.frame_table.specs.Table.{is_reply_form, row_fits, find_form, form_of}
use Rattle.frame.proofs.RoundTrip.{Sized}
use Rattle.octets.proofs.Tests.{never}
use Rattle.message.specs.declared.editions.Edition.{Edition}
use Rattle.message.specs.declared.editions.Edition.TheVariants as edition
use Rattle.message.specs.Editions.{edition_of, opened_form}
use Rattle.message.specs.declared.codes.ReturnCode.{ReturnCode}
use Rattle.message.specs.declared.codes.ReturnCode.TheVariants as code
use Rattle.message.specs.Codes.{code_field}
use Rattle.message.specs.Replies.{
  upload_opened,
  chosen_opened,
  download_opened,
  segment_taken,
  recovery_point,
  download_segment,
  receipt_answered,
  unreadable,
  refusal,
}
use Rattle.bank_verdicts.specs.declared.verdict.UploadAction.{UploadAction}
use Rattle.bank_verdicts.specs.declared.verdict.UploadAction.TheVariants as up
use Rattle.bank_verdicts.specs.declared.verdict.DownloadAction.{DownloadAction}
use Rattle.bank_verdicts.specs.declared.verdict.DownloadAction.TheVariants as down
use Rattle.bank_verdicts.specs.declared.verdict.Action.{Action}
use Rattle.bank_verdicts.specs.declared.verdict.Action.TheVariants as action
use Rattle.bank_verdicts.specs.declared.verdict.Verdict.{Verdict}
use Rattle.bank_verdicts.specs.declared.verdict.Verdict.TheVariants as verdict
use Rattle.bank_verdicts.specs.Replies.{opened_reply, upload_reply, download_reply, action_reply, reply_to}
use Rattle.bank_verdicts.specs.Refusals.{cancels}
use Rattle.bank_history.specs.Sound.{is_cancelling}

-- the reply form of an action and of a verdict, to a request of this edition
abbrev pub upload_form : Edition → UploadAction → Form
upload_form x (up.Opened n) = opened_form x
upload_form x up.Took = forms.SegmentTaken
upload_form x up.TookLast = forms.SegmentTaken
upload_form x (up.Point k) = forms.SegmentTaken
upload_form x (up.Cancelled c) = forms.Refusal

abbrev pub download_form : DownloadAction → Form
download_form (down.Opened n) = forms.DownloadOpened
download_form (down.Delivered n) = forms.DownloadSegment
download_form (down.SentAgain n) = forms.DownloadSegment
download_form (down.Point d) = forms.SegmentTaken
download_form down.Cancelled = forms.Refusal
download_form down.Confirmed = forms.ReceiptAnswered
download_form down.Declined = forms.ReceiptAnswered

abbrev pub action_form : Edition → Action → Form
action_form x (action.Upload a) = upload_form x a
action_form x (action.Download a) = download_form a

abbrev pub verdict_form : Edition → Verdict → Form
verdict_form x verdict.Unreadable = forms.Unreadable
verdict_form x (verdict.Refused c) = forms.Refusal
verdict_form x (verdict.Of t k) = action_form x k
verdict_form x (verdict.Signed n added) = forms.Refusal

-- an accepted upload's reply is no refusal, and not that to an unreadable request
pub opened-answers : (x : Edition) → opened_form x ≡ forms.Refusal → ⊥
opened-answers edition.V24 z = let y : ◌≡◌ {A = ℕ} 0 1 = cc in omega arith
opened-answers edition.V25 z = let y : ◌≡◌ {A = ℕ} 0 1 = cc in omega arith

-- the return code of an action and of a verdict
abbrev pub upload_code : UploadAction → ReturnCode
upload_code (up.Opened n) = code.Ok
upload_code up.Took = code.Ok
upload_code up.TookLast = code.Ok
upload_code (up.Point k) = code.RecoverySync
upload_code (up.Cancelled c) = c

abbrev pub download_code : DownloadAction → ReturnCode
download_code (down.Opened n) = code.Ok
download_code (down.Delivered n) = code.Ok
download_code (down.SentAgain n) = code.Ok
download_code (down.Point d) = code.RecoverySync
download_code down.Cancelled = code.TransactionAbort
download_code down.Confirmed = code.DownloadPostprocessDone
download_code down.Declined = code.DownloadPostprocessSkipped

abbrev pub action_code : Action → ReturnCode
action_code (action.Upload a) = upload_code a
action_code (action.Download a) = download_code a

abbrev pub verdict_code : Verdict → ReturnCode
verdict_code verdict.Unreadable = code.InvalidXml
verdict_code (verdict.Refused c) = c
verdict_code (verdict.Of t k) = action_code k
verdict_code (verdict.Signed n added) = code.Ok

-- what an action's reply says
pub record ActionReply (k : Action) (t : Bits128) (q : Fields) (r : Fields) : Type 0 where
  pub sized : Sized r
  pub kind : is_reply_form (form r) ≡ true
  pub formed : form r ≡ action_form (edition_of q) k
  pub coded : return_code r ≡ code_field (action_code k)
  pub same-exchange : exchange r ≡ exchange q

-- the reply that accepts an upload, by its edition
pub record OpenedReply (x : Edition) (t : Bits128) (q : Fields) (r : Fields) : Type 0 where
  pub sized : Sized r
  pub kind : is_reply_form (form r) ≡ true
  pub formed : form r ≡ opened_form x
  pub coded : return_code r ≡ code_field code.Ok
  pub same-exchange : exchange r ≡ exchange q
  pub id : transaction r ≡ t

pub opened-reply : (x : Edition) (n : ℕ) (t : Bits128) (q : Fields) → OpenedReply x t q (opened_reply x n t q)
unfolding upload_opened chosen_opened form_of find_form row_fits
opened-reply edition.V24 n t q =
    record { sized = (refl, refl); kind = refl; formed = refl; coded = refl; same-exchange = refl; id = refl }
opened-reply edition.V25 n t q =
    record { sized = (refl, refl); kind = refl; formed = refl; coded = refl; same-exchange = refl; id = refl }

module _ (t : Bits128) (q : Fields) where
  upload-reply : (a : UploadAction) → ActionReply (action.Upload a) t q (upload_reply a t q)
  unfolding segment_taken recovery_point refusal form_of find_form row_fits
  upload-reply (up.Opened n) =
      let r = opened-reply (edition_of q) n t q in
      record { sized = r.sized; kind = r.kind; formed = r.formed; coded = r.coded; same-exchange = r.same-exchange }
  upload-reply up.Took = record { sized = (refl, refl); kind = refl; formed = refl; coded = refl; same-exchange = refl }
  upload-reply up.TookLast = record { sized = (refl, refl); kind = refl; formed = refl; coded = refl; same-exchange = refl }
  upload-reply (up.Point k) = record { sized = (refl, refl); kind = refl; formed = refl; coded = refl; same-exchange = refl }
  upload-reply (up.Cancelled c) = record { sized = (refl, refl); kind = refl; formed = refl; coded = refl; same-exchange = refl }

  download-reply : (a : DownloadAction) → ActionReply (action.Download a) t q (download_reply a t q)
  unfolding download_opened recovery_point download_segment receipt_answered refusal form_of find_form row_fits
  download-reply (down.Opened n) = record { sized = (refl, refl); kind = refl; formed = refl; coded = refl; same-exchange = refl }
  download-reply (down.Delivered n) = record { sized = (refl, refl); kind = refl; formed = refl; coded = refl; same-exchange = refl }
  download-reply (down.SentAgain n) = record { sized = (refl, refl); kind = refl; formed = refl; coded = refl; same-exchange = refl }
  download-reply (down.Point d) = record { sized = (refl, refl); kind = refl; formed = refl; coded = refl; same-exchange = refl }
  download-reply down.Cancelled = record { sized = (refl, refl); kind = refl; formed = refl; coded = refl; same-exchange = refl }
  download-reply down.Confirmed = record { sized = (refl, refl); kind = refl; formed = refl; coded = refl; same-exchange = refl }
  download-reply down.Declined = record { sized = (refl, refl); kind = refl; formed = refl; coded = refl; same-exchange = refl }

  pub action-reply : (k : Action) → ActionReply k t q (action_reply k t q)
  action-reply (action.Upload a) = upload-reply a
  action-reply (action.Download a) = download-reply a

  upload-transaction : (a : UploadAction) → (upload_form (edition_of q) a ≡ forms.Refusal → ⊥) →
      transaction (upload_reply a t q) ≡ t
  unfolding segment_taken recovery_point refusal
  upload-transaction (up.Opened n) f = (opened-reply (edition_of q) n t q).id
  upload-transaction up.Took f = refl
  upload-transaction up.TookLast f = refl
  upload-transaction (up.Point k) f = refl
  upload-transaction (up.Cancelled c) f = absurd (f refl)

  download-transaction : (a : DownloadAction) → (download_form a ≡ forms.Refusal → ⊥) → transaction (download_reply a t q) ≡ t
  unfolding download_opened recovery_point download_segment receipt_answered refusal
  download-transaction (down.Opened n) f = refl
  download-transaction (down.Delivered n) f = refl
  download-transaction (down.SentAgain n) f = refl
  download-transaction (down.Point d) f = refl
  download-transaction down.Cancelled f = absurd (f refl)
  download-transaction down.Confirmed f = refl
  download-transaction down.Declined f = refl

  -- every reply of an action but a cancellation carries the transaction ID
  pub action-transaction : (k : Action) → (action_form (edition_of q) k ≡ forms.Refusal → ⊥) →
      transaction (action_reply k t q) ≡ t
  action-transaction (action.Upload a) f = upload-transaction a f
  action-transaction (action.Download a) f = download-transaction a f

-- every reply is of a reply form
pub reply-form : (v : Verdict) (q : Fields) → Sized (reply_to v q) × (is_reply_form (form (reply_to v q)) ≡ true)
unfolding unreadable refusal form_of find_form row_fits
reply-form verdict.Unreadable q = ((refl, refl), refl)
reply-form (verdict.Refused c) q = ((refl, refl), refl)
reply-form (verdict.Of t k) q = let r = action-reply t q k in (r.sized, r.kind)
reply-form (verdict.Signed n added) q = ((refl, refl), refl)

pub verdict-form : (v : Verdict) (q : Fields) → form (reply_to v q) ≡ verdict_form (edition_of q) v
unfolding unreadable refusal form_of find_form row_fits
verdict-form verdict.Unreadable q = refl
verdict-form (verdict.Refused c) q = refl
verdict-form (verdict.Of t k) q = (action-reply t q k).formed
verdict-form (verdict.Signed n added) q = refl

pub verdict-code : (v : Verdict) (q : Fields) → return_code (reply_to v q) ≡ code_field (verdict_code v)
unfolding unreadable refusal
verdict-code verdict.Unreadable q = refl
verdict-code (verdict.Refused c) q = refl
verdict-code (verdict.Of t k) q = (action-reply t q k).coded
verdict-code (verdict.Signed n added) q = refl

-- every reply but the one to an unreadable request carries its exchange number
pub verdict-exchange : (v : Verdict) (q : Fields) → (verdict_form (edition_of q) v ≡ forms.Unreadable → ⊥) →
    exchange (reply_to v q) ≡ exchange q
unfolding refusal
verdict-exchange verdict.Unreadable q n = absurd (n refl)
verdict-exchange (verdict.Refused c) q n = refl
verdict-exchange (verdict.Of t k) q n = (action-reply t q k).same-exchange
verdict-exchange (verdict.Signed m added) q n = refl

-- ---- the verdict back from the reply's form

-- which actions are answered in this form: up to 2.4 an accepted upload is answered with the tags of a receipt's answer
abbrev pub ActionOfReply : ReplyForm → Action → Type 0
ActionOfReply replies.UploadOpened k = (n : ℕ) × (k ≡ action.Upload (up.Opened n))
ActionOfReply replies.DownloadOpened k = (n : ℕ) × (k ≡ action.Download (down.Opened n))
ActionOfReply replies.SegmentTaken k =
    ((k ≡ action.Upload up.Took) ⊎ (k ≡ action.Upload up.TookLast))
    ⊎ (((n : ℕ) × (k ≡ action.Upload (up.Point n))) ⊎ ((d : ℕ) × (k ≡ action.Download (down.Point d))))
ActionOfReply replies.DownloadSegment k =
    ((n : ℕ) × (k ≡ action.Download (down.Delivered n))) ⊎ ((n : ℕ) × (k ≡ action.Download (down.SentAgain n)))
ActionOfReply replies.ReceiptAnswered k =
    ((n : ℕ) × (k ≡ action.Upload (up.Opened n)))
    ⊎ ((k ≡ action.Download down.Confirmed) ⊎ (k ≡ action.Download down.Declined))
ActionOfReply replies.Refusal k = ((c : ReturnCode) × (k ≡ action.Upload (up.Cancelled c))) ⊎ (k ≡ action.Download down.Cancelled)
ActionOfReply replies.Unreadable k = ⊥

abbrev pub ActionOf : Form → Action → Type 0
ActionOf NoForm k = ⊥
ActionOf (Request x) k = ⊥
ActionOf (Reply x) k = ActionOfReply x k

upload-of : (x : Edition) (a : UploadAction) → ActionOf (upload_form x a) (action.Upload a)
upload-of edition.V24 (up.Opened n) = inl (n, refl)
upload-of edition.V25 (up.Opened n) = (n, refl)
upload-of x up.Took = inl (inl refl)
upload-of x up.TookLast = inl (inr refl)
upload-of x (up.Point n) = inr (inl (n, refl))
upload-of x (up.Cancelled c) = inl (c, refl)

download-of : (a : DownloadAction) → ActionOf (download_form a) (action.Download a)
download-of (down.Opened n) = (n, refl)
download-of (down.Delivered n) = inl (n, refl)
download-of (down.SentAgain n) = inr (n, refl)
download-of (down.Point d) = inr (inr (d, refl))
download-of down.Cancelled = inr refl
download-of down.Confirmed = inr (inl refl)
download-of down.Declined = inr (inr refl)

pub action-of : (x : Edition) (k : Action) → ActionOf (action_form x k) k
action-of x (action.Upload a) = upload-of x a
action-of x (action.Download a) = download-of a

-- a verdict that is an action answered in this form
pub record IsAction (v : Verdict) (f : Form) : Type 0 where
  pub id : Bits128
  pub action : Action
  pub is : v ≡ verdict.Of id action
  pub kind : ActionOf f action

-- the forms that only an action is answered in
abbrev pub reply_of_action : ReplyForm → Bool
reply_of_action replies.UploadOpened = true
reply_of_action replies.DownloadOpened = true
reply_of_action replies.SegmentTaken = true
reply_of_action replies.DownloadSegment = true
reply_of_action replies.ReceiptAnswered = true
reply_of_action replies.Refusal = false
reply_of_action replies.Unreadable = false

abbrev pub of_action : Form → Bool
of_action NoForm = false
of_action (Request x) = false
of_action (Reply x) = reply_of_action x

pub is-action : (x : Edition) (v : Verdict) (f : Form) → verdict_form x v ≡ f → of_action f ≡ true → IsAction v f
is-action x verdict.Unreadable f e d = never (ap of_action e ∙ d)
is-action x (verdict.Refused c) f e d = never (ap of_action e ∙ d)
is-action x (verdict.Signed n added) f e d = never (ap of_action e ∙ d)
is-action x (verdict.Of t k) f e d =
    record { id = t; action = k; is = refl; kind = subst (λ (g : Form). ActionOf g k) e (action-of x k) }

-- the three codes that cancel, told by field 0D
pub cancelling-code : (c : ReturnCode) → is_cancelling (code_field c) ≡ cancels c
cancelling-code code.Ok = refl
cancelling-code code.DownloadPostprocessDone = refl
cancelling-code code.DownloadPostprocessSkipped = refl
cancelling-code code.SegmentNumberUnderrun = refl
cancelling-code code.InvalidRequest = refl
cancelling-code code.InternalError = refl
cancelling-code code.RecoverySync = refl
cancelling-code code.NoDownloadDataAvailable = refl
cancelling-code code.UserUnknown = refl
cancelling-code code.InvalidOrderType = refl
cancelling-code code.SegmentSizeExceeded = refl
cancelling-code code.InvalidXml = refl
cancelling-code code.UnknownTransaction = refl
cancelling-code code.TransactionAbort = refl
cancelling-code code.MessageReplay = refl
cancelling-code code.SegmentNumberExceeded = refl
cancelling-code code.OrderIdUnknown = refl
cancelling-code code.OrderIdAlreadyExists = refl
cancelling-code code.MaxSegmentsExceeded = refl
cancelling-code code.MaxTransactionsExceeded = refl
