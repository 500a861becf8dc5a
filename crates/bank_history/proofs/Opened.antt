-- Which replies accept an opening: form and return code say it exactly where the verdict does, and request and reply say
-- the number of an upload's order.
use Prim.Native.Nat.{ℕ}
use mathlib.Core.Bool.{Bool, true, false, ◌&&◌}
use mathlib.Core.List.{List}
use mathlib.Core.Logic.{◌⊎◌, inl, inr}
use mathlib.Core.Path.{◌≡◌, refl, sym, ap, ◌∙◌, subst}
use borrow.Author.Tests.{eqb-true}
use Rattle.frame_table.specs.declared.fields.Bits128.{Bits128}
use Rattle.frame_table.specs.declared.table.Form.{Form}
use Rattle.frame_table.specs.declared.table.Form.TheVariants.{NoForm, Request, Reply}
use Rattle.frame_table.specs.declared.table.ReplyForm.TheVariants as replies
use Rattle.frame_table.specs.Forms as forms
use Rattle.frame_table.specs.Names.{transaction, return_code, order_number, form}
use Rattle.octets.proofs.Tests.{never}
use Rattle.message.specs.declared.codes.ReturnCode.TheVariants as code
use Rattle.message.specs.Codes.{code_field}
use Rattle.message.specs.declared.editions.Edition.{Edition}
use Rattle.message.specs.declared.editions.Edition.TheVariants as edition
use Rattle.message.specs.Editions.{edition_of, number_opened, order_opened}
use Rattle.message.specs.OrderNumbers.{order_number_of, order_in}
use Rattle.message.specs.Replies.{upload_opened}
use Rattle.message.proofs.OrderNumbers.{number-said}
use Rattle.bank_verdicts.specs.declared.verdict.UploadAction.TheVariants as up
use Rattle.bank_verdicts.specs.declared.verdict.DownloadAction.TheVariants as down
use Rattle.bank_verdicts.specs.declared.verdict.Action.{Action}
use Rattle.bank_verdicts.specs.declared.verdict.Action.TheVariants as action
use Rattle.bank_verdicts.specs.declared.verdict.Verdict.{Verdict}
use Rattle.bank_verdicts.specs.declared.verdict.Verdict.TheVariants as verdict
use Rattle.bank_verdicts.specs.Replies.{opened_reply, reply_to}
use Rattle.bank_history.specs.History.{Exchange, is_opening, is_upload_opening, opens, accepts_upload, is_own, numbers_own}
use Rattle.bank_history.specs.Opened.{
  of_reply,
  is_own_form,
  is_upload_form,
  is_opened_form,
  is_own_opened,
  is_upload_opened,
  is_opened,
}
use Rattle.bank_history.specs.Sound.{NumberedAs, SoundVerdict, Sound}
use Rattle.bank_history.specs.ByReplies.{number_given}
use Rattle.bank_history.proofs.Positions.{accepts-upload}
use Rattle.bank_history.proofs.Replies.{
  action_form,
  action_code,
  verdict_form,
  verdict_code,
  verdict-form,
  verdict-code,
  action-transaction,
  opened-answers,
}

-- ---- by the verdict

abbrev opened_by : Edition → Action → Bool
opened_by x k = of_reply false (is_opened_form (code_field (action_code k))) (action_form x k)

abbrev upload_by : Edition → Action → Bool
upload_by x k = of_reply false (is_upload_form (code_field (action_code k))) (action_form x k)

abbrev own_by : Edition → Action → Bool
own_by x k = of_reply false is_own_form (action_form x k)

action-says : (x : Edition) (k : Action) →
    (opened_by x k ≡ is_opening k) × (upload_by x k ≡ is_upload_opening k) × (own_by x k ≡ is_upload_opening k && is_own x)
action-says edition.V24 (action.Upload (up.Opened n)) = (refl, refl, refl)
action-says edition.V25 (action.Upload (up.Opened n)) = (refl, refl, refl)
action-says x (action.Upload up.Took) = (refl, refl, refl)
action-says x (action.Upload up.TookLast) = (refl, refl, refl)
action-says x (action.Upload (up.Point k)) = (refl, refl, refl)
action-says x (action.Upload (up.Cancelled c)) = (refl, refl, refl)
action-says x (action.Download (down.Opened n)) = (refl, refl, refl)
action-says x (action.Download (down.Delivered n)) = (refl, refl, refl)
action-says x (action.Download (down.SentAgain n)) = (refl, refl, refl)
action-says x (action.Download (down.Point d)) = (refl, refl, refl)
action-says x (action.Download down.Cancelled) = (refl, refl, refl)
action-says x (action.Download down.Confirmed) = (refl, refl, refl)
action-says x (action.Download down.Declined) = (refl, refl, refl)

verdict-says : (x : Edition) (v : Verdict) →
    (of_reply false (is_opened_form (code_field (verdict_code v))) (verdict_form x v) ≡ opens v)
    × (of_reply false (is_upload_form (code_field (verdict_code v))) (verdict_form x v) ≡ accepts_upload v)
    × (of_reply false is_own_form (verdict_form x v) ≡ accepts_upload v && is_own x)
verdict-says x verdict.Unreadable = (refl, refl, refl)
verdict-says x (verdict.Refused c) = (refl, refl, refl)
verdict-says x (verdict.Signed n added) = (refl, refl, refl)
verdict-says x (verdict.Of t k) = action-says x k

-- an accepted opening's reply is no refusal
pub opens-some : (x : Edition) (k : Action) → is_opening k ≡ true → action_form x k ≡ forms.Refusal → ⊥
opens-some x k o z =
    never (ap (of_reply false (is_opened_form (code_field (action_code k)))) (sym z) ∙ ((action-says x k).0 ∙ o))

-- ---- by cases of form and code

upload-by : (c : ℕ) (f : Form) → of_reply false (is_upload_form c) f ≡ true →
    (f ≡ forms.UploadOpened) ⊎ ((f ≡ forms.ReceiptAnswered) × (c ≡ code_field code.Ok))
upload-by c NoForm z = never z
upload-by c (Request x) z = never z
upload-by c (Reply replies.UploadOpened) z = inl refl
upload-by c (Reply replies.DownloadOpened) z = never z
upload-by c (Reply replies.SegmentTaken) z = never z
upload-by c (Reply replies.DownloadSegment) z = never z
upload-by c (Reply replies.ReceiptAnswered) z = inr (refl, eqb-true c (code_field code.Ok) z)
upload-by c (Reply replies.Refusal) z = never z
upload-by c (Reply replies.Unreadable) z = never z

opened-by : (c : ℕ) (f : Form) → of_reply false (is_opened_form c) f ≡ true →
    (of_reply false (is_upload_form c) f ≡ true) ⊎ (f ≡ forms.DownloadOpened)
opened-by c NoForm z = never z
opened-by c (Request x) z = never z
opened-by c (Reply replies.UploadOpened) z = inl refl
opened-by c (Reply replies.DownloadOpened) z = inr refl
opened-by c (Reply replies.SegmentTaken) z = never z
opened-by c (Reply replies.DownloadSegment) z = never z
opened-by c (Reply replies.ReceiptAnswered) z = inl z
opened-by c (Reply replies.Refusal) z = never z
opened-by c (Reply replies.Unreadable) z = never z

upload-opens : (c : ℕ) (f : Form) → of_reply false (is_upload_form c) f ≡ true → of_reply false (is_opened_form c) f ≡ true
upload-opens c NoForm z = never z
upload-opens c (Request x) z = never z
upload-opens c (Reply replies.UploadOpened) z = refl
upload-opens c (Reply replies.DownloadOpened) z = never z
upload-opens c (Reply replies.SegmentTaken) z = never z
upload-opens c (Reply replies.DownloadSegment) z = never z
upload-opens c (Reply replies.ReceiptAnswered) z = z
upload-opens c (Reply replies.Refusal) z = never z
upload-opens c (Reply replies.Unreadable) z = never z

own-by : (f : Form) → of_reply false is_own_form f ≡ true → f ≡ forms.UploadOpened
own-by NoForm z = never z
own-by (Request x) z = never z
own-by (Reply replies.UploadOpened) z = refl
own-by (Reply replies.DownloadOpened) z = never z
own-by (Reply replies.SegmentTaken) z = never z
own-by (Reply replies.DownloadSegment) z = never z
own-by (Reply replies.ReceiptAnswered) z = never z
own-by (Reply replies.Refusal) z = never z
own-by (Reply replies.Unreadable) z = never z

module _ (e : Exchange) where
  -- an upload's is "upload opened", or the tags of "receipt answered" with 000000
  pub upload-cases : is_upload_opened e ≡ true → (form e.reply ≡ forms.UploadOpened)
      ⊎ ((form e.reply ≡ forms.ReceiptAnswered) × (return_code e.reply ≡ code_field code.Ok))
  upload-cases = upload-by (return_code e.reply) (form e.reply)

  -- any other is a download's
  pub opened-cases : is_opened e ≡ true → (is_upload_opened e ≡ true) ⊎ (form e.reply ≡ forms.DownloadOpened)
  opened-cases = opened-by (return_code e.reply) (form e.reply)

  pub upload-is-opened : is_upload_opened e ≡ true → is_opened e ≡ true
  upload-is-opened = upload-opens (return_code e.reply) (form e.reply)

  pub download-is-opened : form e.reply ≡ forms.DownloadOpened → is_opened e ≡ true
  download-is-opened = ap (of_reply false (is_opened_form (return_code e.reply)))

  -- one of the bank's own numbering
  pub own-formed : is_own_opened e ≡ true → form e.reply ≡ forms.UploadOpened
  own-formed = own-by (form e.reply)

  pub formed-own : form e.reply ≡ forms.UploadOpened → is_own_opened e ≡ true
  formed-own = ap (of_reply false is_own_form)

  pub own-is-upload : is_own_opened e ≡ true → is_upload_opened e ≡ true
  own-is-upload z = ap (of_reply false (is_upload_form (return_code e.reply))) (own-formed z)

-- ---- an exchange of a sound history

-- the order number of an accepted upload, by request and reply
number-said-by : (x : Edition) (n : ℕ) (t : Bits128) (e : Exchange) (h : List Exchange) → NumberedAs x n e h →
    e.reply ≡ opened_reply x n t e.request → number_opened x e.request e.reply ≡ order_number_of n
unfolding upload_opened
number-said-by edition.V24 n t e h numbered r = numbered
number-said-by edition.V25 n t e h numbered r = ap order_number r

module _ {e : Exchange} {h : List Exchange} (s : Sound e h) where
  abbrev x : Edition
  x = edition_of e.request

  pub formed : form e.reply ≡ verdict_form (edition_of e.request) e.verdict
  formed = ap form s.reply ∙ verdict-form e.verdict e.request

  pub coded : return_code e.reply ≡ code_field (verdict_code e.verdict)
  coded = ap return_code s.reply ∙ verdict-code e.verdict e.request

  pub is-opened : is_opened e ≡ opens e.verdict
  is-opened =
      ap (λ (c : ℕ). of_reply false (is_opened_form c) (form e.reply)) coded
      ∙ (ap (of_reply false (is_opened_form (code_field (verdict_code e.verdict)))) formed ∙ (verdict-says x e.verdict).0)

  pub is-upload : is_upload_opened e ≡ accepts_upload e.verdict
  is-upload =
      ap (λ (c : ℕ). of_reply false (is_upload_form c) (form e.reply)) coded
      ∙ (ap (of_reply false (is_upload_form (code_field (verdict_code e.verdict)))) formed ∙ (verdict-says x e.verdict).1)

  pub is-own : is_own_opened e ≡ numbers_own e
  is-own = ap (of_reply false is_own_form) formed ∙ (verdict-says x e.verdict).2

  module _ {t : Bits128} {n : ℕ} (own : e.verdict ≡ verdict.Of t (action.Upload (up.Opened n))) where
    -- its number is spelled in the request or in the reply
    pub order-opened : order_opened e.request e.reply ≡ order_number_of n
    order-opened =
        let z = subst (λ (v : Verdict). SoundVerdict v e h) own s.verdict in
        number-said-by x n t e h z.number (s.reply ∙ ap (λ (v : Verdict). reply_to v e.request) own)

    -- and read there
    pub number-given : number_given e ≡ n
    number-given =
        let z = subst (λ (v : Verdict). SoundVerdict v e h) own s.verdict in
        ap order_in order-opened ∙ (number-said n z.limited).1

  -- the verdict behind a reply that accepts an upload
  pub upload-behind : is_upload_opened e ≡ true →
      (n : ℕ) × (e.verdict ≡ verdict.Of (transaction e.reply) (action.Upload (up.Opened n)))
  upload-behind z =
      let a = accepts-upload e.verdict (sym is-upload ∙ z) in
      let t : transaction e.reply ≡ a.0 =
      ap transaction (s.reply ∙ ap (λ (v : Verdict). reply_to v e.request) a.2)
      ∙ action-transaction a.0 e.request (action.Upload (up.Opened a.1)) (opened-answers x) in
      (a.1, a.2 ∙ ap (λ (i : Bits128). verdict.Of i (action.Upload (up.Opened a.1))) (sym t))
