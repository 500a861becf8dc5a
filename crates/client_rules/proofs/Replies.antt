-- What the tests on a reply tell of its fields. Assumes nothing.
use Prim.Native.Nat.{ℕ}
use mathlib.Core.Bool.{Bool, true, false, not, ◌||◌}
use mathlib.Core.List.{◌∷◌}
use mathlib.Core.Logic.{◌⊎◌, inl, inr}
use mathlib.Core.Path.{◌≡◌, refl, sym, ap, ◌∙◌}
use lib.Dec.{eqb}
use lib.ListN.{get_or}
use borrow.Author.Tests.{eqb-true, eq-eqb, not-true}
use Rattle.frame_table.specs.declared.fields.Fields.{Fields}
use Rattle.frame_table.specs.declared.table.Form.{Form}
use Rattle.frame_table.specs.declared.table.Form.TheVariants.{NoForm, Request, Reply}
use Rattle.frame_table.specs.declared.table.ReplyForm.{ReplyForm}
use Rattle.frame_table.specs.declared.table.ReplyForm.TheVariants as reply
use Rattle.frame_table.specs.declared.table.RequestForm.{RequestForm}
use Rattle.frame_table.specs.declared.table.RequestForm.TheVariants as request
use Rattle.frame_table.specs.Forms as forms
use Rattle.frame_table.specs.Names.{phase, exchange, segments, transaction, segment, return_code, form}
use Rattle.frame_table.specs.Table.{form_table, is_reply_form}
use Rattle.octets.proofs.Tests.{never, and-true}
use Rattle.frame_table.proofs.Bits.{bits-same}
use Rattle.message.specs.declared.codes.ReturnCode.{ReturnCode}
use Rattle.message.specs.declared.codes.ReturnCode.TheVariants as code
use Rattle.message.specs.Codes.{code_field}
use Rattle.message.specs.Limits.{initialisation_phase, transfer_phase}
use Rattle.client_run.specs.declared.run.ClientRun.{ClientRun}
use Rattle.message.specs.declared.editions.Edition.TheVariants.{V24, V25}
use Rattle.message.specs.Editions.{opened_form}
use Rattle.client_rules.specs.Decisions.{
  request_index,
  reply_index,
  form_index,
  says,
  is_own,
  ends_upload,
  fits_segment,
  opens_upload,
  opens_download,
  is_answer,
}

-- the form of an index
abbrev form_at : ℕ → Form
form_at i = get_or (NoForm ∷ form_table) i NoForm

request-indexed : (x : RequestForm) → form_at (request_index x) ≡ Request x
request-indexed request.UploadOpening = refl
request-indexed request.DownloadOpening = refl
request-indexed request.UploadTransfer = refl
request-indexed request.DownloadTransfer = refl
request-indexed request.Receipt = refl
request-indexed request.Signing = refl
request-indexed request.ChosenOpening = refl

reply-indexed : (x : ReplyForm) → form_at (reply_index x) ≡ Reply x
reply-indexed reply.UploadOpened = refl
reply-indexed reply.DownloadOpened = refl
reply-indexed reply.SegmentTaken = refl
reply-indexed reply.DownloadSegment = refl
reply-indexed reply.ReceiptAnswered = refl
reply-indexed reply.Unreadable = refl
reply-indexed reply.Refusal = refl

indexed : (x : Form) → form_at (form_index x) ≡ x
indexed NoForm = refl
indexed (Request x) = request-indexed x
indexed (Reply x) = reply-indexed x

-- two forms of one index are one
pub one_form : (x y : Form) → form_index x ≡ form_index y → x ≡ y
one_form x y e = sym (indexed x) ∙ ap form_at e ∙ indexed y

-- "A reply fits only in its step's form, with code ..., with that step's phase"
pub record Says (x : Form) (c : ReturnCode) (p : ℕ) (r : Fields) : Type 0 where
  pub form-is : form r ≡ x
  pub code_is : return_code r ≡ code_field c
  pub phase-is : phase r ≡ p

pub said : (x : Form) (c : ReturnCode) (p : ℕ) (r : Fields) → says x c p r ≡ true → Says x c p r
unfolding says
said x c p r h =
    let a = and-true _ (eqb (phase r) p) h in
    let b = and-true (eqb (form_index (form r)) (form_index x)) (eqb (return_code r) (code_field c)) a.0 in
    record {
      form-is = one_form (form r) x (eqb-true (form_index (form r)) (form_index x) b.0);
      code_is = eqb-true (return_code r) (code_field c) b.1;
      phase-is = eqb-true (phase r) p a.1;
    }

-- an upload's opening is answered, in its edition's form alone: in 2.5 with the order number, in 2.4 without
pub upload-opened-says : (c : ClientRun) (r : Fields) → opens_upload c r ≡ true
    → Says (opened_form c.terms.edition) code.Ok initialisation_phase r
upload-opened-says c r h = said _ _ _ r h

pub opened-25 : (c : ClientRun) (r : Fields) → c.terms.edition ≡ V25 → opens_upload c r ≡ true → form r ≡ forms.UploadOpened
opened-25 c r e h = (upload-opened-says c r h).form-is ∙ ap opened_form e

pub opened-24 : (c : ClientRun) (r : Fields) → c.terms.edition ≡ V24 → opens_upload c r ≡ true
    → form r ≡ forms.ReceiptAnswered
opened-24 c r e h = (upload-opened-says c r h).form-is ∙ ap opened_form e

-- a download's opening is answered
pub opened-says : (d : ℕ) (r : Fields) → opens_download d r ≡ true
    → Says forms.DownloadOpened code.Ok initialisation_phase r
unfolding opens_download
opened-says d r h =
    let a = and-true _ (fits_segment 1 (segments r) d r) h in
    said _ _ _ r (and-true (says forms.DownloadOpened code.Ok initialisation_phase r) (eqb (segment r) 1) a.0).0

-- "the run's transaction ID"
pub own-id : (c : ClientRun) (r : Fields) → is_own c r ≡ true → transaction r ≡ c.transaction
unfolding is_own
own-id c r h = bits-same (transaction r) c.transaction h

-- "A reply that is unreadable or lacks the outstanding request's exchange number is ignored": what it is else
pub record IsAnswer (c : ClientRun) (r : Fields) : Type 0 where
  pub reply : is_reply_form (form r) ≡ true
  pub readable : form r ≡ forms.Unreadable → ⊥
  pub number : exchange r ≡ c.exchange

pub is-answer : (c : ClientRun) (r : Fields) → is_answer c r ≡ true → IsAnswer c r
unfolding is_answer
is-answer c r h =
    let a = and-true _ (eqb (exchange r) c.exchange) h in
    let b = and-true (is_reply_form (form r)) (not (eqb (form_index (form r)) (form_index forms.Unreadable))) a.0 in
    record {
      reply = b.0;
      readable = λ e.
          never (sym (not-true _ b.1) ∙ eq-eqb (form_index (form r)) (form_index forms.Unreadable) (ap form_index e));
      number = eqb-true (exchange r) c.exchange a.1;
    }

or_cases : (a b : Bool) → a || b ≡ true → (a ≡ true) ⊎ (b ≡ true)
or_cases true b h = inl refl
or_cases false b h = inr h

-- "a reply 01 03 0D of phase 2 with 091102, 091104 or 011101"
pub record Cancels (r : Fields) : Type 0 where
  pub why : ReturnCode
  pub one : (why ≡ code.TransactionAbort) ⊎ ((why ≡ code.SegmentNumberExceeded) ⊎ (why ≡ code.SegmentNumberUnderrun))
  pub says_so : Says forms.Refusal why transfer_phase r

pub cancels : (r : Fields) → ends_upload r ≡ true → Cancels r
unfolding ends_upload
cancels r h = first (or_cases _ (says forms.Refusal code.SegmentNumberUnderrun transfer_phase r) h)
  where
    pair : (says forms.Refusal code.TransactionAbort transfer_phase r ≡ true)
        ⊎ (says forms.Refusal code.SegmentNumberExceeded transfer_phase r ≡ true) → Cancels r
    pair (inl e) = record { why = code.TransactionAbort; one = inl refl; says_so = said _ _ _ r e }
    pair (inr e) = record { why = code.SegmentNumberExceeded; one = inr (inl refl); says_so = said _ _ _ r e }

    first : (says forms.Refusal code.TransactionAbort transfer_phase r
        || says forms.Refusal code.SegmentNumberExceeded transfer_phase r
        ≡ true)
        ⊎ (says forms.Refusal code.SegmentNumberUnderrun transfer_phase r ≡ true) → Cancels r
    first (inl e) = pair (or_cases _ (says forms.Refusal code.SegmentNumberExceeded transfer_phase r) e)
    first (inr e) = record { why = code.SegmentNumberUnderrun; one = inr (inr refl); says_so = said _ _ _ r e }
