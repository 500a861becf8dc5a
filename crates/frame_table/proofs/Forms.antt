-- Laws of the table of forms. Assumes nothing.
use Prim.Native.Nat.{ℕ, ◌^◌, ◌<◌}
use mathlib.Core.List.{List, [], ◌∷◌}
use mathlib.Core.Bool.{Bool, true, false, cond}
use mathlib.Core.Path.{◌≡◌, refl, sym}
use native.Mathlib.Omega.{arith}
use lib.Dec.{eqb}
use borrow.Author.Tests.{eqb-true}
use Rattle.frame_table.specs.declared.table.RequestForm.{RequestForm}
use Rattle.frame_table.specs.declared.table.RequestForm.TheVariants as request
use Rattle.frame_table.specs.declared.table.ReplyForm.{ReplyForm}
use Rattle.frame_table.specs.declared.table.ReplyForm.TheVariants as reply
use Rattle.frame_table.specs.declared.table.Form.{Form}
use Rattle.frame_table.specs.declared.table.Form.TheVariants.{NoForm, Request, Reply}
use Rattle.frame_table.specs.Table.{
  tag_count,
  phase_tag,
  subscriber_tag,
  exchange_tag,
  has,
  request_row,
  reply_row,
  tags_of,
  has_phase,
  form_table,
  row_fits,
  find_form,
  form_of,
  is_request_form,
  is_reply_form,
  is_form,
}
use Rattle.octets.proofs.Tests.{never, and-true}

-- ---- a form found has the tags and the phase that it was looked for by

module _ (m p : ℕ) where
  found_at : (x : Form) (l : List Form) (b : Bool) → row_fits x m p ≡ b → (is_form (find_form l m p) ≡ true → row_fits (find_form l m p) m p ≡ true)
      → is_form (cond b x (find_form l m p)) ≡ true → row_fits (cond b x (find_form l m p)) m p ≡ true
  found_at x l true e i k = e
  found_at x l false e i k = i k

  found : (l : List Form) → is_form (find_form l m p) ≡ true → row_fits (find_form l m p) m p ≡ true
  unfolding find_form
  found [] k = never k
  found (x ∷ l) k = found_at x l (row_fits x m p) refl (found l) k

  module _ (h : is_form (form_of m p) ≡ true) where
    fits : (eqb (tags_of (form_of m p)) m ≡ true) × (has_phase (form_of m p) p ≡ true)
    unfolding form_of row_fits
    fits = and-true (eqb (tags_of (form_of m p)) m) (has_phase (form_of m p) p) (found form_table h)

    -- fields of a form have its tags
    pub form-tags : m ≡ tags_of (form_of m p)
    form-tags = sym (eqb-true (tags_of (form_of m p)) m fits.0)

    form-phase : has_phase (form_of m p) p ≡ true
    form-phase = fits.1

-- the phase of a request form; 0 for a reply form
abbrev pub phase_of : Form → ℕ
phase_of NoForm = 0
phase_of (Request x) = (request_row x).0
phase_of (Reply x) = 0

own-phase : (x : Form) (p : ℕ) → is_request_form x ≡ true → has_phase x p ≡ true → p ≡ phase_of x
own-phase NoForm p k e = never k
own-phase (Request x) p k e = sym (eqb-true (request_row x).0 p e)
own-phase (Reply x) p k e = never k

request-tags-lt : (x : RequestForm) → (request_row x).1 < 2 ^ tag_count
request-tags-lt request.UploadOpening = omega arith
request-tags-lt request.DownloadOpening = omega arith
request-tags-lt request.UploadTransfer = omega arith
request-tags-lt request.DownloadTransfer = omega arith
request-tags-lt request.Receipt = omega arith
request-tags-lt request.Signing = omega arith
request-tags-lt request.ChosenOpening = omega arith

reply-tags-lt : (x : ReplyForm) → reply_row x < 2 ^ tag_count
reply-tags-lt reply.UploadOpened = omega arith
reply-tags-lt reply.DownloadOpened = omega arith
reply-tags-lt reply.SegmentTaken = omega arith
reply-tags-lt reply.DownloadSegment = omega arith
reply-tags-lt reply.ReceiptAnswered = omega arith
reply-tags-lt reply.Unreadable = omega arith
reply-tags-lt reply.Refusal = omega arith

tags-lt : (x : Form) → tags_of x < 2 ^ tag_count
tags-lt NoForm = omega arith
tags-lt (Request x) = request-tags-lt x
tags-lt (Reply x) = reply-tags-lt x

module _ (m p : ℕ) (h : is_form (form_of m p) ≡ true) where
  pub form-tags-lt : m < 2 ^ tag_count
  form-tags-lt = omega (arith, form-tags m p h, tags-lt (form_of m p))

  -- fields of a request form have its phase
  pub request-phase : is_request_form (form_of m p) ≡ true → p ≡ phase_of (form_of m p)
  request-phase k = own-phase (form_of m p) p k (form-phase m p h)

-- ---- what every request has

request-row-has : (x : RequestForm)
    → (has (request_row x).1 phase_tag ≡ true) × (has (request_row x).1 subscriber_tag ≡ true) ×
    (has (request_row x).1 exchange_tag ≡ true)
request-row-has request.UploadOpening = (refl, refl, refl)
request-row-has request.DownloadOpening = (refl, refl, refl)
request-row-has request.UploadTransfer = (refl, refl, refl)
request-row-has request.DownloadTransfer = (refl, refl, refl)
request-row-has request.Receipt = (refl, refl, refl)
request-row-has request.Signing = (refl, refl, refl)
request-row-has request.ChosenOpening = (refl, refl, refl)

-- a phase, a subscriber and an exchange number
pub request-has : (x : Form) → is_request_form x ≡ true
    → (has (tags_of x) phase_tag ≡ true) × (has (tags_of x) subscriber_tag ≡ true) × (has (tags_of x) exchange_tag ≡ true)
request-has NoForm h = never h
request-has (Request x) h = request-row-has x
request-has (Reply x) h = never h

-- ---- request forms and reply forms

pub request-not-reply : (x : Form) → is_request_form x ≡ true → is_reply_form x ≡ false
request-not-reply NoForm h = refl
request-not-reply (Request x) h = refl
request-not-reply (Reply x) h = never h

pub reply-not-request : (x : Form) → is_reply_form x ≡ true → is_request_form x ≡ false
reply-not-request NoForm h = refl
reply-not-request (Request x) h = never h
reply-not-request (Reply x) h = refl

pub request-form : (x : Form) → is_request_form x ≡ true → is_form x ≡ true
request-form x h = rw h

pub reply-form : (x : Form) → is_reply_form x ≡ true → is_form x ≡ true
reply-form x h = rw (reply-not-request x h, h)
