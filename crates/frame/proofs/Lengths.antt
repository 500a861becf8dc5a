-- How long the frames of a form are. Assumes nothing.
use Prim.Native.Nat.{ℕ, zero, suc, ◌+◌, ◌≤◌}
use mathlib.Core.List.{List}
use mathlib.Core.Bool.{Bool, true, false, cond, ◌&&◌}
use mathlib.Core.Path.{◌≡◌, refl, ap, ◌∙◌}
use native.Mathlib.Omega.{arith}
use lib.ListN.{length, length-append}
use borrow.Author.Tests.{eqb-false}
use lib.Dec.{eqb, leb}
use Rattle.frame_table.specs.declared.fields.Fields.{Fields}
use Rattle.frame_table.specs.declared.table.Form.{Form}
use Rattle.frame_table.specs.declared.table.Form.TheVariants.{NoForm, Request, Reply}
use Rattle.frame_table.specs.declared.table.RequestForm.{RequestForm}
use Rattle.frame_table.specs.declared.table.RequestForm.TheVariants as request
use Rattle.frame_table.specs.declared.table.ReplyForm.{ReplyForm}
use Rattle.frame_table.specs.declared.table.ReplyForm.TheVariants as reply
use Rattle.frame_table.specs.Forms as forms
use Rattle.frame_table.specs.Table.{
  tag_count,
  frame_limit,
  data_tag,
  width,
  has,
  tags_of,
  is_request_form,
  is_reply_form,
  is_form,
}
use Rattle.frame_table.specs.Names.{phase, form}
use Rattle.frame_row.specs.Row.{piece, join}
use Rattle.frame_writer.specs.Writer.{
  content_of,
  contents_of,
  frame_of,
  length_from,
  frame_length,
  form_length,
  field_writable,
  fields_writable,
  writable,
  upload_opening_length,
  download_opening_length,
  signing_length,
  signed_length,
  chosen_opening_length,
  chosen_opened_length,
  request_room,
  reply_room,
  smallest_reply,
  segment_bytes,
}
use Rattle.octets.proofs.Tests.{never, and-true}
use Rattle.octets.proofs.Numbers.{length-bytes_of, length-field_bytes}
use Rattle.frame_table.proofs.Forms.{form-tags}
use Rattle.frame_row.proofs.Contents.{well-formed, piece-none, piece-some}
use Rattle.frame_writer.proofs.Loops.{FieldWritable, field-writable, content-absent, content-number}

-- ---- the length by the table

module _ (f : Fields) (d : List ℕ) where
  content-length : (t : ℕ) (b : Bool) → eqb t data_tag ≡ b → has f.tags t ≡ true → length (content_of t f d) ≡ cond b (length d) (width t)
  unfolding content_of
  content-length t true q e = rw (e, q)
  content-length t false q e = ap length (content-number t f d e (eqb-false t data_tag q)) ∙ length-bytes_of (width t) _

  piece-length : (t : ℕ) (b : Bool) → has f.tags t ≡ b → FieldWritable t f d
      → length (piece t (content_of t f d)) ≡ cond b (3 + cond (eqb t data_tag) (length d) (width t)) 0
  piece-length t true e g =
      let c : List ℕ = content_of t f d in
      let k = (well-formed t c (g.fit e)).some in
      ap length (piece-some t c (λ z. omega arith)) ∙ length-field_bytes t c
      ∙ ap (λ (n : ℕ). 3 + n) (content-length t (eqb t data_tag) refl e)
  piece-length t false e g = ap length (piece-none t (content_of t f d) (ap length (content-absent t f d e)))

  pub length-join : (k t : ℕ) → fields_writable k t f d ≡ true → length (join t (contents_of k t f d)) ≡ length_from k t f.tags (length d)
  unfolding fields_writable contents_of join length_from
  length-join zero t h = refl
  length-join (suc k) t h =
      let a = and-true (field_writable t f d) (fields_writable k (t + 1) f d) h in
      let p = piece-length t (has f.tags t) refl (field-writable t f d a.0) in
      length-append (piece t (content_of t f d)) (join (t + 1) (contents_of k (t + 1) f d)) ∙ rw (p, length-join k (t + 1) a.1)

  module _ (h : writable f d ≡ true) where
    pub writable-parts : (is_form (form f) ≡ true) × (fields_writable tag_count 0 f d ≡ true)
    unfolding writable
    writable-parts =
        let a = and-true (is_form (form f) && fields_writable tag_count 0 f d) (leb (length (frame_of f d)) frame_limit) h in
        and-true (is_form (form f)) (fields_writable tag_count 0 f d) a.0

    -- a writable frame is as long as the table says
    pub length-frame_of : length (frame_of f d) ≡ frame_length f.tags (length d)
    unfolding frame_of frame_length
    length-frame_of = length-join tag_count 0 writable-parts.1

-- ---- more data, no shorter frame

grow-at : (a b : Bool) (w n m x y : ℕ) → n ≤ m → x ≤ y → cond a (3 + cond b n w) 0 + x ≤ cond a (3 + cond b m w) 0 + y
grow-at true true w n m x y h k = omega arith
grow-at true false w n m x y h k = omega arith
grow-at false b w n m x y h k = omega arith

length_from-grows : (k t m n n' : ℕ) → n ≤ n' → length_from k t m n ≤ length_from k t m n'
unfolding length_from
length_from-grows zero t m n n' h = omega arith
length_from-grows (suc k) t m n n' h = grow-at (has m t) (eqb t data_tag) (width t) n n' _ _ h (length_from-grows k (t + 1) m n n' h)

frame_length-grows : (m n n' : ℕ) → n ≤ n' → frame_length m n ≤ frame_length m n'
unfolding frame_length
frame_length-grows m n n' h = length_from-grows tag_count 0 m n n' h

-- ---- the lengths that document 01 names, each computed from the tables

requests-fit : (x : RequestForm) → form_length (Request x) segment_bytes ≤ request_room
unfolding frame_length length_from width
requests-fit request.UploadOpening = omega arith
requests-fit request.DownloadOpening = omega arith
requests-fit request.UploadTransfer = omega arith
requests-fit request.DownloadTransfer = omega arith
requests-fit request.Receipt = omega arith
requests-fit request.Signing = omega arith
requests-fit request.ChosenOpening = omega arith

replies-fit : (x : ReplyForm) → form_length (Reply x) segment_bytes ≤ reply_room
unfolding frame_length length_from width
replies-fit reply.UploadOpened = omega arith
replies-fit reply.DownloadOpened = omega arith
replies-fit reply.SegmentTaken = omega arith
replies-fit reply.DownloadSegment = omega arith
replies-fit reply.ReceiptAnswered = omega arith
replies-fit reply.Unreadable = omega arith
replies-fit reply.Refusal = omega arith

abbrev limit : Form → ℕ
limit x = cond (is_request_form x) request_room reply_room

limit-most : (b : Bool) → cond b request_room reply_room ≤ frame_limit
limit-most true = omega arith
limit-most false = omega arith

in-limit : (x : Form) → is_form x ≡ true → form_length x segment_bytes ≤ limit x
in-limit NoForm h = never h
in-limit (Request x) h = requests-fit x
in-limit (Reply x) h = replies-fit x

-- with at most a whole segment, every form is within the limit of a frame
pub segment-fits : (x : Form) → is_form x ≡ true → (n : ℕ) → n ≤ segment_bytes → form_length x n ≤ frame_limit
segment-fits x h n k =
    omega (arith, frame_length-grows (tags_of x) n segment_bytes k, in-limit x h, limit-most (is_request_form x))

replies-least : (x : ReplyForm) (n : ℕ) → smallest_reply ≤ form_length (Reply x) n
unfolding frame_length length_from width
replies-least reply.UploadOpened n = omega arith
replies-least reply.DownloadOpened n = omega arith
replies-least reply.SegmentTaken n = omega arith
replies-least reply.DownloadSegment n = omega arith
replies-least reply.ReceiptAnswered n = omega arith
replies-least reply.Unreadable n = omega arith
replies-least reply.Refusal n = omega arith

least : (x : Form) (n : ℕ) → is_reply_form x ≡ true → smallest_reply ≤ form_length x n
least NoForm n h = never h
least (Request x) n h = never h
least (Reply x) n h = replies-least x n

opening-tags : (n : ℕ) → form_length forms.UploadOpening n ≡ upload_opening_length
unfolding frame_length length_from width
opening-tags n = refl

download-tags : (n : ℕ) → form_length forms.DownloadOpening n ≡ download_opening_length
unfolding frame_length length_from width
download-tags n = refl

signing-tags : (n : ℕ) → form_length forms.Signing n ≡ signing_length
unfolding frame_length length_from width
signing-tags n = refl

signed-tags : (n : ℕ) → form_length forms.Refusal n ≡ signed_length
unfolding frame_length length_from width
signed-tags n = refl

chosen-opening-tags : (n : ℕ) → form_length forms.ChosenOpening n ≡ chosen_opening_length
unfolding frame_length length_from width
chosen-opening-tags n = refl

chosen-opened-tags : (n : ℕ) → form_length forms.ReceiptAnswered n ≡ chosen_opened_length
unfolding frame_length length_from width
chosen-opened-tags n = refl

module _ (f : Fields) (d : List ℕ) (h : writable f d ≡ true) where
  -- a frame of a form is as long as the tables say of that form
  pub form-length : length (frame_of f d) ≡ form_length (form f) (length d)
  form-length =
      length-frame_of f d h ∙ ap (λ (m : ℕ). frame_length m (length d)) (form-tags f.tags (phase f) (writable-parts f d h).0)

  pub length-limit : length d ≤ segment_bytes → length (frame_of f d) ≤ limit (form f)
  length-limit k =
      omega (arith, form-length, frame_length-grows (tags_of (form f)) (length d) segment_bytes k, in-limit (form f) (writable-parts f d h).0)

  pub length-least : is_reply_form (form f) ≡ true → smallest_reply ≤ length (frame_of f d)
  length-least k = omega (arith, form-length, least (form f) (length d) k)

  pub opening-length : form f ≡ forms.UploadOpening → length (frame_of f d) ≡ upload_opening_length
  opening-length e = form-length ∙ ap (λ (x : Form). form_length x (length d)) e ∙ opening-tags (length d)

  pub download-length : form f ≡ forms.DownloadOpening → length (frame_of f d) ≡ download_opening_length
  download-length e = form-length ∙ ap (λ (x : Form). form_length x (length d)) e ∙ download-tags (length d)

  pub signing-size : form f ≡ forms.Signing → length (frame_of f d) ≡ signing_length
  signing-size e = form-length ∙ ap (λ (x : Form). form_length x (length d)) e ∙ signing-tags (length d)

  pub signed-size : form f ≡ forms.Refusal → length (frame_of f d) ≡ signed_length
  signed-size e = form-length ∙ ap (λ (x : Form). form_length x (length d)) e ∙ signed-tags (length d)

  pub chosen-opening-size : form f ≡ forms.ChosenOpening → length (frame_of f d) ≡ chosen_opening_length
  chosen-opening-size e =
      form-length ∙ ap (λ (x : Form). form_length x (length d)) e ∙ chosen-opening-tags (length d)

  pub chosen-opened-size : form f ≡ forms.ReceiptAnswered → length (frame_of f d) ≡ chosen_opened_length
  chosen-opened-size e = form-length ∙ ap (λ (x : Form). form_length x (length d)) e ∙ chosen-opened-tags (length d)
