-- The results on frames: the round trip both ways, forms that exclude each other, and lengths. Assumes nothing.
use Rattle.std.specs.Prelude.{Ok}
use Prim.Native.Nat.{ℕ, ◌≤◌, ◌<◌}
use mathlib.Core.List.{List, [], ◌∷◌}
use mathlib.Core.Bool.{Bool, true, false, cond}
use mathlib.Core.Path.{◌≡◌, refl, sym, ap, ◌∙◌, subst}
use native.Mathlib.Nat.{zero-add}
use native.Mathlib.Omega.{arith}
use lib.ListN.{length, take, replicate, get_or-replicate}
use Rattle.frame_table.specs.declared.fields.Fields.{Fields}
use Rattle.frame_table.specs.declared.table.Form.{Form}
use Rattle.frame_table.specs.declared.table.Form.TheVariants.{NoForm}
use Rattle.frame_table.specs.Forms as forms
use Rattle.octets.specs.Bytes.{Bytes, number_from, number, bytes_of, field_bytes}
use Rattle.frame_table.specs.Table.{
  tag_count,
  phase_tag,
  subscriber_tag,
  exchange_tag,
  timestamp_tag,
  last_time,
  uzhnn,
  h003,
  segments_tag,
  transaction_tag,
  segment_tag,
  last_mark_tag,
  data_tag,
  return_code_tag,
  order_attribute_tag,
  version_tag,
  width,
  values_of,
  in_range,
  allowed,
  has,
  row_fits,
  find_form,
  form_of,
  is_request_form,
  is_reply_form,
  is_form,
}
use Rattle.frame_table.specs.Names.{form, with, timestamp, order_attribute, version}
use Rattle.frame_row.specs.Row.{spelled, listed, well_formed, data_of, high_of, low_of, piece, join}
use Rattle.frame_reader.specs.Reader.{parse, read_as, read_request, read_reply}
use Rattle.frame_table.specs.Names.{no_fields}
use Rattle.frame_writer.specs.Writer.{
  content_of,
  contents_of,
  frame_of,
  form_length,
  data_whole,
  field_writable,
  fields_writable,
  writable,
  write_answer,
  write_buffer,
  upload_opening_length,
  download_opening_length,
  signing_length,
  signed_length,
  chosen_opening_length,
  chosen_opened_length,
  request_room,
  reply_room,
  smallest_reply,
  segment_bytes,
}
use Rattle.octets.proofs.Tests.{never}
use Rattle.frame_table.proofs.Forms.{request-not-reply, reply-not-request, request-form, reply-form}
use Rattle.frame_writer.proofs.Loops.{field-writable}
use Rattle.frame.proofs.RoundTrip.{Sized, parse-frame_of, data_of-frame_of, frame_of-parse, writable-parse, writable-at}
use Rattle.frame.proofs.Lengths.{
  writable-parts,
  form-length,
  length-limit,
  length-least,
  opening-length,
  download-length,
  signing-size,
  signed-size,
  chosen-opening-size,
  chosen-opened-size,
}
use Rattle.frame_writer.proofs.Written.{written-front}
use Rattle.frame.proofs.Parsed.{number_of, Halves, InRow, field-in-row, read-halves, in-row, read-data}

-- ---- what is written is read as the same fields and data

module _ (f : Fields) (d : List ℕ) (long : Sized f) (h : writable f d ≡ true) where
  pub written-parsed : parse (frame_of f d) ≡ f
  written-parsed = parse-frame_of f d long h

  pub written-data : data_of (frame_of f d) ≡ d
  written-data = data_of-frame_of f d long h

  -- one argument for requests and replies: k tells the forms read
  written_as : (k : Form → Bool) → read_as k (frame_of f d) ≡ cond (k (form f)) f no_fields
  written_as k = rw written-parsed

  pub written-request : is_request_form (form f) ≡ true → read_request (frame_of f d) ≡ f
  unfolding read_request
  written-request k = written_as is_request_form ∙ rw k

  pub written-reply : is_reply_form (form f) ≡ true → read_reply (frame_of f d) ≡ f
  unfolding read_reply
  written-reply k = written_as is_reply_form ∙ rw k

  -- read as a reply, no fields where it is of no reply form
  pub written-as-reply : read_reply (frame_of f d) ≡ cond (is_reply_form (form f)) f no_fields
  unfolding read_reply
  written-as-reply = written_as is_reply_form

-- the same from the front of the buffer, where the writer answered a length
module _ (f : Fields) (d old : List ℕ) (n : ℕ) (long : Sized f) (h : write_answer f d old ≡ Ok n) where
  pub data-read : data_of (take n (write_buffer f d old)) ≡ d
  data-read = let w = written-front f d old n h in ap data_of w.1 ∙ written-data f d long w.0

  pub request-read : is_request_form (form f) ≡ true → read_request (take n (write_buffer f d old)) ≡ f
  request-read k = let w = written-front f d old n h in ap read_request w.1 ∙ written-request f d long w.0 k

  pub reply-read : is_reply_form (form f) ≡ true → read_reply (take n (write_buffer f d old)) ≡ f
  reply-read k = let w = written-front f d old n h in ap read_reply w.1 ∙ written-reply f d long w.0 k

-- ---- what is read is written as the same bytes, and the writer accepts it; its numbers are in their widths

no_fields-halves : (t : ℕ) → t < tag_count → Halves t no_fields
no_fields-halves t m = rw (get_or-replicate {A = ℕ} tag_count t 0 0 m) (omega arith, omega arith)

-- one argument for requests and replies: k tells the forms read
module _ (k : Form → Bool) (none : k NoForm ≡ false) (known : (x : Form) → k x ≡ true → is_form x ≡ true)
    (s : List ℕ) where
  taken_at : (b : Bool) → k (form (parse s)) ≡ b → k (form (cond b (parse s) no_fields)) ≡ true
      → (cond b (parse s) no_fields ≡ parse s) × (k (form (parse s)) ≡ true)
  unfolding form_of find_form row_fits
  taken_at true e h = (refl, e)
  taken_at false e h = never (sym none ∙ h)

  as-parsed : k (form (read_as k s)) ≡ true → (read_as k s ≡ parse s) × (k (form (parse s)) ≡ true)
  as-parsed = taken_at (k (form (parse s))) refl

  as-data : k (form (read_as k s)) ≡ true → has (read_as k s).tags data_tag ≡ true → 1 ≤ length (data_of s)
  as-data h =
      let r = as-parsed h in
      subst (λ (f : Fields). has f.tags data_tag ≡ true → 1 ≤ length (data_of s)) (sym r.0)
      (read-data s (known _ r.1))

  module _ (b : Bytes s) where
    halves-at : (t : ℕ) → t < tag_count → (x : Bool) → k (form (parse s)) ≡ x → Halves t (cond x (parse s) no_fields)
    halves-at t m true e = read-halves s b (known _ e) t m
    halves-at t m false e = no_fields-halves t m

    as-halves : (t : ℕ) → t < tag_count → Halves t (read_as k s)
    as-halves t m = halves-at t m (k (form (parse s))) refl

    module _ (h : k (form (read_as k s)) ≡ true) where
      as_written : frame_of (read_as k s) (data_of s) ≡ s
      as_written = let r = as-parsed h in rw r.0 (frame_of-parse s (known _ r.1) b)

      as-writable : writable (read_as k s) (data_of s) ≡ true
      as-writable = let r = as-parsed h in rw r.0 (writable-parse s (known _ r.1) b)

      as_number : (t : ℕ) → t < tag_count → (t ≡ data_tag → ⊥) → has (read_as k s).tags t ≡ true
          → InRow t (number_of t (read_as k s))
      as_number t m n =
          let r = as-parsed h in
          subst (λ (f : Fields). has f.tags t ≡ true → InRow t (number_of t f)) (sym r.0)
          (λ e. in-row s b (known _ r.1) t m n e)

module _ (s : List ℕ) where
  -- a request or a reply that was read is what the frame says
  pub request-parsed : is_request_form (form (read_request s)) ≡ true
      → (read_request s ≡ parse s) × (is_request_form (form (parse s)) ≡ true)
  unfolding read_request
  request-parsed = as-parsed is_request_form refl request-form s

  pub reply-parsed : is_reply_form (form (read_reply s)) ≡ true
      → (read_reply s ≡ parse s) × (is_reply_form (form (parse s)) ≡ true)
  unfolding read_reply
  reply-parsed = as-parsed is_reply_form refl reply-form s

  -- data that stand have some bytes
  pub request-data : is_request_form (form (read_request s)) ≡ true → has (read_request s).tags data_tag ≡ true
      → 1 ≤ length (data_of s)
  unfolding read_request
  request-data = as-data is_request_form refl request-form s

  pub reply-data : is_reply_form (form (read_reply s)) ≡ true → has (read_reply s).tags data_tag ≡ true
      → 1 ≤ length (data_of s)
  unfolding read_reply
  reply-data = as-data is_reply_form refl reply-form s

  module _ (b : Bytes s) where
    -- both halves of a number have 64 bits
    pub request-halves : (t : ℕ) → t < tag_count → Halves t (read_request s)
    unfolding read_request
    request-halves = as-halves is_request_form refl request-form s b

    pub reply-halves : (t : ℕ) → t < tag_count → Halves t (read_reply s)
    unfolding read_reply
    reply-halves = as-halves is_reply_form refl reply-form s b

    module _ (h : is_request_form (form (read_request s)) ≡ true) where
      pub request-written : frame_of (read_request s) (data_of s) ≡ s
      unfolding read_request
      request-written = as_written is_request_form refl request-form s b h

      pub request-writable : writable (read_request s) (data_of s) ≡ true
      unfolding read_request
      request-writable = as-writable is_request_form refl request-form s b h

      -- a number is in the width and the range that the table says
      pub request-number : (t : ℕ) → t < tag_count → (t ≡ data_tag → ⊥) → has (read_request s).tags t ≡ true
          → InRow t (number_of t (read_request s))
      unfolding read_request
      request-number = as_number is_request_form refl request-form s b h

      -- card 3, "Values over 253,402,300,799,999 in a frame get 091010": a timestamp that is read is not over it
      pub request-time : has (read_request s).tags timestamp_tag ≡ true → timestamp (read_request s) ≤ last_time
      unfolding width values_of
      request-time e =
          let n = ((request-number timestamp_tag (omega arith) (λ z. omega arith) e).within 0 last_time refl).1 in
          omega arith

      -- reading 8.1, "An attribute other than UZHNN is a value outside its list: 091010": one that is read is UZHNN
      pub request-attribute : has (read_request s).tags order_attribute_tag ≡ true → order_attribute (read_request s) ≡ uzhnn
      unfolding width values_of
      request-attribute e =
          let n = (request-number order_attribute_tag (omega arith) (λ z. omega arith) e).within uzhnn uzhnn refl in
          omega arith

      -- reading 11.1, "another value than H003 is 091010": a protocol version that is read is H003
      pub request-version : has (read_request s).tags version_tag ≡ true → version (read_request s) ≡ h003
      unfolding width values_of
      request-version e =
          let n = (request-number version_tag (omega arith) (λ z. omega arith) e).within h003 h003 refl in
          omega arith

    module _ (h : is_reply_form (form (read_reply s)) ≡ true) where
      pub reply-written : frame_of (read_reply s) (data_of s) ≡ s
      unfolding read_reply
      reply-written = as_written is_reply_form refl reply-form s b h

      pub reply-writable : writable (read_reply s) (data_of s) ≡ true
      unfolding read_reply
      reply-writable = as-writable is_reply_form refl reply-form s b h

      pub reply-number : (t : ℕ) → t < tag_count → (t ≡ data_tag → ⊥) → has (read_reply s).tags t ≡ true
          → InRow t (number_of t (read_reply s))
      unfolding read_reply
      reply-number = as_number is_reply_form refl reply-form s b h

-- the writer accepts a number only in the width and the range that the table says: else it gives number 1
pub written-number : (f : Fields) (d : List ℕ) → writable f d ≡ true → (t : ℕ) → t < tag_count → (t ≡ data_tag → ⊥)
    → has f.tags t ≡ true → InRow t (number_of t f)
written-number f d h t m n e =
    let w = rw zero-add at (writable-at f d tag_count 0 t (writable-parts f d h).1 m).0 in
    field-in-row t f d (field-writable t f d w) e n

-- and so no timestamp over the last time
pub written-time : (f : Fields) (d : List ℕ) → writable f d ≡ true → has f.tags timestamp_tag ≡ true
    → timestamp f ≤ last_time
unfolding width values_of
written-time f d h e =
    let n = ((written-number f d h timestamp_tag (omega arith) (λ z. omega arith) e).within 0 last_time refl).1 in
    omega arith

-- nor another attribute
pub written-attribute : (f : Fields) (d : List ℕ) → writable f d ≡ true → has f.tags order_attribute_tag ≡ true
    → number_of order_attribute_tag f ≡ uzhnn
unfolding width values_of
written-attribute f d h e =
    let n = (written-number f d h order_attribute_tag (omega arith) (λ z. omega arith) e).within uzhnn uzhnn refl in
    omega arith

-- nor another protocol version
pub written-version : (f : Fields) (d : List ℕ) → writable f d ≡ true → has f.tags version_tag ≡ true
    → number_of version_tag f ≡ h003
unfolding width values_of
written-version f d h e =
    let n = (written-number f d h version_tag (omega arith) (λ z. omega arith) e).within h003 h003 refl in
    omega arith

-- ---- request forms and reply forms cannot be taken for each other

pub request-form-excludes : (x : Form) → is_request_form x ≡ true → is_reply_form x ≡ false
request-form-excludes = request-not-reply

pub request-excludes-reply : (s : List ℕ) → is_request_form (form (read_request s)) ≡ true → read_reply s ≡ no_fields
unfolding read_reply
request-excludes-reply s h = rw (request-not-reply (form (parse s)) (request-parsed s h).1)

pub reply-excludes-request : (s : List ℕ) → is_reply_form (form (read_reply s)) ≡ true → read_request s ≡ no_fields
unfolding read_request
reply-excludes-request s h = rw (reply-not-request (form (parse s)) (reply-parsed s h).1)

-- ---- "Frame lengths: upload opening" 57, "largest request 303, largest reply 312"; of card 8, signing 72, its reply 20;
-- of card 11, an opening that brings its order number 71, its reply 39

module _ (f : Fields) (d : List ℕ) (h : writable f d ≡ true) where
  -- a frame is as long as the tables say of its form
  pub frame-length : length (frame_of f d) ≡ form_length (form f) (length d)
  frame-length = form-length f d h

  pub upload-opening-length : form f ≡ forms.UploadOpening → length (frame_of f d) ≡ upload_opening_length
  upload-opening-length = opening-length f d h

  pub download-opening-length : form f ≡ forms.DownloadOpening → length (frame_of f d) ≡ download_opening_length
  download-opening-length = download-length f d h

  pub signing-length : form f ≡ forms.Signing → length (frame_of f d) ≡ signing_length
  signing-length = signing-size f d h

  -- a signing is answered by a frame of the form of refusals, with 000000 too
  pub signed-length : form f ≡ forms.Refusal → length (frame_of f d) ≡ signed_length
  signed-length = signed-size f d h

  pub chosen-opening-length : form f ≡ forms.ChosenOpening → length (frame_of f d) ≡ chosen_opening_length
  chosen-opening-length = chosen-opening-size f d h

  -- it is answered by a frame of the form of answered receipts, as the reply leaves 0E out
  pub chosen-opened-length : form f ≡ forms.ReceiptAnswered → length (frame_of f d) ≡ chosen_opened_length
  chosen-opened-length = chosen-opened-size f d h

  pub request-length : is_request_form (form f) ≡ true → length d ≤ segment_bytes → length (frame_of f d) ≤ request_room
  request-length k n = rw k at (length-limit f d h n)

  pub reply-length : is_reply_form (form f) ≡ true → length d ≤ segment_bytes → length (frame_of f d) ≤ reply_room
  reply-length k n = rw (reply-not-request (form f) k) at (length-limit f d h n)

  pub reply-least : is_reply_form (form f) ≡ true → smallest_reply ≤ length (frame_of f d)
  reply-least = length-least f d h

-- a whole segment of zeros
unfoldable pub segment_data : List ℕ
segment_data = replicate segment_bytes 0

-- an upload transfer, and a download opened, with a whole segment
unfoldable pub segment_request : Fields
segment_request =
    with data_tag 0 (with last_mark_tag 1 (with segment_tag 1 (with transaction_tag 0
    (with exchange_tag 0 (with subscriber_tag 1 (with phase_tag 2 no_fields))))))

unfoldable pub segment_reply : Fields
segment_reply =
    with return_code_tag (number (48 ∷ 48 ∷ 48 ∷ 48 ∷ 48 ∷ 48 ∷ []))
    (with data_tag 0 (with last_mark_tag 1 (with segment_tag 1 (with transaction_tag 0
    (with segments_tag 1 (with exchange_tag 0 (with phase_tag 1 no_fields)))))))

-- a frame of the forms k is written with a whole segment, and has n bytes
abbrev pub Reached : (Form → Bool) → Fields → ℕ → Type 0
Reached k f n = (writable f segment_data ≡ true) × (k (form f) ≡ true) × (length (frame_of f segment_data) ≡ n)

-- both limits are reached
pub largest-reached : Reached is_request_form segment_request request_room × Reached is_reply_form segment_reply reply_room
unfolding segment_data segment_request segment_reply writable fields_writable field_writable content_of contents_of frame_of data_whole
    well_formed listed spelled allowed in_range width values_of high_of low_of number number_from bytes_of field_bytes piece
    join form_of find_form row_fits
largest-reached = ((refl, refl, refl), (refl, refl, refl))
