-- The offset is exact on both sides of zero, and of two times up to the last one none wraps. Assumes nothing.
use Prim.Native.Nat.{ℕ, zero, suc, ◌+◌, ◌≤◌}
use mathlib.Core.Bool.{Bool, true, false}
use mathlib.Core.List.{List, [], ◌∷◌}
use mathlib.Core.Path.{◌≡◌, refl, sym, ap, ◌∙◌}
use native.Mathlib.Omega.{arith}
use lib.Dec.{ltb}
use lib.IntN.{pos, negsuc}
use lib.ListN.{length}
use mir.Syntax.{w64}
use mir.Val.{SFits}
use borrow.Author.Tests.{lt-ltb, le-ltb}
use Rattle.octets.specs.Bytes.{Bytes}
use Rattle.octets.proofs.Tests.{never, and-true}
use Rattle.frame_table.specs.declared.fields.Fields.{Fields}
use Rattle.frame_table.specs.declared.table.Form.{Form}
use Rattle.frame_table.specs.declared.table.Form.TheVariants as form
use Rattle.frame_table.specs.declared.table.RequestForm.{RequestForm}
use Rattle.frame_table.specs.declared.table.RequestForm.TheVariants as request
use Rattle.frame_table.specs.Table.{timestamp_tag, last_time, has, tags_of, is_request_form}
use Rattle.frame_table.proofs.Forms.{form-tags, request-form}
use Rattle.frame_table.specs.Names as names
use Rattle.frame_reader.specs.Reader.{read_request}
use Rattle.frame.proofs.Theorems.{request-time}
use Rattle.print.specs.Text.{ascii, digits_in, digit_count_to, digit_count, decimal, hyphen, signed_decimal}
use Rattle.print.proofs.Signed.{signed-most}
use Rattle.print.proofs.Texts.{cond-most}
use Rattle.marker_column.specs.Offset.{offset_of, opens, is_opening, shows_offset, Timed, request_offset, offset_room}

-- ---- "timestamp minus clock", on both sides of zero

-- a timestamp n milliseconds ahead of the clock
pub offset-ahead : (clock n : ℕ) → offset_of (clock + n) clock ≡ pos n
offset-ahead zero n = ap pos (omega arith)
offset-ahead (suc c) n = rw (le-ltb (suc c + n) (suc c) (omega arith)) (ap pos (omega arith))

-- and one n + 1 milliseconds behind it
pub offset-behind : (timestamp n : ℕ) → offset_of timestamp (timestamp + suc n) ≡ negsuc n
offset-behind t n =
    let e : t + suc n ≡ suc (t + n) = omega arith in
    rw (e, lt-ltb t (suc (t + n)) (omega arith)) (ap negsuc (omega arith))

-- as printed, at document 01's clock with a timestamp behind it, ahead of it and on it
pub offset-printed : (signed_decimal (offset_of 700000 1000000) ≡ ascii "-300000")
    × (signed_decimal (offset_of 1300000 1000000) ≡ ascii "300000")
    × (signed_decimal (offset_of 1000000 1000000) ≡ ascii "0")
unfolding signed_decimal decimal digits_in digit_count digit_count_to
offset-printed = (refl, refl, refl)

-- no difference wraps
fits_by : (b : Bool) (t c : ℕ) → ltb t (suc c) ≡ b → t ≤ last_time → suc c ≤ last_time → SFits w64 (offset_of t (suc c))
fits_by true t c e h k = rw e (record { sfits = omega arith })
fits_by false t c e h k = rw e (record { sfits = omega arith })

pub offset-fits : (timestamp clock : ℕ) → timestamp ≤ last_time → clock ≤ last_time → SFits w64 (offset_of timestamp clock)
offset-fits t zero h k = record { sfits = omega arith }
offset-fits t (suc c) h k = fits_by (ltb t (suc c)) t c refl h k

-- ---- the column

-- an opening form is a request form, and has a timestamp
opening-timed : (x : Form) → is_opening x ≡ true → (is_request_form x ≡ true) × (has (tags_of x) timestamp_tag ≡ true)
opening-timed form.NoForm h = never h
opening-timed (form.Request request.UploadOpening) h = (refl, refl)
opening-timed (form.Request request.DownloadOpening) h = (refl, refl)
opening-timed (form.Request request.UploadTransfer) h = never h
opening-timed (form.Request request.DownloadTransfer) h = never h
opening-timed (form.Request request.Receipt) h = never h
opening-timed (form.Request request.Signing) h = (refl, refl)
opening-timed (form.Request request.ChosenOpening) h = (refl, refl)
opening-timed (form.Reply x) h = never h

-- and a request form that has one is an opening form: the offset of each is shown
pub timed-opens : (x : RequestForm) → has (tags_of (form.Request x)) timestamp_tag ≡ true → opens x ≡ true
timed-opens request.UploadOpening h = refl
timed-opens request.DownloadOpening h = refl
timed-opens request.UploadTransfer h = never h
timed-opens request.DownloadTransfer h = never h
timed-opens request.Receipt h = never h
timed-opens request.Signing h = refl
timed-opens request.ChosenOpening h = refl

-- what the code finds: the request's form, and whether its offset is shown
module _ (answered : Bool) (clock : ℕ) (q : Fields) {x : Form} {shown : Bool}
    (formed : x ≡ names.form q) (tested : shown ≡ shows_offset answered x) where
  at-form : shown ≡ shows_offset answered (names.form q)
  at-form = tested ∙ rw formed

  pub offset-hidden : shown ≡ false → hyphen ∷ [] ≡ request_offset answered q clock
  unfolding request_offset
  offset-hidden h = rw (sym at-form ∙ h)

  pub offset-shown : shown ≡ true → {t : ℕ} → t ≡ names.timestamp q
      → signed_decimal (offset_of t clock) ≡ request_offset answered q clock
  unfolding request_offset
  offset-shown h e = rw (sym at-form ∙ h, e)

-- a timestamp that is shown is at most the last time
pub shown-time : (answered : Bool) (q : Fields) {x : Form} {shown : Bool} → x ≡ names.form q → shown ≡ shows_offset answered x
    → shown ≡ true → Timed q → names.timestamp q ≤ last_time
shown-time answered q formed tested h t =
    t (and-true answered (is_opening (names.form q)) (ap (shows_offset answered) (sym formed) ∙ sym tested ∙ h)).1

-- the timestamp of an opening that is read is at most the last time
pub read-timed : (frame : List ℕ) → Bytes frame → {q : Fields} → q ≡ read_request frame → Timed q
read-timed frame b {q = q} read h =
    let r = read_request frame in
    let k = opening-timed (names.form r) (sym (ap (λ (f : Fields). is_opening (names.form f)) read) ∙ h) in
    let tags = form-tags r.tags (names.phase r) (request-form (names.form r) k.0) in
    rw read (request-time frame b k.0 (ap (λ (n : ℕ). has n timestamp_tag) tags ∙ k.1))

pub offset-most : (answered : Bool) (q : Fields) (clock : ℕ) → length (request_offset answered q clock) ≤ offset_room
unfolding request_offset
offset-most answered q clock =
    cond-most (shows_offset answered (names.form q)) _ (hyphen ∷ []) offset_room
    (signed-most (offset_of (names.timestamp q) clock)) (omega arith)
