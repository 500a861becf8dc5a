-- Fields set one by one, and what the writer accepts of them. Assumes nothing.
use Prim.Native.Nat.{ℕ, zero, suc, ◌+◌, ◌*◌, ◌/◌, ◌%◌, ◌^◌, ◌≤◌, ◌<◌}
use mathlib.Core.List.{List, []}
use mathlib.Core.Bool.{Bool, true, false, ◌||◌}
use mathlib.Core.Path.{◌≡◌, refl, sym, ap, ◌∙◌}
use native.Mathlib.Omega.{arith}
use lib.ListN.{length, get_or, set, length-set}
use lib.Seq.{get_or-set_same, get_or-set_other}
use lib.Arith.{digits_div, digits_mod, digits_lt}
use borrow.Author.Tests.{eqb-true, eqb-false, ne_eqb, eq-eqb, le-leb, lt-ltb, ltb-true, leb-true}
use lib.Dec.{eqb, ltb, leb}
use Rattle.frame_table.specs.declared.fields.Bits128.{Bits128}
use Rattle.frame_table.specs.declared.fields.Fields.{Fields}
use Rattle.frame_table.specs.declared.table.Values.{Values}
use Rattle.frame_table.specs.declared.table.Values.TheVariants.{Any, Range}
use Rattle.octets.specs.Bytes.{number, number_from, bytes_of}
use Rattle.frame_table.specs.Table.{
  tag_count,
  frame_limit,
  data_tag,
  width,
  values_of,
  in_range,
  has,
  is_form,
}
use Rattle.frame_table.specs.Names.{phase, form, with_tag, with_wide, with}
use Rattle.frame_row.specs.Row.{listed, well_formed, high_of, low_of, join}
use Rattle.frame_table.specs.Names.{no_fields}
use Rattle.frame_writer.specs.Writer.{
  content_of,
  contents_of,
  frame_of,
  length_from,
  frame_length,
  form_length,
  data_whole,
  field_writable,
  fields_writable,
  writable,
}
use Rattle.octets.proofs.Tests.{and-true, every-below, or-true}
use Rattle.octets.proofs.Numbers.{length-bytes_of, number-bytes_of}
use Rattle.frame_table.proofs.Tags.{has-with_tag, with_tag-other}
use Rattle.frame_table.proofs.Forms.{form-tags}
use Rattle.frame_table.proofs.Values.{width_narrow}
use Rattle.frame_row.proofs.Contents.{listed-as}
use Rattle.frame.proofs.RoundTrip.{Sized}
use Rattle.frame.proofs.Lengths.{length-join}

-- ---- contents in the value list of a tag

-- every content is, where any bytes are
pub listed-any : (t : ℕ) (c : List ℕ) → values_of t ≡ Any → listed t c ≡ true
listed-any t c e = listed-as t c Any e

module _ (t least greatest v : ℕ) (e : values_of t ≡ Range least greatest) (fit : v < 256 ^ width t) where
  range-is : listed t (bytes_of (width t) v) ≡ in_range least greatest v
  range-is = listed-as t (bytes_of (width t) v) (Range least greatest) e
      ∙ ap (in_range least greatest) (number-bytes_of (width t) v fit)

  -- a number is, where it is in the range
  pub listed-range : least ≤ v → v ≤ greatest → listed t (bytes_of (width t) v) ≡ true
  unfolding in_range
  listed-range l m = range-is ∙ rw (le-leb least v l, le-leb v greatest m)

  -- and only there
  pub range_listed : listed t (bytes_of (width t) v) ≡ true → (least ≤ v) × (v ≤ greatest)
  unfolding in_range
  range_listed h =
      let a = and-true (leb least v) (leb v greatest) (sym range-is ∙ h) in
      (leb-true least v a.0, leb-true v greatest a.1)

-- ---- one field set

-- the number of a field
abbrev pub value_of : Bits128 → ℕ
value_of v = v.high * 2 ^ 64 + v.low

-- two numbers of 64 bits are one of 16 bytes
pub value-lt : (v : Bits128) → v.high < 2 ^ 64 → v.low < 2 ^ 64 → value_of v < 256 ^ 16
value-lt v a b = digits_lt a b

same-writable : (u : ℕ) (f g : Fields) (d : List ℕ) → f.tags / 2 ^ u % 2 ≡ g.tags / 2 ^ u % 2
    → get_or f.high u 0 ≡ get_or g.high u 0 → get_or f.low u 0 ≡ get_or g.low u 0 → field_writable u f d ≡ field_writable u g d
unfolding field_writable content_of
same-writable u f g d p q r = rw (p, q, r)

module _ (t : ℕ) (v : Bits128) (f : Fields) (d : List ℕ) (n : t < tag_count) (e : t ≡ data_tag → ⊥) (on : has f.tags t ≡ true)
    (hi : get_or f.high t 0 ≡ v.high) (lo : get_or f.low t 0 ≡ v.low) (small : v.low < 2 ^ 64)
    (fit : value_of v < 256 ^ width t) (list : listed t (bytes_of (width t) (value_of v)) ≡ true) where
  number-formed : well_formed t (bytes_of (width t) (value_of v)) ≡ true
  unfolding well_formed
  number-formed =
      let w = width_narrow t n e in
      let z : eqb (width t) 0 ≡ false = ne_eqb (width t) 0 (λ k. omega arith) in
      let k = le-leb (width t) frame_limit (omega arith) in
      rw (length-bytes_of (width t) (value_of v), k, z, eq-eqb (width t) (width t) refl) list

  number-writable : field_writable t f d ≡ true
  unfolding field_writable content_of high_of low_of data_whole
  number-writable =
      let x = number-bytes_of (width t) (value_of v) fit in
      let h = eq-eqb v.high v.high refl in
      let l = eq-eqb v.low v.low refl in
      rw (on, ne_eqb t data_tag e, hi, lo, x, digits_div v.high small, digits_mod v.high small, h, l) number-formed

-- each field of f but the data d can be written
pub record Fine (f : Fields) (d : List ℕ) : Type 0 where
  pub long : Sized f
  pub each : (u : ℕ) → u < tag_count → (u ≡ data_tag → ⊥) → field_writable u f d ≡ true

none_writable : List ℕ → ℕ → Bool
none_writable d u = eqb u data_tag || field_writable u no_fields d

pub fine-none : (d : List ℕ) → Fine no_fields d
unfolding none_writable field_writable content_of high_of low_of data_whole number number_from
fine-none d =
    record {
      long = (refl, refl);
      each = λ u m e.
          let h = every-below (none_writable d) tag_count refl u m in
          or-true (eqb u data_tag) (field_writable u no_fields d) (ne_eqb u data_tag e) h;
    }

module _ (t : ℕ) (v : Bits128) (f : Fields) (d : List ℕ) (a : Fine f d) (n : t < tag_count) where
  -- f with the field t
  abbrev set-field : Fields
  set-field = record { tags = with_tag t f.tags; high = set f.high t v.high; low = set f.low t v.low }

  set_is : with_wide t v f ≡ set-field
  set_is = rw (lt-ltb t tag_count n)

  other : (u : ℕ) (x : Bool) → eqb u t ≡ x → ((t ≡ data_tag → ⊥) → field_writable t set-field d ≡ true) → u < tag_count → (u ≡ data_tag → ⊥)
      → field_writable u set-field d ≡ true
  other u true p own m e =
      let z = eqb-true u t p in
      ap (λ (w : ℕ). field_writable w set-field d) z ∙ own (λ w. e (z ∙ w))
  other u false p own m e =
      let z = eqb-false u t p in
      let hi = get_or-set_other f.high t u v.high 0 z in
      let lo = get_or-set_other f.low t u v.low 0 z in
      same-writable u set-field f d (with_tag-other t f.tags u z) hi lo ∙ a.each u m e

  fine-set : ((t ≡ data_tag → ⊥) → field_writable t set-field d ≡ true) → Fine (with_wide t v f) d
  fine-set own =
      rw set_is (record {
        long = (length-set f.high t v.high ∙ a.long.0, length-set f.low t v.low ∙ a.long.1);
        each = λ u m e. other u (eqb u t) refl own m e;
      })

  -- one more field, of a number in its width and its list
  pub fine-wide : v.low < 2 ^ 64 → value_of v < 256 ^ width t → listed t (bytes_of (width t) (value_of v)) ≡ true → Fine (with_wide t v f) d
  fine-wide small fit list =
      let hi = get_or-set_same f.high t v.high 0 (omega (arith, a.long)) in
      let lo = get_or-set_same f.low t v.low 0 (omega (arith, a.long)) in
      fine-set (λ e. number-writable t v set-field d n e (has-with_tag t f.tags) hi lo small fit list)

-- the same of a number of at most 64 bits
pub fine-number : (t v : ℕ) (f : Fields) (d : List ℕ) → Fine f d → t < tag_count → v < 2 ^ 64 → v < 256 ^ width t
    → listed t (bytes_of (width t) v) ≡ true → Fine (with t v f) d
fine-number t v f d a n small fit list =
    let z : 0 * 2 ^ 64 + v ≡ v = omega arith in
    fine-wide t (record { high = 0; low = v }) f d a n small (rw z fit) (rw z list)

-- the table's row of the tag t: its width and its values
abbrev pub HasRow : ℕ → ℕ → Values → Type 0
HasRow t w x = (ltb t tag_count ≡ true) × (width t ≡ w) × (values_of t ≡ x)

module _ (f : Fields) (d : List ℕ) (a : Fine f d) where
  -- one more field, of any number in its width
  pub fine-any : (t w v : ℕ) → HasRow t w Any → v < 2 ^ 64 → v < 256 ^ w → Fine (with t v f) d
  fine-any t w v row small fit =
      fine-number t v f d a (ltb-true t tag_count row.0) small (rw row.1 fit)
      (listed-any t (bytes_of (width t) v) row.2)

  -- of any 16 bytes
  pub fine-bits : (t : ℕ) (v : Bits128) → HasRow t 16 Any → v.high < 2 ^ 64 → v.low < 2 ^ 64 → Fine (with_wide t v f) d
  fine-bits t v row high low =
      let fit : value_of v < 256 ^ width t = rw row.1 (value-lt v high low) in
      fine-wide t v f d a (ltb-true t tag_count row.0) low fit (listed-any t (bytes_of (width t) (value_of v)) row.2)

  -- of a number in its range
  pub fine-range : (t w v least greatest : ℕ) → HasRow t w (Range least greatest) → greatest < 2 ^ 64
      → greatest < 256 ^ w
      → least ≤ v → v ≤ greatest → Fine (with t v f) d
  fine-range t w v least greatest row small fit l m =
      let n : v < 256 ^ width t = rw row.1 (omega arith) in
      fine-number t v f d a (ltb-true t tag_count row.0) (omega arith) n
      (listed-range t least greatest v row.2 n l m)

-- the tag of the data
pub fine-data : (f : Fields) (d : List ℕ) → Fine f d → Fine (with data_tag 0 f) d
fine-data f d a = fine-set data_tag (record { high = 0; low = 0 }) f d a (omega arith) (λ e. absurd (e refl))

-- the data field can be written where it stands with some bytes
pub data-writable : (f : Fields) (d : List ℕ) → has f.tags data_tag ≡ true → get_or f.high data_tag 0 ≡ 0 → get_or f.low data_tag 0 ≡ 0
    → 0 < length d → length d ≤ frame_limit → field_writable data_tag f d ≡ true
unfolding field_writable content_of high_of low_of data_whole well_formed width values_of
data-writable f d on hi lo k m =
    let some = ne_eqb (length d) 0 (λ z. omega arith) in
    rw (on, hi, lo, eq-eqb (length d) (length d) refl, le-leb (length d) frame_limit m, some) (listed-any data_tag d refl)

-- or where it is absent, and there are none
pub no-data-writable : (f : Fields) → has f.tags data_tag ≡ false → get_or f.high data_tag 0 ≡ 0 → get_or f.low data_tag 0 ≡ 0
    → field_writable data_tag f [] ≡ true
unfolding field_writable content_of high_of low_of data_whole
no-data-writable f off hi lo = rw (off, hi, lo)

-- ---- the whole frame

all-writable : (f : Fields) (d : List ℕ) (k t : ℕ) → ((u : ℕ) → u < t + k → field_writable u f d ≡ true) → fields_writable k t f d ≡ true
unfolding fields_writable
all-writable f d zero t h = refl
all-writable f d (suc k) t h = rw (h t (omega arith)) (all-writable f d k (t + 1) (λ u m. h u (omega arith)))

data-or : (f : Fields) (d : List ℕ) (u : ℕ) (b : Bool) → eqb u data_tag ≡ b → field_writable data_tag f d ≡ true
    → ((u ≡ data_tag → ⊥) → field_writable u f d ≡ true) → field_writable u f d ≡ true
data-or f d u true e g h = ap (λ (v : ℕ). field_writable v f d) (eqb-true u data_tag e) ∙ g
data-or f d u false e g h = h (eqb-false u data_tag e)

-- what is built so to a form, and is not too long, can be written
pub fine-writable : (f : Fields) (d : List ℕ) → Fine f d → field_writable data_tag f d ≡ true → is_form (form f) ≡ true
    → form_length (form f) (length d) ≤ frame_limit → writable f d ≡ true
unfolding writable frame_of frame_length
fine-writable f d a g r s =
    let h = all-writable f d tag_count 0 (λ u m. data-or f d u (eqb u data_tag) refl g (λ e. a.each u (omega arith) e)) in
    let m = ap (λ (m : ℕ). length_from tag_count 0 m (length d)) (form-tags f.tags (phase f) r) in
    rw (r, h) (le-leb (length (join 0 (contents_of tag_count 0 f d))) frame_limit (omega (arith, length-join f d tag_count 0 h)))
