-- What the writer's loops keep. Assumes nothing.
use Prim.Native.Nat.{ℕ, ◌+◌, ◌-◌, ◌*◌, ◌^◌, ◌≤◌, ◌<◌}
use mathlib.Core.List.{List, [], ◌++◌}
use mathlib.Core.Bool.{Bool, true, false, cond, ◌&&◌}
use mathlib.Core.Path.{◌≡◌, refl, sym, ap, ◌∙◌}
use native.Mathlib.Omega.{arith}
use lib.Dec.{eqb}
use Rattle.std.proofs.Common.{Option, Some, None}
use lib.ListN.{length, get_or, length-append}
use borrow.Author.Tests.{eqb-true, eq-eqb, ne_eqb, le-leb, lt-leb}
use Rattle.frame_table.specs.declared.fields.Fields.{Fields}
use Rattle.octets.specs.Bytes.{bytes_of, overwrite}
use Rattle.frame_table.specs.Table.{tag_count, frame_limit, data_tag, width, has, is_form}
use Rattle.frame_table.specs.Names.{form}
use Rattle.frame_row.specs.Row.{well_formed, high_of, low_of, piece, join}
use Rattle.frame_writer.specs.Writer.{content_of, contents_of, frame_of, data_whole, field_writable, fields_writable, writable}
use Rattle.octets.proofs.Tests.{and-true}
use Rattle.octets.proofs.Numbers.{overwrite-nil, overwrite-overwrite, length-overwrite, length-bytes_of}
use Rattle.frame_table.proofs.Values.{width_narrow}
use Rattle.frame_row.proofs.Contents.{well-formed, turn, turn_end}

-- ---- a field to be written

pub record FieldWritable (t : ℕ) (f : Fields) (d : List ℕ) : Type 0 where
  pub high : high_of t (content_of t f d) ≡ get_or f.high t 0
  pub low : low_of t (content_of t f d) ≡ get_or f.low t 0
  pub whole : data_whole t (length (content_of t f d)) (length d) ≡ true
  pub fit : has f.tags t ≡ true → well_formed t (content_of t f d) ≡ true

-- the bytes of the fields from tag t on
abbrev pub rest_from : Fields → List ℕ → ℕ → List ℕ
rest_from f d t = join t (contents_of (tag_count - t) t f d)

module _ (t : ℕ) (f : Fields) (d : List ℕ) where
  pub field-writable : field_writable t f d ≡ true → FieldWritable t f d
  unfolding field_writable
  field-writable h =
      let a = and-true _ _ h in
      let b = and-true _ _ a.0 in
      let e = and-true _ _ b.0 in
      record {
        high = eqb-true _ _ e.0;
        low = eqb-true _ _ e.1;
        whole = b.1;
        fit = λ k. sym (rw k) ∙ a.1;
      }

  pub content-absent : has f.tags t ≡ false → content_of t f d ≡ []
  unfolding content_of
  content-absent e = rw e

  pub content-stands : has f.tags t ≡ true
      → content_of t f d ≡ cond (eqb t data_tag) d (bytes_of (width t) (get_or f.high t 0 * 2 ^ 64 + get_or f.low t 0))
  unfolding content_of
  content-stands e = rw e

  pub content-number : has f.tags t ≡ true → (t ≡ data_tag → ⊥)
      → content_of t f d ≡ bytes_of (width t) (get_or f.high t 0 * 2 ^ 64 + get_or f.low t 0)
  unfolding content_of
  content-number e n = rw (e, ne_eqb t data_tag n)

  narrow_at : (b : Bool) → has f.tags t ≡ b → t < tag_count → (t ≡ data_tag → ⊥) → length (content_of t f d) ≤ 16
  narrow_at true e h n = omega (arith, ap length (content-number e n) ∙ length-bytes_of (width t) _, width_narrow t h n)
  narrow_at false e h n = omega (arith, ap length (content-absent e))

  pub content_of-narrow : t < tag_count → (t ≡ data_tag → ⊥) → length (content_of t f d) ≤ 16
  content_of-narrow = narrow_at (has f.tags t) refl

  most-at : (b : Bool) → has f.tags t ≡ b → FieldWritable t f d → length (content_of t f d) ≤ frame_limit
  most-at true e g = (well-formed t (content_of t f d) (g.fit e)).most
  most-at false e g = omega (arith, ap length (content-absent e))

  pub content-most : field_writable t f d ≡ true → length (content_of t f d) ≤ frame_limit
  content-most h = most-at (has f.tags t) refl (field-writable h)

  pub data-most : field_writable t f d ≡ true → has f.tags t ≡ true → t ≡ data_tag → length d ≤ frame_limit
  unfolding content_of
  data-most h k e =
      let c : content_of t f d ≡ d = rw (k, eq-eqb t data_tag e) in
      omega (arith, content-most h, ap length c)

  pub join_step : t < tag_count → rest_from f d t ≡ piece t (content_of t f d) ++ rest_from f d (t + 1)
  unfolding contents_of join
  join_step h = rw (turn tag_count t h)

  pub join-end : tag_count ≤ t → rest_from f d t ≡ []
  unfolding contents_of join
  join-end h = rw (turn_end tag_count t h)

  pub writable-step : t < tag_count
      → fields_writable (tag_count - t) t f d ≡ (field_writable t f d && fields_writable (tag_count - (t + 1)) (t + 1) f d)
  unfolding fields_writable
  writable-step h = rw (turn tag_count t h)

  pub writable-end : tag_count ≤ t → fields_writable (tag_count - t) t f d ≡ true
  unfolding fields_writable
  writable-end h = rw (turn_end tag_count t h)

-- ---- writing

module _ (f : Fields) (d : List ℕ) where
  -- the first t fields are written into old, which is out then, and at is behind them
  pub record Writing (old out : List ℕ) (at t : ℕ) : Type 0 where
    pub most : t ≤ tag_count
    pub long : length out ≡ length old
    pub left : at + length (rest_from f d t) ≡ length (frame_of f d)
    pub bytes : overwrite old 0 (frame_of f d) ≡ overwrite out at (rest_from f d t)

  pub writing_start : (old : List ℕ) → Writing old old 0 0
  unfolding frame_of
  writing_start old = record { most = omega arith; long = refl; left = omega arith; bytes = refl }

  module _ (old out : List ℕ) (at t : ℕ) (w : Writing old out at t) where
    module _ (h : t < tag_count) where
      abbrev next : List ℕ
      next = piece t (content_of t f d)

      pub writing-left : at + length next + length (rest_from f d (t + 1)) ≡ length (frame_of f d)
      writing-left =
          let e = ap length (join_step t f d h) ∙ length-append next (rest_from f d (t + 1)) in
          omega (arith, w.left)

      pub writing_step : length (frame_of f d) ≤ length old → (behind : ℕ) (more : List ℕ) → behind ≡ at + length next
          → more ≡ overwrite out at next
          → Writing old more behind (t + 1)
      writing_step k behind more en em =
          rw (em, en) (record {
            most = omega arith;
            long = length-overwrite out at next (omega (arith, writing-left, w.long)) ∙ w.long;
            left = writing-left;
            bytes = w.bytes ∙ ap (overwrite out at) (join_step t f d h)
                ∙ sym (overwrite-overwrite out at (length next) next (rest_from f d (t + 1)) refl (omega (arith, writing-left, w.long)));
          })

    pub writing-end : tag_count ≤ t → (at ≡ length (frame_of f d)) × (overwrite old 0 (frame_of f d) ≡ out)
    writing-end h =
        let e = join-end t f d h in
        (omega (arith, w.left, ap length e), w.bytes ∙ ap (overwrite out at) e ∙ overwrite-nil out at)

-- ---- what the writer accepts

-- what a length of the fields tells
module _ (f : Fields) (d : List ℕ) (r : Option ℕ)
    (e : r ≡ cond (fields_writable tag_count 0 f d) (Some (length (frame_of f d))) None) where
  none_at : (b : Bool) → fields_writable tag_count 0 f d ≡ b → r ≡ None → fields_writable tag_count 0 f d ≡ false
  none_at true p k = let z : Some (length (frame_of f d)) ≡ None = sym (rw p at e) ∙ k in cc
  none_at false p k = p

  pub length-none : r ≡ None → fields_writable tag_count 0 f d ≡ false
  length-none = none_at (fields_writable tag_count 0 f d) refl

  some_at : (n : ℕ) (b : Bool) → fields_writable tag_count 0 f d ≡ b → r ≡ Some n
      → (fields_writable tag_count 0 f d ≡ true) × (n ≡ length (frame_of f d))
  some_at n true p k = let z : Some n ≡ Some (length (frame_of f d)) = sym k ∙ (rw p at e) in (p, cc)
  some_at n false p k = let z : Some n ≡ None = sym k ∙ (rw p at e) in cc

  pub length-some : (n : ℕ) → r ≡ Some n → (fields_writable tag_count 0 f d ≡ true) × (n ≡ length (frame_of f d))
  length-some n = some_at n (fields_writable tag_count 0 f d) refl

module _ (f : Fields) (d : List ℕ) where
  none-form : (a : Bool) → is_form (form f) ≡ a → fields_writable tag_count 0 f d ≡ false → writable f d ≡ false
  unfolding writable
  none-form true p q = rw (p, q)
  none-form false p q = rw p

  pub writable-none : fields_writable tag_count 0 f d ≡ false → writable f d ≡ false
  writable-none = none-form (is_form (form f)) refl

  module _ (n : ℕ) (form-is : is_form (form f) ≡ true) (fit : fields_writable tag_count 0 f d ≡ true)
      (e : n ≡ length (frame_of f d)) where
    pub writable-over : frame_limit < n → writable f d ≡ false
    unfolding writable
    writable-over h = rw (form-is, fit) (lt-leb (length (frame_of f d)) frame_limit (omega arith))

    pub writable-under : n ≤ frame_limit → writable f d ≡ true
    unfolding writable
    writable-under h = rw (form-is, fit) (le-leb (length (frame_of f d)) frame_limit (omega arith))
