-- What is known of the fields that are read: numbers are in their widths and ranges, and data have some bytes.
-- Assumes nothing.
use Prim.Native.Nat.{ℕ, zero, suc, ◌+◌, ◌*◌, ◌/◌, ◌%◌, ◌^◌, ◌≤◌, ◌<◌}
use mathlib.Core.List.{List, [], ◌∷◌}
use mathlib.Core.Bool.{Bool, true, false, cond}
use mathlib.Core.Path.{◌≡◌, refl, sym, ap, ◌∙◌, subst}
use native.Mathlib.Nat.{
  zero-add,
  mul_comm,
  pow-suc,
  div-one,
  div-add-mod',
  div-div-eq-div-mul,
  div-lt_iff_lt-mul,
  mod-lt,
  zero-lt-suc,
}
use native.Mathlib.Omega.{arith}
use lib.Dec.{eqb, lit<}
use lib.ListN.{length, get_or}
use lib.Pow.{pow_mono}
use borrow.Author.Tests.{eqb-false, ne_eqb}
use Rattle.frame_table.specs.declared.fields.Fields.{Fields}
use Rattle.frame_table.specs.declared.table.Values.TheVariants.{Range}
use Rattle.octets.specs.Bytes.{Bytes, number, bytes_of}
use Rattle.frame_table.specs.Table.{tag_count, data_tag, width, values_of, has, is_form}
use Rattle.frame_table.specs.Names.{form}
use Rattle.frame_row.specs.Row.{contents, listed, data_of, present, present_tags, high_of, low_of}
use Rattle.frame_reader.specs.Reader.{fields_of, parse}
use Rattle.frame_writer.specs.Writer.{content_of}
use Rattle.octets.proofs.Numbers.{number-nil, number_lt}
use Rattle.frame_table.proofs.Tags.{bit_is}
use Rattle.frame_table.proofs.Values.{width_narrow}
use Rattle.frame_row.proofs.Contents.{well-formed}
use Rattle.frame_writer.proofs.Loops.{FieldWritable, field-writable, content-absent, content-number}
use Rattle.frame_writer.proofs.Numbers.{pow-bytes}
use Rattle.frame.proofs.RoundTrip.{parsed-is, parsed-says, writable-at, data_is}
use Rattle.frame.proofs.Build.{range_listed}

-- ---- a field that could be written

-- the number of tag t
abbrev pub number_of : ℕ → Fields → ℕ
number_of t f = get_or f.high t 0 * 2 ^ 64 + get_or f.low t 0

-- both halves of the number of tag t have 64 bits
abbrev pub Halves : ℕ → Fields → Type 0
Halves t f = (get_or f.high t 0 < 2 ^ 64) × (get_or f.low t 0 < 2 ^ 64)

-- v is in the width of tag t, and in its range where it has one
pub record InRow (t v : ℕ) : Type 0 where
  pub fits : v < 256 ^ width t
  pub within : (least greatest : ℕ) → values_of t ≡ Range least greatest → (least ≤ v) × (v ≤ greatest)

number-bounds : (t : ℕ) (f : Fields) (d : List ℕ) → FieldWritable t f d → has f.tags t ≡ true → (t ≡ data_tag → ⊥)
    → (number_of t f < 256 ^ width t) × (listed t (bytes_of (width t) (number_of t f)) ≡ true)
unfolding high_of low_of
number-bounds t f d g e n =
    let c : List ℕ = bytes_of (width t) (number_of t f) in
    let k : content_of t f d ≡ c = content-number t f d e n in
    let p : number c / 2 ^ 64 ≡ get_or f.high t 0 = rw (k, ne_eqb t data_tag n) at g.high in
    let q : number c % 2 ^ 64 ≡ get_or f.low t 0 = rw (k, ne_eqb t data_tag n) at g.low in
    let z : number c ≡ number_of t f =
    sym (div-add-mod' (number c) (2 ^ 64)) ∙ ap (λ (x : ℕ). x * 2 ^ 64 + number c % 2 ^ 64) p
    ∙ ap (λ (x : ℕ). get_or f.high t 0 * 2 ^ 64 + x) q in
    let b = (well-formed t (content_of t f d) (g.fit e)).bytes in
    (subst (λ (x : ℕ). x < 256 ^ width t) z (number_lt (width t) (number_of t f)), rw k at b)

pub field-in-row : (t : ℕ) (f : Fields) (d : List ℕ) → FieldWritable t f d → has f.tags t ≡ true → (t ≡ data_tag → ⊥)
    → InRow t (number_of t f)
field-in-row t f d g e n =
    let r = number-bounds t f d g e n in
    record { fits = r.0; within = λ least greatest v. range_listed t least greatest (number_of t f) v r.0 r.1 }

lt-le : {x y z : ℕ} → x < y → y ≤ z → x < z
lt-le h k = omega arith

module _ (t : ℕ) (f : Fields) (d : List ℕ) (h : t < tag_count) where
  -- the content of a number has at most 16 bytes
  content-small : (b : Bool) → has f.tags t ≡ b → (t ≡ data_tag → ⊥) → number (content_of t f d) < 256 ^ 16
  content-small true e n =
      let w = width_narrow t h n in
      let m : 256 ^ width t ≤ 256 ^ 16 = rw (← pow-bytes (width t)) (pow_mono {i = 8 * width t} {j = 128}
      (omega arith)) in
      rw (content-number t f d e n) (lt-le (number_lt (width t) (number_of t f)) m)
  content-small false e n = rw (content-absent t f d e, number-nil) (lit< tt)

  halves-at : (b : Bool) → eqb t data_tag ≡ b → FieldWritable t f d → Halves t f
  unfolding high_of low_of
  halves-at true e g =
      let hi : 0 ≡ get_or f.high t 0 = rw e at g.high in
      let lo : 0 ≡ get_or f.low t 0 = rw e at g.low in
      (omega arith, omega arith)
  halves-at false e g =
      let x : ℕ = number (content_of t f d) in
      let n = content-small (has f.tags t) refl (eqb-false t data_tag e) in
      let hi : x / 2 ^ 64 ≡ get_or f.high t 0 = rw e at g.high in
      let lo : x % 2 ^ 64 ≡ get_or f.low t 0 = rw e at g.low in (
        subst (λ (y : ℕ). y < 2 ^ 64) hi ((div-lt_iff_lt-mul (zero-lt-suc _)).1 n),
        subst (λ (y : ℕ). y < 2 ^ 64) lo (mod-lt x (zero-lt-suc _)),
      )

-- ---- a frame that is read

module _ (s : List ℕ) (b : Bytes s) (h : is_form (form (parse s)) ≡ true) (t : ℕ) (m : t < tag_count) where
  field-read : FieldWritable t (parse s) (data_of s)
  field-read =
      field-writable t (parse s) (data_of s) (rw zero-add at (writable-at (parse s) (data_of s) tag_count 0 t
      (parsed-says s h b).1 m).0)

  pub read-halves : Halves t (parse s)
  read-halves = halves-at t (parse s) (data_of s) m (eqb t data_tag) refl field-read

  module _ (n : t ≡ data_tag → ⊥) (e : has (parse s).tags t ≡ true) where
    -- a number in a frame of some form is in its width and its list
    pub read-value : (number_of t (parse s) < 256 ^ width t)
        × (listed t (bytes_of (width t) (number_of t (parse s))) ≡ true)
    read-value = number-bounds t (parse s) (data_of s) field-read e n

    -- and in the range of its tag
    pub in-row : InRow t (number_of t (parse s))
    in-row = field-in-row t (parse s) (data_of s) field-read e n

-- ---- "data, 1 or more"

present-most : (b : Bool) → cond b 0 1 ≤ 1
present-most true = omega arith
present-most false = omega arith

-- the bit of a tag says whether there is content
bit-present : (t : ℕ) (r : List (List ℕ)) → present_tags r / 2 ^ t % 2 ≡ present (length (get_or r t []))
unfolding present_tags
bit-present zero [] = refl
bit-present zero (c ∷ r) = rw div-one (let p = present-most (eqb (length c) 0) in omega arith)
bit-present (suc t) [] =
    ap (λ (n : ℕ). 0 / n % 2) (pow-suc 2 t ∙ mul_comm (2 ^ t) 2)
    ∙ ap (λ (n : ℕ). n % 2) (sym (div-div-eq-div-mul 0 2 (2 ^ t)))
    ∙ bit-present t []
bit-present (suc t) (c ∷ r) =
    let x : ℕ = present (length c) + 2 * present_tags r in
    let p = present-most (eqb (length c) 0) in
    let half : x / 2 ≡ present_tags r = omega arith in
    ap (λ (n : ℕ). x / n % 2) (pow-suc 2 t ∙ mul_comm (2 ^ t) 2)
    ∙ ap (λ (n : ℕ). n % 2) (sym (div-div-eq-div-mul x 2 (2 ^ t)))
    ∙ ap (λ (n : ℕ). n / 2 ^ t % 2) half ∙ bit-present t r

some_at : (n : ℕ) → present n ≡ 1 → 1 ≤ n
some_at zero e = absurd (let z : ◌≡◌ {A = ℕ} 0 1 = e in omega arith)
some_at (suc n) e = omega arith

-- where the tag of the data stands, there are some
pub read-data : (s : List ℕ) → is_form (form (parse s)) ≡ true → has (parse s).tags data_tag ≡ true
    → 1 ≤ length (data_of s)
unfolding fields_of
read-data s h e =
    let r : List (List ℕ) = contents tag_count 0 s in
    let tags : (parse s).tags ≡ present_tags r = ap (λ (f : Fields). f.tags) (parsed-is s h) in
    let b : present (length (get_or r data_tag [])) ≡ 1 =
    sym (bit-present data_tag r) ∙ bit_is (present_tags r) data_tag true (sym (ap (λ (m : ℕ). has m data_tag) tags) ∙ e) in
    some_at (length (data_of s)) (ap (λ (l : List ℕ). present (length l)) (data_is s) ∙ b)
