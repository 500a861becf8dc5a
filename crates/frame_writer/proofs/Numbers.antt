-- A field's number and its bytes: which numbers fit, and what the writer's test says of a content that is a number. Assumes nothing.
use Prim.Native.Nat.{ℕ, zero, suc, ◌+◌, ◌-◌, ◌*◌, ◌/◌, ◌%◌, ◌^◌, ◌≤◌, ◌<◌}
use mathlib.Core.List.{List, []}
use mathlib.Core.Bool.{Bool, true, false, ◌&&◌}
use mathlib.Core.Path.{◌≡◌, refl, sym, ap, ◌∙◌}
use native.Mathlib.Nat.{pow-suc, div-add-mod', div-eq_of_lt, div-lt_iff_lt-mul}
use native.Mathlib.Omega.{arith}
use lib.Arith.{digits_div, digits_mod}
use lib.Dec.{eqb, ltb}
use lib.ListN.{length}
use lib.Pow.{pow-add, pow_mono, pow_pos}
use borrow.Author.Tests.{eqb-true, eqb-false, eq-eqb, ne_eqb, lt-ltb, le-ltb, le-leb, ltb-true, ltb-false}
use Rattle.octets.specs.Bytes.{number, bytes_of}
use Rattle.frame_table.specs.Table.{tag_count, data_tag, width}
use Rattle.frame_row.specs.Row.{listed, well_formed, high_of, low_of}
use Rattle.frame_writer.specs.Writer.{data_whole, content_fits}
use Rattle.octets.proofs.Tests.{ltb-same, and-true-right}
use Rattle.octets.proofs.Numbers.{length-bytes_of, number-bytes_of, number_lt}
use Rattle.frame_table.proofs.Values.{width_narrow}
use Rattle.frame_row.proofs.Contents.{high_of-nil, low_of-nil}

pub pow-bytes : (w : ℕ) → 2 ^ (8 * w) ≡ 256 ^ w
pow-bytes zero = refl
pow-bytes (suc w) =
    let e : 8 * suc w ≡ 8 * w + 8 = omega arith in
    ap (λ (n : ℕ). 2 ^ n) e ∙ pow-add 2 (8 * w) 8 ∙ ap (λ (n : ℕ). n * 256) (pow-bytes w) ∙ sym (pow-suc 256 w)

-- eight bytes or more hold 64 bits
pub wide_below : (x w : ℕ) → x < 2 ^ 64 → 8 ≤ w → x < 256 ^ w
wide_below x w h k = rw (← pow-bytes w) (omega (arith, pow_mono {i = 64} {j = 8 * w} (omega arith)))

module _ (x m : ℕ) (h : 0 < m) where
  over : (b : Bool) → ltb x m ≡ b → (x / m ≡ 0 → ⊥) → m ≤ x
  over true k z = absurd (z (div-eq_of_lt (ltb-true x m k)))
  over false k z = ltb-false x m k

  shift-at : (b : Bool) → eqb (x / m) 0 ≡ b → b ≡ ltb x m
  shift-at true e =
      let z = eqb-true (x / m) 0 e in
      let k : x / m < 1 = omega arith in
      sym (lt-ltb x m (omega (arith, (div-lt_iff_lt-mul h).0 k)))
  shift-at false e = sym (le-ltb x m (over (ltb x m) refl (eqb-false (x / m) 0 e)))

-- a number shifted to nothing has no more bytes
pub shifted-below : (x w : ℕ) → eqb (x / 2 ^ (8 * w)) 0 ≡ ltb x (256 ^ w)
shifted-below x w =
    shift-at x (2 ^ (8 * w)) (pow_pos (8 * w)) (eqb (x / 2 ^ (8 * w)) 0) refl ∙ ap (ltb x) (pow-bytes w)

-- ---- which numbers of two halves have w bytes

module _ (h l : ℕ) (k : l < 2 ^ 64) where
  pub high_fits : (w : ℕ) → 8 < w → ltb h (256 ^ (w - 8)) ≡ ltb (h * 2 ^ 64 + l) (256 ^ w)
  high_fits w n =
      let m : ℕ = 256 ^ (w - 8) in
      let e : 256 ^ w ≡ m * 2 ^ 64 = ap (λ (i : ℕ). 256 ^ i) (omega arith) ∙ pow-add 256 (w - 8) 8 in
      rw e (ltb-same {a = h} {b = m} {c = h * 2 ^ 64 + l} {d = m * 2 ^ 64} (λ z. omega arith) (λ z. omega arith))

  pub low_fits : (m : ℕ) → h ≡ 0 → ltb l m ≡ ltb (h * 2 ^ 64 + l) m
  low_fits m e = ltb-same {a = l} {b = m} {c = h * 2 ^ 64 + l} {d = m} (λ z. omega arith) (λ z. omega arith)

  pub low-only : (w : ℕ) → w ≤ 8 → (h ≡ 0 → ⊥) → ltb (h * 2 ^ 64 + l) (256 ^ w) ≡ false
  low-only w n z =
      let e = pow_mono {i = 8 * w} {j = 64} (omega arith) in
      le-ltb (h * 2 ^ 64 + l) (256 ^ w) (rw (← pow-bytes w) (omega arith))

-- a number of at most eight bytes has no high half
pub low-alone : (h l w : ℕ) → w ≤ 8 → h * 2 ^ 64 + l < 256 ^ w → l ≡ h * 2 ^ 64 + l
low-alone h l w n k =
    let e : 256 ^ w ≤ 2 ^ 64 = rw (← pow-bytes w) (pow_mono {i = 8 * w} {j = 64} (omega arith)) in
    omega arith

-- ---- the writer's test of a content

-- an absent field has the number 0
pub absent-fits : (t hi lo : ℕ) (d : List ℕ) → content_fits t false [] hi lo d ≡ (eqb 0 hi && eqb 0 lo && data_whole t 0 (length d))
absent-fits t hi lo d =
    rw (high_of-nil t (eqb t data_tag) refl, low_of-nil t (eqb t data_tag) refl) (sym (and-true-right (eqb 0 hi && eqb 0 lo && data_whole t 0 (length d))))

-- so have the data
pub data-fits : (hi lo : ℕ) (d : List ℕ) → content_fits data_tag true d hi lo d ≡ (eqb 0 hi && eqb 0 lo && well_formed data_tag d)
unfolding high_of low_of data_whole
data-fits hi lo d =
    rw (eq-eqb (length d) (length d) refl) (ap (λ (b : Bool). b && well_formed data_tag d) (sym (and-true-right (eqb 0 hi && eqb 0 lo))))

module _ (t hi lo : ℕ) (d : List ℕ) (h : t < tag_count) (n : t ≡ data_tag → ⊥) (small : lo < 2 ^ 64) where
  abbrev own : List ℕ
  own = bytes_of (width t) (hi * 2 ^ 64 + lo)

  -- of a number that fits, the bytes decide
  pub number_fits : ltb (hi * 2 ^ 64 + lo) (256 ^ width t) ≡ true → content_fits t true own hi lo d ≡ listed t own
  unfolding high_of low_of data_whole well_formed
  number_fits k =
      let w = width_narrow t h n in
      let v = number-bytes_of (width t) (hi * 2 ^ 64 + lo) (ltb-true _ _ k) in
      rw (
        ne_eqb t data_tag n,
        v,
        digits_div hi small,
        digits_mod hi small,
        eq-eqb hi hi refl,
        eq-eqb lo lo refl,
        length-bytes_of (width t) (hi * 2 ^ 64 + lo),
        le-leb (width t) 1024 (omega arith),
        ne_eqb (width t) 0 (λ z. omega arith),
        eq-eqb (width t) (width t) refl,
      )

  module _ (k : 256 ^ width t ≤ hi * 2 ^ 64 + lo) where
    not-both : (a b : Bool) → eqb (number own / 2 ^ 64) hi ≡ a → eqb (number own % 2 ^ 64) lo ≡ b → (a && b) ≡ false
    not-both true true e f =
        let p = eqb-true (number own / 2 ^ 64) hi e in
        let q = eqb-true (number own % 2 ^ 64) lo f in
        absurd (omega (arith, div-add-mod' (number own) (2 ^ 64), number_lt (width t) (hi * 2 ^ 64 + lo)))
    not-both true false e f = refl
    not-both false b e f = refl

  -- a number that does not fit reads as another
  pub number-over : ltb (hi * 2 ^ 64 + lo) (256 ^ width t) ≡ false → content_fits t true own hi lo d ≡ false
  unfolding high_of low_of
  number-over k = rw (ne_eqb t data_tag n, not-both (ltb-false _ _ k) _ _ refl refl)
