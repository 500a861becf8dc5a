-- Laws of sets of tags. Assumes nothing.
use Prim.Native.Nat.{ℕ, suc, ◌+◌, ◌-◌, ◌*◌, ◌/◌, ◌%◌, ◌^◌, ◌<◌}
use mathlib.Core.Bool.{Bool, true, false, cond}
use mathlib.Core.Path.{◌≡◌, refl, sym, ap, ◌∙◌}
use native.Mathlib.Nat.{add-mul-div_right, mul_comm, mul_assoc, mod-lt, mod-eq_of_lt, zero-lt-suc, pow-suc, div-add-mod', div-div-eq-div-mul, div-lt_iff_lt-mul}
use native.Mathlib.Numerals.{add-one}
use native.Mathlib.Omega.{arith}
use lib.Dec.{eqb, ltb}
use lib.Pow.{pow_pos, pow-add, pow-lt}
use borrow.Author.Tests.{eqb-true, eqb-false, eq-eqb, ltb-true, ltb-false}
use Rattle.frame_table.specs.Table.{has}
use Rattle.frame_table.specs.Names.{with_tag}

pub twice : (t : ℕ) → 2 ^ t * 2 ≡ 2 ^ (t + 1)
twice t = rw (add-one t) (sym (pow-suc 2 t))

-- `1 << t` in 32 bits
pub one_shifted : (t : ℕ) → t < 32 → 1 * 2 ^ t % 2 ^ 32 ≡ 2 ^ t
one_shifted t h =
    let e : 1 * 2 ^ t ≡ 2 ^ t = omega arith in
    rw e (mod-eq_of_lt (pow-lt h))

-- the bits from t on are bit t and those above it
pub halves : (m t : ℕ) → m / 2 ^ t ≡ m / 2 ^ t % 2 + 2 * (m / 2 ^ (t + 1))
halves m t =
    let e : m / 2 ^ t / 2 ≡ m / 2 ^ (t + 1) = div-div-eq-div-mul m (2 ^ t) 2 ∙ ap (λ (n : ℕ). m / n) (twice t) in
    omega (arith, div-add-mod' (m / 2 ^ t) 2)

bit_at : (x : ℕ) (b : Bool) → x < 2 → eqb x 1 ≡ b → x ≡ cond b 1 0
bit_at x true h e = eqb-true x 1 e
bit_at x false h e = let n = eqb-false x 1 e in omega arith

-- the bit of a tag, where it is known whether the set has it
pub bit_is : (m t : ℕ) (b : Bool) → has m t ≡ b → m / 2 ^ t % 2 ≡ cond b 1 0
bit_is m t b e = bit_at (m / 2 ^ t % 2) b (mod-lt (m / 2 ^ t) (zero-lt-suc 1)) e

-- ---- one tag more

-- a power of two as an even number of smaller ones
power-split : (t u : ℕ) → u < t → 2 ^ t ≡ 2 ^ (t - suc u) * 2 * 2 ^ u
power-split t u k =
    let g : t ≡ t - suc u + 1 + u = omega arith in
    ap (λ (n : ℕ). 2 ^ n) g ∙ pow-add 2 (t - suc u + 1) u ∙ ap (λ (n : ℕ). n * 2 ^ u) (sym (twice (t - suc u)))

bit_below : (m t u : ℕ) → u < t → (m + 2 ^ t) / 2 ^ u % 2 ≡ m / 2 ^ u % 2
bit_below m t u k =
    let j : ℕ = 2 ^ (t - suc u) in
    let q : (m + 2 ^ t) / 2 ^ u ≡ m / 2 ^ u + j * 2 =
    ap (λ (n : ℕ). (m + n) / 2 ^ u) (power-split t u k) ∙ add-mul-div_right m (j * 2) (pow_pos u) in
    omega arith

module _ (m t : ℕ) (h : has m t ≡ false) where
  quotient-more : (m + 2 ^ t) / 2 ^ t ≡ m / 2 ^ t + 1
  quotient-more =
      let g : 2 ^ t ≡ 1 * 2 ^ t = omega arith in
      ap (λ (n : ℕ). (m + n) / 2 ^ t) g ∙ add-mul-div_right m 1 (pow_pos t)

  bit-own : (m + 2 ^ t) / 2 ^ t % 2 ≡ 1
  bit-own = omega (arith, quotient-more, bit_is m t false h)

  bit-above : (u : ℕ) → t < u → (m + 2 ^ t) / 2 ^ u ≡ m / 2 ^ u
  bit-above u k =
      let j : ℕ = 2 ^ (u - suc t) in
      let e : 2 ^ u ≡ 2 ^ t * 2 * j =
      power-split u t k ∙ mul_comm (j * 2) (2 ^ t) ∙ ap (λ (n : ℕ). 2 ^ t * n) (mul_comm j 2) ∙ sym (mul_assoc (2 ^ t) 2 j) in
      let part : (n : ℕ) → n / 2 ^ u ≡ n / 2 ^ t / 2 / j = λ n.
      ap (λ (x : ℕ). n / x) e ∙ sym (div-div-eq-div-mul n (2 ^ t * 2) j) ∙ ap (λ (x : ℕ). x / j) (sym (div-div-eq-div-mul n (2 ^ t) 2)) in
      let same : (m + 2 ^ t) / 2 ^ t / 2 ≡ m / 2 ^ t / 2 = omega (arith, quotient-more, bit_is m t false h) in
      part (m + 2 ^ t) ∙ ap (λ (x : ℕ). x / j) same ∙ sym (part m)

  -- a tag added where it is absent leaves the set below 2 ^ w
  pub added-lt : (w : ℕ) → t < w → m < 2 ^ w → m + 2 ^ t < 2 ^ w
  added-lt w k l =
      let j : ℕ = 2 ^ (w - suc t) in
      let e = power-split w t k in
      let q : m / 2 ^ t < j * 2 = (div-lt_iff_lt-mul (pow_pos t)).1 (rw e at l) in
      let p : (m + 2 ^ t) / 2 ^ t < j * 2 = omega (arith, quotient-more, bit_is m t false h) in
      rw e ((div-lt_iff_lt-mul (pow_pos t)).0 p)

  bit-other-at : (u : ℕ) (b : Bool) → ltb u t ≡ b → (u ≡ t → ⊥) → (m + 2 ^ t) / 2 ^ u % 2 ≡ m / 2 ^ u % 2
  bit-other-at u true e n = bit_below m t u (ltb-true u t e)
  bit-other-at u false e n = let k = ltb-false u t e in ap (λ (x : ℕ). x % 2) (bit-above u (omega arith))

own_at : (t m : ℕ) (b : Bool) → has m t ≡ b → has (cond b m (m + 2 ^ t)) t ≡ true
own_at t m true e = e
own_at t m false e = eq-eqb ((m + 2 ^ t) / 2 ^ t % 2) 1 (bit-own m t e)

pub has-with_tag : (t m : ℕ) → has (with_tag t m) t ≡ true
has-with_tag t m = own_at t m (has m t) refl

other_at : (t m u : ℕ) (b : Bool) → has m t ≡ b → (u ≡ t → ⊥) → cond b m (m + 2 ^ t) / 2 ^ u % 2 ≡ m / 2 ^ u % 2
other_at t m u true e n = refl
other_at t m u false e n = bit-other-at m t e u (ltb u t) refl n

pub with_tag-other : (t m u : ℕ) → (u ≡ t → ⊥) → with_tag t m / 2 ^ u % 2 ≡ m / 2 ^ u % 2
with_tag-other t m u n = other_at t m u (has m t) refl n
