-- Laws of one bit more in a number: below the lowest bit everything is halved, so each holds by induction on the bit.
-- Assumes nothing.
use Prim.Native.Nat.{ℕ, zero, suc, ◌+◌, ◌*◌, ◌/◌, ◌%◌, ◌^◌, ◌<◌}
use mathlib.Core.Path.{◌≡◌, sym, ap, ◌∙◌}
use native.Mathlib.Nat.{add-mul-div_right, mul_comm, zero-lt-suc, pow-suc, div-div-eq-div-mul, mod-lt, mod-eq_of_lt}
use native.Mathlib.Omega.{arith}
use lib.Arith.{digits_div, mod-mul}
use lib.Pow.{pow_pos, pow-lt}

-- bit k of a number
abbrev pub bit : ℕ → ℕ → ℕ
bit k n = n / 2 ^ k % 2

-- the bit above k is bit k of the half
pub half : (n k : ℕ) → n / 2 ^ suc k ≡ n / 2 / 2 ^ k
half n k = ap (λ (m : ℕ). n / m) (pow-suc 2 k ∙ mul_comm (2 ^ k) 2) ∙ sym (div-div-eq-div-mul n 2 (2 ^ k))

half-more : (n k : ℕ) → (n + 2 ^ suc k) / 2 ≡ n / 2 + 2 ^ k
half-more n k = ap (λ (m : ℕ). (n + m) / 2) (pow-suc 2 k) ∙ add-mul-div_right n (2 ^ k) (zero-lt-suc 1)

pub bit-half : (k n : ℕ) → bit (suc k) n ≡ bit k (n / 2)
bit-half k n = ap (λ (m : ℕ). m % 2) (half n k)

-- the bit itself is set
pub bit-own : (k n : ℕ) → bit k n ≡ 0 → bit k (n + 2 ^ k) ≡ 1
bit-own zero n h = omega (arith, h)
bit-own (suc k) n h =
    bit-half k (n + 2 ^ suc k)
    ∙ ap (bit k) (half-more n k)
    ∙ bit-own k (n / 2) (sym (bit-half k n) ∙ h)

-- and no other one changes
pub bit-other : (k j n : ℕ) → bit k n ≡ 0 → (j ≡ k → ⊥) → bit j (n + 2 ^ k) ≡ bit j n
bit-other zero zero n h d = absurd (d (omega arith))
bit-other (suc k) zero n h d = omega (arith, pow-suc 2 k)
bit-other zero (suc j) n h d = bit-half j (n + 1) ∙ ap (bit j) same ∙ sym (bit-half j n)
  where
    same : (n + 1) / 2 ≡ n / 2
    same = omega (arith, h)
bit-other (suc k) (suc j) n h d =
    bit-half j (n + 2 ^ suc k)
    ∙ ap (bit j) (half-more n k)
    ∙ bit-other k j (n / 2) (sym (bit-half k n) ∙ h) (λ e. d (ap suc e))
    ∙ sym (bit-half j n)

-- the number keeps its length
pub bit-fits : (k w n : ℕ) → bit k n ≡ 0 → k < w → n < 2 ^ w → n + 2 ^ k < 2 ^ w
bit-fits k zero n h l m = absurd (omega (arith, l))
bit-fits zero (suc w) n h l m = omega (arith, h, m, pow-suc 2 w)
bit-fits (suc k) (suc w) n h l m =
    let p = bit-fits k w (n / 2) (sym (bit-half k n) ∙ h) (omega (arith, l)) (omega (arith, m, pow-suc 2 w)) in
    omega (arith, p, pow-suc 2 w, pow-suc 2 k)

-- the bits below w are those of the rest by 2 ^ w
split : (w n : ℕ) → n % 2 ^ suc w ≡ n / 2 % 2 ^ w * 2 + n % 2
split w n = ap (λ (m : ℕ). n % m) (pow-suc 2 w) ∙ mod-mul n (pow_pos w) (zero-lt-suc 1)

pub bit-low : (k w n : ℕ) → k < w → bit k (n % 2 ^ w) ≡ bit k n
bit-low k zero n h = absurd (omega (arith, h))
bit-low zero (suc w) n h = ap (bit 0) (split w n) ∙ omega arith
bit-low (suc k) (suc w) n h =
    ap (bit (suc k)) (split w n)
    ∙ bit-half k (n / 2 % 2 ^ w * 2 + n % 2)
    ∙ ap (bit k) (digits_div (n / 2 % 2 ^ w) (mod-lt n (zero-lt-suc 1)))
    ∙ bit-low k w (n / 2) (omega (arith, h))
    ∙ sym (bit-half k n)

-- `1 << k` in 8 bits
pub one_shifted : (k : ℕ) → k < 8 → 1 * 2 ^ k % 2 ^ 8 ≡ 2 ^ k
one_shifted k h =
    let e : 1 * 2 ^ k ≡ 2 ^ k = omega arith in
    rw e (mod-eq_of_lt (pow-lt h))
