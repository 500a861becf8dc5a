-- The generator stays within 32 bits, and each of its steps takes 0 alone to 0: from a value that is not 0 it never comes
-- to 0. Assumes nothing.
use Prim.Native.Nat.{ℕ, ◌*◌, ◌/◌, ◌%◌, ◌^◌, ◌<◌, zero, suc}
use mathlib.Core.Path.{◌≡◌, sym, ap, ◌∙◌}
use native.Mathlib.Nat.{mod-lt, zero-lt-suc, mul_assoc, mul_comm, pow-suc}
use native.Mathlib.Omega.{arith}
use lib.Bits.{bit_xor, xor_lt, xor_add_and, and_le_l, and_le_r}
use lib.Arith.{mod-mul}
use lib.Pow.{pow_pos}
use Rattle.line.specs.Generator.{value_limit, left_xor, right_xor, moved}

-- ---- 32 bits

left_lt : (k x : ℕ) → x < value_limit → left_xor k x < value_limit
unfolding left_xor
left_lt k x h = xor_lt 32 x _ h (mod-lt (x * 2 ^ k) (zero-lt-suc 4294967295))

right_lt : (x : ℕ) → x < value_limit → right_xor 17 x < value_limit
unfolding right_xor
right_lt x h = xor_lt 32 x _ h (omega arith)

pub moved-lt : (x : ℕ) → x < value_limit → moved x < value_limit
unfolding moved
moved-lt x h = left_lt _ _ (right_lt _ (left_lt _ x h))

-- ---- never 0

xor-zero : (a b : ℕ) → bit_xor a b ≡ 0 → a ≡ b
xor-zero a b e = omega (arith, xor_add_and a b, and_le_l a b, and_le_r a b)

double-mod : (a w : ℕ) → (a * 2) % 2 ^ suc w ≡ (a % 2 ^ w) * 2
double-mod a w =
    let e : a * 2 / 2 ≡ a = omega arith in
    rw (pow-suc 2 w, mod-mul (a * 2) {m = 2 ^ w} {c = 2} (pow_pos w) (omega arith), e) (omega arith)

double-shift : (x k : ℕ) → x * 2 ^ suc k ≡ x * 2 ^ k * 2
double-shift x k = rw pow-suc (sym (mul_assoc x (2 ^ k) 2))

-- only 0 is itself shifted left: its lowest digit is 0, and so on with what is before it
shift-own : (k w x : ℕ) → x < 2 ^ w → x ≡ (x * 2 ^ suc k) % 2 ^ w → x ≡ 0
shift-own k zero x h e = omega arith
shift-own k (suc w) x h e =
    let z : ℕ = (x * 2 ^ k) % 2 ^ w in
    let d : x ≡ z * 2 = e ∙ ap (λ (y : ℕ). y % 2 ^ suc w) (double-shift x k) ∙ double-mod (x * 2 ^ k) w in
    let t : x * 2 ^ k ≡ z * 2 ^ suc k =
    ap (λ (y : ℕ). y * 2 ^ k) d ∙ mul_assoc z 2 (2 ^ k) ∙ ap (λ (y : ℕ). z * y) (mul_comm 2 (2 ^ k) ∙ sym (pow-suc 2 k)) in
    let o : z ≡ 0 = shift-own k w z (mod-lt (x * 2 ^ k) (pow_pos w)) (ap (λ (y : ℕ). y % 2 ^ w) t) in
    omega arith

left-zero : (k x : ℕ) → 0 < k → x < value_limit → left_xor k x ≡ 0 → x ≡ 0
unfolding left_xor
left-zero zero x s h e = absurd (omega arith)
left-zero (suc k) x s h e = shift-own k 32 x h (xor-zero x _ e)

right_zero : (x : ℕ) → right_xor 17 x ≡ 0 → x ≡ 0
unfolding right_xor
right_zero x e = let k = xor-zero x _ e in omega arith

-- a value that is not 0 is moved to one that is not 0
pub moved-zero : (x : ℕ) → x < value_limit → moved x ≡ 0 → x ≡ 0
unfolding moved
moved-zero x h e =
    left-zero _ x (omega arith) h (right_zero _ (left-zero _ _ (omega arith) (right_lt _ (left_lt _ x h)) e))
