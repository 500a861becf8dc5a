-- Laws of numbers in digits, and of bytes written from the last to the first. Assumes nothing.
use Prim.Native.Nat.{ℕ, zero, suc, ◌+◌, ◌*◌, ◌-◌, ◌/◌, ◌%◌, ◌^◌, ◌≤◌, ◌<◌, max}
use mathlib.Core.Bool.{Bool, true, false, cond}
use mathlib.Core.List.{List, [], ◌∷◌, ◌++◌}
use mathlib.Core.Path.{◌≡◌, refl, sym, ap, ◌∙◌}
use native.Mathlib.Nat.{add-zero}
use native.Mathlib.Numerals.{add-one, unary_clauses}
use native.Mathlib.Omega.{arith}
use lib.Dec.{ltb}
use lib.ListN.{length, take, drop, set, length-append}
use lib.Seq.{append_snoc, drop-cons, take-set-le, drop-set-add}
use borrow.Author.Tests.{lt-ltb, le-ltb}
use Rattle.octets.specs.Bytes.{overwrite}
use Rattle.print.specs.Text.{
  digits_in,
  max_digits,
  digit_count_to,
  digit_count,
  decimal,
  order_characters,
  order_number_text,
  type_characters,
  type_column,
  type_room,
  column,
  column_room,
  space,
}

-- ---- how many digits

pow-pos : (n : ℕ) → 1 ≤ 10 ^ n
pow-pos zero = omega arith
pow-pos (suc n) = let p : 10 ^ suc n ≡ 10 ^ n * 10 = simp unary_clauses (omega arith) in omega (arith, p, pow-pos n)

-- a number below ten to the power n + 1, and from ten to the power n on
count-log : (m n x : ℕ) → n ≤ m → x < 10 * 10 ^ n → (0 < n → 10 ^ n ≤ x) → digit_count_to m x ≡ n + 1
unfolding digit_count_to
count-log zero zero x h k l = refl
count-log zero (suc n) x h k l = absurd (omega arith)
count-log (suc m) zero x h k l = rw (lt-ltb x 10 (omega arith))
count-log (suc m) (suc n) x h k l =
    let p : 10 ^ suc n ≡ 10 ^ n * 10 = simp unary_clauses (omega arith) in
    let q : 10 ^ n * 10 ≤ x = rw p at (l (omega arith)) in
    let b : x < 10 * (10 ^ n * 10) = rw p at k in
    let one : 1 ≤ 10 ^ n = pow-pos n in
    rw (le-ltb x 10 (omega arith))
    (omega (arith, count-log m n (x / 10) (omega arith) (omega arith) (λ _. omega arith)))

pow-ten : (n : ℕ) → 0 < n → 10 ≤ 10 ^ n
pow-ten zero h = absurd (omega arith)
pow-ten (suc n) h = let p : 10 ^ suc n ≡ 10 ^ n * 10 = simp unary_clauses (omega arith) in omega (arith, p, pow-pos n)

pub digit_count-log : (n x y : ℕ) → y ≡ max x 1 → n < 20 → 10 ^ n ≤ y → y < 10 * 10 ^ n → digit_count x ≡ n + 1
unfolding digit_count
digit_count-log n x y e h k l =
    count-log 19 n x (omega arith) (omega arith) (λ p. let t = pow-ten n p in omega arith)

most-of : (b : Bool) (n k : ℕ) → k ≤ suc n → cond b 1 (suc k) ≤ suc (suc n)
most-of true n k h = omega arith
most-of false n k h = omega arith

count_most : (n x : ℕ) → digit_count_to n x ≤ suc n
unfolding digit_count_to
count_most zero x = omega arith
count_most (suc n) x = most-of (ltb x 10) n (digit_count_to n (x / 10)) (count_most n (x / 10))

pub digit_count-most : (x : ℕ) → digit_count x ≤ max_digits
unfolding digit_count
digit_count-most x = count_most 19 x

-- ---- the digits

pub length-digits_in : (b first w x : ℕ) → length (digits_in b first w x) ≡ w
unfolding digits_in
length-digits_in b first zero x = refl
length-digits_in b first (suc w) x =
    length-append (digits_in b first w (x / b)) _ ∙ ap (λ (n : ℕ). n + 1) (length-digits_in b first w (x / b)) ∙ add-one w

pub decimal-most : (x : ℕ) → length (decimal x) ≤ max_digits
unfolding decimal
decimal-most x = omega (arith, length-digits_in 10 48 (digit_count x) x, digit_count-most x)

pub order-number-most : (x : ℕ) → length (order_number_text x) ≤ order_characters
order-number-most x = omega (arith, length-digits_in 256 0 order_characters x)

pub type-most : (x : ℕ) → length (digits_in 256 0 type_characters x) ≤ type_characters
type-most x = omega (arith, length-digits_in 256 0 type_characters x)

pub type-column-most : (x : ℕ) → length (type_column x) ≤ type_room
unfolding type_column
type-column-most x =
    let characters = digits_in 256 0 type_characters x in
    omega (arith, length-append characters (space ∷ []), type-most x)

pub column-most : (x end : ℕ) → length (column x end) ≤ column_room
unfolding column
column-most x end = omega (arith, length-append (decimal x) (end ∷ []), decimal-most x)

overwrite-last : (d : List ℕ) (at v : ℕ) (xs : List ℕ) → at + length xs < length d
    → overwrite d at (xs ++ (v ∷ [])) ≡ overwrite (set d (at + length xs) v) at xs
unfolding overwrite
overwrite-last d at v xs h =
    let k : ℕ = at + length xs in
    let m : at + length (xs ++ (v ∷ [])) ≡ suc k = omega (arith, length-append xs (v ∷ [])) in
    let t = take-set-le at d k v (omega arith) in
    let r : drop k (set d k v) ≡ v ∷ drop (suc k) d =
    ap (λ (i : ℕ). drop k (set d i v)) (sym (add-zero k)) ∙ drop-set-add k d 0 v ∙ rw (drop-cons d k 0 h) in
    rw (m, t, r) (ap (λ (l : List ℕ). take at d ++ l) (append_snoc xs v (drop (suc k) d)))

-- the digit written last is the first
pub digits_step : (b first i x : ℕ) (d : List ℕ) (at : ℕ) → 0 < i → at + i ≤ length d
    → overwrite d at (digits_in b first i x)
    ≡ overwrite (set d (at + (i - 1)) (first + x % b)) at (digits_in b first (i - 1) (x / b))
unfolding digits_in
digits_step b first zero x d at h k = absurd (omega arith)
digits_step b first (suc i) x d at h k =
    let n = length-digits_in b first i (x / b) in
    let e : suc i - 1 ≡ i = omega arith in
    overwrite-last d at (first + x % b) (digits_in b first i (x / b)) (omega arith) ∙ rw (n, e)
