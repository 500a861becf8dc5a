-- Each character of an order number is a byte; and the order numbers A000 to ZZZZ are those of the numbers below their count.
-- Assumes nothing.
use Prim.Native.Nat.{ℕ, ◌+◌, ◌*◌, ◌/◌, ◌%◌, ◌<◌}
use mathlib.Core.Bool.{Bool, true, false, not, ◌&&◌, ◌||◌}
use mathlib.Core.Path.{◌≡◌, refl, sym, ap, ◌∙◌}
use native.Mathlib.Nat.{div-div-eq-div-mul}
use native.Mathlib.Omega.{arith}
use lib.Dec.{ltb, leb, eqb}
use borrow.Author.Tests.{eqb-true, ltb-true, leb-true, le-leb}
use Rattle.octets.proofs.Tests.{never, every-below, and-true}
use Rattle.frame_table.specs.declared.table.Characters.TheVariants.{CapitalsOrDigits}
use Rattle.frame_table.specs.Table.{in_range, allowed}
use Rattle.message.proofs.Verdicts.{by-test}
use Rattle.message.specs.OrderNumbers.{character, letter, order_number_of, digit_of, letter_of, is_order_number, order_in}

pub letter-lt : (d : ℕ) → letter d < 256
unfolding letter
letter-lt d = omega arith

pub character-lt : (d : ℕ) → d < 36 → character d < 256
unfolding character
character-lt d h = by-test (λ (n : ℕ). n < 256) (ltb d 10) (λ _. omega arith) (λ _. omega arith)

-- how many order numbers there are: 26 letters, three digits of base 36
abbrev pub order_numbers : ℕ
order_numbers = 26 * 46656

-- ---- one character

-- each digit's character is one, of that digit
spells : ℕ → Bool
spells d = allowed CapitalsOrDigits (character d) && eqb (digit_of (character d)) d

spelled : (d : ℕ) → d < 36 → (allowed CapitalsOrDigits (character d) ≡ true) × (digit_of (character d) ≡ d)
unfolding spells character digit_of allowed in_range
spelled d h =
    let a = and-true (allowed CapitalsOrDigits (character d)) (eqb (digit_of (character d)) d) (every-below spells 36 refl d h) in
    (a.0, eqb-true (digit_of (character d)) d a.1)

-- each character is its digit's
reads : ℕ → Bool
reads c = not (allowed CapitalsOrDigits c) || (ltb (digit_of c) 36 && eqb (character (digit_of c)) c)

or-second : (s t : Bool) → not s || t ≡ true → s ≡ true → t ≡ true
or-second true t h e = h
or-second false t h e = never e

read : (c : ℕ) → c < 256 → allowed CapitalsOrDigits c ≡ true → (digit_of c < 36) × (character (digit_of c) ≡ c)
unfolding reads character digit_of allowed in_range
read c h e =
    let b = or-second (allowed CapitalsOrDigits c) _ (every-below reads 256 refl c h) e in
    let a = and-true (ltb (digit_of c) 36) (eqb (character (digit_of c)) c) b in
    (ltb-true (digit_of c) 36 a.0, eqb-true (character (digit_of c)) c a.1)

-- ---- four bytes

-- four bytes put together come apart again
bytes-of : (a b c d v : ℕ) → b < 256 → c < 256 → d < 256 → v ≡ ((a * 256 + b) * 256 + c) * 256 + d
    → (v / 16777216 ≡ a) × (v / 65536 % 256 ≡ b) × (v / 256 % 256 ≡ c) × (v % 256 ≡ d)
bytes-of a b c d v hb hc hd e = (omega arith, omega arith, omega arith, omega arith)

-- and four bytes of a number are that number
of-bytes : (v : ℕ) → ((v / 16777216 * 256 + v / 65536 % 256) * 256 + v / 256 % 256) * 256 + v % 256 ≡ v
of-bytes v =
    let x : v / 256 / 256 ≡ v / 65536 = div-div-eq-div-mul v 256 256 in
    let y : v / 65536 / 256 ≡ v / 16777216 = div-div-eq-div-mul v 65536 256 in
    omega arith

-- four digits put together come apart again
digits_of : (a b c d n : ℕ) → b < 36 → c < 36 → d < 36 → n ≡ ((a * 36 + b) * 36 + c) * 36 + d
    → (n / 46656 ≡ a) × (n / 1296 % 36 ≡ b) × (n / 36 % 36 ≡ c) × (n % 36 ≡ d)
digits_of a b c d n hb hc hd e = (omega arith, omega arith, omega arith, omega arith)

of-digits : (n : ℕ) → ((n / 46656 * 36 + n / 1296 % 36) * 36 + n / 36 % 36) * 36 + n % 36 ≡ n
of-digits n =
    let x : n / 36 / 36 ≡ n / 1296 = div-div-eq-div-mul n 36 36 in
    let y : n / 1296 / 36 ≡ n / 46656 = div-div-eq-div-mul n 1296 36 in
    omega arith

-- ---- the law: a field 0E that is one of A000 to ZZZZ says one number, and that number's four characters are the field

-- the bytes of an order number
parts : (n : ℕ) → (order_number_of n / 16777216 ≡ letter (n / 46656)) × (order_number_of n / 65536 % 256 ≡ character (n / 1296 % 36))
    × (order_number_of n / 256 % 256 ≡ character (n / 36 % 36)) × (order_number_of n % 256 ≡ character (n % 36))
unfolding order_number_of
parts n =
    bytes-of (letter (n / 46656)) (character (n / 1296 % 36)) (character (n / 36 % 36)) (character (n % 36)) _
    (character-lt _ (omega arith)) (character-lt _ (omega arith)) (character-lt _ (omega arith)) refl

letter-in : (n : ℕ) → n < order_numbers
    → (in_range 65 90 (letter (n / 46656)) ≡ true) × (letter_of (letter (n / 46656)) ≡ n / 46656)
unfolding in_range letter letter_of
letter-in n h =
    (rw (le-leb 65 (65 + n / 46656 % 26) (omega arith), le-leb (65 + n / 46656 % 26) 90 (omega arith)), omega arith)

-- the order number of each number below their count is one of A000 to ZZZZ, and says that number
pub number-said : (n : ℕ) → n < order_numbers
    → (is_order_number (order_number_of n) ≡ true) × (order_in (order_number_of n) ≡ n)
unfolding is_order_number order_in
number-said n h =
    let b = spelled (n / 1296 % 36) (omega arith) in
    let c = spelled (n / 36 % 36) (omega arith) in
    let d = spelled (n % 36) (omega arith) in
    let v = parts n in (
      rw (v.0, v.1, v.2, v.3, (letter-in n h).0, b.0, c.0, d.0),
      rw (v.0, v.1, v.2, v.3, (letter-in n h).1, b.1, c.1, d.1) (of-digits n),
    )

letter-back : (x : ℕ) → in_range 65 90 x ≡ true → (letter_of x < 26) × (letter (letter_of x) ≡ x)
unfolding in_range letter letter_of
letter-back x h =
    let a = and-true (leb 65 x) (leb x 90) h in
    let least = leb-true 65 x a.0 in
    let most = leb-true x 90 a.1 in
    (omega arith, omega arith)

-- each field 0E that is one of A000 to ZZZZ is the order number of the number that it says
pub said-number : (v : ℕ) → is_order_number v ≡ true → (order_in v < order_numbers) × (order_number_of (order_in v) ≡ v)
unfolding is_order_number order_in order_number_of
said-number v h =
    let a = and-true (in_range 65 90 (v / 16777216)) _ h in
    let b = and-true (allowed CapitalsOrDigits (v / 65536 % 256)) _ a.1 in
    let c = and-true (allowed CapitalsOrDigits (v / 256 % 256)) (allowed CapitalsOrDigits (v % 256)) b.1 in
    let rb = read (v / 65536 % 256) (omega arith) b.0 in
    let rc = read (v / 256 % 256) (omega arith) c.0 in
    let rd = read (v % 256) (omega arith) c.1 in
    let l = letter-back (v / 16777216) a.0 in
    let n = digits_of (letter_of (v / 16777216)) (digit_of (v / 65536 % 256)) (digit_of (v / 256 % 256)) (digit_of (v % 256)) _
    rb.0 rc.0 rd.0 refl in (
      omega (arith, l.0, rb.0, rc.0, rd.0),
      rw (n.0, n.1, n.2, n.3, l.1, rb.1, rc.1, rd.1) (of-bytes v),
    )

-- two numbers below their count with one order number are one
pub number-one : (m n : ℕ) → m < order_numbers → n < order_numbers → order_number_of m ≡ order_number_of n → m ≡ n
number-one m n h k e = sym (number-said m h).1 ∙ ap order_in e ∙ (number-said n k).1
