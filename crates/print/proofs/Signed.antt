-- A signed number's sign and magnitude, and how long it is at most. Assumes nothing.
use Prim.Native.Nat.{ℕ, ◌≤◌}
use mathlib.Core.Bool.{true, false}
use mathlib.Core.List.{List, [], ◌∷◌}
use mathlib.Core.Path.{◌≡◌, refl}
use native.Mathlib.Omega.{arith}
use lib.IntN.{ℤ, pos, negsuc, nat_abs}
use lib.ListN.{length, length-append}
use lib.Signed.{lt_z}
use borrow.Author.Tests.{ltb-true}
use Rattle.octets.specs.Texts.{ascii}
use Rattle.print.specs.Text.{Put, digits_in, digit_count_to, digit_count, decimal}
use Rattle.print.specs.Text.{hyphen, sign_of, signed_decimal, signed_room}
use Rattle.print.proofs.Digits.{decimal-most}
use Rattle.print.proofs.Texts.{put_then}

-- ---- what a test against 0 tells

pub sign_below : (x : ℤ) → lt_z x (pos 0) ≡ true → sign_of x ≡ hyphen ∷ []
sign_below (pos n) h = absurd (omega (arith, ltb-true n 0 h))
sign_below (negsuc n) h = refl

pub sign_above : (x : ℤ) → lt_z x (pos 0) ≡ false → sign_of x ≡ []
sign_above (pos n) h = refl
sign_above (negsuc n) h = let z : ◌≡◌ {A = ℕ} 0 1 = cc in absurd (omega arith)

-- the sign, and the magnitude behind it
pub put_both : {x y z : ℤ} {old mid new : List ℕ} {at between behind m : ℕ} → y ≡ x → z ≡ x → m ≡ nat_abs z
    → Put old at (sign_of y) mid between → Put mid between (decimal m) new behind
    → Put old at (signed_decimal x) new behind
unfolding signed_decimal
put_both e f h p q = put_then (rw e at p) (rw (h, f) at q)

-- ---- how long it is

pub sign-most : (x : ℤ) → length (sign_of x) ≤ 1
sign-most (pos n) = omega arith
sign-most (negsuc n) = omega arith

pub signed-most : (x : ℤ) → length (signed_decimal x) ≤ signed_room
unfolding signed_decimal
signed-most x = omega (arith, length-append (sign_of x) (decimal (nat_abs x)), sign-most x, decimal-most (nat_abs x))

-- ---- "a signed number": 0 has no sign, and the least number of 64 bits has its digits

pub signed-zero : signed_decimal (pos 0) ≡ ascii "0"
unfolding signed_decimal decimal digits_in digit_count digit_count_to
signed-zero = refl

pub signed-one : signed_decimal (negsuc 0) ≡ ascii "-1"
unfolding signed_decimal decimal digits_in digit_count digit_count_to
signed-one = refl

pub signed-least : signed_decimal (negsuc 9223372036854775807) ≡ ascii "-9223372036854775808"
unfolding signed_decimal decimal digits_in digit_count digit_count_to
signed-least = refl
