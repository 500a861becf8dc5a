-- "An upload's order number is that number in base 36 (0 to 9, A to Z), three characters, behind a letter counting A
-- to Z"
use Rattle.std.specs.Prelude.{ℕ, ◌+◌, ◌-◌, ◌*◌, ◌/◌, ◌%◌, Bool, cond, ◌&&◌, ltb}
use Rattle.frame_table.specs.declared.table.Characters.TheVariants.{CapitalsOrDigits}
use Rattle.frame_table.specs.Table.{in_range, allowed}

-- the character of a base-36 digit
unfoldable pub character : ℕ → ℕ
character d = cond (ltb d 10) (48 + d) (55 + d)

-- the letter that counts A to Z
unfoldable pub letter : ℕ → ℕ
letter d = 65 + d % 26

-- the four characters of an order number, as the number of field 0E
unfoldable pub order_number_of : ℕ → ℕ
order_number_of n =
    ((letter (n / 46656) * 256 + character (n / 1296 % 36)) * 256 + character (n / 36 % 36)) * 256 + character (n % 36)

-- and back: the base-36 digit of a character, and what the letter counts
unfoldable pub digit_of : ℕ → ℕ
digit_of c = cond (ltb c 65) (c - 48) (c - 55)

unfoldable pub letter_of : ℕ → ℕ
letter_of c = c - 65

-- card 11, "one of A000 to ZZZZ": the number of field 0E has a letter, then three digits or letters
unfoldable pub is_order_number : ℕ → Bool
is_order_number v =
    in_range 65 90 (v / 16777216)
    && (allowed CapitalsOrDigits (v / 65536 % 256)
    && (allowed CapitalsOrDigits (v / 256 % 256) && allowed CapitalsOrDigits (v % 256)))

-- which number it is, where it is one
unfoldable pub order_in : ℕ → ℕ
order_in v =
    ((letter_of (v / 16777216) * 36 + digit_of (v / 65536 % 256)) * 36 + digit_of (v / 256 % 256)) * 36 + digit_of (v % 256)
