-- Card 9's generator: "the 32-bit generator of Marsaglia (shifts left 13, right 17, left 5, each exclusive-or'd in)".
use Rattle.std.specs.Prelude.{ℕ, ◌*◌, ◌/◌, ◌%◌, ◌^◌}
use Rattle.std.specs.Int.Bits.{bit_xor}

-- "32-bit": each value is below this one
abbrev pub value_limit : ℕ
value_limit = 2 ^ 32

-- x shifted left by k places within 32 bits, and exclusive-or'd in
unfoldable pub left_xor : ℕ → ℕ → ℕ
left_xor k x = bit_xor x ((x * 2 ^ k) % value_limit)

-- x shifted right by k places, and exclusive-or'd in
unfoldable pub right_xor : ℕ → ℕ → ℕ
right_xor k x = bit_xor x (x / 2 ^ k)

-- one move: "left 13, right 17, left 5"
unfoldable pub moved : ℕ → ℕ
moved x = left_xor 5 (right_xor 17 (left_xor 13 x))
