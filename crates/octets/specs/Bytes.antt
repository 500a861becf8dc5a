-- Document 01, "The frame": numbers as bytes, a field's bytes, and bytes written over others.
use Rattle.std.specs.Prelude.{ℕ, zero, suc, ◌+◌, ◌*◌, ◌/◌, ◌%◌, ◌<◌, List, [], ◌∷◌, ◌++◌, length, get_or, take, drop}

-- each element is a byte
abbrev pub Bytes : List ℕ → Type 0
Bytes s = (i : ℕ) → get_or s i 0 < 256

-- the number a, and the bytes behind it
unfoldable pub number_from : ℕ → List ℕ → ℕ
number_from a [] = a
number_from a (b ∷ bs) = number_from (a * 256 + b) bs

-- "Numbers are high byte first": the number that bytes are
unfoldable pub number : List ℕ → ℕ
number l = number_from 0 l

-- the w bytes of a number, high byte first
unfoldable pub bytes_of : ℕ → ℕ → List ℕ
bytes_of zero x = []
bytes_of (suc w) x = bytes_of w (x / 256) ++ (x % 256 ∷ [])

-- a field: "a one-byte tag, a two-byte length (high byte first), the content"
unfoldable pub field_bytes : ℕ → List ℕ → List ℕ
field_bytes t c = t ∷ (length c / 256) ∷ (length c % 256) ∷ c

-- d with xs in it from the place at on
unfoldable pub overwrite : List ℕ → ℕ → List ℕ → List ℕ
overwrite d at xs = take at d ++ (xs ++ drop (at + length xs) d)
