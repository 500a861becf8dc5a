-- Numbers in digits, and texts written into an output.
use Rattle.std.specs.Prelude.{ℕ, zero, suc, ◌+◌, ◌/◌, ◌%◌, ◌≤◌, ◌≡◌, cond, List, [], ◌∷◌, ◌++◌, ltb, leb, ℤ, pos, negsuc, nat_abs, length}
use Rattle.octets.specs.Bytes.{overwrite}
pub use Rattle.octets.specs.Texts.{ascii}

-- the last w digits of x in base b, the digit d as the byte first + d
unfoldable pub digits_in : ℕ → ℕ → ℕ → ℕ → List ℕ
digits_in b first zero x = []
digits_in b first (suc w) x = digits_in b first w (x / b) ++ ((first + x % b) ∷ [])

-- how many decimal digits x has, n + 1 at most
unfoldable pub digit_count_to : ℕ → ℕ → ℕ
digit_count_to zero x = 1
digit_count_to (suc n) x = cond (ltb x 10) 1 (suc (digit_count_to n (x / 10)))

-- the decimal digits that a number has at most: 20 hold every number of 64 bits
abbrev pub max_digits : ℕ
max_digits = 20

unfoldable pub digit_count : ℕ → ℕ
digit_count x = digit_count_to 19 x

-- a number in decimal
unfoldable pub decimal : ℕ → List ℕ
decimal x = digits_in 10 48 (digit_count x) x

-- "a signed number": a hyphen before a negative one, no plus, and the magnitude in decimal
abbrev pub hyphen : ℕ
hyphen = 45

abbrev pub sign_of : ℤ → List ℕ
sign_of (pos n) = []
sign_of (negsuc n) = hyphen ∷ []

unfoldable pub signed_decimal : ℤ → List ℕ
signed_decimal x = sign_of x ++ decimal (nat_abs x)

-- the most bytes that it takes
abbrev pub signed_room : ℕ
signed_room = 1 + max_digits

-- "0D return code, 6 ASCII digits"; "0E order number, 4"; "04 order type, 3 capitals or digits"
abbrev pub code_digits : ℕ
code_digits = 6

abbrev pub order_characters : ℕ
order_characters = 4

abbrev pub type_characters : ℕ
type_characters = 3

-- a return code's digits and an order number's characters, from the number of the field
abbrev pub code_text : ℕ → List ℕ
code_text x = digits_in 256 0 code_digits x

abbrev pub order_number_text : ℕ → List ℕ
order_number_text x = digits_in 256 0 order_characters x

abbrev pub space : ℕ
space = 32

abbrev pub newline : ℕ
newline = 10

-- an order type's characters, from the number of the field, and a space behind them
unfoldable pub type_column : ℕ → List ℕ
type_column x = digits_in 256 0 type_characters x ++ (space ∷ [])

-- the most bytes that it takes
abbrev pub type_room : ℕ
type_room = type_characters + 1

-- a number and the byte behind it: a space, or a newline at the row's end
unfoldable pub column : ℕ → ℕ → List ℕ
column x end = decimal x ++ (end ∷ [])

-- the most bytes that it takes
abbrev pub column_room : ℕ
column_room = max_digits + 1

-- the first n rows of a table, one behind the other
unfoldable pub rows_to : (ℕ → List ℕ) → ℕ → List ℕ
rows_to row zero = []
rows_to row (suc n) = rows_to row n ++ row n

-- a text written into the output old from a place on: the output then, and the place behind the text
pub record Put (old : List ℕ) (at : ℕ) (text new : List ℕ) (behind : ℕ) : Type 0 where
  pub place : behind ≡ at + length text
  pub fits : behind ≤ length old
  pub bytes : new ≡ overwrite old at text

-- a text at the front of the output, and how many bytes are written; nothing where the output has no room for so many
abbrev pub printed : ℕ → List ℕ → List ℕ → List ℕ
printed room text output = cond (leb room (length output)) (overwrite output 0 text) output

abbrev pub printed_count : ℕ → List ℕ → List ℕ → ℕ
printed_count room text output = cond (leb room (length output)) (length text) 0
