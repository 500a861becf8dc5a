-- A line in lent memory: a row of numbers, and a store at whose front the held messages stand one after another.
use Rattle.std.specs.Prelude.{ℕ, zero, suc, ◌+◌, ◌-◌, ◌*◌, ◌≤◌, ◌<◌, Bool, true, cond, not, ◌&&◌, List, [], ◌∷◌, ◌++◌, map, ◌≡◌, eqb, leb, ltb, length, get_or, take, drop, replicate}
use Rattle.octets.specs.Bytes.{overwrite}
use Rattle.line.specs.Generator.{value_limit}
use Rattle.line.specs.Line.{Message, most_held, message_bytes, Line, line, oldest, without_oldest}

-- ---- the row: the generator's value, how many messages are held, and their lengths; names as in src/layout.rt

abbrev pub value_at : ℕ
value_at = 0

abbrev pub count_at : ℕ
count_at = 1

abbrev pub lengths_at : ℕ
lengths_at = 2

abbrev pub row_size : ℕ
row_size = lengths_at + most_held

-- "8 × 1,024 lent bytes" (reading 9.1)
abbrev pub store_bytes : ℕ
store_bytes = most_held * message_bytes

-- ---- messages one after another

unfoldable pub joined : List Message → List ℕ
joined [] = []
joined (m ∷ ms) = m ++ joined ms

-- bytes cut into messages of these lengths
unfoldable pub cut : List ℕ → List ℕ → List Message
cut [] s = []
cut (n ∷ ns) s = take n s ∷ cut ns (drop n s)

unfoldable pub total : List ℕ → ℕ
total [] = 0
total (n ∷ ns) = n + total ns

-- ---- the line that lent memory is

abbrev pub count_of : List ℕ → ℕ
count_of row = get_or row count_at 0

abbrev pub lengths_of : List ℕ → List ℕ
lengths_of row = take (count_of row) (drop lengths_at row)

unfoldable pub line_of : List ℕ → List ℕ → Line
line_of row store = line (get_or row value_at 0) (cut (lengths_of row) store)

-- ---- lent memory after a call that leaves a line: every number of the row, every byte of the store

unfoldable pub row_of : Line → List ℕ
row_of l =
    l.value ∷ length l.held ∷ (map (λ (m : Message). length m) l.held ++ replicate (most_held - length l.held) 0)

unfoldable pub store_of : Line → List ℕ → List ℕ
store_of l old = overwrite old 0 (joined l.held)

-- ---- the one test of a row: what no call leaves is told by it

-- a test holds of every number below n
unfoldable pub all_below : (ℕ → Bool) → ℕ → Bool
all_below p zero = true
all_below p (suc n) = all_below p n && p n

-- the most that length i may be where so many messages are held: the others are 0
unfoldable pub length_limit : ℕ → ℕ → ℕ
length_limit count i = cond (ltb i count) message_bytes 0

abbrev pub is_length : List ℕ → ℕ → Bool
is_length row i = leb (get_or row (lengths_at + i) 0) (length_limit (count_of row) i)

-- a row of its length, with a value of 32 bits that is not 0, at most 8 messages held, and their lengths
unfoldable pub is_line : List ℕ → Bool
is_line row =
    eqb (length row) row_size
    && (not (eqb (get_or row value_at 0) 0)
    && (ltb (get_or row value_at 0) value_limit
    && (leb (count_of row) most_held
    && all_below (is_length row) most_held)))

-- what the test says
pub record Laid (row : List ℕ) : Type 0 where
  pub long : length row ≡ row_size
  pub live : 0 < get_or row value_at 0
  pub word : get_or row value_at 0 < value_limit
  pub most : count_of row ≤ most_held
  pub lengths : (i : ℕ) → i < most_held → get_or row (lengths_at + i) 0 ≤ length_limit (count_of row) i

-- what is left where the message held longest goes to the front of an output buffer: its length, and all lent memory
pub record Released (l : Line) (store out : List ℕ) (n : ℕ) (row' store' out' : List ℕ) : Type 0 where
  pub long : n ≡ length (oldest l)
  pub row : row' ≡ row_of (without_oldest l)
  pub bytes : store' ≡ store_of (without_oldest l) store
  pub buffer : out' ≡ overwrite out 0 (oldest l)
