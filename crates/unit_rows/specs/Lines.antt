-- The unit's 32 lines in lent memory: of each a row of numbers, and a store for the messages that it holds.
use Rattle.line.specs.declared.calls.MakeRefusal.{MakeRefusal}
use Rattle.std.specs.Prelude.{Result}
use Rattle.std.specs.Prelude.{ℕ, ◌*◌, Bool, not, List, eqb, get_or, take, drop}
use Rattle.octets.specs.Bytes.{overwrite}
use Rattle.number_table.specs.declared.table.WrongLength.{WrongLength}
use Rattle.line.specs.declared.calls.Delivery.{Delivery}
use Rattle.line.specs.Line.{Message}
use Rattle.line.specs.Memory.{value_at, row_size, store_bytes}
use Rattle.line.specs.Calls.{make_call, put_call}
use Rattle.unit_state.specs.Records.{line_count}

-- the numbers of all lines, and the bytes of all their stores
abbrev pub lines_size : ℕ
lines_size = line_count * row_size

abbrev pub stores_bytes : ℕ
stores_bytes = line_count * store_bytes

pub record Lines : Type 0 where
  pub rows : List ℕ
  pub stores : List ℕ

abbrev pub lines_of : List ℕ → List ℕ → Lines
lines_of rows stores = record { rows = rows; stores = stores }

-- the row of line i, from 0 on, and its store
unfoldable pub row_at : List ℕ → ℕ → List ℕ
row_at rows i = take row_size (drop (i * row_size) rows)

unfoldable pub store_at : List ℕ → ℕ → List ℕ
store_at stores i = take store_bytes (drop (i * store_bytes) stores)

-- the same with others in their place
unfoldable pub with_row : List ℕ → ℕ → List ℕ → List ℕ
with_row rows i row = overwrite rows (i * row_size) row

unfoldable pub with_store : List ℕ → ℕ → List ℕ → List ℕ
with_store stores i store = overwrite stores (i * store_bytes) store

-- a line that is made has a generator, which never comes to 0; "none made" at first, all numbers are 0
abbrev pub is_made : List ℕ → Bool
is_made row = not (eqb (get_or row value_at 0) 0)

-- ---- line i is made from a seed

pub record MadeAt : Type 0 where
  pub answer : Result (Unit {0}) MakeRefusal
  pub lines : Lines

abbrev pub made_at_of : Result (Unit {0}) MakeRefusal → Lines → MadeAt
made_at_of a m = record { answer = a; lines = m }

unfoldable pub made_at : Lines → ℕ → ℕ → MadeAt
made_at m i seed =
    let o = make_call (row_at m.rows i) (store_at m.stores i) seed in
    made_at_of o.answer (lines_of (with_row m.rows i o.row) m.stores)

-- ---- a message is put into line i

pub record PutAt : Type 0 where
  pub answer : Result Delivery WrongLength
  pub lines : Lines
  pub buffer : List ℕ

abbrev pub put_at_of : Result Delivery WrongLength → Lines → List ℕ → PutAt
put_at_of a m buffer = record { answer = a; lines = m; buffer = buffer }

unfoldable pub put_at : Lines → ℕ → Message → List ℕ → PutAt
put_at m i message buffer =
    let o = put_call (row_at m.rows i) (store_at m.stores i) message buffer in
    put_at_of o.answer (lines_of (with_row m.rows i o.row) (with_store m.stores i o.store)) o.out
