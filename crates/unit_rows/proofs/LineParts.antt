-- Laws of the lines' rows and stores: a part lent and come back, and the call on a line from the call on its parts.
-- Assumes nothing.
use Rattle.line.specs.declared.calls.MakeRefusal.{MakeRefusal}
use Rattle.std.specs.Prelude.{Result}
use Prim.Native.Nat.{ℕ, ◌+◌, ◌-◌, ◌*◌, ◌≤◌}
use mathlib.Core.List.{List}
use mathlib.Core.Path.{◌≡◌, ◌∙◌}
use native.Mathlib.Nat.{add-sub_cancel_left}
use native.Mathlib.Omega.{arith}
use lib.ListN.{length, get_or, drop}
use lib.Seq.{get_or-drop, get_or-take}
use borrow.Rule.Slice.PartMut.{put_mid, mid_of}
use Rattle.bank_state.proofs.Stores.{part-back}
use Rattle.number_table.specs.declared.table.WrongLength.{WrongLength}
use Rattle.line.specs.declared.calls.Delivery.{Delivery}
use Rattle.line.specs.Memory.{value_at, row_size, store_bytes}
use Rattle.line.specs.Calls.{make_call_of, make_call, put_call_of, put_call}
use Rattle.unit_rows.specs.Lines.{lines_of, row_at, store_at, with_row, with_store, made_at_of, made_at, put_at_of, put_at}

-- the generator's value stands first in its row
pub value-at : (rows : List ℕ) (i : ℕ) → get_or (row_at rows i) value_at 0 ≡ get_or rows (i * row_size + value_at) 0
unfolding row_at
value-at rows i =
    get_or-take row_size (drop (i * row_size) rows) value_at 0 (omega arith) ∙ get_or-drop (i * row_size) rows value_at 0

-- the row and the store of line i are lent, and come back as x
pub row-lent : (rows : List ℕ) (i : ℕ) → mid_of (i * row_size) (i * row_size + row_size - i * row_size) rows ≡ row_at rows i
unfolding row_at
row-lent rows i = rw (add-sub_cancel_left (i * row_size) row_size)

pub row_back : (rows x : List ℕ) (i : ℕ) → i * row_size + row_size ≤ length rows
    → length x ≡ length (mid_of (i * row_size) (i * row_size + row_size - i * row_size) rows)
    → put_mid (i * row_size) (i * row_size + row_size - i * row_size) rows x ≡ with_row rows i x
unfolding with_row
row_back rows x i h e = part-back rows x (i * row_size) row_size h e

pub store-lent : (stores : List ℕ) (i : ℕ)
    → mid_of (i * store_bytes) (i * store_bytes + store_bytes - i * store_bytes) stores ≡ store_at stores i
unfolding store_at
store-lent stores i = rw (add-sub_cancel_left (i * store_bytes) store_bytes)

pub store-back : (stores x : List ℕ) (i : ℕ) → i * store_bytes + store_bytes ≤ length stores
    → length x ≡ length (mid_of (i * store_bytes) (i * store_bytes + store_bytes - i * store_bytes) stores)
    → put_mid (i * store_bytes) (i * store_bytes + store_bytes - i * store_bytes) stores x ≡ with_store stores i x
unfolding with_store
store-back stores x i h e = part-back stores x (i * store_bytes) store_bytes h e

-- line i is made by the call on its parts
pub made-parts : (rows stores : List ℕ) (i seed : ℕ) (a : Result (Unit {0}) MakeRefusal) (row store row' rows' : List ℕ)
    → row ≡ row_at rows i → store ≡ store_at stores i → rows' ≡ with_row rows i row'
    → make_call_of a row' ≡ make_call row store seed
    → made_at_of a (lines_of rows' stores) ≡ made_at (lines_of rows stores) i seed
unfolding made_at
made-parts rows stores i seed a row store row' rows' er es eb e = rw (eb, ← er, ← es, ← e)

-- a message is put into line i by the call on its parts
pub put-parts : (rows stores : List ℕ) (i : ℕ) (message buffer : List ℕ) (a : Result Delivery WrongLength)
    (row store row' store' buffer' rows' stores' : List ℕ)
    → row ≡ row_at rows i → store ≡ store_at stores i → rows' ≡ with_row rows i row' → stores' ≡ with_store stores i store'
    → put_call_of a row' store' buffer' ≡ put_call row store message buffer
    → put_at_of a (lines_of rows' stores') buffer' ≡ put_at (lines_of rows stores) i message buffer
unfolding put_at
put-parts rows stores i message buffer a row store row' store' buffer' rows' stores' er es eb ec e =
    rw (eb, ec, ← er, ← es, ← e)
