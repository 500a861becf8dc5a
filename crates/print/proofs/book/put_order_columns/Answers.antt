-- Its six parts stand one after the other, and each has the room that is left. Assumes nothing.
use Prim.Native.Nat.{ℕ, ◌+◌, ◌≤◌}
use native.Mathlib.Omega.{arith}
use lib.ListN.{length}
use Rattle.print.specs.Text.{order_characters, type_room, column_room}
use Rattle.print.specs.Book.{order_columns, signer_columns_room}
use Rattle.print.proofs.Digits.{order-number-most, type-column-most, column-most}
use Rattle.print.proofs.Texts.{put_then, put-left}
use Rattle.print.proofs.book.put_order_columns.Goals as goal

-- the room of the columns from the type on, and from the bytes on
abbrev from_bytes : ℕ
from_bytes = column_room + signer_columns_room

abbrev from_type : ℕ
from_type = type_room + from_bytes

pub put_byte-b-requires : goal.put_byte-b-requires
put_byte-b-requires c =
    let left : c.put_order_number-a.result + (1 + column_room + from_type) ≤ length c.put_order_number-a.new.output = put-left order_characters (1 + column_room + from_type) c.put_order_number-a.ensures (order-number-most _)
    (omega arith) in
    omega (arith, left)

pub put_column-c-requires : goal.put_column-c-requires
put_column-c-requires c =
    let left : c.put_order_number-a.result + (1 + column_room + from_type) ≤ length c.put_order_number-a.new.output = put-left order_characters (1 + column_room + from_type) c.put_order_number-a.ensures (order-number-most _)
    (omega arith) in
    let left-2 : c.put_byte-b.result + (column_room + from_type) ≤ length c.put_byte-b.new.output = put-left 1 (column_room + from_type) c.put_byte-b.ensures (omega arith)
    (left) in
    omega (arith, left-2)

pub put_type-d-requires : goal.put_type-d-requires
put_type-d-requires c =
    let left : c.put_order_number-a.result + (1 + column_room + from_type) ≤ length c.put_order_number-a.new.output = put-left order_characters (1 + column_room + from_type) c.put_order_number-a.ensures (order-number-most _)
    (omega arith) in
    let left-2 : c.put_byte-b.result + (column_room + from_type) ≤ length c.put_byte-b.new.output = put-left 1 (column_room + from_type) c.put_byte-b.ensures (omega arith)
    (left) in
    let left-3 : c.put_column-c.result + from_type ≤ length c.put_column-c.new.output = put-left column_room from_type c.put_column-c.ensures (column-most _ _)
    (left-2) in
    omega (arith, left-3)

pub put_column-e-requires : goal.put_column-e-requires
put_column-e-requires c =
    let left : c.put_order_number-a.result + (1 + column_room + from_type) ≤ length c.put_order_number-a.new.output = put-left order_characters (1 + column_room + from_type) c.put_order_number-a.ensures (order-number-most _)
    (omega arith) in
    let left-2 : c.put_byte-b.result + (column_room + from_type) ≤ length c.put_byte-b.new.output = put-left 1 (column_room + from_type) c.put_byte-b.ensures (omega arith)
    (left) in
    let left-3 : c.put_column-c.result + from_type ≤ length c.put_column-c.new.output = put-left column_room from_type c.put_column-c.ensures (column-most _ _)
    (left-2) in
    let left-4 : c.put_type-d.result + from_bytes ≤ length c.put_type-d.new.output = put-left type_room from_bytes c.put_type-d.ensures (type-column-most _)
    (left-3) in
    omega (arith, left-4)

pub put_signers-requires : goal.put_signers-requires
put_signers-requires c =
    let left : c.put_order_number-a.result + (1 + column_room + from_type) ≤ length c.put_order_number-a.new.output = put-left order_characters (1 + column_room + from_type) c.put_order_number-a.ensures (order-number-most _)
    (omega arith) in
    let left-2 : c.put_byte-b.result + (column_room + from_type) ≤ length c.put_byte-b.new.output = put-left 1 (column_room + from_type) c.put_byte-b.ensures (omega arith)
    (left) in
    let left-3 : c.put_column-c.result + from_type ≤ length c.put_column-c.new.output = put-left column_room from_type c.put_column-c.ensures (column-most _ _)
    (left-2) in
    let left-4 : c.put_type-d.result + from_bytes ≤ length c.put_type-d.new.output = put-left type_room from_bytes c.put_type-d.ensures (type-column-most _)
    (left-3) in
    let left-5 : c.put_column-e.result + signer_columns_room ≤ length c.put_column-e.new.output = put-left column_room signer_columns_room c.put_column-e.ensures (column-most _ _)
    (left-4) in
    left-5

pub returns : goal.returns
unfolding order_columns
returns c =
    rw (← c.order_number_of.ensures)
    (put_then c.put_order_number-a.ensures
    (put_then c.put_byte-b.ensures
    (put_then c.put_column-c.ensures
    (put_then c.put_type-d.ensures
    (put_then c.put_column-e.ensures c.put_signers.ensures)))))
