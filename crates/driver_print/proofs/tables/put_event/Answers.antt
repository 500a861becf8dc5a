-- The test tells whether there is a row; its parts stand one behind the other. Assumes nothing.
use Prim.Native.Nat.{◌+◌, ◌≤◌}
use native.Mathlib.Omega.{arith}
use lib.ListN.{length}
use Rattle.print.specs.Text.{column_room}
use Rattle.print.specs.Name.{order_name_room}
use Rattle.print.proofs.Digits.{column-most}
use Rattle.print.proofs.Lengths.{order-name-most}
use Rattle.print.proofs.Texts.{put-nothing, put_then, put-left}
use Rattle.driver_print.specs.Tables.{event_row, transaction_room, kind_room}
use Rattle.driver_print.proofs.Texts.{transaction-most}
use Rattle.driver_print.proofs.tables.put_event.Goals as goal

pub returns-then-not-is_used : goal.returns-then-not-is_used
unfolding event_row
returns-then-not-is_used c =
    rw (← c.is_used.ensures, c.if-not-is_used.true) (put-nothing _ _ (omega arith))

pub put_column-b-requires : goal.put_column-b-requires
put_column-b-requires c =
    let left : c.put_column-a.result + (column_room + order_name_room + 1 + transaction_room + 1 + kind_room) ≤ length c.put_column-a.new.output = put-left column_room (column_room + order_name_room + 1 + transaction_room + 1 + kind_room) c.put_column-a.ensures (column-most _ _)
    (omega arith) in
    omega (arith, left)

pub put_order_name-c-requires : goal.put_order_name-c-requires
put_order_name-c-requires c =
    let left : c.put_column-a.result + (column_room + order_name_room + 1 + transaction_room + 1 + kind_room) ≤ length c.put_column-a.new.output = put-left column_room (column_room + order_name_room + 1 + transaction_room + 1 + kind_room) c.put_column-a.ensures (column-most _ _)
    (omega arith) in
    let left-2 : c.put_column-b.result + (order_name_room + 1 + transaction_room + 1 + kind_room) ≤ length c.put_column-b.new.output = put-left column_room (order_name_room + 1 + transaction_room + 1 + kind_room) c.put_column-b.ensures (column-most _ _)
    (omega (arith, left)) in
    omega (arith, left-2)

pub put_byte-d-requires : goal.put_byte-d-requires
put_byte-d-requires c =
    let left : c.put_column-a.result + (column_room + order_name_room + 1 + transaction_room + 1 + kind_room) ≤ length c.put_column-a.new.output = put-left column_room (column_room + order_name_room + 1 + transaction_room + 1 + kind_room) c.put_column-a.ensures (column-most _ _)
    (omega arith) in
    let left-2 : c.put_column-b.result + (order_name_room + 1 + transaction_room + 1 + kind_room) ≤ length c.put_column-b.new.output = put-left column_room (order_name_room + 1 + transaction_room + 1 + kind_room) c.put_column-b.ensures (column-most _ _)
    (omega (arith, left)) in
    let left-3 : c.put_order_name-c.result + (1 + transaction_room + 1 + kind_room) ≤ length c.put_order_name-c.new.output = put-left order_name_room (1 + transaction_room + 1 + kind_room) c.put_order_name-c.ensures (order-name-most _)
    (omega (arith, left-2)) in
    omega (arith, left-3)

pub put_transaction-t-requires : goal.put_transaction-t-requires
put_transaction-t-requires c =
    let left : c.put_column-a.result + (column_room + order_name_room + 1 + transaction_room + 1 + kind_room) ≤ length c.put_column-a.new.output = put-left column_room (column_room + order_name_room + 1 + transaction_room + 1 + kind_room) c.put_column-a.ensures (column-most _ _)
    (omega arith) in
    let left-2 : c.put_column-b.result + (order_name_room + 1 + transaction_room + 1 + kind_room) ≤ length c.put_column-b.new.output = put-left column_room (order_name_room + 1 + transaction_room + 1 + kind_room) c.put_column-b.ensures (column-most _ _)
    (omega (arith, left)) in
    let left-3 : c.put_order_name-c.result + (1 + transaction_room + 1 + kind_room) ≤ length c.put_order_name-c.new.output = put-left order_name_room (1 + transaction_room + 1 + kind_room) c.put_order_name-c.ensures (order-name-most _)
    (omega (arith, left-2)) in
    let left-4 : c.put_byte-d.result + (transaction_room + 1 + kind_room) ≤ length c.put_byte-d.new.output = put-left 1 (transaction_room + 1 + kind_room) c.put_byte-d.ensures (omega arith)
    (omega (arith, left-3)) in
    omega (arith, left-4)

pub put_byte-s-requires : goal.put_byte-s-requires
put_byte-s-requires c =
    let left : c.put_column-a.result + (column_room + order_name_room + 1 + transaction_room + 1 + kind_room) ≤ length c.put_column-a.new.output = put-left column_room (column_room + order_name_room + 1 + transaction_room + 1 + kind_room) c.put_column-a.ensures (column-most _ _)
    (omega arith) in
    let left-2 : c.put_column-b.result + (order_name_room + 1 + transaction_room + 1 + kind_room) ≤ length c.put_column-b.new.output = put-left column_room (order_name_room + 1 + transaction_room + 1 + kind_room) c.put_column-b.ensures (column-most _ _)
    (omega (arith, left)) in
    let left-3 : c.put_order_name-c.result + (1 + transaction_room + 1 + kind_room) ≤ length c.put_order_name-c.new.output = put-left order_name_room (1 + transaction_room + 1 + kind_room) c.put_order_name-c.ensures (order-name-most _)
    (omega (arith, left-2)) in
    let left-4 : c.put_byte-d.result + (transaction_room + 1 + kind_room) ≤ length c.put_byte-d.new.output = put-left 1 (transaction_room + 1 + kind_room) c.put_byte-d.ensures (omega arith)
    (omega (arith, left-3)) in
    let left-5 : c.put_transaction-t.result + (1 + kind_room) ≤ length c.put_transaction-t.new.output = put-left transaction_room (1 + kind_room) c.put_transaction-t.ensures (transaction-most _)
    (omega (arith, left-4)) in
    omega (arith, left-5)

pub put_kind-requires : goal.put_kind-requires
put_kind-requires c =
    let left : c.put_column-a.result + (column_room + order_name_room + 1 + transaction_room + 1 + kind_room) ≤ length c.put_column-a.new.output = put-left column_room (column_room + order_name_room + 1 + transaction_room + 1 + kind_room) c.put_column-a.ensures (column-most _ _)
    (omega arith) in
    let left-2 : c.put_column-b.result + (order_name_room + 1 + transaction_room + 1 + kind_room) ≤ length c.put_column-b.new.output = put-left column_room (order_name_room + 1 + transaction_room + 1 + kind_room) c.put_column-b.ensures (column-most _ _)
    (omega (arith, left)) in
    let left-3 : c.put_order_name-c.result + (1 + transaction_room + 1 + kind_room) ≤ length c.put_order_name-c.new.output = put-left order_name_room (1 + transaction_room + 1 + kind_room) c.put_order_name-c.ensures (order-name-most _)
    (omega (arith, left-2)) in
    let left-4 : c.put_byte-d.result + (transaction_room + 1 + kind_room) ≤ length c.put_byte-d.new.output = put-left 1 (transaction_room + 1 + kind_room) c.put_byte-d.ensures (omega arith)
    (omega (arith, left-3)) in
    let left-5 : c.put_transaction-t.result + (1 + kind_room) ≤ length c.put_transaction-t.new.output = put-left transaction_room (1 + kind_room) c.put_transaction-t.ensures (transaction-most _)
    (omega (arith, left-4)) in
    let left-6 : c.put_byte-s.result + kind_room ≤ length c.put_byte-s.new.output = put-left 1 kind_room c.put_byte-s.ensures (omega arith)
    (omega (arith, left-5)) in
    left-6

pub returns : goal.returns
unfolding event_row
returns c =
    rw (← c.is_used.ensures, c.if-not-is_used.false, ← c.name_of.ensures)
    (put_then c.put_column-a.ensures
    (put_then c.put_column-b.ensures
    (put_then c.put_order_name-c.ensures
    (put_then c.put_byte-d.ensures
    (put_then c.put_transaction-t.ensures
    (put_then c.put_byte-s.ensures c.put_kind.ensures))))))
