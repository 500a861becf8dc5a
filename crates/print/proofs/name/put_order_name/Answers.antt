-- Its three parts stand one after the other, and each has the room that is left. Assumes nothing.
use Prim.Native.Nat.{◌+◌, ◌≤◌}
use native.Mathlib.Omega.{arith}
use lib.ListN.{length}
use Rattle.print.specs.Text.{order_characters, type_room, column_room}
use Rattle.print.specs.Name.{order_name_text}
use Rattle.print.proofs.Digits.{type-column-most, column-most}
use Rattle.print.proofs.Texts.{put_then, put-left}
use Rattle.print.proofs.name.put_order_name.Goals as goal

pub put_type-b-requires : goal.put_type-b-requires
put_type-b-requires c =
    let left : c.put_column-a.result + (type_room + order_characters) ≤ length c.put_column-a.new.output = put-left column_room (type_room + order_characters) c.put_column-a.ensures (column-most _ _) (omega arith) in
    omega (arith, left)

pub put_order_number-requires : goal.put_order_number-requires
put_order_number-requires c =
    let left : c.put_column-a.result + (type_room + order_characters) ≤ length c.put_column-a.new.output = put-left column_room (type_room + order_characters) c.put_column-a.ensures (column-most _ _) (omega arith) in
    let left-2 : c.put_type-b.result + order_characters ≤ length c.put_type-b.new.output = put-left type_room order_characters c.put_type-b.ensures (type-column-most _)
    (left) in
    left-2

pub returns : goal.returns
unfolding order_name_text
returns c =
    put_then c.put_column-a.ensures
    (put_then c.put_type-b.ensures c.put_order_number.ensures)
