-- The test tells whether there is a row; the number, the length, then the content. Assumes nothing.
use Prim.Native.Nat.{◌+◌, ◌≤◌}
use native.Mathlib.Omega.{arith}
use lib.ListN.{length}
use Rattle.print.specs.Text.{column_room}
use Rattle.print.proofs.Digits.{column-most}
use Rattle.print.proofs.Texts.{put-nothing, put_then, put-left}
use Rattle.driver_print.specs.Tables.{file_row, content_room}
use borrow.Author.Rules.{rules}
use Rattle.driver_print.proofs.tables.put_file.Goals as goal

pub returns-then-is_empty : goal.returns-then-is_empty
unfolding file_row
returns-then-is_empty c = rw (← c.is_empty.ensures, c.if-is_empty.true) (put-nothing _ _ (omega arith))

pub put_column-b-requires : goal.put_column-b-requires
put_column-b-requires c =
    let left : c.put_column-a.result + (column_room + content_room) ≤ length c.put_column-a.new.output = put-left column_room (column_room + content_room) c.put_column-a.ensures (column-most _ _) (omega arith) in
    omega (arith, left)

pub put_content-requires : goal.put_content-requires
put_content-requires c =
    let left : c.put_column-a.result + (column_room + content_room) ≤ length c.put_column-a.new.output = put-left column_room (column_room + content_room) c.put_column-a.ensures (column-most _ _) (omega arith) in
    let left-2 : c.put_column-b.result + content_room ≤ length c.put_column-b.new.output = put-left column_room content_room c.put_column-b.ensures (column-most _ _) (left) in
    (left-2, search rules)

pub returns : goal.returns
unfolding file_row
returns c =
    rw (← c.is_empty.ensures, c.if-is_empty.false)
    (put_then c.put_column-a.ensures (put_then c.put_column-b.ensures c.put_content.ensures))
