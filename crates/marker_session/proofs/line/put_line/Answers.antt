-- Its five parts stand one after the other, and each has the room that is left. Assumes nothing.
use Prim.Native.Nat.{◌+◌}
use native.Mathlib.Omega.{arith}
use Rattle.print.specs.Text.{code_digits, column_room}
use Rattle.marker_column.specs.Offset.{offset_room}
use Rattle.marker_session.specs.Lines.{coded_line}
use Rattle.print.proofs.Digits.{column-most}
use Rattle.print.proofs.Texts.{put_then, put-left}
use Rattle.marker_column.proofs.Offsets.{offset-most}
use Rattle.marker_session.proofs.Texts.{coded-most}
use Rattle.marker_session.proofs.line.put_line.Goals as goal

-- what is left of the line's room after the call's number, after the code, after the space, and after the offset
pub put_answer-b-requires : goal.put_answer-b-requires
put_answer-b-requires c =
    let left = put-left column_room (code_digits + 1 + offset_room + 1) c.put_column-a.ensures (column-most _ _) (omega arith) in
    omega (arith, left)

pub put_byte-c-requires : goal.put_byte-c-requires
put_byte-c-requires c =
    let left = put-left column_room (code_digits + 1 + offset_room + 1) c.put_column-a.ensures (column-most _ _) (omega arith) in
    let left-2 = put-left code_digits (1 + offset_room + 1) c.put_answer-b.ensures (coded-most c.args.answer c.args.code) left in
    omega (arith, left-2)

pub put_offset-d-requires : goal.put_offset-d-requires
put_offset-d-requires c =
    let left = put-left column_room (code_digits + 1 + offset_room + 1) c.put_column-a.ensures (column-most _ _) (omega arith) in
    let left-2 = put-left code_digits (1 + offset_room + 1) c.put_answer-b.ensures (coded-most c.args.answer c.args.code) left in
    let left-3 = put-left 1 (offset_room + 1) c.put_byte-c.ensures (omega arith) left-2 in
    (omega (arith, left-3), c.requires.1, c.requires.2)

pub put_byte-requires : goal.put_byte-requires
put_byte-requires c =
    let a = c.args in
    let left = put-left column_room (code_digits + 1 + offset_room + 1) c.put_column-a.ensures (column-most _ _) (omega arith) in
    let left-2 = put-left code_digits (1 + offset_room + 1) c.put_answer-b.ensures (coded-most a.answer a.code) left in
    let left-3 = put-left 1 (offset_room + 1) c.put_byte-c.ensures (omega arith) left-2 in
    let left-4 = put-left offset_room 1 c.put_offset-d.ensures (offset-most _ a.q a.clock) left-3 in
    omega (arith, left-4)

pub returns : goal.returns
unfolding coded_line
returns c =
    rw (← c.is_answered.ensures)
    (put_then c.put_column-a.ensures
    (put_then c.put_answer-b.ensures
    (put_then c.put_byte-c.ensures (put_then c.put_offset-d.ensures c.put_byte.ensures))))
