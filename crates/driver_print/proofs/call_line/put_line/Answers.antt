-- `put_line` meets its contract: its three parts stand one behind the other. Assumes nothing.
use Prim.Native.Nat.{ℕ, ◌+◌, ◌≤◌}
use lib.ListN.{length}
use native.Mathlib.Omega.{arith}
use Rattle.print.specs.Text.{column_room}
use Rattle.print.proofs.Digits.{column-most}
use Rattle.print.proofs.Texts.{put_then, put-left}
use Rattle.driver_print.specs.Line.{line_of, answer_room}
use Rattle.driver_print.proofs.Texts.{answer-most}
use Rattle.driver_print.proofs.call_line.put_line.Goals as goal

pub put_answer-b-requires : goal.put_answer-b-requires
put_answer-b-requires c =
    let room : ℕ = answer_room (length c.args.buffer.now) in
    let left : c.put_column-a.result + (room + 1) ≤ length c.put_column-a.new.output = put-left column_room (room + 1) c.put_column-a.ensures (column-most _ _) (omega arith) in
    omega (arith, left)

pub put_byte-requires : goal.put_byte-requires
put_byte-requires c =
    let room : ℕ = answer_room (length c.args.buffer.now) in
    let left : c.put_column-a.result + (room + 1) ≤ length c.put_column-a.new.output = put-left column_room (room + 1) c.put_column-a.ensures (column-most _ _) (omega arith) in
    let a = c.args in
    omega (arith, put-left (room) 1 c.put_answer-b.ensures (answer-most a.answer a.buffer.now a.room.now) (left))

pub returns : goal.returns
unfolding line_of
returns c =
    put_then c.put_column-a.ensures
    (put_then c.put_answer-b.ensures c.put_byte.ensures)
