-- `put_word` meets its contract: its three parts stand one behind the other. Assumes nothing.
use Prim.Native.Nat.{◌+◌, ◌≤◌}
use lib.ListN.{length}
use native.Mathlib.Omega.{arith}
use Rattle.print.specs.Text.{column_room}
use Rattle.print.proofs.Digits.{column-most}
use Rattle.print.proofs.Texts.{put-nothing, put_then, put-left}
use Rattle.print.specs.Closing.{closing_room}
use Rattle.driver_print.specs.Tables.{word_row}
use Rattle.driver_print.proofs.Texts.{stage-most}
use Rattle.driver_print.proofs.tables.put_word.Goals as goal

pub returns-then-not-is_begun : goal.returns-then-not-is_begun
unfolding word_row
returns-then-not-is_begun c =
    rw (← c.is_begun.ensures, c.if-not-is_begun.true) (put-nothing _ _ (omega arith))

pub put_stage-b-requires : goal.put_stage-b-requires
put_stage-b-requires c =
    let left : c.put_column-a.result + (closing_room + 1) ≤ length c.put_column-a.new.output = put-left column_room (closing_room + 1) c.put_column-a.ensures (column-most _ _) (omega arith) in
    omega (arith, left)

pub put_byte-requires : goal.put_byte-requires
put_byte-requires c =
    let left : c.put_column-a.result + (closing_room + 1) ≤ length c.put_column-a.new.output = put-left column_room (closing_room + 1) c.put_column-a.ensures (column-most _ _) (omega arith) in
    let run = c.args.c in
    let most = stage-most run.stage c.order_name.result in
    omega (arith, put-left closing_room 1 c.put_stage-b.ensures most (left))

pub returns : goal.returns
unfolding word_row
returns c =
    rw (← c.is_begun.ensures, c.if-not-is_begun.false, ← c.order_name.ensures)
    (put_then c.put_column-a.ensures (put_then c.put_stage-b.ensures c.put_byte.ensures))
