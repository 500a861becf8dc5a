-- The header, the seven and the newline stand one behind the other. Assumes nothing.
use native.Mathlib.Omega.{arith}
use Rattle.print.specs.Seven.{counts_room}
use Rattle.print.proofs.Lengths.{counts-most}
use Rattle.print.proofs.Texts.{put_then, put-left, printed-put, printed-none}
use Rattle.driver_print.specs.Counts.{counts_table, counts_table_room}
use Rattle.driver_print.proofs.counts_table.counts_table.Goals as goal

pub returns-then-output-lt-COUNTS_TABLE_ROOM : goal.returns-then-output-lt-COUNTS_TABLE_ROOM
returns-then-output-lt-COUNTS_TABLE_ROOM c = printed-none _ _ _ c.if-output-lt-COUNTS_TABLE_ROOM.true

pub put_byte-requires : goal.put_byte-requires
put_byte-requires c =
    omega (arith, put-left counts_room 1 c.put_counts-b.ensures (counts-most _) (omega arith))

pub returns : goal.returns
unfolding counts_table
returns c =
    printed-put counts_table_room (omega (arith, c.if-output-lt-COUNTS_TABLE_ROOM.false))
    (put_then c.put_text-a.ensures (put_then c.put_counts-b.ensures c.put_byte.ensures))
