-- The header, then the rows. Assumes nothing.
use native.Mathlib.Omega.{arith}
use Rattle.print.proofs.Texts.{put-length, put_then, printed-put, printed-none}
use Rattle.driver_print.specs.Tables.{table_of, table_room}
use Rattle.driver_print.proofs.Texts.{header-most, rows_fit}
use borrow.Author.Rules.{rules}
use Rattle.driver_print.proofs.tables.table_of.Goals as goal

pub returns-then-output-lt-TABLE_ROOM : goal.returns-then-output-lt-TABLE_ROOM
returns-then-output-lt-TABLE_ROOM c = printed-none _ _ _ c.if-output-lt-TABLE_ROOM.true

pub put_rows-requires : goal.put_rows-requires
put_rows-requires c =
    let t = c.args.t in
    let placed = c.put_header-at.ensures in
    (omega (arith, placed.place, put-length placed, header-most t, rows_fit t), search rules)

pub returns : goal.returns
unfolding table_of
returns c =
    printed-put table_room c.if-output-lt-TABLE_ROOM.false (put_then c.put_header-at.ensures c.put_rows.ensures)
