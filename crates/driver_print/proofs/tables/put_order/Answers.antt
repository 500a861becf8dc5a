-- The test tells whether there is a row; the book's columns, then the content. Assumes nothing.
use native.Mathlib.Omega.{arith}
use Rattle.print.specs.Book.{order_columns_room}
use Rattle.print.proofs.Lengths.{columns-most}
use Rattle.print.proofs.Texts.{put-nothing, put_then, put-left}
use Rattle.driver_print.specs.Tables.{order_row, content_room}
use borrow.Author.Rules.{rules}
use Rattle.driver_print.proofs.tables.put_order.Goals as goal

pub returns-then-not-is_booked : goal.returns-then-not-is_booked
unfolding order_row
returns-then-not-is_booked c =
    rw (← c.is_booked.ensures, c.if-not-is_booked.true) (put-nothing _ _ (omega arith))

pub put_content-requires : goal.put_content-requires
put_content-requires c =
    (put-left order_columns_room content_room c.put_order_columns-a.ensures (columns-most _ _ _) (omega arith), search rules)

pub returns : goal.returns
unfolding order_row
returns c =
    rw (← c.is_booked.ensures, c.if-not-is_booked.false)
    (put_then c.put_order_columns-a.ensures c.put_content.ensures)
