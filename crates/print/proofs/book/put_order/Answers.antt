-- The test tells whether there is a line; the columns are written by their own function. Assumes nothing.
use native.Mathlib.Omega.{arith}
use Rattle.print.specs.Book.{order_line}
use Rattle.print.proofs.Texts.{put-nothing}
use Rattle.print.proofs.book.put_order.Goals as goal

pub returns-then-is_booked : goal.returns-then-is_booked
unfolding order_line
returns-then-is_booked c =
    rw (← c.is_booked.ensures, c.if-is_booked.true) c.put_order_columns.ensures

pub returns-else-is_booked : goal.returns-else-is_booked
unfolding order_line
returns-else-is_booked c =
    rw (← c.is_booked.ensures, c.if-is_booked.false) (put-nothing _ _ (omega arith))
