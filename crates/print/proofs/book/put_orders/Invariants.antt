-- The loop keeps that the lines of the first i places are written. Assumes nothing.
use Rattle.bank_state.specs.Limits.{place_count}
use Rattle.bank_rows.specs.State.{bank_of}
use Rattle.print.specs.Book.{line_at, order_columns_room}
use Rattle.print.proofs.Rows.{Rows}
use Rattle.print.proofs.book.put_orders.Given as goal

abbrev pub invariant-loop-i : goal.invariant-loop-i
invariant-loop-i l = Rows (line_at (bank_of l.rows)) order_columns_room place_count l.initial.output l.at l.i l.output l.end
