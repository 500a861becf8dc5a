-- The loop keeps that the first i rows are written. Assumes nothing.
use Rattle.bank_steps.specs.Lent.{lent}
use Rattle.print.proofs.Rows.{Rows}
use Rattle.driver_print.specs.Tables.{row_at, row_count, room_of}
use Rattle.driver_print.proofs.tables.put_rows.Given as goal

abbrev pub invariant-loop-i : goal.invariant-loop-i
invariant-loop-i l = Rows (row_at l.t l.shown.unit (lent l.shown.rows.now l.shown.orders.now l.shown.mailboxes.now) l.shown.files.now) (room_of l.t) (row_count l.t) l.initial.output l.at l.i l.output l.end
