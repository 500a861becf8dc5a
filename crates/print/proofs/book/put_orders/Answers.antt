-- The loop keeps that the lines of the first i places are written. Assumes nothing.
use native.Mathlib.Omega.{arith}
use Rattle.print.proofs.Rows.{rows_start, rows_left, rows_next, rows_end}
use Rattle.print.proofs.Lengths.{order-most}
use Rattle.print.proofs.book.put_orders.Goals as goal

pub loop-i-init : goal.loop-i-init
loop-i-init c = rows_start _ _ _ _ _ c.requires.0

pub put_order-end-requires : goal.put_order-end-requires
put_order-end-requires c = rows_left _ _ _ _ _ c.loop-i.invariant (omega arith)

pub loop-i-preserved : goal.loop-i-preserved
loop-i-preserved c =
    rows_next _ _ _ _ _ c.loop-i.invariant (omega arith) (order-most _) (rw (← c.place_at.ensures) c.put_order-end.ensures)

pub returns : goal.returns
returns c = rows_end _ _ _ _ _ c.loop-i.invariant (omega arith)
