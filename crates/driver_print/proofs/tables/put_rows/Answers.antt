-- `put_rows` meets its contract. The loop keeps that the first i rows are written. Assumes nothing.
use Rattle.bank_steps.specs.Lent.{lent}
use Rattle.print.proofs.Texts.{put-length}
use Rattle.print.proofs.Rows.{rows_start, rows_left, rows_next, rows_end}
use Rattle.driver_print.proofs.Texts.{row-most}
use borrow.Author.Rules.{rules}
use Rattle.driver_print.proofs.tables.put_rows.Goals as goal

pub loop-i-init : goal.loop-i-init
loop-i-init c = rows_start _ _ _ _ _ c.requires.0

pub put_row-end-requires : goal.put_row-end-requires
put_row-end-requires c =
    let below = rw c.row_count-i-end.ensures at c.loop-i-test.true in
    (rows_left _ _ _ _ _ c.loop-i.invariant below, below, search rules)

pub loop-i-preserved : goal.loop-i-preserved
loop-i-preserved c =
    let a = c.args in
    let s = a.shown.now in
    let below = rw c.row_count-i-end.ensures at c.loop-i-test.true in
    let most = row-most a.t s.unit (lent s.rows.now s.orders.now s.mailboxes.now) s.files.now c.loop-i.i in
    rows_next _ _ _ _ _ c.loop-i.invariant below most c.put_row-end.ensures

pub shape_of-output : goal.shape_of-output
shape_of-output c = put-length c.loop-i.invariant.put

pub returns : goal.returns
returns c =
    rows_end _ _ _ _ _ c.loop-i.invariant (rw c.row_count-i-end.ensures at c.loop-i-test.false)
