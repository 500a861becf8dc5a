-- Where all rows stay, so do their numbers. Else of the rows passed those that stay stand at the front; then the rows
-- after them are wiped.
use mathlib.Core.Path.{sym, ◌∙◌}
use native.Mathlib.Omega.{arith}
use Rattle.bank_rows.specs.Layout.{nonce_width}
use Rattle.bank_rows.specs.Records.{nonce_of, nonce_row, stays_remembered, row_stays}
use Rattle.bank_lists.proofs.Keeping.{keeping_start, keeping_moved, keeping_none, keeping-end, kept-all}
use Rattle.bank_rows.proofs.Records.{nonce-wide, nonce-row}
use Rattle.bank_rows.proofs.Tests.{all-holds}
use Rattle.bank_lists.proofs.nonces.keep_nonces.Goals as goal
use Rattle.bank_lists.proofs.nonces.keep_nonces.Goals.{then-stays_at, else-stays_at}

pub returns-then-all_stay : goal.returns-then-all_stay
returns-then-all_stay c =
    let a = c.args in
    kept-all nonce_width nonce_of nonce_row (stays_remembered a.clock) nonce-wide nonce-row a.area.now a.n (omega (arith, c.requires.0, c.requires.1))
    (all-holds (row_stays a.clock a.area.now) a.n (sym c.all_stay.ensures ∙ c.if-all_stay.true))

pub loop-row-init : goal.loop-row-init
loop-row-init c = let a = c.args in keeping_start nonce_width nonce_of nonce_row (stays_remembered a.clock) nonce-wide nonce-row a.area.now a.n

pub loop-row-preserved : goal.loop-row-preserved
loop-row-preserved c =
    let a = c.args in
    elim c.if-stays_at.branch [
      | then-stays_at w ↦ rw (w.area-is, w.kept-is, w.move_row.ensures)
          (keeping_moved nonce_width nonce_of nonce_row (stays_remembered a.clock) nonce-wide nonce-row a.area.now c.loop-row.area a.n c.loop-row.kept c.loop-row.row
          (omega (arith, c.requires.0, c.requires.1)) c.loop-row.invariant c.loop-row-test.true
          (sym c.stays_at.ensures ∙ w.if-stays_at.true))
      | else-stays_at w ↦ rw (w.area-is, w.kept-is)
          (keeping_none nonce_width nonce_of nonce_row (stays_remembered a.clock) nonce-wide nonce-row a.area.now c.loop-row.area a.n c.loop-row.kept c.loop-row.row
          (omega (arith, c.requires.0, c.requires.1)) c.loop-row.invariant c.loop-row-test.true
          (sym c.stays_at.ensures ∙ w.if-stays_at.false))
    ]

pub returns : goal.returns
returns c =
    let a = c.args in
    keeping-end nonce_width nonce_of nonce_row (stays_remembered a.clock) nonce-wide nonce-row a.area.now c.loop-row.area _ a.n c.loop-row.kept c.loop-row.row
    (omega (arith, c.requires.0, c.requires.1)) c.loop-row.invariant c.loop-row-test.false c.wipe.ensures
