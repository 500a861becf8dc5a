-- Of the rows passed those that stay stand at the front; then the rows after them are wiped.
use mathlib.Core.Path.{sym, ap, ◌∙◌}
use native.Mathlib.Omega.{arith}
use Rattle.bank_rows.specs.Layout.{download_width}
use Rattle.bank_rows.specs.Records.{download_of, download_row, stays_open}
use Rattle.bank_lists.proofs.Keeping.{keeping_start, keeping_moved, keeping_none, keeping-end}
use Rattle.bank_rows.proofs.Records.{download-wide, download-row}
use mathlib.Core.Bool.{not}
use Rattle.bank_lists.proofs.downloads.keep_downloads.Goals as goal
use Rattle.bank_lists.proofs.downloads.keep_downloads.Goals.{then-not-ends_at, else-not-ends_at}

pub loop-row-init : goal.loop-row-init
loop-row-init c = let a = c.args in keeping_start download_width download_of download_row (stays_open a.which) download-wide download-row a.area.now a.n

pub loop-row-preserved : goal.loop-row-preserved
loop-row-preserved c =
    let a = c.args in
    elim c.if-not-ends_at.branch [
      | then-not-ends_at w ↦ rw (w.area-is, w.kept-is, w.move_row.ensures)
          (keeping_moved download_width download_of download_row (stays_open a.which) download-wide download-row a.area.now c.loop-row.area a.n c.loop-row.kept c.loop-row.row
          (omega (arith, c.requires.0, c.requires.1)) c.loop-row.invariant c.loop-row-test.true
          (ap not (sym c.ends_at.ensures ∙ w.if-not-ends_at.true)))
      | else-not-ends_at w ↦ rw (w.area-is, w.kept-is)
          (keeping_none download_width download_of download_row (stays_open a.which) download-wide download-row a.area.now c.loop-row.area a.n c.loop-row.kept c.loop-row.row
          (omega (arith, c.requires.0, c.requires.1)) c.loop-row.invariant c.loop-row-test.true
          (ap not (sym c.ends_at.ensures ∙ w.if-not-ends_at.false)))
    ]

pub returns : goal.returns
returns c =
    let a = c.args in
    keeping-end download_width download_of download_row (stays_open a.which) download-wide download-row a.area.now c.loop-row.area _ a.n c.loop-row.kept c.loop-row.row
    (omega (arith, c.requires.0, c.requires.1)) c.loop-row.invariant c.loop-row-test.false c.wipe.ensures
