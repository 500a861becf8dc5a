-- `fits` meets its contract. Assumes nothing.
use Rattle.std.proofs.Common.{sym, ◌∙◌, rules}
use borrow.Author.Tests.{ne_eqb}
use Rattle.frame_writer.proofs.Numbers.{high_fits, low-only}
use Rattle.frame_writer.proofs.writer.fits.Goals as goal

pub returns-then-w-gt8 : goal.returns-then-w-gt8
returns-then-w-gt8 c =
    let a = c.args in
    c.is_below.ensures ∙ high_fits a.number.high a.number.low (search rules) a.w c.if-w-gt8.true

pub returns-else-number-eq0 : goal.returns-else-number-eq0
returns-else-number-eq0 c =
    let a = c.args in
    ne_eqb a.number.high 0 c.if-number-eq0.false
    ∙ sym (low-only a.number.high a.number.low (search rules) a.w c.if-w-gt8.false c.if-number-eq0.false)
