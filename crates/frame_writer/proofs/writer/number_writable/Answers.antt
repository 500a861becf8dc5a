-- `number_writable` meets its contract. Assumes nothing.
use Rattle.std.proofs.Common.{sym, ◌∙◌, rules}
use Rattle.frame_writer.proofs.Numbers.{number_fits, number-over}
use Rattle.frame_writer.proofs.writer.number_writable.Goals as goal

pub returns-else-fits : goal.returns-else-fits
returns-else-fits c d =
    let a = c.args in
    let e = sym (rw c.width.ensures at c.fits.ensures) ∙ c.if-fits.false in
    c.if-fits.false
    ∙ sym (number-over a.tag a.number.high a.number.low d c.requires.0 c.requires.1 (search rules) e)

pub returns-then-fits : goal.returns-then-fits
returns-then-fits c d =
    let a = c.args in
    let e = sym (rw c.width.ensures at c.fits.ensures) ∙ c.if-fits.true in
    c.number_listed.ensures
    ∙ sym (number_fits a.tag a.number.high a.number.low d c.requires.0 c.requires.1 (search rules) e)
