-- `absent_writable` meets its contract. Assumes nothing.
use Rattle.std.proofs.Common.{sym, ◌∙◌, length}
use borrow.Author.Tests.{eq-eqb, ne_eqb}
use Rattle.octets.proofs.Tests.{eqb_same}
use Rattle.frame_writer.specs.Writer.{data_whole}
use Rattle.frame_writer.proofs.Numbers.{absent-fits}
use Rattle.frame_writer.proofs.writer.absent_writable.Goals as goal

pub returns-else-eq : goal.returns-else-eq
returns-else-eq c =
    let a = c.args in
    c.if-eq.false
    ∙ sym (absent-fits a.tag a.number.high a.number.low a.«data».now ∙ rw (sym c.eq.ensures ∙ c.if-eq.false))

pub returns-then-tag-ne-DATA : goal.returns-then-tag-ne-DATA
unfolding data_whole
returns-then-tag-ne-DATA c =
    let a = c.args in
    sym (absent-fits a.tag a.number.high a.number.low a.«data».now
    ∙ rw (sym c.eq.ensures ∙ c.if-eq.true, ne_eqb _ _ c.if-tag-ne-DATA.true))

pub returns-else-tag-ne-DATA : goal.returns-else-tag-ne-DATA
unfolding data_whole
returns-else-tag-ne-DATA c =
    let a = c.args in
    let n = length a.«data».now in
    c.is_empty.ensures ∙ eqb_same {a = n} {b = 0} {c = 0} {d = n} (λ e. sym e) (λ e. sym e)
    ∙ sym (absent-fits a.tag a.number.high a.number.low a.«data».now
    ∙ rw (sym c.eq.ensures ∙ c.if-eq.true, eq-eqb _ _ c.if-tag-ne-DATA.false))
