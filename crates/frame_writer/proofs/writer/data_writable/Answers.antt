-- `data_writable` meets its contract. Assumes nothing.
use Rattle.std.proofs.Common.{sym, ◌∙◌}
use Rattle.frame_writer.proofs.Numbers.{data-fits}
use Rattle.frame_writer.proofs.writer.data_writable.Goals as goal

pub returns-else-eq : goal.returns-else-eq
returns-else-eq c =
    let a = c.args in
    c.if-eq.false
    ∙ sym (data-fits a.number.high a.number.low a.«data».now ∙ rw (sym c.eq.ensures ∙ c.if-eq.false))

pub returns-then-eq : goal.returns-then-eq
returns-then-eq c =
    let a = c.args in
    c.well_formed-then-eq.ensures
    ∙ sym (data-fits a.number.high a.number.low a.«data».now ∙ rw (sym c.eq.ensures ∙ c.if-eq.true))
