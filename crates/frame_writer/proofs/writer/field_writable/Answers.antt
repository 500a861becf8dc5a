-- `field_writable` meets its contract. Assumes nothing.
use Rattle.std.proofs.Common.{sym, ◌∙◌}
use borrow.Author.Tests.{ne_eqb}
use Rattle.frame_writer.specs.Writer.{content_of, field_writable}
use Rattle.frame_writer.proofs.writer.field_writable.Goals as goal

pub returns-then-not-has : goal.returns-then-not-has
unfolding field_writable content_of
returns-then-not-has c =
    let n = c.number_of-number.ensures in
    c.absent_writable.ensures ∙ rw (n.0, n.1, sym c.has.ensures ∙ c.if-not-has.true)

pub returns-then-tag-eq-DATA : goal.returns-then-tag-eq-DATA
unfolding field_writable content_of
returns-then-tag-eq-DATA c =
    let n = c.number_of-number.ensures in
    c.data_writable.ensures ∙ rw (n.0, n.1, sym c.has.ensures ∙ c.if-not-has.false, c.if-tag-eq-DATA.true)

pub returns-else-tag-eq-DATA : goal.returns-else-tag-eq-DATA
unfolding field_writable content_of
returns-else-tag-eq-DATA c =
    let n = c.number_of-number.ensures in
    c.number_writable.ensures c.args.«data».now
    ∙ rw (n.0, n.1, sym c.has.ensures ∙ c.if-not-has.false, ne_eqb _ _ c.if-tag-eq-DATA.false)
