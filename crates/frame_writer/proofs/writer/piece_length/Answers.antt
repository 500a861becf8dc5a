-- `piece_length` meets its contract. Assumes nothing.
use Rattle.std.proofs.Common.{sym, ◌∙◌, arith}
use borrow.Author.Tests.{eq-eqb, ne_eqb}
use Rattle.frame_table.specs.Table.{width}
use Rattle.octets.proofs.Numbers.{length-bytes_of}
use Rattle.frame_table.proofs.Values.{width_narrow}
use Rattle.frame_row.proofs.Contents.{piece-length}
use Rattle.frame_writer.specs.Writer.{content_of}
use Rattle.frame_writer.proofs.writer.piece_length.Goals as goal

pub returns-then-not-has : goal.returns-then-not-has
unfolding content_of
returns-then-not-has c = sym (piece-length _ _ ∙ rw (sym c.has.ensures ∙ c.if-not-has.true))

pub overflow_add-result : goal.overflow_add-result
overflow_add-result c =
    omega (arith, width_narrow c.args.tag c.requires.0 c.if-tag-ne-DATA.true, c.width.ensures)

pub returns-then-tag-ne-DATA : goal.returns-then-tag-ne-DATA
unfolding content_of
returns-then-tag-ne-DATA c =
    let a = c.args in
    let n = c.if-tag-ne-DATA.true in
    let h = sym c.has.ensures ∙ c.if-not-has.false in
    let w = width_narrow a.tag c.requires.0 n in
    sym (piece-length _ _ ∙ rw (h, ne_eqb _ _ n, length-bytes_of, ne_eqb (width a.tag) 0 (λ z. omega arith), c.width.ensures))

pub returns-then-is_empty : goal.returns-then-is_empty
unfolding content_of
returns-then-is_empty c =
    let h = sym c.has.ensures ∙ c.if-not-has.false in
    let e = sym c.is_empty.ensures ∙ c.if-is_empty.true in
    sym (piece-length _ _ ∙ rw (h, eq-eqb _ _ c.if-tag-ne-DATA.false, e))

pub returns-else-is_empty : goal.returns-else-is_empty
unfolding content_of
returns-else-is_empty c =
    let h = sym c.has.ensures ∙ c.if-not-has.false in
    let e = sym c.is_empty.ensures ∙ c.if-is_empty.false in
    sym (piece-length _ _ ∙ rw (h, eq-eqb _ _ c.if-tag-ne-DATA.false, e))
