-- `frame_length` meets its contract. The loop's invariant: the fields passed are writable, `length` their bytes. Assumes nothing.
use Rattle.std.proofs.Common.{◌≡◌, false, refl, sym, ap, ◌∙◌, arith, rules, length, length-append, Some}
use Rattle.frame_table.specs.Table.{tag_count}
use Rattle.frame_row.specs.Row.{piece}
use Rattle.frame_writer.specs.Writer.{content_of, frame_of, fields_writable}
use Rattle.frame_row.proofs.Contents.{piece-bound}
use Rattle.frame_writer.proofs.Loops.{content-most, data-most, join_step, join-end, writable-step, writable-end}
use Rattle.frame_writer.proofs.writer.frame_length.Goals as goal

pub loop-tag-init : goal.loop-tag-init
unfolding frame_of
loop-tag-init c = (refl, omega arith, omega arith)

pub returns-then-not-field_writable : goal.returns-then-not-field_writable
returns-then-not-field_writable c =
    let f = c.args.fields.now in
    let d = c.args.«data».now in
    let w = sym c.field_writable.ensures ∙ c.if-not-field_writable.true in
    let e : fields_writable tag_count 0 f d ≡ false =
    c.loop-tag.invariant.0 ∙ writable-step c.loop-tag.tag f d (search rules) ∙ rw w in
    sym (rw e)

pub piece_length-length-requires : goal.piece_length-length-requires
piece_length-length-requires c =
    let w = sym c.field_writable.ensures ∙ c.if-not-field_writable.false in
    (search rules, data-most c.loop-tag.tag c.args.fields.now c.args.«data».now w)

pub overflow_add-length : goal.overflow_add-length
overflow_add-length c =
    let f = c.args.fields.now in
    let d = c.args.«data».now in
    let w = sym c.field_writable.ensures ∙ c.if-not-field_writable.false in
    let b = piece-bound c.loop-tag.tag (content_of c.loop-tag.tag f d) in
    omega (arith, c.piece_length-length.ensures, c.loop-tag.invariant.2, b, content-most c.loop-tag.tag f d w)

pub loop-tag-preserved : goal.loop-tag-preserved
loop-tag-preserved c =
    let f = c.args.fields.now in
    let d = c.args.«data».now in
    let p = piece c.loop-tag.tag (content_of c.loop-tag.tag f d) in
    let w = sym c.field_writable.ensures ∙ c.if-not-field_writable.false in
    let b = piece-bound c.loop-tag.tag (content_of c.loop-tag.tag f d) in
    let e = ap length (join_step c.loop-tag.tag f d (search rules)) ∙ length-append p _ in
    let n = c.piece_length-length.ensures in (
      c.loop-tag.invariant.0 ∙ writable-step c.loop-tag.tag f d (search rules) ∙ rw w,
      omega (arith, n, c.loop-tag.invariant.1, e),
      omega (arith, n, c.loop-tag.invariant.2, b, content-most c.loop-tag.tag f d w),
    )

pub returns : goal.returns
returns c =
    let f = c.args.fields.now in
    let d = c.args.«data».now in
    let w = c.loop-tag.invariant.0 ∙ writable-end c.loop-tag.tag f d (search rules) in
    let e = ap length (join-end c.loop-tag.tag f d (search rules)) in
    rw w (ap Some (omega (arith, c.loop-tag.invariant.1, e)))
