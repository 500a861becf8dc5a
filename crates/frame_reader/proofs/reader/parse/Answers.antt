-- `parse` meets its contract: each tag's field is read behind those before it, from tag 1 on. Assumes nothing.
use mathlib.Core.Path.{refl, ◌∙◌}
use native.Mathlib.Omega.{arith}
use Rattle.frame_reader.specs.Reader.{parse}
use Rattle.frame_reader.proofs.Walk.{read_to_data, read_next, read-end, data-tail, end-within, end_after, data-stand}
use Rattle.frame_reader.proofs.reader.parse.Goals as goal

pub overflow_sub-at : goal.overflow_sub-at
overflow_sub-at c =
    let to-data =
    read_to_data c.none-fields.ensures c.read_field-rest.ensures c.read_field-rest-2.ensures
    c.read_field-rest-3.ensures c.read_field-rest-4.ensures c.read_field-rest-5.ensures c.read_field-rest-6.ensures
    c.read_field-rest-7.ensures c.read_field-rest-8.ensures c.read_field-rest-9.ensures c.read_field-rest-10.ensures in
    (data-tail to-data).0

pub overflow_sub-end : goal.overflow_sub-end
overflow_sub-end c =
    let to-data =
    read_to_data c.none-fields.ensures c.read_field-rest.ensures c.read_field-rest-2.ensures
    c.read_field-rest-3.ensures c.read_field-rest-4.ensures c.read_field-rest-5.ensures c.read_field-rest-6.ensures
    c.read_field-rest-7.ensures c.read_field-rest-8.ensures c.read_field-rest-9.ensures c.read_field-rest-10.ensures in
    end-within to-data c.read_field-rest-11.ensures

pub content_at-requires : goal.content_at-requires
content_at-requires c =
    let to-data =
    read_to_data c.none-fields.ensures c.read_field-rest.ensures c.read_field-rest-2.ensures
    c.read_field-rest-3.ensures c.read_field-rest-4.ensures c.read_field-rest-5.ensures c.read_field-rest-6.ensures
    c.read_field-rest-7.ensures c.read_field-rest-8.ensures c.read_field-rest-9.ensures c.read_field-rest-10.ensures in
    end_after to-data c.read_field-rest-11.ensures

pub returns : goal.returns
unfolding parse
returns c =
    let to-data =
    read_to_data c.none-fields.ensures c.read_field-rest.ensures c.read_field-rest-2.ensures
    c.read_field-rest-3.ensures c.read_field-rest-4.ensures c.read_field-rest-5.ensures c.read_field-rest-6.ensures
    c.read_field-rest-7.ensures c.read_field-rest-8.ensures c.read_field-rest-9.ensures c.read_field-rest-10.ensures in
    let r12 = read_next to-data (omega arith) c.read_field-rest-11.ensures in
    let r13 = read_next r12 (omega arith) c.read_field-rest-12.ensures in
    let r14 = read_next r13 (omega arith) c.read_field-rest-13.ensures in
    let r15 = read_next r14 (omega arith) c.read_field-rest-14.ensures in
    let r16 = read_next r15 (omega arith) c.read_field-rest-15.ensures in
    let r17 = read_next r16 (omega arith) c.read_field-rest-16.ensures in
    let r = read_next r17 (omega arith) c.read_field-rest-17.ensures in (
      c.fields_if.ensures ∙ rw c.is_whole.ensures (rw (r.left, read-end r)),
      data-stand to-data c.read_field-rest-11.ensures _ _ refl c.content_at.ensures,
    )
