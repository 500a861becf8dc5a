-- `with_tag` adds no bit past the 32nd.
use Rattle.std.proofs.Common.{sym, ◌∙◌, arith, rules}
use Rattle.frame_table.proofs.Tags.{one_shifted, added-lt}
use Rattle.frame_table.proofs.fields.with_tag.Goals as goal

pub overflow_add-result : goal.overflow_add-result
overflow_add-result c =
    let a = c.args in
    let absent = sym c.has.ensures ∙ c.if-has.false in
    omega (arith, one_shifted a.tag (search rules), added-lt a.tags a.tag absent 32 (search rules) (search rules))
