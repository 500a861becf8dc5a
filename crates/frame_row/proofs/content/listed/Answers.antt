-- `listed` meets its contract: the values of the tag say which test it is. Assumes nothing.
use Rattle.std.proofs.Common.{sym, ap, ◌∙◌, arith}
use Rattle.frame_table.specs.Table.{in_range}
use Rattle.frame_table.proofs.Values.{range-narrow}
use Rattle.frame_row.proofs.Contents.{listed-as}
use Rattle.frame_row.proofs.content.listed.Goals as goal

pub number-requires : goal.number-requires
number-requires c =
    let w = range-narrow c.args.tag _ _ c.requires.0 (sym c.in-Range.ensures) in
    omega (arith, c.requires.1 (λ z. omega arith))

pub returns-in-Any : goal.returns-in-Any
returns-in-Any c = sym (listed-as c.args.tag c.args.content.now _ (sym c.in-Any.ensures))

pub returns-in-Range : goal.returns-in-Range
returns-in-Range c =
    c.in_range.ensures ∙ ap (in_range _ _) c.number.ensures.0
    ∙ sym (listed-as c.args.tag c.args.content.now _ (sym c.in-Range.ensures))

pub returns-in-Text : goal.returns-in-Text
returns-in-Text c = c.spelled.ensures ∙ sym (listed-as c.args.tag c.args.content.now _ (sym c.in-Text.ensures))
