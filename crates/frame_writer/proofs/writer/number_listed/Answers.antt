-- `number_listed` meets its contract: the values of the tag say which test it is; a number in a range has no high half.
-- Assumes nothing.
use Prim.Native.Nat.{◌+◌, ◌*◌, ◌^◌}
use mathlib.Core.Path.{◌≡◌, sym, ap, ◌∙◌}
use native.Mathlib.Omega.{arith}
use Rattle.octets.proofs.Numbers.{number-bytes_of}
use Rattle.frame_table.specs.Table.{width, in_range}
use Rattle.frame_table.proofs.Values.{width_narrow, range-narrow}
use Rattle.frame_row.proofs.Contents.{listed-as}
use Rattle.frame_writer.proofs.Numbers.{low-alone}
use Rattle.frame_writer.proofs.writer.number_listed.Goals as goal

pub number_spelled-requires : goal.number_spelled-requires
number_spelled-requires c =
    omega (arith, c.width.ensures, width_narrow c.args.tag c.requires.0 c.requires.1)

pub returns-in-Any : goal.returns-in-Any
returns-in-Any c = sym (listed-as c.args.tag _ _ (sym c.in-Any.ensures))

pub returns-in-Range : goal.returns-in-Range
returns-in-Range c =
    let a = c.args in
    let high = a.number.high in
    let low = a.number.low in
    let e = sym c.in-Range.ensures in
    let w = range-narrow a.tag _ _ c.requires.0 e in
    let x : low ≡ high * 2 ^ 64 + low = low-alone high low (width a.tag) w.1 c.requires.2 in
    let n = x ∙ sym (number-bytes_of (width a.tag) (high * 2 ^ 64 + low) c.requires.2) in
    c.in_range.ensures ∙ ap (in_range _ _) n ∙ sym (listed-as a.tag _ _ e)

pub returns-in-Text : goal.returns-in-Text
returns-in-Text c =
    c.number_spelled.ensures ∙ rw c.width.ensures (sym (listed-as c.args.tag _ _ (sym c.in-Text.ensures)))
