-- `value` meets its contract: the table's width tells how many bytes there are, and where the last eight begin. Assumes
-- nothing.
use mathlib.Core.Path.{ap, ◌∙◌}
use Prim.Native.Nat.{ℕ, ◌-◌, ◌≤◌}
use native.Mathlib.Omega.{arith}
use lib.ListN.{length, length-take, length-drop}
use borrow.Author.Rules.{rules}
use Rattle.frame_table.specs.Table.{width}
use Rattle.octets.proofs.Numbers.{take_rest}
use Rattle.frame_reader.proofs.Values.{width-most, width-enough, value-is}
use Rattle.frame_reader.proofs.reader.value.Goals as goal

pub leading-requires : goal.leading-requires
leading-requires c =
    let bytes : (width c.args.tag ≤ length c.args.content.now) × (width c.args.tag ≤ 16) = let a = c.args in
    (width-enough a.tag a.content.now c.requires.0 c.requires.1, width-most a.tag c.requires.0) in
    let b = bytes in
    (omega (arith, c.width-n.ensures), omega (arith, c.width-n.ensures))

pub slice_bounds-leading-count : goal.slice_bounds-leading-count
slice_bounds-leading-count c =
    let bytes : (width c.args.tag ≤ length c.args.content.now) × (width c.args.tag ≤ 16) = let a = c.args in
    (width-enough a.tag a.content.now c.requires.0 c.requires.1, width-most a.tag c.requires.0) in
    omega (arith, c.width-n.ensures, bytes)

pub slice_bounds-leading-start : goal.slice_bounds-leading-start
slice_bounds-leading-start c =
    let bytes : (width c.args.tag ≤ length c.args.content.now) × (width c.args.tag ≤ 16) = let a = c.args in
    (width-enough a.tag a.content.now c.requires.0 c.requires.1, width-most a.tag c.requires.0) in
    omega (arith, c.width-n.ensures, bytes)

pub leading-requires-2 : goal.leading-requires-2
leading-requires-2 c =
    let bytes : (width c.args.tag ≤ length c.args.content.now) × (width c.args.tag ≤ 16) = let a = c.args in
    (width-enough a.tag a.content.now c.requires.0 c.requires.1, width-most a.tag c.requires.0) in
    let b = bytes in
    let w = c.width-n.ensures in
    (simp (length-take, length-drop) (omega arith), omega arith)

pub returns : goal.returns
returns c =
    let a = c.args in
    let k = c.saturating_sub-k.result in
    let w = c.width-n.ensures in
    let rest = take_rest a.content.now k in
    value-is a.tag a.content.now c.requires.0 c.requires.1 k c.leading.result c.leading-2.result
    (c.saturating_sub-k.ensures ∙ ap (λ (n : ℕ). n - 8) w) (search rules) c.leading.ensures.0
    (c.leading-2.ensures.0 ∙ rw (rest, w))
