-- `read_field` meets its contract: where no field stands nothing changes, else its content says the number. Assumes
-- nothing.
use mathlib.Core.Path.{◌≡◌, sym, ◌∙◌}
use Prim.Native.Nat.{◌≤◌}
use native.Mathlib.Omega.{arith}
use lib.ListN.{length}
use lib.Pow.{pow_mono}
use borrow.Author.Rules.{rules}
use Rattle.frame_row.specs.Row.{field_size, content}
use Rattle.octets.proofs.Numbers.{take_rest}
use Rattle.frame_table.proofs.Tags.{one_shifted}
use Rattle.frame_row.proofs.Contents.{Stands, stood, size-le, content-fits}
use Rattle.frame_reader.proofs.Walk.{field-absent, field-present}
use Rattle.frame_reader.proofs.reader.read_field.Goals as goal

pub returns-then-n-eq0 : goal.returns-then-n-eq0
returns-then-n-eq0 c =
    field-absent c.args.tag c.args.rest.now _ _ _ c.requires.1
    (sym c.field_size-n.ensures ∙ c.if-n-eq0.true)

pub slice_bounds-value-count : goal.slice_bounds-value-count
slice_bounds-value-count c =
    let stands : Stands c.args.tag c.args.rest.now = stood _ _ (λ z. c.if-n-eq0.false (c.field_size-n.ensures ∙ z)) in
    let bytes : (3 ≤ c.field_size-n.result)
    × (c.field_size-n.result ≤ length c.args.rest.now) = let a = c.args in
    let n = c.field_size-n.ensures in
    (omega (arith, (stands).is), omega (arith, size-le a.tag a.rest.now)) in
    (bytes).0

pub slice_bounds-value-start : goal.slice_bounds-value-start
slice_bounds-value-start c =
    let stands : Stands c.args.tag c.args.rest.now = stood _ _ (λ z. c.if-n-eq0.false (c.field_size-n.ensures ∙ z)) in
    let bytes : (3 ≤ c.field_size-n.result)
    × (c.field_size-n.result ≤ length c.args.rest.now) = let a = c.args in
    let n = c.field_size-n.ensures in
    (omega (arith, (stands).is), omega (arith, size-le a.tag a.rest.now)) in
    omega (arith, bytes)

pub slice_bounds-value-end : goal.slice_bounds-value-end
slice_bounds-value-end c =
    let stands : Stands c.args.tag c.args.rest.now = stood _ _ (λ z. c.if-n-eq0.false (c.field_size-n.ensures ∙ z)) in
    let bytes : (3 ≤ c.field_size-n.result)
    × (c.field_size-n.result ≤ length c.args.rest.now) = let a = c.args in
    let n = c.field_size-n.ensures in
    (omega (arith, (stands).is), omega (arith, size-le a.tag a.rest.now)) in
    omega (arith, bytes)

pub value-v-requires : goal.value-v-requires
unfolding content
value-v-requires c =
    let stands : Stands c.args.tag c.args.rest.now = stood _ _ (λ z. c.if-n-eq0.false (c.field_size-n.ensures ∙ z)) in
    let a = c.args in
    let n : c.field_size-n.result ≡ field_size a.tag a.rest.now = c.field_size-n.ensures in
    (c.requires.0, λ w. rw n (content-fits a.tag a.rest.now (stands) w))

pub overflow_add-fields : goal.overflow_add-fields
overflow_add-fields c =
    let t = c.args.tag in
    omega (arith, one_shifted t (search rules), pow_mono {i = t} {j = 30} (search rules), c.requires.1)

pub slice_bounds-result-count : goal.slice_bounds-result-count
slice_bounds-result-count c =
    let stands : Stands c.args.tag c.args.rest.now = stood _ _ (λ z. c.if-n-eq0.false (c.field_size-n.ensures ∙ z)) in
    let bytes : (3 ≤ c.field_size-n.result)
    × (c.field_size-n.result ≤ length c.args.rest.now) = let a = c.args in
    let n = c.field_size-n.ensures in
    (omega (arith, (stands).is), omega (arith, size-le a.tag a.rest.now)) in
    (bytes).1

pub slice_bounds-result-start : goal.slice_bounds-result-start
slice_bounds-result-start c =
    let stands : Stands c.args.tag c.args.rest.now = stood _ _ (λ z. c.if-n-eq0.false (c.field_size-n.ensures ∙ z)) in
    let bytes : (3 ≤ c.field_size-n.result)
    × (c.field_size-n.result ≤ length c.args.rest.now) = let a = c.args in
    let n = c.field_size-n.ensures in
    (omega (arith, (stands).is), omega (arith, size-le a.tag a.rest.now)) in
    omega (arith, bytes)

pub returns : goal.returns
returns c =
    let t = c.args.tag in
    let s = c.args.rest.now in
    field-present t s _ _ _ c.requires.1 c.field_size-n.result _ _ _ _ c.field_size-n.ensures c.if-n-eq0.false (one_shifted t (search rules))
    c.value-v.ensures.0 c.value-v.ensures.1 (take_rest s c.field_size-n.result)
