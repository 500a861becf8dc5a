-- `zero_behind` meets its contract: a length over the place's counts as the place's. Assumes nothing.
use Prim.Native.Nat.{ℕ, ◌+◌, ◌-◌, ◌*◌}
use mathlib.Core.Path.{◌≡◌, ap, ◌∙◌}
use native.Mathlib.Omega.{arith}
use lib.ListN.{take, drop}
use Rattle.message.specs.Limits.{file_bytes}
use Rattle.image_conditions.specs.Conditions.{bytes_behind}
use Rattle.image_records.proofs.Shapes.{up-to-le}
use Rattle.image_records.specs.Shapes.{all_zero}
use Rattle.image_conditions.proofs.tables.zero_behind.Goals as goal

pub overflow_add-from : goal.overflow_add-from
overflow_add-from c = omega (arith, c.up_to.ensures, (up-to-le file_bytes c.args.n).0)

pub slice_bounds-zero_bytes-count : goal.slice_bounds-zero_bytes-count
slice_bounds-zero_bytes-count c = omega (arith, c.up_to.ensures, (up-to-le file_bytes c.args.n).0)

pub slice_bounds-zero_bytes-start : goal.slice_bounds-zero_bytes-start
slice_bounds-zero_bytes-start c = omega (arith, c.up_to.ensures, (up-to-le file_bytes c.args.n).0)

pub returns : goal.returns
unfolding bytes_behind
returns c =
    let a = c.args in
    let s = a.store.now in
    let n = c.up_to in
    let at : ℕ = a.i * file_bytes in
    let e : at + file_bytes - (at + n.result) ≡ file_bytes - n.result = omega arith in
    c.zero_bytes.ensures
    ∙ ap (λ (m : ℕ). all_zero (take m (drop (at + n.result) s))) e
    ∙ ap (λ (m : ℕ). all_zero (take (file_bytes - m) (drop (at + m) s))) n.ensures
