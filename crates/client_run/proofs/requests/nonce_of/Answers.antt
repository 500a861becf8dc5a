-- `nonce_of` meets its contract. Assumes nothing.
use Prim.Native.Nat.{ℕ, ◌*◌, ◌^◌, ◌<◌}
use mathlib.Core.Path.{◌≡◌, subst}
use native.Mathlib.Omega.{arith}
use lib.ListN.{length, take, drop, length-take, length-drop}
use lib.Seq.{take_all}
use Rattle.client_run.specs.Requests.{nonce_of}
use Rattle.client_run.proofs.requests.nonce_of.Goals as goal

pub slice_bounds-number-end : goal.slice_bounds-number-end
slice_bounds-number-end c = simp length-take (omega arith)

pub number-high-requires : goal.number-high-requires
number-high-requires c = simp length-take (omega arith)

pub overflow_mul-result : goal.overflow_mul-result
overflow_mul-result c =
    let low : c.number-low.result < 2 ^ 32 = let s = c.args.lent in
    let e : length (take 4 (drop 8 s)) ≡ 4 = simp (length-take, length-drop) (omega arith) in
    subst (λ (n : ℕ). c.number-low.result < 2 ^ (8 * n)) e c.number-low.ensures.1 in
    omega (arith, low)

pub overflow_add-result : goal.overflow_add-result
overflow_add-result c =
    let low : c.number-low.result < 2 ^ 32 = let s = c.args.lent in
    let e : length (take 4 (drop 8 s)) ≡ 4 = simp (length-take, length-drop) (omega arith) in
    subst (λ (n : ℕ). c.number-low.result < 2 ^ (8 * n)) e c.number-low.ensures.1 in
    omega (arith, low)

pub returns : goal.returns
unfolding nonce_of
returns c =
    let s = c.args.lent in
    let all = take_all 4 (drop 8 s) (simp length-drop (omega arith)) in
    rw (c.number-high.ensures.0, c.number-low.ensures.0, all)
