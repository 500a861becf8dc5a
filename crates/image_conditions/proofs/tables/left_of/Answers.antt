-- What is left is the whole less the numbers so far. Assumes nothing.
use Rattle.std.proofs.Common.{arith, ℕ, ◌-◌, ◌+◌, ◌≡◌, length, get_or}
use Rattle.image_records.proofs.Shapes.{total-none, total-next, total-more}
use Rattle.image_conditions.proofs.tables.left_of.Goals as goal

pub loop-n-init : goal.loop-n-init
loop-n-init c = omega (arith, total-none (λ i. get_or c.args.numbers.now i 0))

pub returns-in_err-left : goal.returns-in_err-left
returns-in_err-left c =
    let xs = c.args.numbers.now in
    let f : ℕ → ℕ = λ i. get_or xs i 0 in
    let i = c.loop-n.n-index in
    let e : i + 1 + (length xs - (i + 1)) ≡ length xs = omega (arith, c.loop-n-test.true) in
    let more = rw e at (total-more f (i + 1) (length xs - (i + 1))) in
    rw c.from_residual.ensures (λ h. omega (arith, h, more, total-next f i, c.in_err-left.ensures, c.loop-n.invariant))

pub loop-n-preserved : goal.loop-n-preserved
loop-n-preserved c =
    omega (arith, total-next (λ i. get_or c.args.numbers.now i 0) c.loop-n.n-index, c.in_ok-left.ensures.0, c.in_ok-left.ensures.1, c.loop-n.invariant)
