-- The sum over all places. Assumes nothing.
use Rattle.std.proofs.Common.{arith, sym, ap, ◌∙◌, ◌≡◌}
use Rattle.bank_state.specs.Limits.{place_count}
use Rattle.image_records.specs.Shapes.{total}
use Rattle.image_conditions.specs.Conditions.{signers_at, signers_in_all}
use Rattle.image_records.proofs.Shapes.{total-none, total-next}
use Rattle.image_conditions.proofs.tables.signers_in_all.Goals as goal

pub loop-i-init : goal.loop-i-init
loop-i-init c = (sym (total-none (signers_at c.args.numbers.now)), omega arith)

pub loop-i-preserved : goal.loop-i-preserved
loop-i-preserved c =
    let one = c.signers_at-sum.ensures in
    (omega (arith, c.loop-i.invariant.0, one.0, total-next (signers_at c.args.numbers.now) c.loop-i.i), omega (arith, one.1))

pub returns : goal.returns
unfolding signers_in_all
returns c =
    let e : c.loop-i.i ≡ place_count = omega arith in
    c.loop-i.invariant.0 ∙ ap (total (signers_at c.args.numbers.now)) e
