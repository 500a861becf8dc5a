-- The test of two says whether they differ. Assumes nothing.
use Rattle.std.proofs.Common.{rules, tests, ap, ◌∙◌}
use Rattle.image_records.specs.Shapes.{distinct}
use Rattle.image_conditions.specs.Conditions.{nonces_distinct, same_nonce}
use Rattle.image_conditions.proofs.tables.nonces_distinct.Goals as goal

pub returns : goal.returns
unfolding nonces_distinct
returns c =
    c.distinct.ensures (same_nonce c.args.numbers.now) (λ i j r below less told. search (rules, tests))
    ∙ ap (distinct (same_nonce c.args.numbers.now)) c.nonces.ensures
