-- The test of two says whether they differ. Assumes nothing.
use Rattle.std.proofs.Common.{rules, tests}
use Rattle.image_conditions.specs.Conditions.{numbers_distinct, same_number}
use Rattle.image_conditions.proofs.tables.numbers_distinct.Goals as goal

pub returns : goal.returns
unfolding numbers_distinct
returns c =
    c.distinct.ensures (same_number c.args.numbers.now) (λ i j r below less told. search (rules, tests))
