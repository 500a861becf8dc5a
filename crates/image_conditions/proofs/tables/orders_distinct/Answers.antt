-- The test of two says whether they differ. Assumes nothing.
use Rattle.std.proofs.Common.{rules, tests}
use Rattle.image_conditions.specs.Conditions.{orders_distinct, same_order}
use Rattle.image_conditions.proofs.tables.orders_distinct.Goals as goal

pub returns : goal.returns
unfolding orders_distinct
returns c =
    c.distinct.ensures (same_order c.args.numbers.now) (λ i j r below less told. search (rules, tests))
