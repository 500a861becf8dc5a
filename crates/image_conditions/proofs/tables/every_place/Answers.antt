-- `every_place` meets its contract: `all` asks the test of every number. Assumes nothing.
use Rattle.std.proofs.Common.{refl, rules, tests}
use Rattle.bank_state.specs.Limits.{place_count}
use Rattle.image_conditions.specs.Conditions.{every_place, place_test}
use Rattle.image_conditions.proofs.Loops.{every-by-all}
use Rattle.image_conditions.proofs.tables.every_place.Goals as goal

pub returns : goal.returns
unfolding every_place
returns c =
    every-by-all (place_test c.args.numbers.now c.args.orders.now) place_count refl c.all.ensures.ran (λ x t q k. search (rules, tests))
