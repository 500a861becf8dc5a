-- `every_subscriber` meets its contract: `all` asks the test of every number. Assumes nothing.
use Rattle.std.proofs.Common.{refl, rules, tests}
use Rattle.message.specs.Limits.{subscribers}
use Rattle.image_conditions.specs.Conditions.{every_subscriber, open_of_one}
use Rattle.image_conditions.proofs.Loops.{every-by-all}
use Rattle.image_conditions.proofs.tables.every_subscriber.Goals as goal

pub returns : goal.returns
unfolding every_subscriber
returns c =
    every-by-all (open_of_one c.args.numbers.now) subscribers refl c.all.ensures.ran (λ x t q k. search (rules, tests))
