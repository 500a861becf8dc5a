-- `every_series` meets its contract: `all` asks the test of every number. Assumes nothing.
use Rattle.std.proofs.Common.{refl, rules, tests}
use Rattle.bank_state.specs.Limits.{place_count}
use Rattle.image_conditions.specs.Conditions.{every_series, series_fits}
use Rattle.image_conditions.proofs.Loops.{every-by-all}
use Rattle.image_conditions.proofs.tables.every_series.Goals as goal

pub returns : goal.returns
unfolding every_series
returns c =
    every-by-all (series_fits c.args.numbers.now) place_count refl c.all.ensures.ran (λ x t q k. search (rules, tests))
