-- `every_event` meets its contract: `all` asks the test of every number. Assumes nothing.
use Rattle.std.proofs.Common.{refl, rules, tests, ap, ◌∙◌}
use Rattle.image_records.specs.Shapes.{every}
use Rattle.image_conditions.specs.Conditions.{every_event, event_test}
use Rattle.image_conditions.proofs.Loops.{every-by-all}
use Rattle.image_conditions.proofs.tables.every_event.Goals as goal

pub returns : goal.returns
unfolding every_event
returns c =
    every-by-all (event_test c.args.numbers.now) c.used_events-n.result refl c.all.ensures.ran (λ x t q k. search (rules, tests))
    ∙ ap (every (event_test c.args.numbers.now)) c.used_events-n.ensures
