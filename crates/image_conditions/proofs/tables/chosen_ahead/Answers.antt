-- `chosen_ahead` meets its contract: the filter keeps those that pass. Assumes nothing.
use Rattle.std.proofs.Common.{refl, rules, tests, ◌∙◌}
use Rattle.std.proofs.lemmas.Iterator.{YieldsList-from_range}
use Rattle.std.proofs.lemmas.Iterator.Consumers.{YieldsList-at, YieldsList-from_filter, count_from_yields_List}
use Rattle.bank_state.specs.Limits.{place_count}
use Rattle.image_conditions.specs.Conditions.{chosen_ahead, is_ahead}
use Rattle.image_conditions.proofs.Loops.{count-is}
use Rattle.image_conditions.proofs.tables.chosen_ahead.Goals as goal

pub returns : goal.returns
unfolding chosen_ahead
returns c =
    count_from_yields_List c.filter.result _ c.count.ensures.ran
    (YieldsList-from_filter _ (is_ahead c.args.numbers.now) (YieldsList-at c.filter.ensures.source (YieldsList-from_range 0 place_count place_count refl refl))
    c.filter.ensures.closure (λ x r q k. search (rules, tests)))
    ∙ count-is (is_ahead c.args.numbers.now) place_count
