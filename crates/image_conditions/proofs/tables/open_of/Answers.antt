-- `open_of` meets its contract: the filter keeps those that pass. Assumes nothing.
use Rattle.std.proofs.Common.{refl, rules, tests, ◌∙◌}
use Rattle.std.proofs.lemmas.Iterator.{YieldsList-from_range}
use Rattle.std.proofs.lemmas.Iterator.Consumers.{YieldsList-at, YieldsList-from_filter, count_from_yields_List}
use Rattle.image_records.specs.Layout.{slot_count}
use Rattle.image_conditions.specs.Conditions.{is_open_of}
use Rattle.image_conditions.proofs.Loops.{count-is}
use Rattle.image_conditions.proofs.tables.open_of.Goals as goal

pub returns : goal.returns
returns c =
    count_from_yields_List c.filter.result _ c.count.ensures.ran
    (YieldsList-from_filter _ (is_open_of c.args.numbers.now c.args.s) (YieldsList-at c.filter.ensures.source (YieldsList-from_range 0 slot_count slot_count refl refl))
    c.filter.ensures.closure (λ x r q k. search (rules, tests)))
    ∙ count-is (is_open_of c.args.numbers.now c.args.s) slot_count
