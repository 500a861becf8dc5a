-- `open_slots` meets its contract: the filter keeps those that pass. Assumes nothing.
use Rattle.std.proofs.Common.{refl, rules, tests, ◌∙◌, ◌≡◌, arith}
use Rattle.std.proofs.lemmas.Iterator.{YieldsList-from_range}
use Rattle.std.proofs.lemmas.Iterator.Consumers.{YieldsList-at, YieldsList-from_filter, count_from_yields_List}
use Rattle.image_records.specs.Shapes.{count}
use Rattle.image_records.proofs.Shapes.{count-le}
use Rattle.image_conditions.specs.Conditions.{is_open_slot}
use Rattle.image_conditions.proofs.Loops.{count-is}
use Rattle.image_conditions.proofs.tables.open_slots.Goals as goal

pub returns : goal.returns
returns c =
    let e : c.count.result ≡ count (is_open_slot c.args.numbers.now) c.args.n =
    count_from_yields_List c.filter.result _ c.count.ensures.ran
    (YieldsList-from_filter _ (is_open_slot c.args.numbers.now) (YieldsList-at c.filter.ensures.source (YieldsList-from_range 0 c.args.n c.args.n refl (omega arith)))
    c.filter.ensures.closure (λ x r q k. search (rules, tests)))
    ∙ count-is (is_open_slot c.args.numbers.now) c.args.n in
    (e, omega (arith, e, count-le (is_open_slot c.args.numbers.now) c.args.n))
