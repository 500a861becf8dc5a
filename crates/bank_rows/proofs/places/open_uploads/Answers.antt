-- The numbers of the places that hold an open upload are as many as those places.
use Rattle.std.proofs.Common.{rules, tests, ◌∙◌}
use Rattle.std.proofs.lemmas.Iterator.{YieldsList-from_range}
use Rattle.std.proofs.lemmas.Iterator.Consumers.{YieldsList-at, YieldsList-from_filter, count_from_yields_List}
use Rattle.bank_state.specs.declared.state.Place.{Place}
use Rattle.bank_state.specs.Limits.{place_count}
use Rattle.bank_state.specs.Search.{is_open}
use Rattle.bank_state.specs.State.{no_place}
use Rattle.bank_rows.specs.State.{bank_of}
use Rattle.bank_rows.proofs.Ranges.{row_passes, count-of-all}
use Rattle.bank_rows.proofs.Reading.{length-places-of}
use Rattle.bank_rows.proofs.places.open_uploads.Goals as goal

pub returns : goal.returns
returns c =
    let a = c.args in
    let places = (bank_of a.rows.now).places in
    let test = row_passes (λ (p : Place). is_open p.used) places no_place in
    count_from_yields_List c.filter.result _ c.count.ensures.ran
    (YieldsList-from_filter _ test (YieldsList-at c.filter.ensures.source (YieldsList-from_range 0 place_count place_count (cc) (cc)))
    c.filter.ensures.closure (λ x r q k. search (rules, tests)))
    ∙ count-of-all _ _ no_place _ (length-places-of a.rows.now)
