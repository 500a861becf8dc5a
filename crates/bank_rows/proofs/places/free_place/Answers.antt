-- The search passes the places in use.
use Rattle.std.proofs.Common.{true, false, ◌≡◌, ◌∙◌, rules, tests}
use Rattle.std.proofs.lemmas.Iterator.{first_from_Range}
use Rattle.bank_state.specs.declared.state.Place.{Place}
use Rattle.bank_state.specs.Search.{is_free, free_place}
use Rattle.bank_state.specs.State.{no_place}
use Rattle.bank_rows.specs.State.{bank_of}
use Rattle.bank_rows.proofs.Ranges.{row_passes, first-of-all}
use Rattle.bank_rows.proofs.Reading.{length-places-of}
use Rattle.bank_rows.proofs.places.free_place.Goals as goal

pub returns : goal.returns
unfolding free_place
returns c =
    let a = c.args in
    let places = (bank_of a.rows.now).places in
    let test = row_passes (λ (p : Place). is_free p.used) places no_place in
    c.unwrap_or.ensures
    ∙ first-of-all _ places no_place _ (length-places-of a.rows.now) c.find.result
    (first_from_Range _ _ _ c.find.result (λ i. test i ≡ true) (λ i. test i ≡ false) c.find.ensures.ran (λ x q k. search (rules, tests)) (λ x q k. search (rules, tests)))
