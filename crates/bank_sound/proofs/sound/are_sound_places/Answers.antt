-- The test of each of the places, as the definition has it.
use Rattle.std.proofs.Common.{arith, refl, true, false, ◌≡◌, rules, tests}
use Rattle.std.proofs.lemmas.Iterator.{cases_from_all, YieldsList-from_range}
use Rattle.bank_state.specs.Limits.{place_count}
use Rattle.bank_rows.proofs.Ranges.{all-is}
use Rattle.bank_sound.specs.Sound.{is_sound_place}
use Rattle.bank_sound.proofs.sound.are_sound_places.Goals as goal

pub returns : goal.returns
returns c =
    let s = c.args.rows.now in
    let test = is_sound_place s in
    all-is test place_count _
    (cases_from_all _ _ _ (λ i. test i ≡ true) (λ i. test i ≡ false) c.all.ensures.ran (YieldsList-from_range 0 place_count place_count refl (omega arith))
    (λ x q k. search (rules, tests)) (λ x q k. search (rules, tests)))
