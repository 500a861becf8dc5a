-- The test of each row, as the definition has it.
use Rattle.std.proofs.Common.{arith, true, false, ◌≡◌, refl, rules, tests}
use Rattle.std.proofs.lemmas.Iterator.{cases_from_all, YieldsList-from_range}
use Rattle.bank_rows.specs.Records.{row_stays}
use Rattle.bank_rows.proofs.Ranges.{all-is}
use Rattle.bank_lists.proofs.nonces.all_stay.Goals as goal

pub returns : goal.returns
returns c =
    let a = c.args in
    let test = row_stays a.clock a.area.now in
    all-is test a.n _
    (cases_from_all _ _ _ (λ i. test i ≡ true) (λ i. test i ≡ false) c.all.ensures.ran (YieldsList-from_range 0 a.n a.n refl (omega arith))
    (λ x q k. search (rules, tests)) (λ x q k. search (rules, tests)))
