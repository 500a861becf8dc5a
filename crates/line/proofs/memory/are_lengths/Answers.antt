-- A length within its limit passes, and one that is not decides.
use Rattle.std.proofs.Common.{rules, ◌≡◌, true, false, refl}
use Rattle.std.proofs.lemmas.Iterator.{cases_from_all, YieldsList-from_range}
use Rattle.octets.proofs.Tests.{tests}
use Rattle.line.specs.Line.{most_held}
use Rattle.line.specs.Memory.{is_length}
use Rattle.line.proofs.Tests.{all_below-is}
use Rattle.line.proofs.memory.are_lengths.Goals as goal

pub returns : goal.returns
returns c =
    let p = is_length c.args.row.now in
    all_below-is p most_held _
    (cases_from_all _ _ _ (λ i. p i ≡ true) (λ i. p i ≡ false) c.all.ensures.ran (YieldsList-from_range 0 most_held most_held refl refl)
    (λ i q k. search (rules, tests)) (λ i q k. search (rules, tests)))
