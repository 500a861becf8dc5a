-- `zero_numbers` meets its contract: the greatest is 0 exactly if all are. Assumes nothing.
use Rattle.std.proofs.Common.{rules, ◌≡◌, ap, ◌∙◌, ℕ, eqb}
use Rattle.std.specs.List.{fold}
use Rattle.std.specs.Prelude.{max}
use Rattle.image_records.proofs.Shapes.{greatest-zero}
use Rattle.image_records.proofs.tests.zero_numbers.Goals as goal

pub returns : goal.returns
returns c =
    let most : c.fold.result ≡ fold max 0 c.args.s.now = search rules in
    ap (λ (n : ℕ). eqb n 0) most ∙ greatest-zero 0 c.args.s.now
