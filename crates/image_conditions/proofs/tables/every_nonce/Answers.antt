-- `every_nonce` meets its contract: `all` asks the test of every number. Assumes nothing.
use Rattle.std.proofs.Common.{refl, rules, tests, ap, ◌∙◌}
use Rattle.image_records.specs.Shapes.{every}
use Rattle.image_conditions.specs.Conditions.{every_nonce, nonce_test}
use Rattle.image_conditions.proofs.Loops.{every-by-all}
use Rattle.image_conditions.proofs.tables.every_nonce.Goals as goal

pub returns : goal.returns
unfolding every_nonce
returns c =
    every-by-all (nonce_test c.args.numbers.now) c.nonces-n.result refl c.all.ensures.ran (λ x t q k. search (rules, tests))
    ∙ ap (every (nonce_test c.args.numbers.now)) c.nonces-n.ensures
