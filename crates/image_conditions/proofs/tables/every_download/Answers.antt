-- `every_download` meets its contract: `all` asks the test of every number. Assumes nothing.
use Rattle.std.proofs.Common.{refl, rules, tests, ap, ◌∙◌}
use Rattle.image_records.specs.Shapes.{every}
use Rattle.image_conditions.specs.Conditions.{every_download, download_test}
use Rattle.image_conditions.proofs.Loops.{every-by-all}
use Rattle.image_conditions.proofs.tables.every_download.Goals as goal

pub returns : goal.returns
unfolding every_download
returns c =
    every-by-all (download_test c.args.numbers.now) c.downloads-n.result refl c.all.ensures.ran (λ x t q k. search (rules, tests))
    ∙ ap (every (download_test c.args.numbers.now)) c.downloads-n.ensures
