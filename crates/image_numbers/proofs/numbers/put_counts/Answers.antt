-- `put_counts` meets its contract: the seven numbers are the counts. Assumes nothing.
use mathlib.Core.Path.{ap, ◌∙◌}
use Rattle.octets.specs.Bytes.{overwrite}
use Rattle.image_numbers.proofs.Counts.{counts-there}
use Rattle.image_numbers.proofs.numbers.put_counts.Goals as goal

pub returns : goal.returns
returns c =
    let a = c.args in
    c.put.ensures
    ∙ ap (overwrite a.to.now a.place) (counts-there a.from.now a.at c.requires.0)
