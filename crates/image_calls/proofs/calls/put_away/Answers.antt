-- The row held is the lent one where it has as many records as told. Assumes nothing.
use mathlib.Core.Path.{refl, ◌∙◌}
use Rattle.journal.proofs.Copying.{held_whole}
use Rattle.image_calls.proofs.calls.put_away.Goals as goal

pub returns : goal.returns
returns c =
    let row = c.args.row.now in
    c.put_away_core.ensures row refl (λ long. c.held_row-held.ensures ∙ held_whole row long)
