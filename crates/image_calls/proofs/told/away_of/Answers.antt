-- An image that is written has its length. Assumes nothing.
use Rattle.std.specs.Prelude.{Ok}
use mathlib.Core.Path.{ap}
use Rattle.image.specs.declared.table.Sizes.{Sizes}
use Rattle.image_calls.proofs.told.away_of.Goals as goal

pub returns-in-Ok : goal.returns-in-Ok
returns-in-Ok c =
    rw c.in-Ok.is (ap (λ (x : Sizes). Ok x.image) c.image_sizes.ensures)
