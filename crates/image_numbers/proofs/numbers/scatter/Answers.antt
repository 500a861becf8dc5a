-- `scatter` meets its contract: all numbers of the rows are written. Assumes nothing.
use native.Mathlib.Omega.{arith}
use Rattle.image_numbers.specs.Table.{image_places}
use Rattle.image_numbers.proofs.Journal.{scattered}
use Rattle.image_numbers.proofs.Places.{length-image, image-inside}
use Rattle.image_numbers.proofs.numbers.scatter.Goals as goal

pub move_groups-requires : goal.move_groups-requires
unfolding image_places
move_groups-requires c =
    (rw c.requires.0 image-inside, omega (arith, length-image))

pub returns : goal.returns
unfolding image_places
returns c =
    let a = c.args in
    scattered a.rows.now a.numbers.now _ _ c.requires.1 c.move_groups.ensures
    c.put_counts.ensures
