-- `heads_right` meets its contract. The loop's invariant: the fields left to test are the answer. Assumes nothing.
use Prim.Native.Nat.{◌-◌}
use lib.ListN.{length}
use Rattle.image.specs.Table.{image_fields}
use Rattle.image.specs.Items.{field_items, image_items}
use Rattle.image.specs.Image.{constants_right}
use Rattle.image.proofs.Reading.{Heading}
use Rattle.image.proofs.codec.heads_right.Given as goal

abbrev pub invariant-loop-i : goal.invariant-loop-i
invariant-loop-i l =
    Heading (field_items (length image_fields - l.i) l.i) l.image l.at (constants_right image_items l.image)
