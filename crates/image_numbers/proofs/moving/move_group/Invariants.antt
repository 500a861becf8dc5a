-- `move_group` meets its contract. The loop's invariant: the records left are what the answer lacks. Assumes nothing.
use Prim.Native.Nat.{◌-◌}
use lib.ListN.{length}
use Rattle.octets.specs.Bytes.{overwrite}
use Rattle.image_numbers.specs.Table.{records_from, group_places}
use Rattle.image_numbers.specs.Numbers.{numbers_at}
use Rattle.image_numbers.proofs.Loops.{Moving}
use Rattle.image_numbers.proofs.moving.move_group.Given as goal

abbrev pub invariant-loop-i : goal.invariant-loop-i
invariant-loop-i l = Moving (records_from l.g (l.g.records - l.i) l.i) l.from l.to l.k (length l.initial.to) (overwrite l.initial.to l.at (numbers_at (group_places l.g) l.from))
