-- `move_groups` meets its contract. The loop's invariant: the groups left are what the answer lacks. Assumes nothing.
use Prim.Native.Nat.{◌-◌}
use lib.ListN.{length}
use Rattle.octets.specs.Bytes.{overwrite}
use Rattle.image_numbers.specs.Table.{groups_from}
use Rattle.image_numbers.specs.Numbers.{numbers_at}
use Rattle.image_numbers.proofs.Loops.{Moving}
use Rattle.image_numbers.proofs.moving.move_groups.Given as goal

abbrev pub invariant-loop-i : goal.invariant-loop-i
invariant-loop-i l = Moving (groups_from (l.end - l.i) l.i) l.from l.to l.k (length l.initial.to)
    (overwrite l.initial.to 0 (numbers_at (groups_from (l.end - l.first) l.first) l.from))
