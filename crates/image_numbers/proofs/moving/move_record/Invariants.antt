-- `move_record` meets its contract. The loop's invariant: the places left are what the answer lacks. Assumes nothing.
use Prim.Native.Nat.{◌+◌, ◌-◌, ◌*◌}
use lib.ListN.{length}
use Rattle.octets.specs.Bytes.{overwrite}
use Rattle.image_numbers.specs.Table.{part_places, record_places}
use Rattle.image_numbers.specs.Numbers.{numbers_at}
use Rattle.image_numbers.proofs.Loops.{Moving}
use Rattle.image_numbers.proofs.moving.move_record.Given as goal

abbrev pub invariant-loop-k : goal.invariant-loop-k
invariant-loop-k l = Moving (part_places (l.at + l.g.size - l.k) (l.g.at + l.g.width * l.i) l.parts) l.from l.to l.k (length l.initial.to)
    (overwrite l.initial.to l.at (numbers_at (record_places l.g l.i) l.from))
