-- `move_group` meets its contract. The loop's invariant: the records left are what the answer lacks. Assumes nothing.
use mathlib.Core.Path.{refl}
use native.Mathlib.Nat.{sub-zero}
use native.Mathlib.Omega.{arith}
use Rattle.image_numbers.specs.Table.{group_places}
use Rattle.image_numbers.proofs.Loops.{length-record, record-there, record-free, record-moved, records-moved}
use Rattle.image_numbers.proofs.moving.move_group.Goals as goal

pub loop-i-init : goal.loop-i-init
unfolding group_places
loop-i-init c =
    rw (sub-zero c.args.g.records)
    (record { within = c.requires.0; room = c.requires.1; long = refl; same = refl })

pub move_record-requires : goal.move_record-requires
move_record-requires c =
    (record-there _ _ c.loop-i.invariant (omega arith), record-free _ _ c.loop-i.invariant (omega arith))

pub overflow_add-k : goal.overflow_add-k
overflow_add-k c =
    omega (arith, record-free _ _ c.loop-i.invariant (omega arith), length-record c.args.g c.loop-i.i)

pub loop-i-preserved : goal.loop-i-preserved
loop-i-preserved c = record-moved _ _ c.loop-i.invariant (omega arith) _ c.move_record.ensures

pub shape_of-to : goal.shape_of-to
shape_of-to c = c.loop-i.invariant.long

pub returns : goal.returns
returns c = records-moved _ _ c.loop-i.invariant (omega arith)
