-- `move_record` meets its contract. The loop's invariant: the places left are what the answer lacks. Assumes nothing.
use Prim.Native.Nat.{◌+◌, ◌-◌}
use mathlib.Core.Path.{◌≡◌, refl}
use native.Mathlib.Omega.{arith}
use Rattle.image_numbers.specs.Table.{record_places}
use Rattle.image_numbers.proofs.Loops.{length-record, part-there, part_free, part_moved, parts-moved}
use Rattle.image_numbers.proofs.moving.move_record.Goals as goal

pub overflow_add-k-end : goal.overflow_add-k-end
overflow_add-k-end c = omega (arith, c.requires.1, length-record c.args.g c.args.i)

pub loop-k-init : goal.loop-k-init
unfolding record_places
loop-k-init c =
    let e : c.args.at + c.args.g.size - c.args.at ≡ c.args.g.size = omega arith in
    rw e (record { within = c.requires.0; room = c.requires.1; long = refl; same = refl })

-- the next place is there, and there is room for its number

pub overflow_mul-to : goal.overflow_mul-to
overflow_mul-to c = omega (arith, part-there _ _ _ c.loop-k.invariant (omega arith))

pub overflow_add-to : goal.overflow_add-to
overflow_add-to c = omega (arith, part-there _ _ _ c.loop-k.invariant (omega arith))

pub overflow_add-to-in-loop-k : goal.overflow_add-to-in-loop-k
overflow_add-to-in-loop-k c = omega (arith, part-there _ _ _ c.loop-k.invariant (omega arith))

pub offset_bounds-from-g : goal.offset_bounds-from-g
offset_bounds-from-g c = omega (arith, part-there _ _ _ c.loop-k.invariant (omega arith))

pub bounds-from-g : goal.bounds-from-g
bounds-from-g c = part-there _ _ _ c.loop-k.invariant (omega arith)

pub offset_bounds-to-k : goal.offset_bounds-to-k
offset_bounds-to-k c = omega (arith, part_free _ _ _ c.loop-k.invariant (omega arith))

pub bounds-to-k : goal.bounds-to-k
bounds-to-k c = part_free _ _ _ c.loop-k.invariant (omega arith)

pub loop-k-preserved : goal.loop-k-preserved
loop-k-preserved c =
    let end = c.args.at + c.args.g.size in
    let e : end - (c.loop-k.k + 1) ≡ end - c.loop-k.k - 1 = omega arith in
    rw e (part_moved _ _ _ c.loop-k.invariant (omega arith))

pub shape_of-to : goal.shape_of-to
shape_of-to c = c.loop-k.invariant.long

pub returns : goal.returns
returns c = parts-moved _ _ _ c.loop-k.invariant (omega arith)
