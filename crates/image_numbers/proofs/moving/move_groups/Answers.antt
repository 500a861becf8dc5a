-- `move_groups` meets its contract. The loop's invariant: the groups left are what the answer lacks. Assumes nothing.
use mathlib.Core.Path.{refl}
use native.Mathlib.Omega.{arith}
use Rattle.image_numbers.proofs.Loops.{length-group, group-there, group-free, group-moved, groups-moved}
use Rattle.image_numbers.proofs.moving.move_groups.Goals as goal

pub loop-i-init : goal.loop-i-init
loop-i-init c = record { within = c.requires.0; room = omega arith; long = refl; same = refl }

pub move_group-requires : goal.move_group-requires
move_group-requires c = (
  group-there _ _ c.loop-i.invariant (omega arith) c.group_at-g.result c.group_at-g.ensures,
  group-free _ _ c.loop-i.invariant (omega arith) c.group_at-g.result c.group_at-g.ensures,
)

pub overflow_mul-k : goal.overflow_mul-k
overflow_mul-k c =
    omega (arith, group-free _ _ c.loop-i.invariant (omega arith) c.group_at-g.result c.group_at-g.ensures, length-group c.group_at-g.result)

pub overflow_add-k : goal.overflow_add-k
overflow_add-k c =
    omega (arith, group-free _ _ c.loop-i.invariant (omega arith) c.group_at-g.result c.group_at-g.ensures, length-group c.group_at-g.result)

pub loop-i-preserved : goal.loop-i-preserved
loop-i-preserved c =
    group-moved _ _ c.loop-i.invariant (omega arith) c.group_at-g.result c.group_at-g.ensures _ c.move_group.ensures

pub shape_of-to : goal.shape_of-to
shape_of-to c = c.loop-i.invariant.long

pub returns : goal.returns
returns c = groups-moved _ _ c.loop-i.invariant (omega arith)
