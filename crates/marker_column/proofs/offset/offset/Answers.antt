-- Both times are far below half of the range, so that neither the casts nor the difference wrap. Assumes nothing.
use Prim.Native.Nat.{◌^◌, ◌<◌}
use mathlib.Core.Path.{◌≡◌}
use native.Mathlib.Omega.{arith}
use lib.IntN.{◌-ℤ◌}
use mir.Facts.{to_z_pos, to_z-of_z}
use mir.Syntax.{w64}
use mir.Val.{to_z}
use Rattle.marker_column.specs.Offset.{offset_of}
use Rattle.marker_column.proofs.Offsets.{offset-fits}
use Rattle.marker_column.proofs.offset.offset.Goals as goal

pub overflow_sub-result : goal.overflow_sub-result
overflow_sub-result c =
    let difference : to_z w64 c.args.timestamp -ℤ to_z w64 c.args.clock ≡ offset_of c.args.timestamp c.args.clock = let t : c.args.timestamp < 2 ^ 63 = omega arith in
    let k : c.args.clock < 2 ^ 63 = omega arith in
    rw (to_z_pos w64 t, to_z_pos w64 k) in
    rw (difference) (offset-fits _ _ c.requires.0 c.requires.1)

pub returns : goal.returns
returns c =
    let difference : to_z w64 c.args.timestamp -ℤ to_z w64 c.args.clock ≡ offset_of c.args.timestamp c.args.clock = let t : c.args.timestamp < 2 ^ 63 = omega arith in
    let k : c.args.clock < 2 ^ 63 = omega arith in
    rw (to_z_pos w64 t, to_z_pos w64 k) in
    rw (difference) (to_z-of_z (offset-fits _ _ c.requires.0 c.requires.1))
