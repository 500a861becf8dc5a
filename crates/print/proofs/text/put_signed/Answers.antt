-- The sign, then the magnitude. Assumes nothing.
use native.Mathlib.Omega.{arith}
use mir.Facts.{to_z-of_z}
use mir.Syntax.{w64}
use mir.Val.{to_z, of_z}
use Rattle.print.specs.Text.{max_digits}
use Rattle.print.proofs.Signed.{sign-most, put_both}
use Rattle.print.proofs.Texts.{put-left}
use Rattle.print.proofs.text.put_signed.Goals as goal

pub put_decimal-requires : goal.put_decimal-requires
put_decimal-requires c =
    put-left 1 max_digits c.put_sign-a.ensures (sign-most (to_z w64 (of_z w64 c.args.x))) (omega arith)

pub returns : goal.returns
returns c =
    let read = to_z-of_z c.ranges.x in
    put_both read read c.unsigned_abs.ensures.value c.put_sign-a.ensures c.put_decimal.ensures
