-- The test tells the sign. Assumes nothing.
use mathlib.Core.Path.{◌≡◌, sym, ap, ◌∙◌}
use native.Mathlib.Omega.{arith}
use lib.IntN.{ℤ, pos}
use lib.Signed.{lt_z}
use mir.Facts.{to_z-of_z}
use mir.Syntax.{w64}
use mir.Val.{to_z, of_z}
use Rattle.print.proofs.Signed.{sign_below, sign_above}
use Rattle.print.proofs.Texts.{put-nothing}
use Rattle.print.proofs.text.put_sign.Goals as goal

pub returns-then-x-lt0 : goal.returns-then-x-lt0
returns-then-x-lt0 c =
    let told : lt_z (to_z w64 (of_z w64 c.args.x)) (pos 0) ≡ lt_z c.args.x (pos 0) = ap (λ (y : ℤ). lt_z y (pos 0)) (to_z-of_z c.ranges.x) in
    rw (sign_below _ (sym (told) ∙ c.if-x-lt0.true)) c.put_byte.ensures

pub returns-else-x-lt0 : goal.returns-else-x-lt0
returns-else-x-lt0 c =
    let told : lt_z (to_z w64 (of_z w64 c.args.x)) (pos 0) ≡ lt_z c.args.x (pos 0) = ap (λ (y : ℤ). lt_z y (pos 0)) (to_z-of_z c.ranges.x) in
    rw (sign_above _ (sym (told) ∙ c.if-x-lt0.false)) (put-nothing _ _ (omega arith))
