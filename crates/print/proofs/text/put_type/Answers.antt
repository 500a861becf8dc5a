-- The characters, then the space. Assumes nothing.
use native.Mathlib.Omega.{arith}
use Rattle.print.specs.Text.{type_characters, type_column}
use Rattle.print.proofs.Digits.{type-most}
use Rattle.print.proofs.Texts.{put_then, put-left}
use Rattle.print.proofs.text.put_type.Goals as goal

pub put_byte-requires : goal.put_byte-requires
put_byte-requires c =
    omega (arith, put-left type_characters 1 c.put_digits-a.ensures (type-most _) (omega arith))

pub returns : goal.returns
unfolding type_column
returns c =
    put_then c.put_digits-a.ensures c.put_byte.ensures
