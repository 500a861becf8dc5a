-- `put_column` meets its contract. Assumes nothing.
use native.Mathlib.Omega.{arith}
use Rattle.print.specs.Text.{column}
use Rattle.print.proofs.Digits.{decimal-most}
use Rattle.print.proofs.Texts.{put_then, put-left}
use Rattle.print.proofs.text.put_column.Goals as goal

pub put_byte-requires : goal.put_byte-requires
put_byte-requires c =
    omega (arith, put-left 20 1 c.put_decimal-a.ensures (decimal-most _) (omega arith))

pub returns : goal.returns
unfolding column
returns c =
    put_then c.put_decimal-a.ensures c.put_byte.ensures
