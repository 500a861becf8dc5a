-- The word and its two numbers stand one behind the other. Assumes nothing.
use native.Mathlib.Omega.{arith}
use Rattle.print.specs.Text.{max_digits, column_room}
use Rattle.print.proofs.Digits.{column-most}
use Rattle.print.proofs.Texts.{put_then, put-left}
use Rattle.driver_print.specs.Line.{away_text}
use Rattle.driver_print.proofs.call_line.put_away.Goals as goal

pub put_decimal-requires : goal.put_decimal-requires
put_decimal-requires c =
    omega (arith, put-left column_room max_digits c.put_column-b.ensures (column-most _ _) (omega arith))

pub returns : goal.returns
unfolding away_text
returns c =
    rw (← c.digest.ensures)
    (put_then c.put_text-a.ensures (put_then c.put_column-b.ensures c.put_decimal.ensures))
