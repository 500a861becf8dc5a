-- The word, the copies and the message stand one behind the other. Assumes nothing.
use native.Mathlib.Omega.{arith}
use Rattle.print.specs.Text.{column_room}
use Rattle.print.proofs.Digits.{column-most}
use Rattle.print.proofs.Texts.{put_then, put-left}
use Rattle.driver_print.specs.Line.{out_text}
use Rattle.driver_print.proofs.call_line.put_out.Goals as goal

pub put_message-requires : goal.put_message-requires
put_message-requires c =
    put-left column_room _ c.put_column-b.ensures (column-most _ _) (omega arith)

pub returns : goal.returns
unfolding out_text
returns c =
    put_then c.put_text-a.ensures (put_then c.put_column-b.ensures c.put_message.ensures)
