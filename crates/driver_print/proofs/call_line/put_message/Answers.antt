-- One test decides between the hyphen and the digits. Assumes nothing.
use Rattle.driver_print.specs.Line.{message_text}
use Rattle.driver_print.proofs.call_line.put_message.Goals as goal

pub returns-then-is_empty : goal.returns-then-is_empty
unfolding message_text
returns-then-is_empty c =
    rw (← c.is_empty.ensures, c.if-is_empty.true) c.put_byte.ensures

pub returns : goal.returns
unfolding message_text
returns c =
    rw (← c.is_empty.ensures, c.if-is_empty.false) c.put_hex.ensures
