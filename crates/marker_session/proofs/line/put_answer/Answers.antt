-- `put_answer` meets its contract. Assumes nothing.
use Rattle.print.specs.Text.{digits_in, digit_count_to, digit_count, decimal}
use Rattle.marker_session.proofs.line.put_answer.Goals as goal

pub returns-in-Ok : goal.returns-in-Ok
returns-in-Ok c =
    rw c.in-Ok.is c.put_code.ensures

pub returns-in-Err : goal.returns-in-Err
unfolding decimal digit_count digit_count_to digits_in
returns-in-Err c =
    rw c.in-Err.is c.put_byte.ensures
