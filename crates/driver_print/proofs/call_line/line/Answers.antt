-- `line` meets its contract. Assumes nothing.
use native.Mathlib.Omega.{arith}
use Rattle.driver_print.specs.Line.{line_room}
use lib.ListN.{length}
use Rattle.print.proofs.Texts.{printed-put, printed-none}
use Rattle.driver_print.proofs.call_line.line.Goals as goal

pub returns-then-size-lt-LINE_BYTES : goal.returns-then-size-lt-LINE_BYTES
returns-then-size-lt-LINE_BYTES c = printed-none _ _ _ (omega (arith, c.if-size-lt-LINE_BYTES.true))

pub returns-then-size-buffer : goal.returns-then-size-buffer
returns-then-size-buffer c = printed-none _ _ _ (omega (arith, c.if-size-buffer.true, c.if-size-lt-LINE_BYTES.false))

pub returns : goal.returns
returns c =
    let a = c.args in
    let room = line_room (length a.buffer.now) in
    printed-put room (omega (arith, c.if-size-buffer.false, c.if-size-lt-LINE_BYTES.false)) c.put_line.ensures
