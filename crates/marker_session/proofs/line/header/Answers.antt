-- `header` meets its contract. Assumes nothing.
use Rattle.marker_session.specs.Lines.{header_room}
use Rattle.print.proofs.Texts.{printed-put, printed-none}
use Rattle.marker_session.proofs.line.header.Goals as goal

pub returns-then-output-lt-HEADER_ROOM : goal.returns-then-output-lt-HEADER_ROOM
returns-then-output-lt-HEADER_ROOM c = printed-none _ _ _ c.if-output-lt-HEADER_ROOM.true

pub returns : goal.returns
returns c =
    printed-put header_room c.if-output-lt-HEADER_ROOM.false c.put_text.ensures
