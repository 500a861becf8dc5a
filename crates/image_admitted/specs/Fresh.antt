-- A fresh session in lent memory: every number, record and byte is 0.
use Rattle.std.specs.Prelude.{replicate}
use Rattle.journal.specs.Row.{empty_row}
use Rattle.bank_state.specs.Limits.{store_bytes}
use Rattle.bank_session.specs.Session.{LentSession, session, session_size}

-- "Fresh means clock 0, no opening accepted, nothing open, booked or remembered", and a journal without events
unfoldable pub fresh_session : LentSession
fresh_session = session (replicate session_size 0) empty_row (replicate store_bytes 0) (replicate store_bytes 0)
