-- The sessions that calls leave, from a fresh one on: frames, files, and images taken up, whoever wrote them.
use Rattle.std.specs.Prelude.{ℕ, true, List, ◌≡◌}
use Rattle.octets.specs.Bytes.{Bytes}
use Rattle.bank.specs.Call.{FrameInput}
use Rattle.bank_session.specs.Session.{LentSession, session, session_frame_call, session_file_call}
use Rattle.bank_admitted.specs.Session.{Brought}
use Rattle.image_calls.specs.Calls.{lengths_right, is_admitted, take_up}
use Rattle.image_admitted.specs.Fresh.{fresh_session}

-- a session of the list, with the lengths of what is lent
abbrev pub InList : LentSession → Type 0
InList m = (lengths_right m ≡ true) × (is_admitted m ≡ true)

-- the session after a file is put into a mailbox
abbrev pub after_file : LentSession → ℕ → List ℕ → LentSession
after_file m mailbox file =
    let c = session_file_call m.rows mailbox file m.mailboxes in
    session c.rows m.row m.orders c.mailboxes

-- each call given what the last one left; putting away changes no session
pub data Reached : LentSession → Type 0 where
  fresh : Reached fresh_session
  frame : {m : LentSession} → Reached m → (a : FrameInput) → Brought a → Reached (session_frame_call m a).session
  file : {m : LentSession} → Reached m → (mailbox : ℕ) (file : List ℕ) → Reached (after_file m mailbox file)
  taken : {m : LentSession} → Reached m → (image : List ℕ) → Bytes image → Reached (take_up m image).session
