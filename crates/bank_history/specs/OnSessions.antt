-- Lists of calls on a lent session, from numbers, records and stores that are all zero, and the statements that they
-- are the calls on the bank's own memory and leave the journal of those calls.
use Rattle.std.specs.Prelude.{ℕ, ◌<◌, true, List, [], ◌∷◌, ◌≡◌, replicate}
use Rattle.number_table.specs.Table as numbers
use Rattle.bank_state.specs.Limits.{store_bytes}
use Rattle.journal.specs.Row.{empty_row}
use Rattle.bank.specs.Call.{FrameInput, frame_call}
use Rattle.bank.specs.Lent.{kept_frame, lent_file_call_of}
use Rattle.bank_session.specs.Session.{
  LentSession,
  session,
  session_size,
  counts_in,
  bank_in,
  journal_in,
  takes_frame,
  with_journal,
  session_turned_away,
  session_frame_call,
  session_file_call,
}
use Rattle.bank_admitted.specs.Session.{Brought}
use Rattle.bank_admitted.specs.Counts.{CountsHold}
use Rattle.bank_history.specs.Answers.{AllBytes}
use Rattle.bank_history.specs.History.{BankCall, Frame, File, past_of}
use Rattle.bank_history.specs.Journal.{journal_of}
use Rattle.bank_history.specs.OnRows.{lent_of}

-- the session after a call
unfoldable pub session_after : BankCall → LentSession → LentSession
session_after (Frame a) m = (session_frame_call m a).session
session_after (File mailbox file) m =
    let c = session_file_call m.rows mailbox file m.mailboxes in
    session c.rows m.row m.orders c.mailboxes

-- after a list of calls, the newest first; a fresh session is all zeros
unfoldable pub lent_session_of : List BankCall → LentSession
lent_session_of [] = session (replicate session_size 0) empty_row (replicate store_bytes 0) (replicate store_bytes 0)
lent_session_of (c ∷ calls) = session_after c (lent_session_of calls)

pub record OnSessions : Type 0 where
  -- after every list of calls the numbers and the records have their lengths, there is room for nine events more, and
  -- each count can grow
  pub taken : {calls : List BankCall} → AllBytes calls → takes_frame (lent_session_of calls) ≡ true
  -- the session is the memory that the calls on the bank leave, and the journal of the calls
  pub bank : {calls : List BankCall} → AllBytes calls → bank_in (lent_session_of calls) ≡ lent_of calls
  pub journal : {calls : List BankCall} → AllBytes calls → journal_in (lent_session_of calls) ≡ journal_of calls
  -- its counts agree with the bank's open transactions, with the book and with the openings
  pub counts : {calls : List BankCall} → AllBytes calls →
      CountsHold (past_of calls).bank_state.bank (counts_in (lent_session_of calls).rows)
  -- the next call answers as the call on the bank does: answer, number, code, buffer; the session keeps what it leaves
  pub frame : {calls : List BankCall} → AllBytes calls → (a : FrameInput) →
      session_frame_call (lent_session_of calls) a
      ≡ with_journal (lent_session_of calls) a (kept_frame (lent_of calls) (frame_call (past_of calls).bank_state a))
  -- in every session, whether calls leave it or not, number 1 comes with nothing changed
  pub unchanged : {m : LentSession} {a : FrameInput} → Brought a →
      (session_frame_call m a).number ≡ numbers.wrong_length → session_frame_call m a ≡ session_turned_away m a
  -- and whatever number a file call is given, every number of the session and every byte of the mailboxes is as it was
  pub file_unchanged : (rows : List ℕ) (mailbox : ℕ) (file mailboxes : List ℕ) →
      let c = session_file_call rows mailbox file mailboxes in
      0 < c.number → c ≡ lent_file_call_of c.answer rows mailboxes
