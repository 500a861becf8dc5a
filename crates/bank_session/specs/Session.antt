-- The host's calls on a session in lent memory: the bank's call, the journal and the counts after it, and every number,
-- record and byte.
use Rattle.number_table.specs.Numbers.{number_one}
use Rattle.number_table.specs.declared.table.WrongLength.{WrongLength}
use Rattle.std.specs.Prelude.{Err, Ok, Result}
use Rattle.std.specs.Prelude.{ℕ, ◌+◌, Bool, cond, ◌&&◌, List, ◌∷◌, ◌++◌, eqb, length, get_or, take}
use Rattle.number_table.specs.Table as numbers
use Rattle.bank_rows.specs.Layout.{state_size}
use Rattle.bank_sound.specs.Sound.{is_sound}
use Rattle.bank_steps.specs.Lent.{Lent, lent, state_of}
use Rattle.opening_counts.specs.declared.seven.Counts.{Counts}
use Rattle.opening_counts.specs.Counts.{count_size, count_row, counts_from, can_grow}
use Rattle.journal.specs.declared.event.Event.{Event}
use Rattle.journal.specs.Row.{Journal, takes_events}
use Rattle.bank.specs.declared.call.FrameOut.{FrameOut}
use Rattle.bank.specs.declared.mailbox.FileRefusal.TheVariants as answers
use Rattle.bank.specs.Call.{FrameInput, frame_number}
use Rattle.bank.specs.Journal.{journal_after, journal_by}
use Rattle.bank.specs.Lent.{no_reply, LentFrameCall, lent_frame_call, LentFileCall, lent_file_call_of, lent_file_call}
use Rattle.bank_session.specs.Counts.{counts_over, counts_by}

-- ---- a session

-- document 02's session, "bank, both stores, journal", in lent memory: the bank's numbers with the number of events and
-- the seven counts behind them, the journal's row, the orders' store and the mailboxes' store
pub record LentSession : Type 0 where
  pub rows : List ℕ
  pub row : List Event
  pub orders : List ℕ
  pub mailboxes : List ℕ

abbrev pub session : List ℕ → List Event → List ℕ → List ℕ → LentSession
session rows row orders mailboxes = record { rows = rows; row = row; orders = orders; mailboxes = mailboxes }

-- the events entered so far
abbrev pub events_at : ℕ
events_at = state_size

-- the seven counts, in document 02's order
abbrev pub counts_at : ℕ
counts_at = events_at + 1

-- all numbers of a session
abbrev pub session_size : ℕ
session_size = counts_at + count_size

-- the bank's numbers among them
abbrev pub bank_rows : List ℕ → List ℕ
bank_rows rows = take state_size rows

abbrev pub event_count : List ℕ → ℕ
event_count rows = get_or rows events_at 0

abbrev pub counts_in : List ℕ → Counts
counts_in rows = counts_from counts_at rows

-- the bank and its stores
abbrev pub bank_in : LentSession → Lent
bank_in m = lent (bank_rows m.rows) m.orders m.mailboxes

abbrev pub journal_in : LentSession → Journal
journal_in m = record { events = event_count m.rows; row = m.row }

-- the numbers of a bank, of so many events and of these counts
abbrev pub with_numbers : List ℕ → ℕ → Counts → List ℕ
with_numbers rows events c = rows ++ (events ∷ count_row c)

-- the memory of a bank with its stores, of a journal and of counts
abbrev pub session_of : Lent → Journal → Counts → LentSession
session_of m j c = session (with_numbers m.rows j.events c) j.row m.orders m.mailboxes

-- ---- a frame arrives

-- what a frame call leaves: the session, the reply buffer, the answer, document 01's number for it, the reply's code
pub record SessionFrameCall : Type 0 where
  pub session : LentSession
  pub buffer : List ℕ
  pub answer : Result ℕ WrongLength
  pub number : ℕ
  pub code : ℕ

abbrev pub session_frame_call_of : FrameOut → LentSession → List ℕ → SessionFrameCall
session_frame_call_of r m buffer =
    record { session = m; buffer = buffer; answer = r.answer; number = frame_number r.answer; code = r.code }

-- whether numbers and records have their lengths, 64 bits hold the numbers of nine events more, and each count can grow
abbrev pub takes_frame : LentSession → Bool
takes_frame m =
    eqb (length m.rows) session_size && takes_events (length m.row) (event_count m.rows)
    && can_grow (counts_in m.rows)

-- the journal after a frame call on the session m that gets this answer
abbrev pub journal_next : LentSession → FrameInput → Result ℕ WrongLength → Journal
journal_next m a answer = journal_by answer (journal_after (state_of (bank_in m)) a (journal_in m)) (journal_in m)

-- the counts after it
abbrev pub counts_next : LentSession → FrameInput → Result ℕ WrongLength → Counts
counts_next m a answer =
    counts_by answer (counts_over (state_of (bank_in m)) a (counts_in m.rows)) (counts_in m.rows)

-- the bank's call, and the journal and the counts after it
abbrev pub with_journal : LentSession → FrameInput → LentFrameCall → SessionFrameCall
with_journal m a c = record {
  session = session_of c.lent (journal_next m a c.answer) (counts_next m a c.answer);
  buffer = c.buffer;
  answer = c.answer;
  number = c.number;
  code = c.code;
}

-- number 1, nothing changed
abbrev pub session_turned_away : LentSession → FrameInput → SessionFrameCall
session_turned_away m a = session_frame_call_of no_reply m a.buffer

unfoldable pub session_frame_call : LentSession → FrameInput → SessionFrameCall
session_frame_call m a = cond (takes_frame m) (with_journal m a (lent_frame_call (bank_in m) a)) (session_turned_away m a)

-- ---- a file goes into a mailbox, with the session's numbers and the mailboxes' store lent

-- the bank's call; the number of events and the counts stay
abbrev pub with_kept : List ℕ → LentFileCall → LentFileCall
with_kept rows c = record {
  rows = with_numbers c.rows (event_count rows) (counts_in rows);
  mailboxes = c.mailboxes;
  answer = c.answer;
  number = c.number;
}

unfoldable pub session_file_call : List ℕ → ℕ → List ℕ → List ℕ → LentFileCall
session_file_call rows mailbox file mailboxes =
    cond (eqb (length rows) session_size)
    (with_kept rows (lent_file_call (bank_rows rows) mailbox file mailboxes))
    (lent_file_call_of (Err answers.WrongLength) rows mailboxes)

-- ---- the counts are asked for, with the session's numbers lent

-- the seven, or number 1 for numbers of another length or that no call leaves: a bank's that fail the one test, or a
-- count that cannot grow
unfoldable pub count_call : List ℕ → Result Counts WrongLength
count_call rows =
    cond (eqb (length rows) session_size && is_sound (bank_rows rows) && can_grow (counts_in rows)) (Ok (counts_in rows))
    (Err number_one)

-- document 01's number for an answer, 0 where there are counts
abbrev pub count_number : Result Counts WrongLength → ℕ
count_number (Ok c) = 0
count_number (Err e) = numbers.wrong_length
