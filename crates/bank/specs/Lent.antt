-- The bank's calls on lent memory: the call is document 01's on the bank that the rows are, and every number of the
-- rows after it is said. Rows that fail the one test, `is_sound`, get number 1.
use Rattle.bank.specs.declared.mailbox.FileRefusal.{FileRefusal}
use Rattle.number_table.specs.Numbers.{number_one}
use Rattle.number_table.specs.declared.table.WrongLength.{WrongLength}
use Rattle.std.specs.Prelude.{Err, Result}
use Rattle.std.specs.Prelude.{ℕ, cond, List}
use Rattle.frame_table.specs.declared.fields.Fields.{Fields}
use Rattle.bank_rows.specs.State.{bank_of, stored}
use Rattle.bank_sound.specs.Sound.{is_sound}
use Rattle.bank_verdicts.specs.declared.verdict.Context.{Context}
use Rattle.bank_steps.specs.Lent.{Lent, state_of, kept_in}
use Rattle.bank.specs.declared.call.FrameOut.{FrameOut}
use Rattle.bank.specs.declared.mailbox.FileRefusal.TheVariants as answers
use Rattle.bank.specs.Call.{respond, FrameInput, frame_number, FrameCall, replied, frame_call}
use Rattle.bank.specs.Mailbox.{file_number, FileCall, file_call}

-- ---- a frame arrives

-- what a frame call leaves: the memory, the reply buffer, the answer, document 01's number for it, the reply's code
pub record LentFrameCall : Type 0 where
  pub lent : Lent
  pub buffer : List ℕ
  pub answer : Result ℕ WrongLength
  pub number : ℕ
  pub code : ℕ

abbrev pub lent_frame_call_of : FrameOut → Lent → List ℕ → LentFrameCall
lent_frame_call_of r m buffer =
    record { lent = m; buffer = buffer; answer = r.answer; number = frame_number r.answer; code = r.code }

abbrev pub kept_frame : Lent → FrameCall → LentFrameCall
kept_frame m c = record {
  lent = kept_in m c.bank_state;
  buffer = c.buffer;
  answer = c.answer;
  number = c.number;
  code = c.code;
}

-- number 1, and no reply
abbrev pub no_reply : FrameOut
no_reply = record { answer = Err number_one; code = 0 }

-- number 1, nothing changed
abbrev pub frame_turned_away : Lent → FrameInput → LentFrameCall
frame_turned_away m a = lent_frame_call_of no_reply m a.buffer

unfoldable pub lent_frame_call : Lent → FrameInput → LentFrameCall
lent_frame_call m a = cond (is_sound m.rows) (kept_frame m (frame_call (state_of m) a)) (frame_turned_away m a)

-- a request, read, at the clock that the call has set
abbrev pub lent_respond : Context → Lent → Fields → List ℕ → List ℕ → LentFrameCall
lent_respond c m q d buffer = kept_frame m (replied (respond c (state_of m) q d) buffer)

-- ---- a file goes into a mailbox, with the rows and the mailboxes' store lent

pub record LentFileCall : Type 0 where
  pub rows : List ℕ
  pub mailboxes : List ℕ
  pub answer : Result (Unit {0}) FileRefusal
  pub number : ℕ

abbrev pub lent_file_call_of : Result (Unit {0}) FileRefusal → List ℕ → List ℕ → LentFileCall
lent_file_call_of a rows mailboxes = record { rows = rows; mailboxes = mailboxes; answer = a; number = file_number a }

abbrev pub kept_file : List ℕ → FileCall → LentFileCall
kept_file rows c = record {
  rows = stored c.bank rows;
  mailboxes = c.mailboxes;
  answer = c.answer;
  number = c.number;
}

unfoldable pub lent_file_call : List ℕ → ℕ → List ℕ → List ℕ → LentFileCall
lent_file_call rows mailbox file mailboxes =
    cond (is_sound rows) (kept_file rows (file_call (bank_of rows) mailbox file mailboxes))
    (lent_file_call_of (Err answers.WrongLength) rows mailboxes)
