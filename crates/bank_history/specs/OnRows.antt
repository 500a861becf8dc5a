-- Lists of calls on lent memory, from rows and stores that are all zero, and the statements that they are the calls of
-- document 01 on the bank that the rows are.
use Rattle.std.specs.Prelude.{ℕ, ◌<◌, true, List, [], ◌∷◌, ◌≡◌, length, replicate}
use Rattle.number_table.specs.Table as numbers
use Rattle.bank_state.specs.Limits.{store_bytes}
use Rattle.bank_rows.specs.Layout.{state_size}
use Rattle.bank_sound.specs.Sound.{is_sound}
use Rattle.bank.specs.Call.{FrameInput, RightInput, frame_call}
use Rattle.bank.specs.Mailbox.{file_call}
use Rattle.bank_steps.specs.Lent.{Lent, lent, state_of}
use Rattle.bank.specs.Lent.{kept_frame, frame_turned_away, lent_frame_call, lent_file_call_of, kept_file, lent_file_call}
use Rattle.bank_admitted.specs.Session.{Brought}
use Rattle.bank_history.specs.Answers.{AllBytes, FrameAnswered}
use Rattle.bank_history.specs.History.{BankCall, Frame, File, call_exchange, past_of}

-- the memory after a call
unfoldable pub lent_after : BankCall → Lent → Lent
lent_after (Frame a) m = (lent_frame_call m a).lent
lent_after (File mailbox file) m =
    let c = lent_file_call m.rows mailbox file m.mailboxes in lent c.rows m.orders c.mailboxes

-- after a list of calls, the newest first; a fresh bank is all zeros
unfoldable pub lent_of : List BankCall → Lent
lent_of [] = lent (replicate state_size 0) (replicate store_bytes 0) (replicate store_bytes 0)
lent_of (c ∷ calls) = lent_after c (lent_of calls)

-- every lent length is right, the time is not over the last one, and the rows are sound
pub record RightlyLent (m : Lent) (a : FrameInput) : Type 0 where
  pub rows : is_sound m.rows ≡ true
  pub orders : length m.orders ≡ store_bytes
  pub mailboxes : length m.mailboxes ≡ store_bytes
  pub input : RightInput a

pub record OnRows : Type 0 where
  -- after every list of calls the rows are sound, and the memory is the bank with its stores
  pub sound : (calls : List BankCall) → is_sound (lent_of calls).rows ≡ true
  pub state : {calls : List BankCall} → AllBytes calls → state_of (lent_of calls) ≡ (past_of calls).bank_state
  -- the next call answers as the call on the bank does: answer, number, code, buffer; the memory keeps what it leaves
  pub frame : {calls : List BankCall} → AllBytes calls → (a : FrameInput) →
      lent_frame_call (lent_of calls) a ≡ kept_frame (lent_of calls) (frame_call (past_of calls).bank_state a)
  pub file : {calls : List BankCall} → AllBytes calls → (mailbox : ℕ) (file : List ℕ) →
      lent_file_call (lent_of calls).rows mailbox file (lent_of calls).mailboxes
      ≡ kept_file (lent_of calls).rows
      (file_call (past_of calls).bank_state.bank mailbox file (past_of calls).bank_state.mailboxes)
  -- in every sound state, whether calls leave it or not, a frame call is answered by a frame
  pub answered : {m : Lent} {a : FrameInput} → RightlyLent m a → Brought a →
      (lent_frame_call m a ≡ kept_frame m (frame_call (state_of m) a))
      × FrameAnswered (frame_call (state_of m) a) a.buffer (call_exchange (state_of m) a)
  -- so in every state number 1 comes with nothing changed
  pub unchanged : {m : Lent} {a : FrameInput} → Brought a → (lent_frame_call m a).number ≡ numbers.wrong_length →
      lent_frame_call m a ≡ frame_turned_away m a
  -- and whatever number a file call is given, every number of the rows and every byte of the mailboxes is as it was
  pub file_unchanged : (rows : List ℕ) (mailbox : ℕ) (file mailboxes : List ℕ) →
      let c = lent_file_call rows mailbox file mailboxes in
      0 < c.number → c ≡ lent_file_call_of c.answer rows mailboxes
