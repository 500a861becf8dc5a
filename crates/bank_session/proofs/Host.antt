-- A host's call on rows that a call leaves is the bank's own; on other rows, or where the session is not taken, it is
-- given number 1. So one given no number leaves what the bank's call leaves on the bank and the journal that the lent
-- memory is. Assumes nothing.
use Rattle.bank.specs.declared.mailbox.FileRefusal.{FileRefusal}
use Rattle.number_table.specs.declared.table.WrongLength.{WrongLength}
use Rattle.std.specs.Prelude.{Err, Ok, Result}
use Prim.Native.Nat.{ℕ}
use mathlib.Core.Bool.{Bool, true, false}
use mathlib.Core.List.{List}
use mathlib.Core.Path.{◌≡◌, refl, sym, ap, ◌∙◌}
use native.Mathlib.Decide.{ℕ_discrete}
use native.Mathlib.Omega.{arith}
use lib.ListN.{length}
use borrow.Author.Tests.{ne_eqb}
use Rattle.message.specs.Verdicts.{decide}
use Rattle.message.proofs.Verdicts.{by-test}
use Rattle.bank_state.specs.State.{Bank, BankState, bank_state}
use Rattle.bank_rows.specs.State.{bank_of}
use Rattle.bank_sound.specs.Sound.{is_sound}
use Rattle.bank_steps.specs.Lent.{lent, state_of}
use Rattle.bank.specs.declared.mailbox.FileRefusal.TheVariants as answers
use Rattle.bank.specs.Call.{FrameInput, frame_number, FrameCall, lent_right, frame_call}
use Rattle.bank.specs.Journal.{journal_after}
use Rattle.bank.specs.Mailbox.{file_refusals, file_number, carry_out_file, file_call}
use Rattle.bank.specs.Lent.{LentFrameCall, kept_frame, LentFileCall, lent_file_call_of, kept_file, lent_file_call}
use Rattle.bank.proofs.Kept.{frame-state, file-state}
use Rattle.bank.proofs.Lent.{rows-refused, lent-frame}
use Rattle.bank_session.specs.Counts.{counts_over}
use Rattle.bank_session.specs.Session.{
  LentSession,
  session_size,
  bank_rows,
  counts_in,
  bank_in,
  journal_in,
  takes_frame,
  journal_next,
  counts_next,
  with_journal,
  SessionFrameCall,
  session_frame_call,
  with_kept,
  session_file_call,
}
use Rattle.bank_session.proofs.Session.{frame_refused_lem, frame-taken}
use Rattle.bank_session.proofs.Laws.{frame-bank, frame-journal, frame-counts, file-taken, file-bank}

-- ---- a frame arrives

-- the number of the bank's call is its answer's; without one there is a reply
pub frame-numbered : (w : BankState) (a : FrameInput) → (frame_call w a).number ≡ frame_number (frame_call w a).answer
unfolding frame_call
frame-numbered w a =
    by-test (λ (c : FrameCall). c.number ≡ frame_number c.answer) (lent_right w a) (λ _. refl) (λ _. refl)

pub frame-replied : (r : Result ℕ WrongLength) → frame_number r ≡ 0 → (n : ℕ) × (r ≡ Ok n)
frame-replied (Ok n) z = (n, refl)
frame-replied (Err e) z = absurd (omega arith)

module _ (m : LentSession) (a : FrameInput) where
  abbrev w : BankState
  w = state_of (bank_in m)

  abbrev number : SessionFrameCall → ℕ
  number c = c.number

  -- rows or a row of another length, or no room for the numbers of its events
  pub frame-away : takes_frame m ≡ false → (session_frame_call m a).number ≡ 1
  frame-away e = ap number (frame_refused_lem m a e)

  -- rows that no call leaves
  pub frame-unsound : is_sound (bank_rows m.rows) ≡ false → (session_frame_call m a).number ≡ 1
  frame-unsound e = at (takes_frame m) refl
    where
      at : (b : Bool) → takes_frame m ≡ b → (session_frame_call m a).number ≡ 1
      at true f = ap number (frame-taken m a f ∙ ap (with_journal m a) (rows-refused (bank_in m) a e))
      at false f = frame-away f

  -- on rows that a call leaves the session's call is the bank's
  pub frame-kept : takes_frame m ≡ true → is_sound (bank_rows m.rows) ≡ true →
      session_frame_call m a ≡ with_journal m a (kept_frame (bank_in m) (frame_call w a))
  frame-kept taken sound = frame-taken m a taken ∙ ap (with_journal m a) (lent-frame (bank_in m) a sound)

  module _ (z : (session_frame_call m a).number ≡ 0) where
    pub frame-takes : takes_frame m ≡ true
    frame-takes = at (takes_frame m) refl
      where
        at : (b : Bool) → takes_frame m ≡ b → b ≡ true
        at true e = refl
        at false e = absurd (let n = sym (frame-away e) ∙ z in omega arith)

    pub frame-sound : is_sound (bank_rows m.rows) ≡ true
    frame-sound = at (is_sound (bank_rows m.rows)) refl
      where
        at : (b : Bool) → is_sound (bank_rows m.rows) ≡ b → b ≡ true
        at true e = refl
        at false e = absurd (let n = sym (frame-unsound e) ∙ z in omega arith)

    -- the bank's call has a reply
    pub frame-answered : (n : ℕ) × ((frame_call w a).answer ≡ Ok n)
    frame-answered =
        frame-replied (frame_call w a).answer
        (sym (frame-numbered w a) ∙ sym (ap number (frame-kept frame-takes frame-sound)) ∙ z)

    -- the bank with its stores after it, and the journal
    pub frame-bank-left : state_of (bank_in (session_frame_call m a).session) ≡ (frame_call w a).bank_state
    frame-bank-left = ap state_of (frame-bank m a frame-takes) ∙ frame-state (bank_in m) a frame-sound

    pub frame-journal-left : journal_in (session_frame_call m a).session ≡ journal_after w a (journal_in m)
    frame-journal-left =
        frame-journal m a frame-takes
        ∙ ap (journal_next m a)
        (ap (λ (c : LentFrameCall). c.answer) (lent-frame (bank_in m) a frame-sound) ∙ frame-answered.1)

    -- and the counts
    pub frame-counts-left : counts_in (session_frame_call m a).session.rows ≡ counts_over w a (counts_in m.rows)
    frame-counts-left =
        frame-counts m a frame-takes
        ∙ ap (counts_next m a)
        (ap (λ (c : LentFrameCall). c.answer) (lent-frame (bank_in m) a frame-sound) ∙ frame-answered.1)

-- ---- a file goes into a mailbox

pub file-numbered : (b : Bank) (m : ℕ) (file mailboxes : List ℕ) →
    (file_call b m file mailboxes).number ≡ file_number (file_call b m file mailboxes).answer
unfolding file_call
file-numbered b m file mailboxes = at (decide (file_refusals b m file mailboxes) (Ok tt))
  where
    at : (x : Result (Unit {0}) FileRefusal) → let k = carry_out_file x b m file mailboxes in k.number ≡ file_number k.answer
    at (Ok u) = refl
    at (Err answers.WrongLength) = refl
    at (Err answers.NoMailbox) = refl
    at (Err answers.WrongFile) = refl
    at (Err answers.MailboxFull) = refl

pub file-done : (r : Result (Unit {0}) FileRefusal) → file_number r ≡ 0 → r ≡ Ok tt
file-done (Ok u) z = refl
file-done (Err answers.WrongLength) z = absurd (omega arith)
file-done (Err answers.NoMailbox) z = absurd (omega arith)
file-done (Err answers.WrongFile) z = absurd (omega arith)
file-done (Err answers.MailboxFull) z = absurd (omega arith)

module _ (rows mailboxes : List ℕ) (m : ℕ) (file : List ℕ) where
  abbrev b : Bank
  b = bank_of (bank_rows rows)

  abbrev inner : LentFileCall
  inner = lent_file_call (bank_rows rows) m file mailboxes

  abbrev number_in : LentFileCall → ℕ
  number_in c = c.number

  file-refused : (length rows ≡ session_size → ⊥) →
      session_file_call rows m file mailboxes ≡ lent_file_call_of (Err answers.WrongLength) rows mailboxes
  unfolding session_file_call
  file-refused n = rw (ne_eqb (length rows) session_size n)

  unsound-refused : is_sound (bank_rows rows) ≡ false → inner ≡ lent_file_call_of (Err answers.WrongLength) (bank_rows rows) mailboxes
  unfolding lent_file_call
  unsound-refused e = rw e

  -- rows of another length
  pub file-away : (length rows ≡ session_size → ⊥) → (session_file_call rows m file mailboxes).number ≡ 1
  file-away n = ap number_in (file-refused n)

  -- rows that no call leaves
  pub file-unsound : is_sound (bank_rows rows) ≡ false → (session_file_call rows m file mailboxes).number ≡ 1
  file-unsound e = at (ℕ_discrete (length rows) session_size)
    where
      at : Dec (length rows ≡ session_size) → (session_file_call rows m file mailboxes).number ≡ 1
      at (yes long) = ap number_in (file-taken rows m file mailboxes long ∙ ap (with_kept rows) (unsound-refused e))
      at (no n) = file-away n

  -- on rows that a call leaves the bank's call
  lent-file : is_sound (bank_rows rows) ≡ true → inner ≡ kept_file (bank_rows rows) (file_call b m file mailboxes)
  unfolding lent_file_call
  lent-file sound = rw sound

  module _ (long : length rows ≡ session_size) (sound : is_sound (bank_rows rows) ≡ true) where
    pub file-kept : session_file_call rows m file mailboxes
        ≡ with_kept rows (kept_file (bank_rows rows) (file_call b m file mailboxes))
    file-kept = file-taken rows m file mailboxes long ∙ ap (with_kept rows) (lent-file sound)

    pub file-number : (session_file_call rows m file mailboxes).number ≡ file_number (file_call b m file mailboxes).answer
    file-number = ap number_in file-kept ∙ file-numbered b m file mailboxes

    -- the bank with its stores after it; the orders' store is not lent
    pub file-bank-left : (orders : List ℕ) → let k = session_file_call rows m file mailboxes in
        let c = file_call b m file mailboxes in
        state_of (lent (bank_rows k.rows) orders k.mailboxes) ≡ bank_state c.bank orders c.mailboxes
    file-bank-left orders =
        ap state_of (file-bank rows m file mailboxes long orders)
        ∙ (ap (λ (x : Bank). bank_state x orders inner.mailboxes) (file-state (bank_rows rows) m file mailboxes sound)
        ∙ ap (λ (k : LentFileCall). bank_state (file_call b m file mailboxes).bank orders k.mailboxes) (lent-file sound))

  module _ (z : (session_file_call rows m file mailboxes).number ≡ 0) where
    pub file-long : length rows ≡ session_size
    file-long = at (ℕ_discrete (length rows) session_size)
      where
        at : Dec (length rows ≡ session_size) → length rows ≡ session_size
        at (yes long) = long
        at (no n) = absurd (let y = sym (file-away n) ∙ z in omega arith)

    pub file-sound : is_sound (bank_rows rows) ≡ true
    file-sound = at (is_sound (bank_rows rows)) refl
      where
        at : (t : Bool) → is_sound (bank_rows rows) ≡ t → t ≡ true
        at true e = refl
        at false e = absurd (let y = sym (file-unsound e) ∙ z in omega arith)

    pub file-answered : (file_call b m file mailboxes).answer ≡ Ok tt
    file-answered = file-done (file_call b m file mailboxes).answer (sym (file-number file-long file-sound) ∙ z)
