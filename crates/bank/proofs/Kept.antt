-- The rows that a call leaves pass the test of the next call, and are the bank that the call leaves; a file call given a
-- number leaves them as they were. Assumes nothing.
use Rattle.bank.specs.declared.mailbox.FileRefusal.{FileRefusal}
use Rattle.std.specs.Prelude.{Err, Ok, Result}
use Prim.Native.Nat.{ℕ, ◌-◌, ◌<◌}
use mathlib.Core.Bool.{true}
use mathlib.Core.List.{List}
use mathlib.Core.Path.{◌≡◌, refl, ap}
use native.Mathlib.Omega.{arith}
use lib.ListN.{length}
use Rattle.frame_reader.specs.Reader.{read_request}
use Rattle.frame_row.specs.Row.{data_of}
use Rattle.message.specs.Verdicts.{decide}
use Rattle.message.proofs.Verdicts.{by-test}
use Rattle.bank_state.specs.State.{Bank}
use Rattle.bank_state.specs.Clock.{advanced}
use Rattle.bank_state.specs.State.{BankState}
use Rattle.bank_sound.specs.Sound.{is_sound, InRange}
use Rattle.bank_rows.specs.State.{bank_of, Laid, Held}
use Rattle.bank_rows.proofs.Calls.{held-file}
use Rattle.bank_sound.proofs.Range.{advanced-range}
use Rattle.bank_rows.proofs.State.{held_rows, stored-own, stored_back}
use Rattle.bank_sound.proofs.Test.{sound-laid, sound-range, stored-sound}
use Rattle.bank_steps.specs.Lent.{Lent, state_of}
use Rattle.bank_steps.proofs.Held.{held-judged}
use Rattle.bank_steps.proofs.Range.{stored-range, range-judged}
use Rattle.bank.specs.declared.mailbox.FileRefusal.TheVariants as answers
use Rattle.bank.specs.Call.{respond, FrameInput, context_of, FrameCall, lent_right, frame_call}
use Rattle.bank.specs.Mailbox.{file_refusals, refused_file, carry_out_file, file_call}
use Rattle.bank.specs.Lent.{lent_frame_call, lent_file_call_of, kept_file, LentFileCall, lent_file_call}
use Rattle.bank.proofs.Accepted.{file-fits}
use Rattle.bank.proofs.Lent.{advanced-within, lent-frame}

-- ---- a frame arrives

module _ (m : Lent) (a : FrameInput) (sound : is_sound m.rows ≡ true) where
  abbrev after : BankState
  after = (frame_call (state_of m) a).bank_state

  laid : Laid m.rows
  laid = sound-laid m.rows sound

  held : Held (advanced a.time (state_of m)).bank
  held = (advanced-within m.rows m.orders m.mailboxes laid a.time).held

  pub frame-held : Held after.bank
  unfolding frame_call respond
  frame-held =
      let v = advanced a.time (state_of m) in
      by-test (λ (c : FrameCall). Held c.bank_state.bank) (lent_right (state_of m) a)
      (λ _. held-judged v.bank held (read_request a.frame) v.orders v.mailboxes (data_of a.frame)
      (context_of a))
      (λ _. held_rows m.rows laid)

  pub frame-range : InRange after.bank
  unfolding frame_call respond
  frame-range =
      let v = advanced a.time (state_of m) in
      let r = advanced-range a.time (state_of m) (sound-range m.rows sound) in
      by-test (λ (c : FrameCall). InRange c.bank_state.bank) (lent_right (state_of m) a)
      (λ _. range-judged v.bank held r (read_request a.frame) v.orders v.mailboxes (data_of a.frame)
      (context_of a))
      (λ _. sound-range m.rows sound)

  -- the next call finds a bank's rows
  pub frame-sound : is_sound (lent_frame_call m a).lent.rows ≡ true
  frame-sound = rw (lent-frame m a sound) (stored-sound after.bank m.rows frame-held laid frame-range)

  -- and the bank that this one left
  pub frame-state : state_of (lent_frame_call m a).lent ≡ after
  frame-state =
      rw (lent-frame m a sound)
      (ap (λ (b : Bank). record { bank = b; orders = after.orders; mailboxes = after.mailboxes })
      (stored_back after.bank frame-held m.rows laid))

-- ---- a file goes into a mailbox

module _ (s : List ℕ) (mailbox : ℕ) (file mailboxes : List ℕ) (sound : is_sound s ≡ true) where
  abbrev left : Bank
  left = (file_call (bank_of s) mailbox file mailboxes).bank

  abbrev judged : Result (Unit {0}) FileRefusal
  judged = decide (file_refusals (bank_of s) mailbox file mailboxes) (Ok tt)

  own : Held (bank_of s)
  own = held_rows s (sound-laid s sound)

  held_by_lem : (x : Result (Unit {0}) FileRefusal) → Held (carry_out_file x (bank_of s) mailbox file mailboxes).bank
  held_by_lem (Ok u) = held-file (mailbox - 1) (length file) own
  held_by_lem (Err answers.WrongLength) = own
  held_by_lem (Err answers.NoMailbox) = own
  held_by_lem (Err answers.WrongFile) = own
  held_by_lem (Err answers.MailboxFull) = own

  pub file-held : Held left
  unfolding file_call
  file-held = held_by_lem judged

  range-by : (x : Result (Unit {0}) FileRefusal) → judged ≡ x → InRange (carry_out_file x (bank_of s) mailbox file mailboxes).bank
  range-by (Ok u) told =
      let fits = file-fits (bank_of s) mailbox file mailboxes told in
      stored-range (sound-range s sound) mailbox (length file) fits.2 fits.4
  range-by (Err answers.WrongLength) told = sound-range s sound
  range-by (Err answers.NoMailbox) told = sound-range s sound
  range-by (Err answers.WrongFile) told = sound-range s sound
  range-by (Err answers.MailboxFull) told = sound-range s sound

  pub file-range : InRange left
  unfolding file_call
  file-range = range-by judged refl

  pub file-sound : is_sound (lent_file_call s mailbox file mailboxes).rows ≡ true
  unfolding lent_file_call
  file-sound = rw sound (stored-sound left s file-held (sound-laid s sound) file-range)

  pub file-state : bank_of (lent_file_call s mailbox file mailboxes).rows ≡ left
  unfolding lent_file_call
  file-state = rw sound (stored_back left file-held s (sound-laid s sound))

-- "a number, nothing changed", whatever the rows are: what is stored anew where a file is refused is the bank's own rows
module _ (s : List ℕ) (mailbox : ℕ) (file mailboxes : List ℕ) where
  abbrev Unchanged : LentFileCall → Type 0
  Unchanged c = 0 < c.number → c ≡ lent_file_call_of c.answer s mailboxes

  refused-same : Laid s → (x : Result (Unit {0}) FileRefusal) →
      kept_file s (refused_file x (bank_of s) mailboxes) ≡ lent_file_call_of x s mailboxes
  refused-same l x = ap (λ (rows : List ℕ). lent_file_call_of x rows mailboxes) (stored-own s l)

  unchanged-by : Laid s → (x : Result (Unit {0}) FileRefusal) → Unchanged (kept_file s (carry_out_file x (bank_of s) mailbox file mailboxes))
  unchanged-by l (Ok u) z = absurd (omega arith)
  unchanged-by l (Err answers.WrongLength) z = refused-same l (Err answers.WrongLength)
  unchanged-by l (Err answers.NoMailbox) z = refused-same l (Err answers.NoMailbox)
  unchanged-by l (Err answers.WrongFile) z = refused-same l (Err answers.WrongFile)
  unchanged-by l (Err answers.MailboxFull) z = refused-same l (Err answers.MailboxFull)

  pub file-unchanged : Unchanged (lent_file_call s mailbox file mailboxes)
  unfolding lent_file_call file_call
  file-unchanged =
      by-test Unchanged (is_sound s)
      (λ e. unchanged-by (sound-laid s e) (decide (file_refusals (bank_of s) mailbox file mailboxes) (Ok tt)))
      (λ _ _. refl)
