-- The calls on lent memory are the calls on the bank that the rows are: what a call leaves is stored and read back,
-- since the invariant's bank is one that rows can hold and in range. A bank in range writes every reply.
use Rattle.bank.specs.declared.mailbox.FileRefusal.{FileRefusal}
use Rattle.std.specs.Prelude.{Err, Ok, Result}
use Prim.Native.Nat.{ℕ}
use mathlib.Core.Bool.{Bool, true, false}
use mathlib.Core.List.{List, [], ◌∷◌}
use mathlib.Core.Path.{◌≡◌, refl, sym, ap, ◌∙◌}
use native.Mathlib.Omega.{arith}
use lib.ListN.{length, replicate}
use Rattle.number_table.specs.Table as numbers
use Rattle.octets.specs.Bytes.{Bytes}
use Rattle.message.specs.Verdicts.{decide}
use Rattle.message.proofs.Verdicts.{by-test}
use Rattle.bank_state.specs.State.{Bank}
use Rattle.bank_state.specs.Limits.{store_bytes}
use Rattle.bank_state.specs.State.{BankState, bank_state}
use Rattle.bank_sound.specs.Sound.{is_sound}
use Rattle.bank_rows.specs.State.{bank_of}
use Rattle.bank_sound.proofs.Range.{zeros-sound}
use Rattle.bank_rows.proofs.State.{fresh-rows, held_rows}
use Rattle.bank_sound.proofs.Test.{sound-laid, sound-range}
use Rattle.bank.specs.declared.mailbox.FileRefusal.TheVariants as put
use Rattle.bank.specs.Call.{FrameInput, FrameCall, frame_number, lent_right, frame_call}
use Rattle.bank.specs.Mailbox.{file_refusals, carry_out_file, file_call}
use Rattle.bank_steps.specs.Lent.{Lent, state_of}
use Rattle.bank.specs.Lent.{
  LentFrameCall,
  kept_frame,
  frame_turned_away,
  lent_frame_call,
  kept_file,
  LentFileCall,
  lent_file_call,
}
use Rattle.bank.proofs.Kept.{frame-sound, frame-state, file-sound, file-state, file-unchanged}
use Rattle.bank.proofs.Lent.{lent-refused, rows-refused, lent-frame}
use Rattle.bank.proofs.Right.{right-told}
use Rattle.bank_history.specs.Answers.{AllBytes, none, more, FrameAnswered}
use Rattle.bank_history.specs.History.{Past, BankCall, Frame, File, call_exchange, placed, start, after, past_of}
use Rattle.bank_admitted.specs.State.{Sizes}
use Rattle.bank_admitted.specs.Session.{Brought}
use Rattle.bank_history.specs.OnRows.{lent_after, lent_of, RightlyLent, OnRows}
use Rattle.bank_history.proofs.Answers.{call-answered, same-bank}

-- ---- after every list of calls

lent-sound : (calls : List BankCall) → is_sound (lent_of calls).rows ≡ true
unfolding lent_of lent_after
lent-sound [] = zeros-sound
lent-sound (Frame a ∷ calls) = frame-sound (lent_of calls) a (lent-sound calls)
lent-sound (File mailbox file ∷ calls) =
    file-sound (lent_of calls).rows mailbox file (lent_of calls).mailboxes (lent-sound calls)

lent-file : (rows : List ℕ) (mailbox : ℕ) (file mailboxes : List ℕ) → is_sound rows ≡ true →
    lent_file_call rows mailbox file mailboxes ≡ kept_file rows (file_call (bank_of rows) mailbox file mailboxes)
unfolding lent_file_call
lent-file rows mailbox file mailboxes sound = rw sound

-- a file call's bank and mailboxes are those of the past after it, whatever its answer
file-placed : (r : Result (Unit {0}) FileRefusal) (p : Past) (mailbox : ℕ) (file : List ℕ) →
    let c = carry_out_file r p.bank_state.bank mailbox file p.bank_state.mailboxes in
    bank_state c.bank p.bank_state.orders c.mailboxes ≡ (placed c.answer c.bank c.mailboxes p).bank_state
file-placed (Ok u) p mailbox file = refl
file-placed (Err put.WrongLength) p mailbox file = refl
file-placed (Err put.NoMailbox) p mailbox file = refl
file-placed (Err put.WrongFile) p mailbox file = refl
file-placed (Err put.MailboxFull) p mailbox file = refl

module _ {calls : List BankCall} (given : AllBytes calls) (m : Lent) (sound : is_sound m.rows ≡ true)
    (same : state_of m ≡ (past_of calls).bank_state) where
  abbrev past : Past
  past = past_of calls

  after_frame_lem : (a : FrameInput) → Bytes a.ids → Bytes a.frame →
      state_of (lent_after (Frame a) m) ≡ (after (Frame a) past).bank_state
  unfolding lent_after
  after_frame_lem a ids frame =
      frame-state m a sound
      ∙ (ap (λ (w : BankState). (frame_call w a).bank_state) same ∙ sym (same-bank calls a ids frame))

  after-file : (mailbox : ℕ) (file : List ℕ) →
      state_of (lent_after (File mailbox file) m) ≡ (after (File mailbox file) past).bank_state
  unfolding lent_after after file_call
  after-file mailbox file =
      let rows = m.rows in
      let answer : BankState → Result (Unit {0}) FileRefusal = λ (w : BankState).
      decide (file_refusals w.bank mailbox file w.mailboxes) (Ok tt) in
      let left : BankState → BankState = λ (w : BankState).
      let c = carry_out_file (answer w) w.bank mailbox file w.mailboxes in
      bank_state c.bank w.orders c.mailboxes in
      ap (λ (b : Bank). bank_state b m.orders (lent_file_call rows mailbox file m.mailboxes).mailboxes)
      (file-state rows mailbox file m.mailboxes sound)
      ∙ (ap (λ (c : LentFileCall). bank_state (file_call (bank_of rows) mailbox file m.mailboxes).bank m.orders
      c.mailboxes) (lent-file rows mailbox file m.mailboxes sound)
      ∙ (ap left same ∙ file-placed (answer past.bank_state) past mailbox file))

lent-state : {calls : List BankCall} → AllBytes calls → state_of (lent_of calls) ≡ (past_of calls).bank_state
unfolding lent_of past_of start
lent-state none = ap (λ (b : Bank). bank_state b (replicate store_bytes 0) (replicate store_bytes 0)) fresh-rows
lent-state (more {c = Frame a} {calls = calls} b given) =
    after_frame_lem given (lent_of calls) (lent-sound calls) (lent-state given) a b.0 b.1
lent-state (more {c = File mailbox file} {calls = calls} b given) =
    after-file given (lent_of calls) (lent-sound calls) (lent-state given) mailbox file

-- ---- every sound state

sizes-of : (m : Lent) → is_sound m.rows ≡ true → length m.orders ≡ store_bytes →
    length m.mailboxes ≡ store_bytes → Sizes (state_of m)
sizes-of m sound orders mailboxes =
    let k = held_rows m.rows (sound-laid m.rows sound) in
    record {
      places = k.places;
      downloads = k.downloads;
      nonces = k.nonces;
      files = k.files;
      series = k.series;
      orders = orders;
      mailboxes = mailboxes;
    }

number_of : (w : BankState) (a : FrameInput) → (frame_call w a).number ≡ frame_number (frame_call w a).answer
unfolding frame_call
number_of w a =
    by-test (λ (c : FrameCall). c.number ≡ frame_number c.answer) (lent_right w a) (λ _. refl)
    (λ _. refl)

module _ {m : Lent} {a : FrameInput} (b : Brought a) where
  frame-given : RightlyLent m a → FrameAnswered (frame_call (state_of m) a) a.buffer (call_exchange (state_of m) a)
  frame-given r =
      call-answered (state_of m) (sound-range m.rows r.rows) (sizes-of m r.rows r.orders r.mailboxes) a
      b.ids b.frame r.input

  -- what the call tests
  tested : is_sound m.rows ≡ true → lent_right (state_of m) a ≡ true → RightlyLent m a
  tested sound h =
      let r = right-told (state_of m) a h in
      record { rows = sound; orders = r.0; mailboxes = r.1; input = r.2 }

  number-changes-nothing : (lent_frame_call m a).number ≡ numbers.wrong_length → lent_frame_call m a ≡ frame_turned_away m a
  number-changes-nothing z = at (is_sound m.rows) refl (lent_right (state_of m) a) refl
    where
      at : (t : Bool) → is_sound m.rows ≡ t → (u : Bool) → lent_right (state_of m) a ≡ u →
          lent_frame_call m a ≡ frame_turned_away m a
      at false e u f = rows-refused m a e
      at true e false f = lent-refused m a f
      at true e true f =
          let r = frame-given (tested e f) in
          let n : (lent_frame_call m a).number ≡ 0 =
          ap (λ (c : LentFrameCall). c.number) (lent-frame m a e)
          ∙ (number_of (state_of m) a ∙ ap frame_number r.answer) in
          absurd (omega arith)

module _ (calls : List BankCall) (given : AllBytes calls) where
  abbrev now : Lent
  now = lent_of calls

  next-frame : (a : FrameInput) → lent_frame_call now a ≡ kept_frame now (frame_call (past_of calls).bank_state a)
  next-frame a =
      lent-frame now a (lent-sound calls) ∙ ap (λ (w : BankState). kept_frame now (frame_call w a)) (lent-state given)

  next-file : (mailbox : ℕ) (file : List ℕ) → lent_file_call now.rows mailbox file now.mailboxes
      ≡ kept_file now.rows
      (file_call (past_of calls).bank_state.bank mailbox file (past_of calls).bank_state.mailboxes)
  next-file mailbox file =
      lent-file now.rows mailbox file now.mailboxes (lent-sound calls)
      ∙ ap (λ (w : BankState). kept_file now.rows (file_call w.bank mailbox file w.mailboxes))
      (lent-state given)

pub on-rows : OnRows
on-rows = record {
  sound = lent-sound;
  state = lent-state;
  frame = λ given. next-frame _ given;
  file = λ given. next-file _ given;
  answered = λ r b. (lent-frame _ _ r.rows, frame-given b r);
  unchanged = number-changes-nothing;
  file_unchanged = file-unchanged;
}
