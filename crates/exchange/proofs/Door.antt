-- A host's call turned away at the door is a call of the list: given number 1, as the host is told, it leaves the
-- course, and the premises of demand 3 ask nothing of it. Assumes nothing.
use Prim.Native.Nat.{ℕ, ◌+◌, ◌≤◌, ◌^◌}
use mathlib.Core.Bool.{false}
use mathlib.Core.List.{List}
use mathlib.Core.Path.{◌≡◌}
use lib.Dec.{ltb, eqb}
use lib.ListN.{length}
use borrow.Author.Tests.{ne_eqb, le-ltb}
use Rattle.journal.specs.Events.{record_count, max_entries}
use Rattle.journal.specs.Row.{takes_events}
use Rattle.bank_sound.specs.Sound.{is_sound}
use Rattle.bank.specs.Call.{FrameInput}
use Rattle.bank.proofs.Right.{and_last}
use Rattle.opening_counts.specs.Counts.{can_grow}
use Rattle.bank_session.specs.Session.{LentSession, session_size, bank_rows, event_count, counts_in, takes_frame}
use Rattle.bank_session.proofs.Session.{not_taken, not-grown}
use Rattle.exchange.specs.Course.{Call, frame_arrives, file_put, Course, call_number, exec}
use Rattle.exchange.specs.Terms.{InTurn}
use Rattle.exchange.specs.Demand3.{Allowed}
use Rattle.bank_session.proofs.Host.{frame-away, frame-unsound, file-away, file-unsound}
use Rattle.exchange.proofs.Guards.{one-allowed, one-in-turn, one-stays}

-- whatever else the call brings and is lent
pub data TurnedAway : Call → Type 0 where
  -- numbers of another length, to a frame call and to a file call
  frame-length : {m : LentSession} {a : FrameInput} → (length m.rows ≡ session_size → ⊥) → TurnedAway (frame_arrives m a)
  file-length : {rows mailboxes : List ℕ} {m : ℕ} {file : List ℕ} → (length rows ≡ session_size → ⊥) →
      TurnedAway (file_put rows mailboxes m file)
  -- numbers that no call leaves
  frame-rows : {m : LentSession} {a : FrameInput} → is_sound (bank_rows m.rows) ≡ false → TurnedAway (frame_arrives m a)
  file-rows : {rows mailboxes : List ℕ} {m : ℕ} {file : List ℕ} → is_sound (bank_rows rows) ≡ false →
      TurnedAway (file_put rows mailboxes m file)
  -- a journal's row of another length
  row-length : {m : LentSession} {a : FrameInput} → (length m.row ≡ record_count → ⊥) → TurnedAway (frame_arrives m a)
  -- no room for the numbers of its events
  no_room : {m : LentSession} {a : FrameInput} → 2 ^ 64 ≤ event_count m.rows + max_entries → TurnedAway (frame_arrives m a)
  -- a count that cannot grow
  no-count : {m : LentSession} {a : FrameInput} → can_grow (counts_in m.rows) ≡ false → TurnedAway (frame_arrives m a)

module _ (m : LentSession) where
  abbrev events : ℕ
  events = event_count m.rows

  other-rows : (length m.rows ≡ session_size → ⊥) → takes_frame m ≡ false
  other-rows n = rw (ne_eqb (length m.rows) session_size n)

  other_row : (length m.row ≡ record_count → ⊥) → takes_events (length m.row) events ≡ false
  other_row n = rw (ne_eqb (length m.row) record_count n)

  full-row : 2 ^ 64 ≤ events + max_entries → takes_events (length m.row) events ≡ false
  full-row h =
      and_last (eqb (length m.row) record_count) (ltb (events + max_entries) (2 ^ 64)) (le-ltb (events + max_entries) (2 ^ 64) h)

pub away-number : {k : Call} → TurnedAway k → call_number k ≡ 1
away-number (frame-length {m} {a} n) = frame-away m a (other-rows m n)
away-number (file-length {rows} {mailboxes} {m} {file} n) = file-away rows mailboxes m file n
away-number (frame-rows {m} {a} e) = frame-unsound m a e
away-number (file-rows {rows} {mailboxes} {m} {file} e) = file-unsound rows mailboxes m file e
away-number (row-length {m} {a} n) = frame-away m a (not_taken m (other_row m n))
away-number (no_room {m} {a} h) = frame-away m a (not_taken m (full-row m h))
away-number (no-count {m} {a} e) = frame-away m a (not-grown m e)

module _ {k : Call} (away : TurnedAway k) where
  pub away-allowed : (s : Course) → Allowed k s
  away-allowed s = one-allowed k (away-number away) s

  pub away-in-turn : (i : ℕ) (s : Course) → InTurn i k s
  away-in-turn i s = one-in-turn k (away-number away) i s

  pub away-stays : (s : Course) → exec k s ≡ s
  away-stays s = one-stays k (away-number away) s
