-- The host's calls as the bank's own: the course after one is the course after the bank's call on the bank and the
-- journal that its memory is. Assumes nothing.
use Prim.Native.Nat.{ℕ}
use mathlib.Core.Bool.{Bool, true, false, cond, ◌&&◌}
use mathlib.Core.List.{List}
use mathlib.Core.Path.{◌≡◌, sym, ap, ◌∙◌, refl}
use native.Mathlib.Decide.{ℕ_discrete}
use lib.Dec.{eqb}
use lib.ListN.{length}
use borrow.Author.Tests.{eq-eqb, ne_eqb}
use Rattle.journal.specs.Row.{Journal, takes_events}
use Rattle.bank_state.specs.State.{Bank, BankState}
use Rattle.bank_state.specs.Clock.{advanced}
use Rattle.bank_rows.specs.State.{bank_of}
use Rattle.bank_sound.specs.Sound.{is_sound}
use Rattle.bank_steps.specs.Lent.{state_of}
use Rattle.bank.specs.Call.{FrameInput, frame_number, frame_call}
use Rattle.bank.specs.Journal.{journal_after}
use Rattle.bank.specs.Mailbox.{file_number, file_call}
use Rattle.opening_counts.specs.Counts.{can_grow}
use Rattle.bank_session.specs.Session.{
  LentSession,
  session_size,
  counts_in,
  bank_rows,
  bank_in,
  journal_in,
  SessionFrameCall,
  session_frame_call,
  event_count,
}
use Rattle.bank_session.proofs.Session.{takes, not_taken, not-grown}
use Rattle.bank_session.proofs.Host.{
  frame-numbered,
  frame-away,
  frame-kept,
  frame-takes,
  frame-sound,
  frame-bank-left,
  frame-journal-left,
  file-number,
  file-bank-left,
  file-long,
  file-sound,
}
use Rattle.bank_session.proofs.Host as session
use Rattle.exchange.specs.Course.{
  frame_arrives,
  file_put,
  Course,
  with_journal,
  call_number,
  reply_in,
  after_frame,
  after_file,
  carry_out,
  exec,
}
use Rattle.exchange.proofs.Calls.{numbered-stays, carried}

-- ---- a frame

-- what the bank's own call leaves
abbrev pub frame_left : BankState → Journal → FrameInput → Course → Course
frame_left w j a s =
    let k = frame_call w a in
    with_journal (journal_after w a j)
    (after_frame (reply_in k.answer k.buffer) k.bank_state (advanced a.time w) a.frame s)

-- there is room for nine events more, and each count can grow
abbrev pub grows : LentSession → Bool
grows m = takes_events (length m.row) (event_count m.rows) && can_grow (counts_in m.rows)

module _ (m : LentSession) (a : FrameInput) where
  abbrev w : BankState
  w = state_of (bank_in m)

  abbrev number : SessionFrameCall → ℕ
  number c = c.number

  module _ (z : call_number (frame_arrives m a) ≡ 0) where
    pub host-frame : (s : Course) → carry_out (frame_arrives m a) s ≡ frame_left w (journal_in m) a s
    host-frame s =
        let kept = frame-kept m a (frame-takes m a z) (frame-sound m a z) in
        let answer : (session_frame_call m a).answer ≡ (frame_call w a).answer = ap (λ (c : SessionFrameCall). c.answer) kept in
        let buffer : (session_frame_call m a).buffer ≡ (frame_call w a).buffer = ap (λ (c : SessionFrameCall). c.buffer) kept in
        λ x. with_journal (frame-journal-left m a z x)
        (after_frame (reply_in (answer x) (buffer x)) (frame-bank-left m a z x) (advanced a.time w) a.frame s)

  -- the course after the call, by the bank's own
  pub frame-exec : length m.rows ≡ session_size → is_sound (bank_rows m.rows) ≡ true → (s : Course) →
      exec (frame_arrives m a) s
      ≡ cond (eqb (cond (grows m) (frame_number (frame_call w a).answer) 1) 0) (frame_left w (journal_in m) a s) s
  frame-exec long sound s = at (ℕ_discrete (call_number (frame_arrives m a)) 0)
    where
      n : ℕ
      n = cond (grows m) (frame_number (frame_call w a).answer) 1

      number_is : call_number (frame_arrives m a) ≡ n
      number_is = by (takes_events (length m.row) (event_count m.rows)) (can_grow (counts_in m.rows)) refl refl
        where
          by : (t u : Bool) → takes_events (length m.row) (event_count m.rows) ≡ t → can_grow (counts_in m.rows) ≡ u →
              call_number (frame_arrives m a) ≡ cond (t && u) (frame_number (frame_call w a).answer) 1
          by true true e f = ap number (frame-kept m a (takes m long e f) sound) ∙ frame-numbered w a
          by true false e f = frame-away m a (not-grown m f)
          by false u e f = frame-away m a (not_taken m e)

      at : Dec (call_number (frame_arrives m a) ≡ 0) →
          exec (frame_arrives m a) s ≡ cond (eqb n 0) (frame_left w (journal_in m) a s) s
      at (yes z) =
          carried (frame_arrives m a) s z ∙ host-frame z s
          ∙ ap (λ (t : Bool). cond t (frame_left w (journal_in m) a s) s) (sym (eq-eqb n 0 (sym number_is ∙ z)))
      at (no f) =
          numbered-stays (frame_arrives m a) s f
          ∙ ap (λ (t : Bool). cond t (frame_left w (journal_in m) a s) s) (sym (ne_eqb n 0 (λ z. f (number_is ∙ z))))

-- ---- a file

abbrev pub file_left : Bank → List ℕ → ℕ → List ℕ → Course → Course
file_left b mailboxes m file s =
    let k = file_call b m file mailboxes in after_file k.bank k.mailboxes m file s

module _ (rows mailboxes : List ℕ) (m : ℕ) (file : List ℕ) where
  abbrev b : Bank
  b = bank_of (bank_rows rows)

  module _ (long : length rows ≡ session_size) (sound : is_sound (bank_rows rows) ≡ true) where
    file-left : (s : Course) → carry_out (file_put rows mailboxes m file) s ≡ file_left b mailboxes m file s
    file-left s =
        let e = file-bank-left rows mailboxes m file long sound s.bank.orders in
        λ x. after_file (e x).bank (e x).mailboxes m file s

    -- the course after the call, by the bank's own
    pub file-exec : (s : Course) → exec (file_put rows mailboxes m file) s
        ≡ cond (eqb (file_number (file_call b m file mailboxes).answer) 0) (file_left b mailboxes m file s) s
    unfolding exec
    file-exec s = λ x. cond (eqb (file-number rows mailboxes m file long sound x) 0) (file-left s x) s

  module _ (z : call_number (file_put rows mailboxes m file) ≡ 0) where
    pub file-answered : file_number (file_call b m file mailboxes).answer ≡ 0
    file-answered = ap file_number (session.file-answered rows mailboxes m file z)

    pub host-file : (s : Course) → carry_out (file_put rows mailboxes m file) s ≡ file_left b mailboxes m file s
    host-file s = file-left (file-long rows mailboxes m file z) (file-sound rows mailboxes m file z) s
