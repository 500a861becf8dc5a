-- The theorems: a fresh session is one of the list, every call leaves one of the list, and what the calls rest on follows
-- from the list alone. Assumes nothing.
use Rattle.std.specs.Prelude.{Ok}
use Prim.Native.Nat.{ℕ, ◌+◌, ◌≤◌}
use mathlib.Core.Bool.{true}
use mathlib.Core.List.{List, ◌++◌}
use mathlib.Core.Path.{◌≡◌, sym, ap, ◌∙◌, subst, subst₂}
use lib.ListN.{length, drop, replicate}
use borrow.Author.Tests.{eq-eqb}
use Rattle.journal.specs.Row.{Journal, empty_row}
use Rattle.bank_state.specs.Limits.{store_bytes}
use Rattle.bank_state.specs.State.{Bank, BankState, bank_state, fresh}
use Rattle.bank_rows.specs.Layout.{downloads_at, nonces_at, state_size}
use Rattle.bank_rows.specs.State.{bank_of, stored, Laid, Held}
use Rattle.bank_rows.proofs.State.{stored_back, stored-laid, stored-own, fresh-rows}
use Rattle.bank_rows.proofs.Calls.{zeros-laid}
use Rattle.bank_sound.specs.Sound.{is_sound}
use Rattle.bank_sound.proofs.Test.{sound-rows}
use Rattle.bank_steps.specs.Lent.{lent, state_of, kept_in}
use Rattle.bank.specs.Call.{FrameInput, frame_call}
use Rattle.bank.specs.Journal.{journal_after, journal_by}
use Rattle.bank.specs.Lent.{lent_frame_call, lent_file_call}
use Rattle.bank.specs.Mailbox.{file_call}
use Rattle.bank_session.specs.Session.{
  LentSession,
  session,
  session_size,
  bank_rows,
  event_count,
  bank_in,
  journal_in,
  counts_in,
  with_numbers,
  session_of,
  takes_frame,
  session_frame_call,
  session_file_call,
}
use Rattle.opening_counts.specs.declared.seven.Counts.{Counts}
use Rattle.opening_counts.specs.Counts.{no_counts}
use Rattle.bank_session.specs.Counts.{counts_over, counts_by}
use Rattle.bank_session.proofs.Rows.{bank-of-both, count-of-both, counts-of-both, both_long}
use Rattle.bank_session.proofs.Session.{takes, takes-in}
use Rattle.bank_admitted.specs.Session.{SessionHolds, Brought}
use Rattle.bank_admitted.specs.Counts.{CountsHold}
use Rattle.bank_admitted.proofs.CountsKept.{frame-counts, file-counts, fresh-counts, counts-grow}
use Rattle.bank_admitted.proofs.Fresh.{fresh_state, no_events, fresh_holds}
use Rattle.bank_admitted.proofs.InRange.{state-in-range}
use Rattle.bank_admitted.proofs.Keeps.{frame-keeps-state, frame-not-idle, file-keeps-state, file-not-idle}
use Rattle.bank_admitted.proofs.Rows.{get_d-free}
use Rattle.bank_admitted.proofs.SessionKept.{events-fit, frame-keeps, file-keeps}
use Rattle.octets.specs.Bytes.{Bytes}
use Rattle.message.proofs.Verdicts.{by-test}
use Rattle.image_calls.specs.Calls.{
  image_length,
  image_in,
  lengths_right,
  is_admitted,
  put_away_of,
  put_away,
  TakeUp,
  is_admitted_image,
  take_up,
}
use Rattle.image_calls.proofs.Theorems.{session-lengths, session-listed, session-written}
use Rattle.image_admitted.specs.Fresh.{fresh_session}
use Rattle.image_admitted.specs.Reached.{InList, after_file, Reached}
use Rattle.image_admitted.specs.Reached as after
use Rattle.image_admitted.specs.Unused.{Wiped}
use Rattle.image_admitted.proofs.Admitted.{lengths-right, holds-admitted}
use Rattle.image_admitted.proofs.Held.{held-state}
use Rattle.image_admitted.proofs.Holds.{
  Long,
  lengths-told,
  admitted-laid,
  admitted-wiped,
  admitted-holds,
  admitted-counts,
}
use Rattle.image_admitted.proofs.Unused.{stored-wiped}

-- the memory of a bank with its stores, of a journal and of counts, zero where nothing stands
unfoldable memory_of : BankState → Journal → Counts → LentSession
memory_of w j c = session_of (lent (stored w.bank (replicate state_size 0)) w.orders w.mailboxes) j c

-- ---- a bank stored over wiped rows, a journal and counts

module _ (old : List ℕ) (l : Laid old) (z : Wiped old) (w : BankState) (j : Journal) (c : Counts) (o : SessionHolds w j)
    (n : CountsHold w.bank c) where
  abbrev left : LentSession
  left = session_of (lent (stored w.bank old) w.orders w.mailboxes) j c

  held : Held w.bank
  held = held-state w o.state

  laid : Laid (stored w.bank old)
  laid = stored-laid w.bank held old l

  rows_are : bank_rows left.rows ≡ stored w.bank old
  rows_are = bank-of-both (stored w.bank old) laid.long j.events c

  state-is : state_of (bank_in left) ≡ w
  state-is =
      ap (λ (b : Bank). bank_state b w.orders w.mailboxes) (ap bank_of rows_are ∙ stored_back w.bank held old l)

  journal-is : journal_in left ≡ j
  journal-is =
      let of : ℕ → Journal = λ (n : ℕ). record { events = n; row = j.row } in
      ap of (count-of-both (stored w.bank old) laid.long j.events c)

  counts-are : counts_in left.rows ≡ c
  counts-are = counts-of-both (stored w.bank old) laid.long j.events c

  left-long : Long left
  left-long = record {
    rows = both_long (stored w.bank old) laid.long j.events c;
    row = o.journal.long;
    orders = o.state.sizes.orders;
    mailboxes = o.state.sizes.mailboxes;
  }

  pub stored-in-list : InList left
  stored-in-list =
      let right = lengths-right left left-long in (
        right,
        holds-admitted left right
            (subst₂ SessionHolds (sym state-is) (sym journal-is) o)
            (subst₂ (λ (u : BankState) (k : Counts). CountsHold u.bank k) (sym state-is) (sym counts-are) n)
            (subst Laid (sym rows_are) laid)
            (subst Wiped (sym rows_are) (stored-wiped w.bank held old l z)),
      )

-- ---- a fresh session

zeros-wiped : Wiped (replicate state_size 0)
zeros-wiped = record {
  downloads = λ j _ _. get_d-free {A = ℕ} 0 state_size (downloads_at + j);
  nonces = λ j _ _. get_d-free {A = ℕ} 0 state_size (nonces_at + j);
}

-- the memory that holds a session
memory-in-list : (w : BankState) (j : Journal) (c : Counts) → SessionHolds w j → CountsHold w.bank c → InList (memory_of w j c)
unfolding memory_of
memory-in-list w j c o n = stored-in-list (replicate state_size 0) zeros-laid zeros-wiped w j c o n

fresh-memory : memory_of fresh_state no_events no_counts ≡ fresh_session
unfolding memory_of fresh_session
fresh-memory =
    let own : stored fresh (replicate state_size 0) ≡ replicate state_size 0 =
    ap (λ (b : Bank). stored b (replicate state_size 0)) (sym fresh-rows) ∙ stored-own (replicate state_size 0) zeros-laid in
    ap (λ (s : List ℕ). session (with_numbers s 0 no_counts) empty_row (replicate store_bytes 0) (replicate store_bytes 0)) own

pub fresh-admitted : InList fresh_session
fresh-admitted = subst InList fresh-memory (memory-in-list fresh_state no_events no_counts fresh_holds fresh-counts)

-- ---- the calls

module _ (m : LentSession) (right : lengths_right m ≡ true) (h : is_admitted m ≡ true) where
  abbrev w : BankState
  w = state_of (bank_in m)

  abbrev j : Journal
  j = journal_in m

  holds : SessionHolds w j
  holds = admitted-holds m right h

  abbrev c : Counts
  c = counts_in m.rows

  counted : CountsHold w.bank c
  counted = admitted-counts m right h

  -- "the invariant that the calls rest on follows from the list alone"
  pub admitted-sound : is_sound (bank_rows m.rows) ≡ true
  admitted-sound = sound-rows (bank_rows m.rows) (admitted-laid m right h) (state-in-range w holds.state)

  pub admitted-takes : takes_frame m ≡ true
  admitted-takes =
      let long = lengths-told m right in
      takes m long.rows (takes-in (length m.row) (event_count m.rows) long.row (events-fit holds))
      (counts-grow counted holds.state.numbers)

  -- what a call leaves that keeps what a session may hold
  kept : (u : BankState) (k : Journal) (n : Counts) → SessionHolds u k → CountsHold u.bank n →
      InList (session_of (kept_in (bank_in m) u) k n)
  kept = stored-in-list (bank_rows m.rows) (admitted-laid m right h) (admitted-wiped m right h)

  -- a frame arrives
  pub frame-admitted : (a : FrameInput) → Brought a → InList (session_frame_call m a).session
  unfolding session_frame_call lent_frame_call
  frame-admitted a brought =
      let f = frame_call w a in
      rw (admitted-takes, admitted-sound)
      (kept f.bank_state (journal_by f.answer (journal_after w a j) j) (counts_by f.answer (counts_over w a c) c)
      (frame-keeps holds a brought (frame-keeps-state w holds.state a) (frame-not-idle w holds.state holds.idle a))
      (frame-counts w holds.state a c counted brought))

  -- a file goes into a mailbox
  pub file-admitted : (mailbox : ℕ) (file : List ℕ) → InList (after_file m mailbox file)
  unfolding session_file_call lent_file_call
  file-admitted mailbox file =
      let f = file_call w.bank mailbox file m.mailboxes in
      let long = lengths-told m right in
      rw (eq-eqb (length m.rows) session_size long.rows, admitted-sound)
      (kept (bank_state f.bank m.orders f.mailboxes) j c
      (file-keeps holds mailbox file (file-keeps-state w holds.state mailbox file)
      (file-not-idle w holds.state holds.idle mailbox file))
      (file-counts w c counted mailbox file))

-- an image is taken up, or refused
pub taken-admitted : (m : LentSession) → InList m → (image : List ℕ) → Bytes image → InList (take_up m image).session
unfolding take_up
taken-admitted m l image bytes =
    rw l.0
    (by-test (λ (k : TakeUp). InList k.session) (is_admitted_image image)
    (λ e. (session-lengths image e, session-listed image e bytes)) (λ _. l))

-- ---- after any calls

pub reached-in-list : {m : LentSession} → Reached m → InList m
reached-in-list after.fresh = fresh-admitted
reached-in-list (after.frame {m} r a brought) = let l = reached-in-list r in frame-admitted m l.0 l.1 a brought
reached-in-list (after.file {m} r mailbox f) = let l = reached-in-list r in file-admitted m l.0 l.1 mailbox f
reached-in-list (after.taken {m} r image bytes) = taken-admitted m (reached-in-list r) image bytes

-- "admits every image written": no session that calls leave gets number 9
pub reached-put-away : {m : LentSession} → Reached m → (buffer : List ℕ) → image_length ≤ length buffer →
    put_away m buffer ≡ put_away_of (Ok image_length) (image_in m ++ drop image_length buffer)
reached-put-away {m} r buffer room = let l = reached-in-list r in session-written m l.0 l.1 buffer room
