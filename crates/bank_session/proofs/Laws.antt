-- What a session's calls leave: the bank's memory after its call, the journal and the counts. Assumes nothing.
use Prim.Native.Nat.{ℕ, ◌<◌}
use mathlib.Core.Bool.{Bool, true, false}
use mathlib.Core.List.{List}
use mathlib.Core.Path.{◌≡◌, refl, sym, ap, ◌∙◌, subst}
use lib.Dec.{eqb}
use lib.ListN.{length}
use borrow.Author.Tests.{eq-eqb, eqb-true}
use Rattle.number_table.specs.Table as numbers
use Rattle.frame_table.specs.Table.{last_time}
use Rattle.bank_rows.specs.Layout.{state_size}
use Rattle.bank_sound.specs.Sound.{is_sound}
use Rattle.bank_sound.proofs.Test.{sound-laid}
use Rattle.bank_steps.specs.Lent.{Lent, lent}
use Rattle.journal.specs.Row.{Journal}
use Rattle.bank.specs.Call.{FrameInput}
use Rattle.bank.specs.Lent.{
  LentFrameCall,
  frame_turned_away,
  lent_frame_call,
  lent_file_call_of,
  LentFileCall,
  lent_file_call,
}
use Rattle.bank.proofs.Kept.{frame-sound, file-sound, file-unchanged}
use Rattle.bank.proofs.Lent.{rows-refused}
use Rattle.bank.proofs.Right.{late-refused}
use Rattle.bank_session.specs.Session.{
  LentSession,
  session,
  session_size,
  bank_rows,
  event_count,
  counts_in,
  bank_in,
  journal_in,
  SessionFrameCall,
  takes_frame,
  journal_next,
  counts_next,
  with_journal,
  session_turned_away,
  session_frame_call,
  with_kept,
  session_file_call,
}
use Rattle.bank_session.proofs.Rows.{bank-long, parts, bank-of-both, count-of-both, counts-of-both, both_long}
use Rattle.bank_session.proofs.Session.{takes-length, frame_refused_lem, frame-taken}

-- ---- a frame arrives

-- the bank's call leaves as many numbers
frame-long : (m : Lent) (a : FrameInput) → length m.rows ≡ state_size → length (lent_frame_call m a).lent.rows ≡ state_size
frame-long m a long = at (is_sound m.rows) refl
  where
    at : (t : Bool) → is_sound m.rows ≡ t → length (lent_frame_call m a).lent.rows ≡ state_size
    at true e = (sound-laid _ (frame-sound m a e)).long
    at false e = ap (λ (c : LentFrameCall). length c.lent.rows) (rows-refused m a e) ∙ long

module _ (m : LentSession) (a : FrameInput) (taken : takes_frame m ≡ true) where
  abbrev inner : LentFrameCall
  inner = lent_frame_call (bank_in m) a

  long : length inner.lent.rows ≡ state_size
  long = frame-long (bank_in m) a (bank-long m.rows (takes-length m taken))

  -- the bank and its stores after the call
  pub frame-bank : bank_in (session_frame_call m a).session ≡ inner.lent
  frame-bank =
      ap (λ (c : SessionFrameCall). bank_in c.session) (frame-taken m a taken)
      ∙ ap (λ (rows : List ℕ). lent rows inner.lent.orders inner.lent.mailboxes)
      (bank-of-both inner.lent.rows long (journal_next m a inner.answer).events (counts_next m a inner.answer))

  -- and the journal
  pub frame-journal : journal_in (session_frame_call m a).session ≡ journal_next m a inner.answer
  frame-journal =
      let next = journal_next m a inner.answer in
      let of : ℕ → Journal = λ (n : ℕ). record { events = n; row = next.row } in
      ap (λ (c : SessionFrameCall). journal_in c.session) (frame-taken m a taken)
      ∙ ap of (count-of-both inner.lent.rows long next.events (counts_next m a inner.answer))

  -- and the counts
  pub frame-counts : counts_in (session_frame_call m a).session.rows ≡ counts_next m a inner.answer
  frame-counts =
      ap (λ (c : SessionFrameCall). counts_in c.session.rows) (frame-taken m a taken)
      ∙ counts-of-both inner.lent.rows long (journal_next m a inner.answer).events
      (counts_next m a inner.answer)

  pub frame-size : length (session_frame_call m a).session.rows ≡ session_size
  frame-size =
      ap (λ (c : SessionFrameCall). length c.session.rows) (frame-taken m a taken)
      ∙ both_long inner.lent.rows long (journal_next m a inner.answer).events (counts_next m a inner.answer)

-- where the bank's own call leaves all as it was, so does the session's
unchanged-with : (m : LentSession) (a : FrameInput) → lent_frame_call (bank_in m) a ≡ frame_turned_away (bank_in m) a
    → takes_frame m ≡ true → session_frame_call m a ≡ session_turned_away m a
unchanged-with m a away e =
    frame-taken m a e ∙ (ap (with_journal m a) away
    ∙ ap (λ (rows : List ℕ). session_turned_away (session rows m.row m.orders m.mailboxes) a)
    (parts m.rows (takes-length m e)))

-- a call given number 1 leaves all as it was, where the bank's own call does
pub frame-unchanged : (m : LentSession) (a : FrameInput)
    → ((lent_frame_call (bank_in m) a).number ≡ numbers.wrong_length
    → lent_frame_call (bank_in m) a ≡ frame_turned_away (bank_in m) a)
    → (session_frame_call m a).number ≡ numbers.wrong_length → session_frame_call m a ≡ session_turned_away m a
frame-unchanged m a inner one = at (takes_frame m) refl
  where
    at : (t : Bool) → takes_frame m ≡ t → session_frame_call m a ≡ session_turned_away m a
    at false e = frame_refused_lem m a e
    at true e =
        let away = inner (sym (ap (λ (c : SessionFrameCall). c.number) (frame-taken m a e)) ∙ one) in
        unchanged-with m a away e

-- a bank time over the last one gets number 1, and nothing changes, in every session
pub late-unchanged : (m : LentSession) (a : FrameInput) → last_time < a.time
    → session_frame_call m a ≡ session_turned_away m a
late-unchanged m a late = at (takes_frame m) refl
  where
    at : (t : Bool) → takes_frame m ≡ t → session_frame_call m a ≡ session_turned_away m a
    at false e = frame_refused_lem m a e
    at true e = unchanged-with m a (late-refused (bank_in m) a late) e

-- ---- a file goes into a mailbox

file-long : (rows : List ℕ) (mailbox : ℕ) (file mailboxes : List ℕ) → length rows ≡ state_size
    → length (lent_file_call rows mailbox file mailboxes).rows ≡ state_size
unfolding lent_file_call
file-long rows mailbox file mailboxes long = at (is_sound rows) refl
  where
    at : (t : Bool) → is_sound rows ≡ t → length (lent_file_call rows mailbox file mailboxes).rows ≡ state_size
    at true e = (sound-laid _ (file-sound rows mailbox file mailboxes e)).long
    at false e = rw e long

module _ (rows : List ℕ) (mailbox : ℕ) (file mailboxes : List ℕ) where
  pub file-taken : length rows ≡ session_size → session_file_call rows mailbox file mailboxes
      ≡ with_kept rows (lent_file_call (bank_rows rows) mailbox file mailboxes)
  unfolding session_file_call
  file-taken e = rw (eq-eqb (length rows) session_size e)

  module _ (long : length rows ≡ session_size) where
    abbrev put : LentFileCall
    put = lent_file_call (bank_rows rows) mailbox file mailboxes

    as_long : length put.rows ≡ state_size
    as_long = file-long (bank_rows rows) mailbox file mailboxes (bank-long rows long)

    -- the bank's memory after the call
    pub file-bank : (orders : List ℕ)
        → let c = session_file_call rows mailbox file mailboxes in
        lent (bank_rows c.rows) orders c.mailboxes ≡ lent put.rows orders put.mailboxes
    file-bank orders =
        ap (λ (c : LentFileCall). lent (bank_rows c.rows) orders c.mailboxes) (file-taken long)
        ∙ ap (λ (l : List ℕ). lent l orders put.mailboxes)
        (bank-of-both put.rows as_long (event_count rows) (counts_in rows))

    -- the number of events stays
    pub file-events : event_count (session_file_call rows mailbox file mailboxes).rows ≡ event_count rows
    file-events =
        ap (λ (c : LentFileCall). event_count c.rows) (file-taken long)
        ∙ count-of-both put.rows as_long (event_count rows) (counts_in rows)

    -- and so do the counts
    pub file-counts : counts_in (session_file_call rows mailbox file mailboxes).rows ≡ counts_in rows
    file-counts =
        ap (λ (c : LentFileCall). counts_in c.rows) (file-taken long)
        ∙ counts-of-both put.rows as_long (event_count rows) (counts_in rows)

    pub file-size : length (session_file_call rows mailbox file mailboxes).rows ≡ session_size
    file-size =
        ap (λ (c : LentFileCall). length c.rows) (file-taken long)
        ∙ both_long put.rows as_long (event_count rows) (counts_in rows)

-- a call given a number leaves all as it was, whatever the numbers are
module _ (rows : List ℕ) (mailbox : ℕ) (file mailboxes : List ℕ) where
  abbrev left : LentFileCall
  left = session_file_call rows mailbox file mailboxes

  file-number-by : (t : Bool) → eqb (length rows) session_size ≡ t → 0 < left.number
      → left ≡ lent_file_call_of left.answer rows mailboxes
  unfolding session_file_call
  file-number-by false e z = rw e
  file-number-by true e z =
      let long = eqb-true (length rows) session_size e in
      let taken = file-taken rows mailbox file mailboxes long in
      let inner = lent_file_call (bank_rows rows) mailbox file mailboxes in
      let same = file-unchanged (bank_rows rows) mailbox file mailboxes
      (subst (λ (n : ℕ). 0 < n) (ap (λ (c : LentFileCall). c.number) taken) z) in
      taken ∙ (ap (with_kept rows) same
      ∙ (ap (λ (l : List ℕ). lent_file_call_of inner.answer l mailboxes) (parts rows long)
      ∙ ap (λ (c : LentFileCall). lent_file_call_of c.answer rows mailboxes) (sym taken)))

  pub session-file-unchanged : 0 < left.number → left ≡ lent_file_call_of left.answer rows mailboxes
  session-file-unchanged = file-number-by (eqb (length rows) session_size) refl
