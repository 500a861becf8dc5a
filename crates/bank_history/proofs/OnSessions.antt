-- The calls on a lent session are the calls on the bank's own memory and on the journal, call by call: the number of
-- events and the counts stay far below their limits, so that no call is turned away for them.
use Rattle.bank.specs.declared.mailbox.FileRefusal.{FileRefusal}
use Rattle.number_table.specs.declared.table.WrongLength.{WrongLength}
use Rattle.std.specs.Prelude.{Err, Ok, Result}
use Prim.Native.Nat.{ℕ}
use mathlib.Core.Bool.{true}
use mathlib.Core.List.{List, [], ◌∷◌}
use mathlib.Core.Path.{◌≡◌, refl, sym, ap, ◌∙◌, subst}
use native.Mathlib.Omega.{arith}
use lib.ListN.{length}
use Rattle.journal.specs.Events.{record_count}
use Rattle.journal.specs.Row.{Journal}
use Rattle.journal.proofs.Laws.{row-of-length}
use Rattle.bank_state.specs.State.{BankState}
use Rattle.bank_steps.specs.Lent.{Lent, lent, state_of}
use Rattle.bank.specs.declared.mailbox.FileRefusal.TheVariants as put
use Rattle.bank.specs.Call.{FrameInput, FrameCall, frame_call}
use Rattle.bank.specs.Journal.{journal_after, journal_by}
use Rattle.bank.specs.Lent.{LentFrameCall, lent_frame_call, lent_file_call}
use Rattle.bank.specs.Mailbox.{FileCall, file_call}
use Rattle.opening_counts.specs.declared.seven.Counts.{Counts}
use Rattle.bank_session.specs.Counts.{counts_over, counts_by}
use Rattle.bank_session.specs.Session.{LentSession, session_size, event_count, counts_in, bank_in, journal_in, takes_frame, with_journal}
use Rattle.bank_session.proofs.Session.{takes, takes-in, frame-taken}
use Rattle.bank_session.proofs.Laws.{frame-bank, frame-journal, frame-counts, frame-size, frame-unchanged}
use Rattle.bank_session.proofs.Laws.{file-bank, file-events, file-counts, file-size, session-file-unchanged}
use Rattle.bank_admitted.specs.Counts.{CountsHold}
use Rattle.bank_admitted.proofs.CountsKept as kept
use Rattle.bank_history.specs.Answers.{BytesIn, AllBytes, none, more}
use Rattle.bank_history.specs.History.{Exchange, BankCall, Frame, File, Past, call_exchange, entered, placed, after, start, past_of}
use Rattle.bank_history.specs.Journal.{journal_over, journal_of, events_in}
use Rattle.bank_history.specs.OnRows.{lent_after, lent_of}
use Rattle.bank_history.specs.OnSessions.{session_after, lent_session_of, OnSessions}
use Rattle.bank_history.proofs.Journal.{journal-told}
use Rattle.bank_history.proofs.JournalCounts.{few-events}
use Rattle.bank_history.proofs.Keeps.{past-holds}
use Rattle.bank_history.proofs.OnRows.{on-rows}

-- a session that is the memory and the journal of these calls
pub record Same (m : LentSession) (calls : List BankCall) : Type 0 where
  pub size : length m.rows ≡ session_size
  pub bank : bank_in m ≡ lent_of calls
  pub journal : journal_in m ≡ journal_of calls
  pub counts : CountsHold (past_of calls).bank_state.bank (counts_in m.rows)

same_taken : (m : LentSession) (calls : List BankCall) → Same m calls → takes_frame m ≡ true
same_taken m calls s =
    let records : length m.row ≡ record_count =
    ap (λ (j : Journal). length j.row) s.journal
    ∙ (ap length (journal-told.row calls) ∙ row-of-length (events_in (past_of calls).history)) in
    let events : event_count m.rows ≡ (journal_of calls).events = ap (λ (j : Journal). j.events) s.journal in
    let few = few-events calls in
    takes m s.size (takes-in (length m.row) (event_count m.rows) records (omega arith))
    (kept.counts-grow s.counts (past-holds calls).invariant.state.numbers)

start-same : Same (lent_session_of []) []
unfolding lent_session_of lent_of journal_of past_of start
start-same = record { size = refl; bank = refl; journal = refl; counts = kept.fresh-counts }

module _ (m : LentSession) (calls : List BankCall) (given : AllBytes calls) (s : Same m calls) where
  -- the journal by the bank's memory and the journal before
  abbrev next : FrameInput → Lent → Journal → Journal
  next a n j = journal_by (lent_frame_call n a).answer (journal_after (state_of n) a j) j

  -- the counts by the bank's own call: one given number 1 leaves both
  frame-counted : (a : FrameInput) → BytesIn (Frame a) →
      let w = (past_of calls).bank_state in
      CountsHold (past_of (Frame a ∷ calls)).bank_state.bank
      (counts_by (frame_call w a).answer (counts_over w a (counts_in m.rows)) (counts_in m.rows))
  unfolding past_of after
  frame-counted a b = at left.answer refl
    where
      p : Past
      p = past_of calls

      w : BankState
      w = p.bank_state

      left : FrameCall
      left = frame_call w a

      e : Exchange
      e = call_exchange w a

      c : Counts
      c = counts_in m.rows

      at : (x : Result ℕ WrongLength) → left.answer ≡ x →
          CountsHold (entered x left.bank_state e p).bank_state.bank (counts_by x (counts_over w a c) c)
      at (Ok n) z =
          subst (λ (x : Result ℕ WrongLength). CountsHold left.bank_state.bank (counts_by x (counts_over w a c) c)) z
          (kept.frame-counts w (past-holds calls).invariant.state a c s.counts (record { ids = b.0; frame = b.1 }))
      at (Err e) z = s.counts

  file-counted : (mailbox : ℕ) (file : List ℕ) →
      CountsHold (past_of (File mailbox file ∷ calls)).bank_state.bank (counts_in m.rows)
  unfolding past_of after
  file-counted mailbox file = at left.answer
    where
      p : Past
      p = past_of calls

      left : FileCall
      left = file_call p.bank_state.bank mailbox file p.bank_state.mailboxes

      at : (x : Result (Unit {0}) FileRefusal) → CountsHold (placed x left.bank left.mailboxes p).bank_state.bank (counts_in m.rows)
      at (Ok u) = kept.file-counts p.bank_state (counts_in m.rows) s.counts mailbox file
      at (Err put.WrongLength) = s.counts
      at (Err put.NoMailbox) = s.counts
      at (Err put.WrongFile) = s.counts
      at (Err put.MailboxFull) = s.counts

  -- the session's counts after a frame call, by the bank before it
  pub counts-next : (a : FrameInput) →
      let w = (past_of calls).bank_state in
      counts_in (session_after (Frame a) m).rows
      ≡ counts_by (frame_call w a).answer (counts_over w a (counts_in m.rows)) (counts_in m.rows)
  unfolding session_after
  counts-next a =
      let w = (past_of calls).bank_state in
      let c = counts_in m.rows in
      let by : Lent → Counts = λ (n : Lent). counts_by (lent_frame_call n a).answer (counts_over (state_of n) a c) c in
      let answered = ap (λ (k : LentFrameCall). k.answer) (on-rows.frame given a) in
      frame-counts m a (same_taken m calls s)
      ∙ (ap by s.bank
      ∙ (ap (λ (r : Result ℕ WrongLength). counts_by r (counts_over (state_of (lent_of calls)) a c) c) answered
      ∙ ap (λ (v : BankState). counts_by (frame_call w a).answer (counts_over v a c) c) (on-rows.state given)))

  frame_same : (a : FrameInput) → BytesIn (Frame a) → Same (session_after (Frame a) m) (Frame a ∷ calls)
  unfolding session_after lent_of lent_after journal_of journal_over
  frame_same a b =
      let t = same_taken m calls s in
      let j = journal_of calls in
      let w = (past_of calls).bank_state in
      let now = lent_of calls in
      let answered : (lent_frame_call now a).answer ≡ (frame_call w a).answer =
      ap (λ (c : LentFrameCall). c.answer) (on-rows.frame given a) in
      record {
        size = frame-size m a t;
        bank = frame-bank m a t ∙ ap (λ (n : Lent). (lent_frame_call n a).lent) s.bank;
        journal = frame-journal m a t
            ∙ (ap (λ (n : Lent). next a n (journal_in m)) s.bank
            ∙ (ap (next a now) s.journal
            ∙ (ap (λ (r : Result ℕ WrongLength). journal_by r (journal_after (state_of now) a j) j) answered
            ∙ ap (λ (v : BankState). journal_by (frame_call w a).answer (journal_after v a j) j) (on-rows.state given))));
        counts = subst (CountsHold (past_of (Frame a ∷ calls)).bank_state.bank) (sym (counts-next a)) (frame-counted a b);
      }

  file-same : (mailbox : ℕ) (file : List ℕ) → Same (session_after (File mailbox file) m) (File mailbox file ∷ calls)
  unfolding session_after lent_of lent_after journal_of journal_over
  file-same mailbox file =
      let put : Lent → Lent = λ (n : Lent).
      let c = lent_file_call n.rows mailbox file n.mailboxes in lent c.rows n.orders c.mailboxes in
      let of : ℕ → Journal = λ (n : ℕ). record { events = n; row = m.row } in
      record {
        size = file-size m.rows mailbox file m.mailboxes s.size;
        bank = file-bank m.rows mailbox file m.mailboxes s.size m.orders ∙ ap put s.bank;
        journal = ap of (file-events m.rows mailbox file m.mailboxes s.size) ∙ s.journal;
        counts = subst (CountsHold (past_of (File mailbox file ∷ calls)).bank_state.bank)
            (sym (file-counts m.rows mailbox file m.mailboxes s.size)) (file-counted mailbox file);
      }

pub all_same : {calls : List BankCall} → AllBytes calls → Same (lent_session_of calls) calls
unfolding lent_session_of
all_same none = start-same
all_same (more {c = Frame a} {calls = calls} b given) =
    frame_same (lent_session_of calls) calls given (all_same given) a b
all_same (more {c = File mailbox file} {calls = calls} b given) =
    file-same (lent_session_of calls) calls given (all_same given) mailbox file

pub on-sessions : OnSessions
on-sessions = record {
  taken = λ {calls} given. same_taken (lent_session_of calls) calls (all_same given);
  bank = λ {calls} given. (all_same given).bank;
  journal = λ {calls} given. (all_same given).journal;
  counts = λ {calls} given. (all_same given).counts;
  frame = λ {calls} given a.
      let m = lent_session_of calls in
      let s = all_same given in
      frame-taken m a (same_taken m calls s)
      ∙ (ap (λ (n : Lent). with_journal m a (lent_frame_call n a)) s.bank ∙ ap (with_journal m a) (on-rows.frame given a));
  unchanged = λ {m} {a} b z. frame-unchanged m a (on-rows.unchanged b) z;
  file_unchanged = session-file-unchanged;
}
