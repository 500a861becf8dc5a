-- A frame call on a session: the bank's call, and the journal and the counts after it. Assumes nothing.
use Rattle.number_table.specs.declared.table.WrongLength.{WrongLength}
use Rattle.std.specs.Prelude.{Err, Ok, Result}
use Prim.Native.Nat.{ℕ, ◌+◌, ◌≤◌, ◌<◌, ◌^◌}
use mathlib.Core.Bool.{Bool, true, false, cond, ◌&&◌}
use mathlib.Core.List.{List, []}
use mathlib.Core.Path.{◌≡◌, refl, sym, ap, ◌∙◌}
use native.Mathlib.Omega.{arith}
use lib.Dec.{ltb, eqb}
use lib.ListN.{length, take, length-take}
use borrow.Author.Tests.{eq-eqb, eqb-true, lt-ltb, ltb-true}
use Rattle.octets.proofs.Tests.{and-true}
use Rattle.journal.specs.declared.event.Event.{Event}
use Rattle.journal.specs.declared.event.Entry.{Entry}
use Rattle.journal.specs.declared.event.Batch.{Batch}
use Rattle.journal.specs.Events.{record_count, max_entries, events_from, count_of, entries_in}
use Rattle.journal.specs.Row.{Journal, takes_events, entered_all, row_after}
use Rattle.opening_counts.specs.declared.seven.Counts.{Counts}
use Rattle.opening_counts.specs.Counts.{can_grow}
use Rattle.bank_events.specs.Entries.{Holds}
use Rattle.bank_steps.specs.Lent.{lent, state_of}
use Rattle.bank.specs.declared.call.FrameOut.{FrameOut}
use Rattle.bank.specs.Call.{FrameInput}
use Rattle.bank.specs.Journal.{clock_by, entered_by, if_answered, with_entries, journal_after}
use Rattle.bank.specs.Lent.{no_reply, lent_frame_call_of, lent_frame_call}
use Rattle.bank.proofs.Right.{and_last}
use Rattle.bank_session.specs.Session.{
  LentSession,
  session,
  session_size,
  event_count,
  counts_in,
  bank_in,
  journal_in,
  with_numbers,
  session_of,
  session_frame_call_of,
  takes_frame,
  journal_next,
  counts_next,
  with_journal,
  session_turned_away,
  session_frame_call,
}

-- ---- batches

few : {A : Type 0} (n : ℕ) (l : List A) → length (take n l) ≤ n
few n l = simp length-take (omega arith)

count-few : (n : ℕ) → count_of n ≤ max_entries
unfolding count_of
count-few n = at (ltb n max_entries) refl
  where
    at : (t : Bool) → ltb n max_entries ≡ t → cond t n max_entries ≤ max_entries
    at true e = let h = ltb-true n max_entries e in omega arith
    at false e = omega arith

pub batch-few : {b : Batch} {es : List Entry} → Holds b es → b.count ≤ max_entries
unfolding entries_in
batch-few {b} h =
    omega (
      arith,
      h.count ∙ sym (ap length h.entries),
      few (count_of b.count) b.entries,
      count-few b.count,
    )

-- a batch of no events leaves the row
pub none_row : {b : Batch} → Holds b [] → (n clock : ℕ) (row : List Event) → row_after n clock b row ≡ row
unfolding row_after events_from entered_all
none_row h n clock row = rw h.entries (at (takes_events (length row) n))
  where
    at : (t : Bool) → cond t row row ≡ row
    at true = refl
    at false = refl

pub some-row : (b : Batch) (n clock : ℕ) (row : List Event) → takes_events (length row) n ≡ true
    → row_after n clock b row ≡ entered_all n (events_from n clock (entries_in b)) row
unfolding row_after
some-row b n clock row e = rw e

-- ---- whether a frame call is taken

and_both : (a b : Bool) → a ≡ true → b ≡ true → a && b ≡ true
and_both a b e f = rw (e, f)

module _ (m : LentSession) where
  abbrev long : Bool
  long = eqb (length m.rows) session_size

  abbrev events : Bool
  events = takes_events (length m.row) (event_count m.rows)

  abbrev grow : Bool
  grow = can_grow (counts_in m.rows)

  pub takes : length m.rows ≡ session_size → events ≡ true → grow ≡ true → takes_frame m ≡ true
  takes e f g = and_both (long && events) grow (and_both long events (eq-eqb (length m.rows) session_size e) f) g

  pub takes-length : takes_frame m ≡ true → length m.rows ≡ session_size
  takes-length h =
      eqb-true (length m.rows) session_size (and-true long events (and-true (long && events) grow h).0).0

  pub takes-events : takes_frame m ≡ true → events ≡ true
  takes-events h = (and-true long events (and-true (long && events) grow h).0).1

  pub takes-counts : takes_frame m ≡ true → grow ≡ true
  takes-counts h = (and-true (long && events) grow h).1

  pub not_taken : events ≡ false → takes_frame m ≡ false
  not_taken e = ap (λ (t : Bool). t && grow) (and_last long events e)

  pub not-grown : grow ≡ false → takes_frame m ≡ false
  not-grown e = and_last (long && events) grow e

pub takes-in : (records n : ℕ) → records ≡ record_count → n + max_entries < 2 ^ 64 → takes_events records n ≡ true
takes-in records n e h =
    and_both (eqb records record_count) (ltb (n + max_entries) (2 ^ 64)) (eq-eqb records record_count e)
    (lt-ltb (n + max_entries) (2 ^ 64) h)

-- there is room for the numbers of the events of one call
pub room : (records n : ℕ) → takes_events records n ≡ true → n + max_entries < 2 ^ 64
room records n h =
    ltb-true (n + max_entries) (2 ^ 64) (and-true (eqb records record_count) (ltb (n + max_entries) (2 ^ 64)) h).1

-- ---- the call

module _ (m : LentSession) (a : FrameInput) where
  pub frame_refused_lem : takes_frame m ≡ false → session_frame_call m a ≡ session_turned_away m a
  unfolding session_frame_call
  frame_refused_lem e = rw e

  pub frame-taken : takes_frame m ≡ true → session_frame_call m a ≡ with_journal m a (lent_frame_call (bank_in m) a)
  unfolding session_frame_call
  frame-taken e = rw e

  -- number 1, and a batch of no events
  pub turned-away-is : takes_frame m ≡ false → {out : FrameOut} {b : Batch} → out ≡ no_reply → Holds b []
      → (n clock : ℕ)
      → session_frame_call_of out (session m.rows (row_after n clock b m.row) m.orders m.mailboxes) a.buffer
      ≡ session_frame_call m a
  turned-away-is e f h n clock = rw (f, none_row h n clock m.row) (sym (frame_refused_lem e))

  -- the journal after the call, by what the call enters
  pub next-is : (answer : Result ℕ WrongLength) → journal_next m a answer
      ≡ with_entries (clock_by (state_of (bank_in m)) a) (if_answered answer (entered_by (state_of (bank_in m)) a)) (journal_in m)
  unfolding journal_after events_from entered_all
  next-is (Ok n) = refl
  next-is (Err e) =
      let of : ℕ → Journal = λ (n : ℕ). record { events = n; row = m.row } in
      let none : event_count m.rows ≡ event_count m.rows + 0 = omega arith in
      ap of none

  pub frame-done : takes_frame m ≡ true
      → {out : FrameOut} {x o b buffer rows : List ℕ} {batch : Batch} {clock : ℕ} {counts : Counts}
      → lent_frame_call_of out (lent x o b) buffer ≡ lent_frame_call (bank_in m) a
      → Holds batch (if_answered out.answer (entered_by (state_of (bank_in m)) a)) → clock ≡ clock_by (state_of (bank_in m)) a
      → counts ≡ counts_next m a out.answer → rows ≡ with_numbers x (event_count m.rows + batch.count) counts
      → session_frame_call_of out (session rows (row_after (event_count m.rows) clock batch m.row) o b) buffer
      ≡ session_frame_call m a
  frame-done t {out} {x} {o} {b} {buffer} {rows} {batch} {clock} {counts} e h c k r =
      let n = event_count m.rows in
      let j : ◌≡◌ {A = Journal} (record { events = n + batch.count; row = row_after n clock batch m.row })
      (journal_next m a out.answer) =
      rw (some-row batch n clock m.row (takes-events m t), h.entries, h.count, c) (sym (next-is out.answer)) in
      ap (λ (l : List ℕ). session_frame_call_of out (session l (row_after n clock batch m.row) o b) buffer) r
      ∙ (ap (λ (y : Journal). session_frame_call_of out (session_of (lent x o b) y counts) buffer) j
      ∙ (ap (λ (y : Counts). session_frame_call_of out (session_of (lent x o b) (journal_next m a out.answer) y) buffer) k
      ∙ (ap (with_journal m a) e ∙ sym (frame-taken t))))
