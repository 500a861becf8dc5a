-- What the events of the journal count: uploads opened, and those that stand booked, cancelled or dropped.
use Rattle.std.specs.Prelude.{ℕ, ◌&&◌, List, ◌≡◌, eqb}
use Rattle.frame_table.specs.declared.fields.Bits128.{Bits128}
use Rattle.journal.specs.declared.event.Kind.{Kind}
use Rattle.journal.specs.declared.event.Kind.TheVariants as kind
use Rattle.journal.specs.declared.event.Event.{Event}
use Rattle.bank_state.specs.Rows.{count_of}
use Rattle.opening_counts.specs.declared.seven.Counts.{Counts}
use Rattle.opening_counts.specs.Counts.{count_size, seven, sum}
use Rattle.bank_history.specs.History.{Exchange, BankCall, past_of}
use Rattle.bank_history.specs.Journal.{events_in}
use Rattle.bank_history.specs.ByReplies.{opened_ids, is_upload_id, standing}
use Rattle.bank_counts.specs.Counts.{way_of, counts}

-- the way that an event tells of its upload; a signature, and a record not in use, tell none
abbrev pub way_told : Kind → ℕ
way_told kind.Unused = count_size
way_told kind.Opened = 0
way_told kind.Booked = 1
way_told kind.Cancelled = 5
way_told kind.Dropped = 6
way_told kind.Signed = count_size

-- how many events, of all so far, tell a way
unfoldable pub events_telling : ℕ → List Exchange → ℕ
events_telling way h = count_of (λ (v : Event). eqb (way_told v.kind) way) (events_in h)

abbrev pub events_told : List Exchange → Counts
events_told h = seven (λ (way : ℕ). events_telling way h)

-- the uploads' part of the counts
unfoldable pub uploads_standing : ℕ → List Exchange → ℕ
uploads_standing way h = count_of (λ (t : Bits128). is_upload_id t h && eqb (way_of (standing t h)) way) (opened_ids h)

abbrev pub uploads_part : List Exchange → Counts
uploads_part h = seven (λ (way : ℕ). uploads_standing way h)

-- the events of the journal, all so far, are the uploads' part of the counts; what is booked is an upload
pub record JournalCounts : Type 0 where
  pub opened : (calls : List BankCall) → let h = (past_of calls).history in
      (events_told h).pending ≡ sum (uploads_part h)
  pub booked : (calls : List BankCall) → let h = (past_of calls).history in
      (events_told h).booked ≡ (counts h).booked
  pub cancelled : (calls : List BankCall) → let h = (past_of calls).history in
      (events_told h).cancelled ≡ (uploads_part h).cancelled
  pub dropped : (calls : List BankCall) → let h = (past_of calls).history in
      (events_told h).dropped ≡ (uploads_part h).dropped
