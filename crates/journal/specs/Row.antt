-- The row of records: what it holds after events are entered, and what it says of an upload.
use Rattle.std.specs.Prelude.{ℕ, suc, ◌+◌, ◌-◌, ◌^◌, Bool, cond, ◌&&◌, List, [], ◌∷◌, ◌++◌, eqb, ltb, length, set, drop, replicate}
use Rattle.frame_table.specs.declared.fields.Bits128.{Bits128}
use Rattle.frame_table.specs.Names.{same_bits}
use Rattle.journal.specs.declared.event.Kind.{Kind}
use Rattle.journal.specs.declared.event.Kind.TheVariants.{Unused, Opened, Booked, Cancelled, Dropped, Signed}
use Rattle.journal.specs.declared.event.Event.{Event}
use Rattle.journal.specs.declared.event.Batch.{Batch}
use Rattle.journal.specs.declared.event.Found.{Found}
use Rattle.journal.specs.declared.event.Found.TheVariants as found
use Rattle.journal.specs.Events.{record_count, max_entries, no_event, events_from, entries_in}

-- The journal: the number of events entered so far, and the row
pub record Journal : Type 0 where
  pub events : ℕ
  pub row : List Event

unfoldable pub empty_row : List Event
empty_row = replicate record_count no_event

-- "The newest 64 remain, oldest first": one event after n others goes after them where there is room; else all move up
-- one place, and it goes last
unfoldable pub entered : ℕ → Event → List Event → List Event
entered n e row = cond (ltb n record_count) (set row n e) (drop 1 row ++ (e ∷ []))

-- several events, one after the other
unfoldable pub entered_all : ℕ → List Event → List Event → List Event
entered_all n [] row = row
entered_all n (e ∷ es) row = entered_all (suc n) es (entered n e row)

-- whether events are entered: the row is of 64 records, and 64 bits hold the numbers of nine events more
abbrev pub takes_events : ℕ → ℕ → Bool
takes_events records n = eqb records record_count && ltb (n + max_entries) (2 ^ 64)

-- the row after the events of one call, after n events before: where none are entered it is left as it is
unfoldable pub row_after : ℕ → ℕ → Batch → List Event → List Event
row_after n clock b row =
    cond (takes_events (length row) n) (entered_all n (events_from n clock (entries_in b)) row) row

-- the newest 64, oldest first
unfoldable pub newest : List Event → List Event
newest l = drop (length l - record_count) l

-- the row after these events: the newest 64, and then records that are not in use
unfoldable pub row_of : List Event → List Event
row_of l = newest l ++ replicate (record_count - length l) no_event

-- the transaction ID of an event's upload: "the journal gains that ID"
abbrev pub transaction_of : Event → Bits128
transaction_of e = record { high = e.high; low = e.low }

-- whether a record has this transaction ID. A record not in use has ID 0, which is a real one: its kind says nothing
unfoldable pub is_of : Bits128 → Event → Bool
is_of t e = same_bits (transaction_of e) t

-- what is known of an upload that a record says ended
abbrev pub or_ended : Found → Found
or_ended found.Nothing = found.Ended
or_ended found.Ended = found.Ended
or_ended found.Booked = found.Booked

-- what is known of an upload with one record of it more: a booking wins, a cancellation or drop ends it; "signed" says
-- nothing of it
abbrev pub with_kind : Kind → Found → Found
with_kind Unused f = f
with_kind Opened f = f
with_kind Booked f = found.Booked
with_kind Cancelled f = or_ended f
with_kind Dropped f = or_ended f
with_kind Signed f = f

-- what is known of an upload with one record more, of any upload
unfoldable pub with_record : Bits128 → Event → Found → Found
with_record t e f = cond (is_of t e) (with_kind e.kind f) f

-- "a booking ... makes it lodged, a cancellation or drop makes it not lodged"; since card 11 "an unclear client now goes
-- by" the transaction ID
unfoldable pub lookup : Bits128 → List Event → Found
lookup t [] = found.Nothing
lookup t (e ∷ es) = with_record t e (lookup t es)

-- ---- the row by value

-- how many records go between a row of so many and one of 64: all of them, or none
unfoldable pub copied_count : Bool → ℕ → ℕ
copied_count taken records = cond (taken && eqb records record_count) record_count 0

-- the row by value: itself where it has 64 records, else a row with none in use
unfoldable pub held_row : List Event → List Event
held_row row = cond (eqb (length row) record_count) row empty_row

-- the row after 64 records are put in its place, where they are taken and it has as many
unfoldable pub replaced : Bool → List Event → List Event → List Event
replaced taken held row = cond (taken && eqb (length row) record_count) held row
