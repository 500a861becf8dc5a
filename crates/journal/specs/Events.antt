-- The events of one call, before and after they have their numbers and the clock.
use Rattle.std.specs.Prelude.{ℕ, suc, ◌+◌, cond, List, [], ◌∷◌, ltb, take, get_or}
use Rattle.journal.specs.declared.event.Kind.TheVariants.{Unused}
use Rattle.journal.specs.declared.event.Event.{Event}
use Rattle.journal.specs.declared.event.Entry.{Entry}
use Rattle.journal.specs.declared.event.Batch.{Batch}

-- "a lent row of 64 records"
abbrev pub record_count : ℕ
record_count = 64

-- the uploads of all eight places dropped, and one other event
abbrev pub max_entries : ℕ
max_entries = 9

-- a record that is not in use is zero
abbrev pub no_event : Event
no_event = record { number = 0; clock = 0; subscriber = 0; order_type = 0; order = 0; high = 0; low = 0; kind = Unused }

abbrev pub no_entry : Entry
no_entry = record { subscriber = 0; order_type = 0; order = 0; high = 0; low = 0; kind = Unused }

-- an entry's event, with its number and the clock
abbrev pub event_of : ℕ → ℕ → Entry → Event
event_of number clock e =
    record {
      number = number;
      clock = clock;
      subscriber = e.subscriber;
      order_type = e.order_type;
      order = e.order;
      high = e.high;
      low = e.low;
      kind = e.kind;
    }

-- "event number (8 bytes, from 1)": the events of one call at this clock, numbered on after n events
unfoldable pub events_from : ℕ → ℕ → List Entry → List Event
events_from n clock [] = []
events_from n clock (e ∷ es) = event_of (suc n) clock e ∷ events_from (suc n) clock es

-- the event of entry k of a batch, after n events
unfoldable pub event_at : ℕ → ℕ → Batch → ℕ → Event
event_at n clock b k = event_of (suc (n + k)) clock (get_or b.entries k no_entry)

-- how many entries a batch has: no more than there is room for
unfoldable pub count_of : ℕ → ℕ
count_of count = cond (ltb count max_entries) count max_entries

unfoldable pub entries_in : Batch → List Entry
entries_in b = take (count_of b.count) b.entries
