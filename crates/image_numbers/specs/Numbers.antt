-- The numbers of a session in the order of the image, and the session of such numbers.
use Rattle.std.specs.Prelude.{ℕ, cond, List, [], ◌∷◌, ◌++◌, map, eqb, get_or, drop}
use Rattle.journal.specs.declared.event.Kind.{Kind}
use Rattle.journal.specs.declared.event.Kind.TheVariants.{Unused, Opened, Booked, Cancelled, Dropped, Signed}
use Rattle.journal.specs.declared.event.Event.{Event}
use Rattle.journal.specs.Events.{record_count}
use Rattle.bank_rows.specs.Rows.{rows_of, numbers_of}
use Rattle.opening_counts.specs.Counts.{count_row, counts_from}
use Rattle.bank_session.specs.Session.{counts_in}
use Rattle.image_records.specs.Layout as image
use Rattle.image_numbers.specs.Table.{session_places, image_places}

-- the numbers at some places
unfoldable pub numbers_at : List ℕ → List ℕ → List ℕ
numbers_at places xs = map (λ (k : ℕ). get_or xs k 0) places

-- ---- the journal

-- "1 opened, 2 booked, 3 cancelled, 4 dropped, 5 signed"; a record not in use "is 0 in every part"
abbrev pub number_of_kind : Kind → ℕ
number_of_kind Unused = 0
number_of_kind Opened = 1
number_of_kind Booked = 2
number_of_kind Cancelled = 3
number_of_kind Dropped = 4
number_of_kind Signed = 5

abbrev pub kind_of : ℕ → Kind
kind_of n =
    cond (eqb n 0) Unused
    (cond (eqb n 1) Opened (cond (eqb n 2) Booked (cond (eqb n 3) Cancelled (cond (eqb n 4) Dropped Signed))))

-- an event's parts, and the event of them
abbrev pub event_numbers : Event → List ℕ
event_numbers e =
    e.number ∷ e.clock ∷ e.subscriber ∷ e.order_type ∷ e.order ∷ e.high ∷ e.low ∷ number_of_kind e.kind ∷ []

abbrev pub event_of : List ℕ → Event
event_of s =
    record {
      number = get_or s 0 0;
      clock = get_or s 1 0;
      subscriber = get_or s 2 0;
      order_type = get_or s 3 0;
      order = get_or s 4 0;
      high = get_or s 5 0;
      low = get_or s 6 0;
      kind = kind_of (get_or s 7 0);
    }

-- ---- a session's numbers, and the session of an image's: the counts stand last in both

unfoldable pub numbers_in : List ℕ → List Event → List ℕ
numbers_in s row = numbers_at session_places s ++ (numbers_of event_numbers row ++ count_row (counts_in s))

unfoldable pub rows_from : List ℕ → List ℕ
rows_from xs = numbers_at image_places xs ++ count_row (counts_from image.counts_at xs)

unfoldable pub row_from : List ℕ → List Event
row_from xs = rows_of image.event_width event_of record_count (drop image.journal_at xs)
