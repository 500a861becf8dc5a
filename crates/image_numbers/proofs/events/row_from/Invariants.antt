-- `row_from` meets its contract. The loop's invariant: the first i records are read. Assumes nothing.
use mathlib.Core.Path.{◌≡◌}
use lib.ListN.{length, take, drop}
use Rattle.journal.specs.Events.{record_count}
use Rattle.bank_rows.specs.Rows.{rows_of}
use Rattle.image_records.specs.Layout.{journal_at, event_width}
use Rattle.image_numbers.specs.Numbers.{event_of}
use Rattle.image_numbers.proofs.events.row_from.Given as goal

abbrev pub invariant-loop-i : goal.invariant-loop-i
invariant-loop-i l = (length l.row ≡ record_count)
    × (take l.i l.row ≡ rows_of event_width event_of l.i (drop journal_at l.numbers))
