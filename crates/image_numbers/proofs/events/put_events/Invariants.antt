-- `put_events` meets its contract. The loop's invariant: the first i records are written. Assumes nothing.
use mathlib.Core.Path.{◌≡◌}
use lib.ListN.{length, take}
use Rattle.octets.specs.Bytes.{overwrite}
use Rattle.bank_rows.specs.Rows.{numbers_of}
use Rattle.image_records.specs.Layout.{journal_at}
use Rattle.image_numbers.specs.Numbers.{event_numbers}
use Rattle.image_numbers.proofs.events.put_events.Given as goal

abbrev pub invariant-loop-i : goal.invariant-loop-i
invariant-loop-i l = (length l.numbers ≡ length l.initial.numbers)
    × (l.numbers ≡ overwrite l.initial.numbers journal_at (numbers_of event_numbers (take l.i l.row)))
