-- The first i records are read.
use mathlib.Core.Path.{◌≡◌}
use lib.ListN.{length, take}
use Rattle.journal.specs.Events.{record_count}
use Rattle.unit_rows.specs.Rows.{journal_from}
use Rattle.unit_rows.proofs.events.journal_of.Given as goal

abbrev pub invariant-loop-i : goal.invariant-loop-i
invariant-loop-i l = (length l.held ≡ record_count) × (take l.i l.held ≡ take l.i (journal_from l.row))
