-- The first i records are the array's.
use mathlib.Core.Path.{◌≡◌}
use lib.ListN.{take}
use Rattle.unit_rows.specs.Rows.{journal_from}
use Rattle.unit_rows.proofs.events.set_journal.Given as goal

abbrev pub invariant-loop-i : goal.invariant-loop-i
invariant-loop-i l = take l.i (journal_from l.row) ≡ take l.i l.held
