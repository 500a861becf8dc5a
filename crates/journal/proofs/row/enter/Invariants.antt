-- The first i records are those that the row is to hold, and the others as they were. Assumes nothing.
use mathlib.Core.Path.{◌≡◌}
use Rattle.journal.specs.Row.{row_after}
use Rattle.journal.proofs.Mixed.{mixed}
use Rattle.journal.proofs.row.enter.Given as goal

abbrev pub invariant-loop-i : goal.invariant-loop-i
invariant-loop-i l = l.row ≡ mixed l.i (row_after l.events l.clock l.batch l.fn.row) l.fn.row
