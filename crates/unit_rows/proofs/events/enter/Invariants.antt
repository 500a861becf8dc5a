-- The places gone through hold what they are to hold (`mixed`), the others what they held.
use mathlib.Core.Path.{◌≡◌}
use Rattle.journal.specs.Row.{row_after}
use Rattle.journal.proofs.Mixed.{mixed}
use Rattle.unit_rows.specs.Rows.{journal_from}
use Rattle.unit_rows.proofs.events.enter.Given as goal

abbrev pub invariant-loop-i : goal.invariant-loop-i
invariant-loop-i l =
    let xs = journal_from l.fn.row in
    journal_from l.row ≡ mixed l.i (row_after l.events l.clock l.batch xs) xs

abbrev pub invariant-loop-i-2 : goal.invariant-loop-i-2
invariant-loop-i-2 l =
    let xs = journal_from l.fn.row in
    journal_from l.row ≡ mixed l.i (row_after l.events l.clock l.batch xs) xs
