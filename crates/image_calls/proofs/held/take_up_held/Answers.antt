-- The row stays where none is taken; else it is the one that is taken. Assumes nothing.
use Rattle.std.specs.Prelude.{◌≡◌, length}
use Rattle.journal.specs.Events.{record_count}
use Rattle.image_calls.proofs.Taking.{row_stays_lem, row-taken}
use borrow.Author.Rules.{rules}
use Rattle.image_calls.proofs.held.take_up_held.Goals as goal

pub returns-then-c : goal.returns-then-c
returns-then-c c =
    let a = c.args in
    let core = c.take_up_core-c in
    let long : length a.row ≡ record_count = search rules in
    rw (row-taken core.result.taken core.result.row a.row c.if-c.true long) at (core.ensures a.row long)

pub returns-else-c : goal.returns-else-c
returns-else-c c =
    let a = c.args in
    let core = c.take_up_core-c in
    let long : length a.row ≡ record_count = search rules in
    rw (row_stays_lem core.result.taken core.result.row a.row c.if-c.false) at (core.ensures a.row long)
