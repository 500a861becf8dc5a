-- `gather` meets its contract: the numbers of the rows, behind them the journal's, and the counts are all. Assumes nothing.
use native.Mathlib.Omega.{arith}
use Rattle.image_numbers.specs.Table.{session_places}
use Rattle.image_numbers.proofs.Places.{length-session, session-within}
use Rattle.image_numbers.proofs.Journal.{gathered}
use Rattle.image_numbers.proofs.numbers.gather.Goals as goal

pub move_groups-requires : goal.move_groups-requires
unfolding session_places
move_groups-requires c =
    (rw c.requires.0 session-within, omega (arith, length-session))

pub returns : goal.returns
unfolding session_places
returns c =
    let a = c.args in
    gathered a.rows.now a.row a.numbers.now _ _ _ c.well_formed.1.0.1.0.1 c.requires.1
    c.move_groups.ensures c.put_events.ensures c.put_counts.ensures
