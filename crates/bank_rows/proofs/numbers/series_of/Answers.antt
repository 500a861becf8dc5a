-- A subscriber from 1 to 8 has a series; after the eight the definition gives 0, as the code does.
use mathlib.Core.Path.{sym}
use native.Mathlib.Omega.{arith}
use lib.ListN.{get_or-eq_default}
use Rattle.bank_state.specs.State.{series_of}
use Rattle.bank_rows.specs.State.{bank_of}
use Rattle.bank_rows.proofs.State.{held_rows}
use Rattle.bank_rows.proofs.numbers.series_of.Goals as goal

pub returns-then-i-lt-PLACE_COUNT : goal.returns-then-i-lt-PLACE_COUNT
unfolding series_of
returns-then-i-lt-PLACE_COUNT c = rw c.index_of-i.ensures at c.series_at.ensures

pub returns-else-i-lt-PLACE_COUNT : goal.returns-else-i-lt-PLACE_COUNT
unfolding series_of
returns-else-i-lt-PLACE_COUNT c =
    let long = (held_rows c.args.rows.now c.requires).series in
    sym (get_or-eq_default (bank_of c.args.rows.now).series 0 (omega arith))
