-- A subscriber from 1 to 8 has a series; after the eight nothing is set, as in the definition.
use native.Mathlib.Omega.{arith}
use Rattle.bank_rows.proofs.Writing.{series-none}
use Rattle.bank_rows.proofs.numbers.set_series_of.Goals as goal

pub returns-else-i-lt-PLACE_COUNT : goal.returns-else-i-lt-PLACE_COUNT
returns-else-i-lt-PLACE_COUNT c =
    series-none c.args.rows.now c.requires _ c.args.n (omega arith)
