-- The first i runs are read.
use mathlib.Core.Path.{◌≡◌}
use lib.ListN.{length, take}
use Rattle.unit_state.specs.Records.{run_count}
use Rattle.unit_rows.specs.Rows.{runs_from}
use Rattle.unit_rows.proofs.whole.runs_of.Given as goal

abbrev pub invariant-loop-i : goal.invariant-loop-i
invariant-loop-i l = (length l.held ≡ run_count) × (take l.i l.held ≡ take l.i (runs_from l.runs l.nonces))
