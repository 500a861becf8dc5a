-- The numbers of the run are written over its row. Assumes nothing.
use native.Mathlib.Omega.{arith}
use Rattle.unit_rows.proofs.runs.put_run.Goals as goal

pub returns : goal.returns
returns c = (
  omega arith,
  rw (
    ← c.number_of_stage.ensures,
    ← c.number_of_direction.ensures,
    ← c.number_of_step.ensures,
    ← c.number_of_edition.ensures,
  )
      c.put.ensures,
)
