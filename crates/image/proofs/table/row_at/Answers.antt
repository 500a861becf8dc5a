-- `row_at` meets its contract: the rows are the table's. Assumes nothing.
use mathlib.Core.Path.{refl, sym}
use native.Mathlib.Omega.{arith}
use lib.ListN.{get_or-eq_default}
use Rattle.image.specs.Table.{row_at, image_fields, no_row}
use Rattle.image.proofs.table.row_at.Goals as goal

pub returns-then-i-lt-FIELD_COUNT : goal.returns-then-i-lt-FIELD_COUNT
unfolding row_at
returns-then-i-lt-FIELD_COUNT c = refl

pub returns-else-i-lt-FIELD_COUNT : goal.returns-else-i-lt-FIELD_COUNT
unfolding row_at
returns-else-i-lt-FIELD_COUNT c = sym (get_or-eq_default image_fields no_row {n = c.args.i} (omega arith))
