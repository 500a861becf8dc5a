-- The timestamp is a number of the row.
use mathlib.Core.Path.{sym}
use Rattle.bank_rows.proofs.Records.{stays-remembered}
use Rattle.bank_lists.proofs.nonces.stays_at.Goals as goal

pub returns : goal.returns
returns c = sym (stays-remembered c.args.clock c.args.area.now c.args.at c.is_behind.ensures)
