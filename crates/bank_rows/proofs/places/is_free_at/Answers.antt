-- The use of a place is a number of its row.
use mathlib.Core.Path.{sym}
use Rattle.bank_rows.proofs.Reading.{free-read}
use Rattle.bank_rows.proofs.places.is_free_at.Goals as goal

pub returns : goal.returns
returns c = sym (free-read c.args.rows.now c.args.i c.requires.1)
