-- The use of a place is a number of its row.
use mathlib.Core.Path.{sym}
use Rattle.bank_rows.proofs.Reading.{open-read}
use Rattle.bank_rows.proofs.places.is_open_at.Goals as goal

pub returns : goal.returns
returns c = sym (open-read c.args.rows.now c.args.i c.requires.1)
