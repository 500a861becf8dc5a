-- Each field is a number of the row.
use mathlib.Core.Path.{sym}
use Rattle.bank_rows.proofs.Reading.{place_read}
use Rattle.bank_rows.proofs.places.place_at.Goals as goal

pub returns : goal.returns
returns c =
    rw c.use_of-used.ensures (sym (place_read c.args.rows.now c.args.i c.requires.1))
