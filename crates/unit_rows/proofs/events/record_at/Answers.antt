-- Each field is a number of the record. Assumes nothing.
use mathlib.Core.Path.{sym}
use Rattle.unit_rows.proofs.Rows.{record-read}
use Rattle.unit_rows.proofs.events.record_at.Goals as goal

pub returns : goal.returns
returns c = rw c.kind_of.ensures (sym (record-read c.args.row.now c.args.i c.requires))
