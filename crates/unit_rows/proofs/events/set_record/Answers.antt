-- The eight numbers of the event are written over its record. Assumes nothing.
use mathlib.Core.Path.{ap, ◌∙◌}
use native.Mathlib.Omega.{arith}
use Rattle.unit_rows.specs.Rows.{journal_from}
use Rattle.unit_rows.proofs.Rows.{record-set}
use Rattle.unit_rows.proofs.events.set_record.Goals as goal

pub returns : goal.returns
returns c =
    let a = c.args in
    ap journal_from c.put_event.ensures ∙ record-set a.row.now a.i c.requires a.e (omega arith)
