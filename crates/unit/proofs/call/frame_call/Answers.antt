-- The bank's call on the parts of the record, its events entered into the unit's journal, and what its answer says.
-- Assumes nothing.
use Rattle.unit_rows.specs.Rows.{journal_from}
use Rattle.unit_rows.proofs.Rows.{length-journal}
use Rattle.unit.specs.Call.{frame_step}
use Rattle.unit.proofs.call.frame_call.Goals as goal

pub returns : goal.returns
unfolding frame_step
returns c =
    λ runs p f room l.
    let row = c.args.row.now in
    rw (
      c.frame_answer.ensures,
      c.enter.ensures,
      ← c.number_at.ensures,
      ← c.bytes_at.ensures,
      ← c.body_of.ensures,
      ← c.frame_core-c.ensures (journal_from row) (length-journal row),
    )
