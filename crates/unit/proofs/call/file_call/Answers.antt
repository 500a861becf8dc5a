-- The bank's call on the parts of the record, and what its answer says. Assumes nothing.
use Rattle.unit.specs.Call.{file_step}
use Rattle.unit.proofs.call.file_call.Goals as goal

pub returns : goal.returns
unfolding file_step
returns c =
    λ u o p f b room l.
    rw (
      c.file_answer.ensures,
      ← c.number_at.ensures,
      ← c.body_of.ensures,
      ← c.put_file-answer.ensures,
    )
