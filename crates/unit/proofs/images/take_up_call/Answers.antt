-- The session is taken up from the front of the room, and its journal is the unit's. Assumes nothing.
use Rattle.unit.specs.Call.{take_up_step}
use Rattle.unit.proofs.images.take_up_call.Goals as goal

pub returns : goal.returns
unfolding take_up_step
returns c =
    λ runs p f b l.
    let taken = rw c.journal_of-held.ensures at c.take_up_held-o.ensures in
    rw (
      c.taken_up_answer.ensures,
      c.set_journal.ensures,
      ← c.lent_length-n.ensures,
      ← c.front.ensures,
      ← taken,
    )
