-- `begin` meets its contract. Assumes nothing.
use Rattle.client.specs.Calls.{begin_call}
use Rattle.client.proofs.calls.Client.begin.Goals as goal

pub returns-in-Err : goal.returns-in-Err
unfolding begin_call
returns-in-Err c =
    rw (← c.lengths-l.ensures, ← c.in-Err.ensures, c.answered.ensures)

pub returns-in-Ok : goal.returns-in-Ok
unfolding begin_call
returns-in-Ok c =
    rw (
      ← c.lengths-l.ensures,
      ← c.in-Ok.ensures,
      ← c.begin_length.ensures,
      ← c.begun-next.ensures,
    ) (c.issue.ensures _)
