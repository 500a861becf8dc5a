-- The loop keeps what was read so far. Assumes nothing.
use Rattle.marker_session.specs.Marking.{Clocked}
use Rattle.marker_session.specs.Memory.{lent_of}
use Rattle.marker_session.specs.Session.{ReadFrom, started_with}
use Rattle.marker_session.proofs.session.read_all.Given as goal

abbrev pub invariant-loop : goal.invariant-loop
invariant-loop g l =
    ReadFrom (started_with (lent_of l.initial.memory) l.initial.buffer) l.t l.input (lent_of l.memory) l.buffer
    × Clocked l.memory.rows
