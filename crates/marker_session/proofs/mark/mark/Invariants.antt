-- The loop keeps that the lines left lead to the same end, that the text so far is written, and that no more than the input is
-- used. Assumes nothing.
use Prim.Native.Nat.{◌-◌, ◌≤◌}
use lib.ListN.{length}
use Rattle.marker_session.specs.Marking.{marker_state, lines_in, Clocked}
use Rattle.marker_session.specs.Memory.{lent_of}
use Rattle.marker_session.proofs.Lines.{Marking}
use Rattle.marker_session.proofs.mark.mark.Given as goal

abbrev pub invariant-loop : goal.invariant-loop
invariant-loop l =
    Marking (marker_state l.calls l.input (lent_of l.initial.memory) l.initial.buffer)
    l.input l.initial.output (lines_in (length l.initial.output) - l.counter) l.m (lent_of l.memory) l.buffer l.output
    × (l.m.used ≤ length l.input) × Clocked l.memory.rows
