-- What is accepted is within the limit and has room, so each field has; the loop's invariant is `Writing`. Assumes nothing.
use Rattle.frame_writer.proofs.Loops.{Writing}
use Rattle.frame_writer.proofs.writer.write_accepted.Given as goal

abbrev pub invariant-loop-tag : goal.invariant-loop-tag
invariant-loop-tag l = Writing l.fields l.data l.initial.out l.out l.at l.tag
