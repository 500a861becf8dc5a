-- The loop's invariant: x is the digest of the first bytes. Assumes nothing.
use Rattle.std.proofs.Common.{◌≡◌, ◌<◌}
use lib.ListN.{take}
use Rattle.driver_print.specs.Line.{digest}
use Rattle.driver_print.proofs.digest.digest.Given as goal

abbrev pub invariant-loop-b : goal.invariant-loop-b
invariant-loop-b l = (l.x ≡ digest (take l.b-index l.bytes)) × (l.x < 4294967291)
