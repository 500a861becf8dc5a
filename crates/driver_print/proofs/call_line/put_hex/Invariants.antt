-- The loop keeps that the first bytes are written. Assumes nothing.
use Rattle.std.proofs.Common.{◌≡◌, ◌+◌, ◌*◌}
use lib.ListN.{take}
use Rattle.print.specs.Text.{Put}
use Rattle.driver_print.specs.Line.{hex_of}
use Rattle.driver_print.proofs.call_line.put_hex.Given as goal

abbrev pub invariant-loop-b : goal.invariant-loop-b
invariant-loop-b l = (l.end ≡ l.at + 2 * l.b-index) × Put l.initial.output l.at (hex_of (take l.b-index l.bytes)) l.output l.end
