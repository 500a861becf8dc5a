-- `number` meets its contract. The loop's invariant: x is the number of the bytes so far.
use Rattle.std.proofs.Common.{◌≡◌, ◌<◌, ◌*◌, ◌^◌, take}
use Rattle.octets.specs.Bytes.{number}
use Rattle.octets.proofs.bytes.number.Given as goal

abbrev pub invariant-loop-b : goal.invariant-loop-b
invariant-loop-b l = (l.x ≡ number (take l.b-index l.s)) × (l.x < 2 ^ (8 * l.b-index))
