-- `put_number` meets its contract. The loop's invariant: the first i bytes of the rest are left to write. Assumes nothing.
use mathlib.Core.Path.{◌≡◌}
use Rattle.octets.specs.Bytes.{bytes_of, overwrite}
use Rattle.image.proofs.numbers.put_number.Given as goal

abbrev pub invariant-loop-i : goal.invariant-loop-i
invariant-loop-i l = overwrite l.initial.out l.at (bytes_of l.w l.x) ≡ overwrite l.out l.at (bytes_of l.i l.rest)
