-- `put_digits` meets its contract. The loop keeps that the digits left, written before those written, are the digits of x. Assumes nothing.
use mathlib.Core.Path.{◌≡◌}
use Rattle.octets.specs.Bytes.{overwrite}
use Rattle.print.specs.Text.{digits_in}
use Rattle.print.proofs.text.put_digits.Given as goal

abbrev pub invariant-loop-i : goal.invariant-loop-i
invariant-loop-i l =
    overwrite l.initial.output l.at (digits_in l.base l.first l.w l.x) ≡ overwrite l.output l.at (digits_in l.base l.first l.i l.rest)
