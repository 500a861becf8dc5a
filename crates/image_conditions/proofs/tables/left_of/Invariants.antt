-- The numbers so far and what is left are the whole.
use Prim.Native.Nat.{◌+◌}
use mathlib.Core.Path.{◌≡◌}
use lib.ListN.{get_or}
use Rattle.image_records.specs.Shapes.{total}
use Rattle.image_conditions.proofs.tables.left_of.Given as goal

abbrev pub invariant-loop-n : goal.invariant-loop-n
invariant-loop-n l = total (λ i. get_or l.numbers i 0) l.n-index + l.left ≡ l.whole
