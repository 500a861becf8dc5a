-- The sum so far, of at most 8 a place.
use Prim.Native.Nat.{◌*◌, ◌≤◌}
use mathlib.Core.Path.{◌≡◌}
use Rattle.image_records.specs.Shapes.{total}
use Rattle.image_conditions.specs.Conditions.{signers_at}
use Rattle.image_conditions.proofs.tables.signers_in_all.Given as goal

abbrev pub invariant-loop-i : goal.invariant-loop-i
invariant-loop-i l = (l.sum ≡ total (signers_at l.numbers) l.i) × (l.sum ≤ 8 * l.i)
