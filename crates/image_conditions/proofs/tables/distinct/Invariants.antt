-- All pairs so far differ.
use Rattle.std.proofs.Common.{ℕ, ◌<◌, true}
use Rattle.image_conditions.proofs.tables.distinct.Given as goal

abbrev pub invariant-loop-i : goal.invariant-loop-i
invariant-loop-i g l = (a b : ℕ) → a < l.i → b < a → goal.F-post g l.differ a b true

abbrev pub invariant-loop-j : goal.invariant-loop-j
invariant-loop-j g l = (b : ℕ) → b < l.j → goal.F-post g l.differ l.i b true
