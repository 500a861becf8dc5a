-- `character` meets its contract: computed for each of the 36 digits. Assumes nothing.
use Prim.Native.Nat.{ℕ, ◌+◌, ◌*◌, ◌/◌, ◌<◌}
use mathlib.Core.Bool.{Bool}
use mathlib.Core.Path.{◌≡◌, refl}
use lib.Dec.{eqb}
use borrow.Author.Tests.{eqb-true}
use Rattle.octets.proofs.Tests.{every-below}
use Rattle.message.specs.OrderNumbers.{character}
use Rattle.message.proofs.order_numbers.character.Goals as goal

same : ℕ → Bool
same d = eqb (48 + d + 7 * ((d + 26) / 36)) (character d)

-- "All 36 characters come out the same"
all-characters : (d : ℕ) → d < 36 → 48 + d + 7 * ((d + 26) / 36) ≡ character d
unfolding same character
all-characters d h = eqb-true _ _ (every-below same 36 refl d h)

pub returns-clause-value : goal.returns-clause-value
returns-clause-value c = all-characters _ c.requires
