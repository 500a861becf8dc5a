-- A table of the code agrees with a rule: one test, computed over the constant's own list, so that the table is said
-- nowhere else. Assumes nothing.
use Prim.Native.Nat.{ℕ, ◌<◌}
use mathlib.Core.Bool.{true}
use mathlib.Core.List.{List}
use mathlib.Core.Path.{◌≡◌, refl}
use lib.Dec.{eqb}
use lib.ListN.{get_or}
use borrow.Author.Tests.{eqb-true}
use Rattle.octets.proofs.Tests.{every, every-below}

-- an entry, under a name that does not compute: by it the checker finds the list in a goal
unfoldable pub entry_of : List ℕ → ℕ → ℕ
entry_of table k = get_or table k 0

pub entry-of : (table : List ℕ) (k : ℕ) → get_or table k 0 ≡ entry_of table k
unfolding entry_of
entry-of table k = refl

pub agreed : (rule : ℕ → ℕ) (n : ℕ) (table : List ℕ) → every (λ k. eqb (get_or table k 0) (rule k)) n ≡ true
    → (k : ℕ) → k < n → entry_of table k ≡ rule k
unfolding entry_of
agreed rule n table t k h = eqb-true _ _ (every-below (λ k. eqb (get_or table k 0) (rule k)) n t k h)
