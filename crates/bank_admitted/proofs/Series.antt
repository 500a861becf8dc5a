-- The series only rise: an upload's opening of the bank's own number sets one counter to the number after it. Assumes
-- nothing.
use Prim.Native.Nat.{ℕ, zero, suc, ◌+◌, ◌≤◌, ◌<◌}
use mathlib.Core.List.{List, [], ◌∷◌}
use mathlib.Core.Path.{◌≡◌}
use native.Mathlib.Omega.{arith}
use lib.ListN.{length, get_or, set}
use Rattle.bank_state.specs.Limits.{place_count, series_limit}
use Rattle.bank_state.specs.State.{series_of}
use Rattle.bank_admitted.specs.State.{total}
use Rattle.bank_admitted.proofs.Rows.{each_set}

-- each subscriber's series has come at least as far
abbrev pub Further : List ℕ → List ℕ → Type 0
Further before after = (s : ℕ) → series_of s before ≤ series_of s after

-- one number raised
pub raised : (l : List ℕ) (i x : ℕ) → get_or l i 0 ≤ x → (j : ℕ) → get_or l j 0 ≤ get_or (set l i x) j 0
raised [] i x h j = omega arith
raised (y ∷ l) zero x h zero = h
raised (y ∷ l) zero x h (suc j) = omega arith
raised (y ∷ l) (suc i) x h zero = omega arith
raised (y ∷ l) (suc i) x h (suc j) = raised l i x h j

pub total-set : (l : List ℕ) (i x : ℕ) → i < length l → total (set l i x) + get_or l i 0 ≡ total l + x
unfolding total
total-set [] i x h = absurd (omega arith)
total-set (y ∷ l) zero x h = omega arith
total-set (y ∷ l) (suc i) x h = let e = total-set l i x (omega arith) in omega arith

-- one counter set to a number within the limit
pub limited-set : (l : List ℕ) (i x : ℕ) → i < length l → x ≤ series_limit
    → ((j : ℕ) → j < place_count → get_or l j 0 ≤ series_limit) → (j : ℕ) → j < place_count → get_or (set l i x) j 0 ≤ series_limit
limited-set l i x inside h f =
    each_set l i x 0 inside (λ (j n : ℕ). j < place_count → n ≤ series_limit) (λ _. h) (λ j _ a. f j a)
