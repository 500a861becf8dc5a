-- Rows without gaps, in the order of numbers.
use Rattle.std.specs.Prelude.{ℕ, ◌≤◌, Bool, true, List, [], ◌∷◌, ◌≡◌}

-- every record of the row is the free one
pub data AllFree {A : Type 0} (free : A) : List A → Type 0 where
  none : AllFree free []
  more : {x : A} {l : List A} → x ≡ free → AllFree free l → AllFree free (x ∷ l)

-- the used records stand first, each with a number from m on and from the next of the record before it on; the others
-- are the free one
pub data Packed {A : Type 0} (used : A → Bool) (free : A) (number next : A → ℕ) : ℕ → List A → Type 0 where
  rest : {m : ℕ} {l : List A} → AllFree free l → Packed used free number next m l
  one : {m : ℕ} {x : A} {l : List A} → used x ≡ true → m ≤ number x → Packed used free number next (next x) l →
      Packed used free number next m (x ∷ l)
