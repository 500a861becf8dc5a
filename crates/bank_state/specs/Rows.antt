-- Rows of records: the first that passes a test, how many pass it, and those that pass it moved to the front.
use Rattle.std.specs.Prelude.{ℕ, suc, ◌+◌, ◌-◌, Bool, cond, List, [], ◌∷◌, ◌++◌, length, replicate}

-- the index of the first element that passes a test; the row's length where none does
unfoldable pub first_of : {A : Type 0} → (A → Bool) → List A → ℕ
first_of p [] = 0
first_of p (x ∷ l) = cond (p x) 0 (suc (first_of p l))

-- how many elements pass a test
unfoldable pub count_of : {A : Type 0} → (A → Bool) → List A → ℕ
count_of p [] = 0
count_of p (x ∷ l) = cond (p x) 1 0 + count_of p l

-- the elements that pass a test, in their order
unfoldable pub keep : {A : Type 0} → (A → Bool) → List A → List A
keep p [] = []
keep p (x ∷ l) = cond (p x) (x ∷ keep p l) (keep p l)

-- the elements that pass a test at the front of the row, and the free element behind them
unfoldable pub keep_only : {A : Type 0} → (A → Bool) → A → List A → List A
keep_only p free l = keep p l ++ replicate (length l - length (keep p l)) free
