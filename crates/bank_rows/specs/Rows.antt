-- Rows of w numbers in lent memory, for any w: what they are, their numbers, and rows wiped where they are freed.
use Rattle.std.specs.Prelude.{ℕ, zero, suc, ◌-◌, ◌*◌, max, Bool, true, ◌&&◌, List, [], ◌∷◌, ◌++◌, ◌≡◌, length, drop, replicate}
use Rattle.bank_state.specs.Rows.{keep}

-- the first n rows, each read by f
unfoldable pub rows_of : {A : Type 0} → ℕ → (List ℕ → A) → ℕ → List ℕ → List A
rows_of w f zero s = []
rows_of w f (suc n) s = f s ∷ rows_of w f n (drop w s)

-- n rows in use of `most`, and the free element after them
unfoldable pub rows_in_use : {A : Type 0} → ℕ → (List ℕ → A) → A → ℕ → ℕ → List ℕ → List A
rows_in_use w f free most n s = rows_of w f n s ++ replicate (most - n) free

-- the numbers of some elements, one after another
unfoldable pub numbers_of : {A : Type 0} → (A → List ℕ) → List A → List ℕ
numbers_of g [] = []
numbers_of g (x ∷ l) = g x ++ numbers_of g l

-- numbers written over an area whose first n numbers were in use: what is freed of them is zero, the rest is as it was
unfoldable pub written : ℕ → List ℕ → List ℕ → List ℕ
written n ns area = ns ++ (replicate (n - length ns) 0 ++ drop (max n (length ns)) area)

-- of the first n rows of an area those that pass a test are left at its front, in their order, and the others are wiped
pub record KeptRows {A : Type 0} (w : ℕ) (f : List ℕ → A) (g : A → List ℕ) (p : A → Bool) (n left : ℕ)
    (area after : List ℕ) : Type 0 where
  pub count : left ≡ length (keep p (rows_of w f n area))
  pub is : after ≡ written (w * n) (numbers_of g (keep p (rows_of w f n area))) area

-- a test holds of every number below n
unfoldable pub all_below : (ℕ → Bool) → ℕ → Bool
all_below p zero = true
all_below p (suc n) = all_below p n && p n
