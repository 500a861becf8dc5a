-- A row whose first elements are another's: what a loop has that goes through a row from one place to another. Assumes
-- nothing.
use Prim.Native.Nat.{ℕ, zero, suc, ◌<◌, ◌≤◌}
use mathlib.Core.Path.{◌≡◌, refl, sym, ◌∙◌, ap}
use mathlib.Core.List.{List, [], ◌∷◌}
use native.Mathlib.Nat.{not-suc-le-zero, le_of_suc-le-suc}
use native.Mathlib.Omega.{arith}
use lib.ListN.{length, get_or, set}

module _ {A : Type 0} where
  -- i elements of zs, and then those of xs
  unfoldable pub mixed : ℕ → List A → List A → List A
  mixed zero zs xs = xs
  mixed (suc i) [] xs = []
  mixed (suc i) (z ∷ zs) [] = []
  mixed (suc i) (z ∷ zs) (x ∷ xs) = z ∷ mixed i zs xs

  pub mixed-none : (zs xs : List A) → mixed 0 zs xs ≡ xs
  unfolding mixed
  mixed-none zs xs = refl

  pub mixed-length : (i : ℕ) (zs xs : List A) → length zs ≡ length xs → length (mixed i zs xs) ≡ length xs
  unfolding mixed
  mixed-length zero zs xs e = refl
  mixed-length (suc i) [] xs e = e
  mixed-length (suc i) (z ∷ zs) [] e = refl
  mixed-length (suc i) (z ∷ zs) (x ∷ xs) e = ap suc (mixed-length i zs xs (omega (arith, e)))

  -- the places from i on are as they were
  pub mixed-after : (i j : ℕ) (zs xs : List A) (d : A) → length zs ≡ length xs → i ≤ j → get_or (mixed i zs xs) j d ≡ get_or xs j d
  unfolding mixed
  mixed-after zero j zs xs d e l = refl
  mixed-after (suc i) zero zs xs d e l = absurd (not-suc-le-zero l)
  mixed-after (suc i) (suc j) [] [] d e l = refl
  mixed-after (suc i) (suc j) [] (x ∷ xs) d e l = absurd (omega (arith, e))
  mixed-after (suc i) (suc j) (z ∷ zs) [] d e l = refl
  mixed-after (suc i) (suc j) (z ∷ zs) (x ∷ xs) d e l = mixed-after i j zs xs d (omega (arith, e)) (le_of_suc-le-suc l)

  -- one place more
  pub mixed-next : (i : ℕ) (zs xs : List A) (d : A) → length zs ≡ length xs → set (mixed i zs xs) i (get_or zs i d) ≡ mixed (suc i) zs xs
  unfolding mixed
  mixed-next zero [] [] d e = refl
  mixed-next zero [] (x ∷ xs) d e = absurd (omega (arith, e))
  mixed-next zero (z ∷ zs) [] d e = refl
  mixed-next zero (z ∷ zs) (x ∷ xs) d e = refl
  mixed-next (suc i) [] [] d e = refl
  mixed-next (suc i) [] (x ∷ xs) d e = refl
  mixed-next (suc i) (z ∷ zs) [] d e = refl
  mixed-next (suc i) (z ∷ zs) (x ∷ xs) d e = ap (λ (l : List A). z ∷ l) (mixed-next i zs xs d (omega (arith, e)))

  -- the places up to i are the same
  pub mixed-front : (i : ℕ) (zs xs : List A) (d : A) → length zs ≡ length xs → ((j : ℕ) → j < i → get_or zs j d ≡ get_or xs j d) → mixed i zs xs ≡ xs
  unfolding mixed
  mixed-front zero zs xs d e h = refl
  mixed-front (suc i) [] [] d e h = refl
  mixed-front (suc i) [] (x ∷ xs) d e h = absurd (omega (arith, e))
  mixed-front (suc i) (z ∷ zs) [] d e h = refl
  mixed-front (suc i) (z ∷ zs) (x ∷ xs) d e h =
      ap (λ (l : List A). z ∷ l) (mixed-front i zs xs d (omega (arith, e)) (λ j l. h (suc j) (omega (arith, l))))
      ∙ ap (λ (y : A). y ∷ xs) (h 0 (omega arith))

  -- the places from i on are the same
  pub mixed-back : (i : ℕ) (zs xs : List A) (d : A) → length zs ≡ length xs → ((j : ℕ) → i ≤ j → j < length xs → get_or zs j d ≡ get_or xs j d) → mixed i zs xs ≡ zs
  unfolding mixed
  mixed-back zero [] [] d e h = refl
  mixed-back zero [] (x ∷ xs) d e h = absurd (omega (arith, e))
  mixed-back zero (z ∷ zs) [] d e h = absurd (omega (arith, e))
  mixed-back zero (z ∷ zs) (x ∷ xs) d e h =
      ap (λ (l : List A). x ∷ l) (mixed-back zero zs xs d (omega (arith, e)) (λ j l m. h (suc j) (omega arith) (omega (arith, m))))
      ∙ ap (λ (y : A). y ∷ zs) (sym (h 0 (omega arith) (omega arith)))
  mixed-back (suc i) [] xs d e h = refl
  mixed-back (suc i) (z ∷ zs) [] d e h = absurd (omega (arith, e))
  mixed-back (suc i) (z ∷ zs) (x ∷ xs) d e h =
      ap (λ (l : List A). z ∷ l) (mixed-back i zs xs d (omega (arith, e)) (λ j l m. h (suc j) (omega (arith, l)) (omega (arith, m))))
