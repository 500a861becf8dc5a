-- Laws of searches, counts and kept elements, for any element and any test. Assumes nothing.
use Prim.Native.Nat.{ℕ, zero, suc, ◌+◌, ◌-◌, ◌≤◌, ◌<◌}
use mathlib.Core.Bool.{Bool, true, false, cond}
use mathlib.Core.List.{List, [], ◌∷◌, ◌++◌}
use mathlib.Core.Path.{◌≡◌, refl, sym, ap, ◌∙◌}
use native.Mathlib.Omega.{arith}
use lib.ListN.{length, get_or, replicate, length-append, length-replicate, get_or-append}
use Rattle.octets.proofs.Tests.{never}
use Rattle.bank_state.specs.Rows.{first_of, count_of, keep, keep_only}

-- ---- the first that passes

module _ {A : Type 0} (p : A → Bool) where
  pub first-le : (l : List A) → first_of p l ≤ length l
  unfolding first_of
  first-le [] = omega arith
  first-le (x ∷ l) = at (p x) (first-le l)
    where
      at : (t : Bool) {m n : ℕ} → m ≤ n → cond t 0 (suc m) ≤ suc n
      at true h = omega arith
      at false h = omega arith

  -- the element found passes
  pub first_passes : (l : List A) (d : A) → first_of p l < length l → p (get_or l (first_of p l) d) ≡ true
  unfolding first_of
  first_passes [] d h = absurd (omega arith)
  first_passes (x ∷ l) d h = at (p x) refl (first_passes l d) h
    where
      at : (t : Bool) → p x ≡ t → (first_of p l < length l → p (get_or l (first_of p l) d) ≡ true)
          → cond t 0 (suc (first_of p l)) < suc (length l) → p (get_or (x ∷ l) (cond t 0 (suc (first_of p l))) d) ≡ true
      at true e later k = e
      at false e later k = later (omega arith)

  -- no element before it does
  pub first-before : (l : List A) (d : A) (i : ℕ) → i < first_of p l → p (get_or l i d) ≡ false
  unfolding first_of
  first-before [] d i h = absurd (omega arith)
  first-before (x ∷ l) d i h = at (p x) refl i (first-before l d) h
    where
      at : (t : Bool) → p x ≡ t → (j : ℕ) → ((k : ℕ) → k < first_of p l → p (get_or l k d) ≡ false)
          → j < cond t 0 (suc (first_of p l)) → p (get_or (x ∷ l) j d) ≡ false
      at true e j later k = absurd (omega arith)
      at false e zero later k = e
      at false e (suc j) later k = later j (omega arith)

-- ---- how many pass

pub count-le : {A : Type 0} (p : A → Bool) (l : List A) → count_of p l ≤ length l
unfolding count_of
count-le p [] = omega arith
count-le p (x ∷ l) = at (p x) (count-le p l)
  where
    at : (t : Bool) {m n : ℕ} → m ≤ n → cond t 1 0 + m ≤ suc n
    at true h = omega arith
    at false h = omega arith

-- ---- those that pass, moved to the front

module _ {A : Type 0} (p : A → Bool) where
  pub keep_append : (a b : List A) → keep p (a ++ b) ≡ keep p a ++ keep p b
  unfolding keep
  keep_append [] b = refl
  keep_append (x ∷ a) b = at (p x) (keep_append a b)
    where
      at : (t : Bool) → keep p (a ++ b) ≡ keep p a ++ keep p b
          → cond t (x ∷ keep p (a ++ b)) (keep p (a ++ b)) ≡ cond t (x ∷ keep p a) (keep p a) ++ keep p b
      at true e = ap (λ (m : List A). x ∷ m) e
      at false e = e

  pub length-keep : (l : List A) → length (keep p l) ≤ length l
  unfolding keep
  length-keep [] = omega arith
  length-keep (x ∷ l) = at (p x) (length-keep l)
    where
      at : (t : Bool) → length (keep p l) ≤ length l → length (cond t (x ∷ keep p l) (keep p l)) ≤ suc (length l)
      at true h = omega arith
      at false h = omega arith

module _ {A : Type 0} (p : A → Bool) (free : A) where
  pub length-keep_only : (l : List A) → length (keep_only p free l) ≡ length l
  unfolding keep_only
  length-keep_only l = simp (length-append, length-replicate) (omega (arith, length-keep p l))

  -- P holds of each element of a row that passes
  abbrev pub EachPassing : (A → Type 0) → List A → Type 0
  EachPassing P l = (i : ℕ) → i < length l → p (get_or l i free) ≡ true → P (get_or l i free)

  module _ (P : A → Type 0) (none : P free) where
    abbrev Each : List A → Type 0
    Each l = (i : ℕ) → P (get_or l i free)

    each_append : (a b : List A) → Each a → Each b → Each (a ++ b)
    each_append [] b f g i = g i
    each_append (x ∷ a) b f g zero = f 0
    each_append (x ∷ a) b f g (suc i) = each_append a b (λ j. f (suc j)) g i

    each_free : (n : ℕ) → Each (replicate n free)
    each_free zero i = none
    each_free (suc n) zero = none
    each_free (suc n) (suc i) = each_free n i

    each_keep : (l : List A) → EachPassing P l → Each (keep p l)
    unfolding keep
    each_keep [] f i = none
    each_keep (x ∷ l) f i = at (p x) refl (each_keep l (λ j h. f (suc j) (omega arith))) i
      where
        at : (t : Bool) → p x ≡ t → Each (keep p l) → Each (cond t (x ∷ keep p l) (keep p l))
        at true e later zero = f 0 (omega arith) e
        at true e later (suc j) = later j
        at false e later j = later j

    -- what holds of the free element and of each element that passes holds of each element of the row
    pub each-keep_only : (l : List A) → EachPassing P l → (i : ℕ) → P (get_or (keep_only p free l) i free)
    unfolding keep_only
    each-keep_only l f = each_append (keep p l) _ (each_keep l f) (each_free (length l - length (keep p l)))

  -- x stands in a row
  abbrev pub Holds : List A → A → Type 0
  Holds l x = (j : ℕ) × ((j < length l) × (get_or l j free ≡ x))

  keep-holds : (l : List A) → EachPassing (Holds (keep p l)) l
  unfolding keep
  keep-holds [] i h e = absurd (omega arith)
  keep-holds (x ∷ l) i h e = at (p x) refl i h e (keep-holds l)
    where
      at : (t : Bool) → p x ≡ t → (i : ℕ) → i < suc (length l) → p (get_or (x ∷ l) i free) ≡ true → EachPassing (Holds (keep p l)) l
          → Holds (cond t (x ∷ keep p l) (keep p l)) (get_or (x ∷ l) i free)
      at true d zero h e later = (0, (omega arith, refl))
      at true d (suc i) h e later = let r = later i (omega arith) e in (suc r.0, (omega (arith, r.1.0), r.1.1))
      at false d zero h e later = never (sym d ∙ e)
      at false d (suc i) h e later = later i (omega arith) e

  -- each element that passes stands in the row
  pub keep_only-holds : (l : List A) → EachPassing (Holds (keep_only p free l)) l
  unfolding keep_only
  keep_only-holds l i h e =
      let r = keep-holds l i h e in
      let n : r.0 < length (keep_only p free l) = omega (arith, length-keep_only l, length-keep p l, r.1.0) in
      (r.0, (n, get_or-append (keep p l) _ free r.0 r.1.0 ∙ r.1.1))

  module _ (q : A → Bool) (none : q free ≡ false) where
    count-append : (a b : List A) → count_of q (a ++ b) ≡ count_of q a + count_of q b
    unfolding count_of
    count-append [] b = omega arith
    count-append (x ∷ a) b = rw (count-append a b) (omega arith)

    count-free : (n : ℕ) → count_of q (replicate n free) ≡ 0
    unfolding count_of
    count-free zero = refl
    count-free (suc n) = rw (none, count-free n)

    count-keep : (l : List A) → count_of q (keep p l) ≤ count_of q l
    unfolding count_of keep
    count-keep [] = omega arith
    count-keep (x ∷ l) = at (p x) (count-keep l)
      where
        at : (t : Bool) → count_of q (keep p l) ≤ count_of q l
            → count_of q (cond t (x ∷ keep p l) (keep p l)) ≤ cond (q x) 1 0 + count_of q l
        at true h = omega arith
        at false h = omega arith

    -- the row has no more elements that pass another test, which the free element fails
    pub count-keep_only : (l : List A) → count_of q (keep_only p free l) ≤ count_of q l
    unfolding keep_only
    count-keep_only l =
        rw (count-append (keep p l) (replicate (length l - length (keep p l)) free), count-free) (omega (arith, count-keep l))
