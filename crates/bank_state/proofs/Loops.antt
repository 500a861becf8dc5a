-- What the loops over rows keep, for any element and any test: of a search, and of a count. Assumes nothing.
use Prim.Native.Nat.{ℕ, ◌+◌, ◌≤◌, ◌<◌}
use mathlib.Core.Bool.{Bool, true, false, cond}
use mathlib.Core.List.{List}
use mathlib.Core.Path.{◌≡◌, sym, ◌∙◌}
use native.Mathlib.Nat.{add-zero, add_assoc}
use native.Mathlib.Numerals.{add-one}
use native.Mathlib.Omega.{arith}
use lib.ListN.{length, drop, get_or, drop_of_length-le}
use lib.Seq.{drop-cons}
use Rattle.bank_state.specs.Rows.{first_of, count_of}

module _ {A : Type 0} (p : A → Bool) (l : List A) where
  -- a search has passed the first i elements
  pub record Searched (i : ℕ) : Type 0 where
    pub within : i ≤ length l
    pub rest : first_of p l ≡ i + first_of p (drop i l)

  pub searched-start : Searched 0
  searched-start = record { within = omega arith; rest = omega arith }

  module _ (d : A) (i : ℕ) (s : Searched i) where
    pub searched-next : i < length l → p (get_or l i d) ≡ false → Searched (i + 1)
    unfolding first_of
    searched-next h e = record {
      within = omega arith;
      rest = s.rest ∙ rw (drop-cons l i d h, e, add-one) (omega arith);
    }

    pub searched-hit : i < length l → p (get_or l i d) ≡ true → i ≡ first_of p l
    unfolding first_of
    searched-hit h e = sym (s.rest ∙ rw (drop-cons l i d h, e, add-zero))

    pub searched-end : length l ≤ i → i ≡ first_of p l
    unfolding first_of
    searched-end h = sym (s.rest ∙ rw (drop_of_length-le l h, add-zero))

module _ {A : Type 0} (p : A → Bool) (l : List A) where
  -- n of the first i elements pass
  pub record Counted (n i : ℕ) : Type 0 where
    pub within : i ≤ length l
    pub most : n ≤ i
    pub rest : count_of p l ≡ n + count_of p (drop i l)

  pub counted_start : Counted 0 0
  counted_start = record { within = omega arith; most = omega arith; rest = omega arith }

  module _ (d : A) (n i : ℕ) (s : Counted n i) where
    counted_next : (t : Bool) → i < length l → p (get_or l i d) ≡ t → n + cond t 1 0 ≤ i + 1 → Counted (n + cond t 1 0) (i + 1)
    unfolding count_of
    counted_next t h e k = record {
      within = omega arith;
      most = k;
      rest = s.rest ∙ rw (drop-cons l i d h, e, add-one i, ← add_assoc);
    }

    pub counted-one : i < length l → p (get_or l i d) ≡ true → Counted (n + 1) (i + 1)
    counted-one h e = counted_next true h e (omega (arith, s.most))

    pub counted_none : i < length l → p (get_or l i d) ≡ false → Counted n (i + 1)
    counted_none h e = rw (← add-zero n) (counted_next false h e (omega (arith, s.most)))

    pub counted-end : length l ≤ i → n ≡ count_of p l
    unfolding count_of
    counted-end h = sym (s.rest ∙ rw (drop_of_length-le l h, add-zero))
