-- What a search, a count and a test over the numbers of rows find among the rows, for any element. Assumes nothing.
use Prim.Native.Nat.{ℕ, zero, suc, ◌+◌, ◌≤◌, ◌<◌}
use mathlib.Core.Bool.{Bool, true, false, cond}
use mathlib.Core.List.{List, [], ◌∷◌}
use mathlib.Core.Path.{◌≡◌, refl, sym, ap, ◌∙◌}
use native.Mathlib.Nat.{zero-add}
use native.Mathlib.Numerals.{add-one}
use native.Mathlib.Omega.{arith}
use lib.ListN.{length, get_or}
use Rattle.std.specs.Bool.{MatchBool}
use Rattle.std.specs.Option.{MatchOption, unwrap_or}
use Rattle.std.specs.declared.option.Option.{Option}
use Rattle.std.specs.declared.option.Option.TheVariants.{None, Some}
use Rattle.std.specs.List.{AllWithin, HoldsAt, range_with_len, filter}
use Rattle.std.proofs.lemmas.List.FromFn.{length-range_with_len, get_or-range_with_len}
use Rattle.bank_state.specs.Rows.{first_of, count_of}
use Rattle.bank_state.proofs.Loops.{Searched, searched-start, searched-next, searched-hit, searched-end, Counted, counted_start, counted-one, counted_none, counted-end}
use Rattle.bank_rows.specs.Rows.{all_below}
use Rattle.bank_rows.proofs.Tests.{all_from, all-fails}

-- one that passes does not stand before the first that does
module _ {A : Type 0} (p : A → Bool) (d : A) where
  first-cons : (x : A) (l : List A) (k : ℕ) (t : Bool) → p x ≡ t → first_of p l ≤ k → first_of p (x ∷ l) ≤ suc k
  unfolding first_of
  first-cons x l k true e h = rw e (omega arith)
  first-cons x l k false e h = rw e (omega arith)

  pub first-at-most : (l : List A) (k : ℕ) → k < length l → p (get_or l k d) ≡ true → first_of p l ≤ k
  unfolding first_of
  first-at-most [] k h e = absurd (omega arith)
  first-at-most (x ∷ l) zero h e = rw e (omega arith)
  first-at-most (x ∷ l) (suc k) h e = first-cons x l k (p x) refl (first-at-most l k (omega arith) e)

module _ {A : Type 0} (p : A → Bool) (l : List A) (d : A) where
  -- the test of row k
  abbrev pub row_passes : ℕ → Bool
  row_passes k = p (get_or l k d)

  -- rows of which none passes are passed
  passed : (n : ℕ) → n ≤ length l → ((k : ℕ) → 0 ≤ k → k < n → row_passes k ≡ false) → Searched p l n
  passed zero h fails = searched-start p l
  passed (suc n) h fails =
      rw (← add-one n)
      (searched-next p l d n (passed n (omega arith) (λ k a b. fails k a (omega arith))) (omega arith) (fails n (omega arith) (omega arith)))

  -- what `find` says of the first n numbers
  abbrev pub Found : ℕ → Option ℕ → Type 0
  Found n r =
      MatchOption r ((k : ℕ) → 0 ≤ k → k < n → row_passes k ≡ false)
      (λ i. (0 ≤ i) × (i < n) × (row_passes i ≡ true) × ((k : ℕ) → 0 ≤ k → k < i → row_passes k ≡ false))

  -- the first that passes, or the number that says that none does
  pub first-or : (n most : ℕ) → n ≤ length l → (Searched p l n → most ≡ first_of p l) → (r : Option ℕ) → Found n r → unwrap_or r most ≡ first_of p l
  first-or n most h none None fails = none (passed n h fails)
  first-or n most h none (Some i) f = searched-hit p l d i (passed i (omega (arith, f.1)) f.3) (omega (arith, f.1)) f.2

  -- among all rows: the first that passes, or as many as there are
  pub first-of-all : (n : ℕ) → length l ≡ n → (r : Option ℕ) → Found n r → unwrap_or r n ≡ first_of p l
  first-of-all n h = first-or n n (omega arith) (λ s. searched-end p l d n s (omega arith))

  -- what `any` says of the first n numbers: true with one that passes, else none of them does
  pub any-found : (n : ℕ) → n ≤ length l → (r : Bool)
      → MatchBool r ((i : ℕ) × (i < length (range_with_len 0 n)) × HoldsAt (λ k. row_passes k ≡ true) (range_with_len 0 n) i)
      (AllWithin (λ k. row_passes k ≡ false) (range_with_len 0 n) 0 (length (range_with_len 0 n)))
      → MatchBool r ((i : ℕ) × (i < n) × (row_passes i ≡ true)) (Searched p l n)
  any-found n h true (i, k, f) =
      let e = length-range_with_len 0 n in
      let b : i < n = omega arith in
      (i, b, ap row_passes (sym (get_or-range_with_len 0 n i 0 b ∙ zero-add i)) ∙ f 0)
  any-found n h false f =
      let e = length-range_with_len 0 n in
      passed n h (λ i a b. ap row_passes (sym (get_or-range_with_len 0 n i 0 b ∙ zero-add i)) ∙ f i 0 (omega arith) (omega arith))

  moved : {m n i j : ℕ} → m ≡ n → i ≡ j → Counted p l m i → Counted p l n j
  moved e f s = rw (← e, ← f) s

  counted_at : (n a m : ℕ) (more : List ℕ) (t : Bool) → a + suc n ≤ length l → row_passes a ≡ t
      → ((k : ℕ) → Counted p l k (a + 1) → Counted p l (k + length more) (a + 1 + n)) → Counted p l m a
      → Counted p l (m + length (cond t (a ∷ more) more)) (a + suc n)
  counted_at n a m more true h e later s =
      moved (omega arith) (omega arith) (later (m + 1) (counted-one p l d m a s (omega arith) e))
  counted_at n a m more false h e later s =
      moved refl (omega arith) (later m (counted_none p l d m a s (omega arith) e))

  -- m of the rows before number a pass; with them the rows of those among the n numbers from a on that are kept
  counted_from : (n a m : ℕ) → a + n ≤ length l → Counted p l m a → Counted p l (m + length (filter row_passes (range_with_len a n))) (a + n)
  counted_from zero a m h s = moved (omega arith) (omega arith) s
  counted_from (suc n) a m h s =
      counted_at n a m (filter row_passes (range_with_len (a + 1) n)) (row_passes a) h refl (λ k. counted_from n (a + 1) k (omega arith)) s

  pub counted-below : (n : ℕ) → n ≤ length l → Counted p l (length (filter row_passes (range_with_len 0 n))) n
  counted-below n h = moved (omega arith) (omega arith) (counted_from n 0 0 (omega arith) (counted_start p l))

  -- among all rows: as many as pass
  pub count-of-all : (n : ℕ) → length l ≡ n → length (filter row_passes (range_with_len 0 n)) ≡ count_of p l
  count-of-all n h = counted-end p l d _ n (counted-below n (omega arith)) (omega arith)

-- what `all` over the numbers below n says
pub all-is : (p : ℕ → Bool) (n : ℕ) (r : Bool)
    → MatchBool r (AllWithin (λ i. p i ≡ true) (range_with_len 0 n) 0 (length (range_with_len 0 n)))
    ((i : ℕ) × (i < length (range_with_len 0 n)) × HoldsAt (λ x. p x ≡ false) (range_with_len 0 n) i)
    → r ≡ all_below p n
all-is p n true h =
    let l = length-range_with_len 0 n in
    sym (all_from p n (λ i k. ap p (sym (get_or-range_with_len 0 n i 0 k ∙ zero-add i)) ∙ h i 0 (omega arith) (omega arith)))
all-is p n false (i, k, f) =
    let l = length-range_with_len 0 n in
    sym (all-fails p i n (omega arith) (ap p (sym (get_or-range_with_len 0 n i 0 (omega arith) ∙ zero-add i)) ∙ f 0))
