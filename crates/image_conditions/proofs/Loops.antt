-- What a test or a count of every number below another comes to, and what parts leave of a whole. Assumes nothing.
use Prim.Native.Nat.{ℕ, zero, suc, ◌+◌, ◌≤◌, ◌<◌}
use mathlib.Core.Bool.{Bool, true, false, not, cond}
use mathlib.Core.List.{List, ◌∷◌}
use mathlib.Core.Path.{◌≡◌, refl, sym, ap, ◌∙◌}
use native.Mathlib.Nat.{zero-add, add-zero}
use native.Mathlib.Omega.{arith}
use denote.Param.Members.{Mut}
use lib.ListN.{length, get_or, take, drop, length-take, length-drop}
use lib.Seq.{get_or-take, get_or-drop}
use Rattle.std.specs.Bool.{MatchBool}
use Rattle.std.specs.Fn.{Called}
use Rattle.std.specs.Iterator.{YieldsThen}
use Rattle.std.specs.List.{AllWithin, HoldsAt, FoldsTo, range_with_len, filter}
use Rattle.std.specs.Option.{MatchOption}
use Rattle.std.specs.declared.option.Option.{Option}
use Rattle.std.specs.declared.ops.Range.{Range}
use Rattle.std.proofs.iter.Yields.{nat_range_steps}
use Rattle.std.proofs.lemmas.Iterator.{YieldsList-from_range, cases_from_all}
use Rattle.std.proofs.lemmas.List.FromFn.{length-range_with_len, get_or-range_with_len}
use Rattle.image_records.specs.Shapes.{every, count, total, distinct}
use Rattle.image_records.proofs.Shapes.{every-from, every-at, count_same, total-same}
use Rattle.image_records.proofs.General.{count-first, distinct-at}

module _ (p : ℕ → Bool) (n : ℕ) where
  not_every : (i : ℕ) (t : Bool) → every p n ≡ t → i < n → p i ≡ false → t ≡ false
  not_every i true e h f = sym (every-at p n i e h) ∙ f
  not_every i false e h f = refl

  every-is : (r : Bool)
      → MatchBool r (AllWithin (λ i. p i ≡ true) (range_with_len 0 n) 0 (length (range_with_len 0 n)))
      ((i : ℕ) × (i < length (range_with_len 0 n)) × HoldsAt (λ x. p x ≡ false) (range_with_len 0 n) i)
      → r ≡ every p n
  every-is true h =
      let l = length-range_with_len 0 n in
      sym (every-from p n (λ i k. ap p (sym (get_or-range_with_len 0 n i 0 k ∙ zero-add i)) ∙ h i 0 (omega arith) (omega arith)))
  every-is false (i, k, f) =
      let l = length-range_with_len 0 n in
      let b : i < n = omega arith in
      sym (not_every i (every p n) refl b (ap p (sym (get_or-range_with_len 0 n i 0 b ∙ zero-add i)) ∙ f 0))

  -- `all` over the numbers below n, where the closure's answer is p's
  pub every-by-all : {F : Type 0} {g : Mut F (ℕ × Unit {0}) Bool} {s u : Range ℕ} {f : F} {r : Bool}
      → s ≡ record { start = 0; end = n }
      → (xs : List ℕ) × (o : Option ℕ) × (j : F) × YieldsThen nat_range_steps s xs o u
      × FoldsTo (λ k x q. Called g k (x, tt) true q) f xs j
      × MatchOption o (r ≡ true) (λ x. (r ≡ false) × ((h : F) × Called g j (x, tt) false h))
      → ((x : ℕ) (t : Bool) (q : F) → Called g f (x, tt) t q → (q ≡ f) × (t ≡ p x))
      → r ≡ every p n
  every-by-all {F} {g} {s} {u} {f} {r} e ran each =
      every-is r
      (cases_from_all u f r (λ i. p i ≡ true) (λ i. p i ≡ false) ran (YieldsList-from_range 0 n n e (omega arith))
      (λ x q k. let a = each x true q k in (a.0, sym a.1))
      (λ x q k. sym (each x false q k).1))

module _ (same : ℕ → ℕ → Bool) (n i j : ℕ) (below : i < n) (less : j < i) (e : not (same i j) ≡ false) where
  not_distinct : (t : Bool) → distinct same n ≡ t → t ≡ false
  not_distinct true d = sym (ap not (distinct-at same n d i j below less)) ∙ e
  not_distinct false d = refl

  -- where two do not differ, not all do
  pub some-same : distinct same n ≡ false
  some-same = not_distinct (distinct same n) refl

kept : (t : Bool) (a : ℕ) (more : List ℕ) → length (cond t (a ∷ more) more) ≡ cond t 1 0 + length more
kept true a more = omega arith
kept false a more = omega arith

-- how many of the n numbers from a on a filter keeps
count_from : (p : ℕ → Bool) (n a : ℕ) → length (filter p (range_with_len a n)) ≡ count (λ i. p (a + i)) n
unfolding count
count_from p zero a = refl
count_from p (suc n) a =
    kept (p a) a (filter p (range_with_len (a + 1) n))
    ∙ ap (λ (k : ℕ). cond (p a) 1 0 + k)
    (count_from p n (a + 1) ∙ count_same (λ i. p (a + 1 + i)) (λ i. p (a + suc i)) n (λ j k. ap p (omega arith)))
    ∙ ap (λ (k : ℕ). cond (p k) 1 0 + count (λ i. p (a + suc i)) n) (sym (add-zero a))
    ∙ sym (count-first (λ i. p (a + i)) n)

-- how many of those below n
pub count-is : (p : ℕ → Bool) (n : ℕ) → length (filter p (range_with_len 0 n)) ≡ count p n
count-is p n = count_from p n 0 ∙ count_same (λ i. p (0 + i)) p n (λ j k. ap p (zero-add j))

-- the sum of a part of some numbers, by their places among all
pub total-part : (xs : List ℕ) (a n : ℕ) (f : ℕ → ℕ) → a + n ≤ length xs → ((i : ℕ) → get_or xs (a + i) 0 ≡ f i)
    → total (λ i. get_or (take n (drop a xs)) i 0) (length (take n (drop a xs))) ≡ total f n
total-part xs a n f within each =
    let e : length (take n (drop a xs)) ≡ n = omega (arith, length-take n (drop a xs), length-drop a xs) in
    ap (total (λ i. get_or (take n (drop a xs)) i 0)) e
    ∙ total-same (λ i. get_or (take n (drop a xs)) i 0) f n
    (λ i h. get_or-take n (drop a xs) i 0 h ∙ get_or-drop a xs i 0 ∙ each i)
