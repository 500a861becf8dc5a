-- Laws of the tests' shapes: every number below one, how many, a sum, no two the same, zeros. Assumes nothing.
use Prim.Native.Nat.{ℕ, zero, suc, ◌+◌, ◌*◌, ◌≤◌, ◌<◌}
use mathlib.Core.List.{List, [], ◌∷◌}
use mathlib.Core.Bool.{Bool, true, false, cond, ◌&&◌}
use mathlib.Core.Path.{◌≡◌, refl, sym, ap, ◌∙◌}
use native.Mathlib.Nat.{add-zero, add-suc, suc-mul}
use native.Mathlib.Numerals.{add-one}
use native.Mathlib.Omega.{arith}
use Rattle.std.specs.List.{fold}
use Rattle.std.specs.Prelude.{max}
use lib.Dec.{leb, eqb}
use borrow.Author.Tests.{eqb-true, eqb-false, leb-true, leb-false, eq-eqb, ne_eqb}
use Rattle.octets.proofs.Tests.{and-true, and-true-right}
use Rattle.image_records.specs.Shapes.{up_to, every, count, total, all_zero}

-- ---- every number below one

module _ (p : ℕ → Bool) where
  at_last : (n j : ℕ) (t : Bool) → eqb j n ≡ t → p n ≡ true → j < suc n → (j < n → p j ≡ true) → p j ≡ true
  at_last n j true e h k f = ap p (eqb-true j n e) ∙ h
  at_last n j false e h k f = f (let q = eqb-false j n e in omega arith)

  -- the fact at each number, from the test
  pub every-at : (n j : ℕ) → every p n ≡ true → j < n → p j ≡ true
  unfolding every
  every-at zero j h k = absurd (omega arith)
  every-at (suc n) j h k =
      let a = and-true (p n) (every p n) h in
      at_last n j (eqb j n) refl a.0 k (every-at n j a.1)

  -- and the test from the facts
  pub every-from : (n : ℕ) → ((j : ℕ) → j < n → p j ≡ true) → every p n ≡ true
  unfolding every
  every-from zero f = refl
  every-from (suc n) f = rw (f n (omega arith)) (every-from n (λ j k. f j (omega arith)))

-- ---- sums

module _ (f : ℕ → ℕ) where
  pub total-none : total f 0 ≡ 0
  unfolding total
  total-none = refl

  pub total-next : (n : ℕ) → total f (n + 1) ≡ f n + total f n
  unfolding total
  total-next n = rw (add-one n)

  pub total_first : (n : ℕ) → total f (suc n) ≡ f 0 + total (λ i. f (suc i)) n
  unfolding total
  total_first zero = refl
  total_first (suc n) = let e = total_first n in omega arith

  -- a sum is at most one with more in it
  pub total-more : (n k : ℕ) → total f n ≤ total f (n + k)
  unfolding total
  total-more n zero = rw (add-zero n) (omega arith)
  total-more n (suc k) = let h = total-more n k in rw (add-suc n k) (omega arith)

-- a sum of numbers that are each at most m
pub total-most : (f : ℕ → ℕ) (m : ℕ) → ((i : ℕ) → f i ≤ m) → (n : ℕ) → total f n ≤ n * m
unfolding total
total-most f m h zero = omega arith
total-most f m h (suc n) = omega (arith, h n, total-most f m h n, suc-mul n m)

pub total-same : (f g : ℕ → ℕ) (n : ℕ) → ((i : ℕ) → i < n → f i ≡ g i) → total f n ≡ total g n
unfolding total
total-same f g zero h = refl
total-same f g (suc n) h = rw (h n (omega arith), total-same f g n (λ i k. h i (omega arith)))

-- tests that agree below n
module _ (p q : ℕ → Bool) where
  pub every-same : (n : ℕ) → ((j : ℕ) → j < n → p j ≡ q j) → every p n ≡ every q n
  unfolding every
  every-same zero f = refl
  every-same (suc n) f = rw (f n (omega arith), every-same n (λ j k. f j (omega arith)))

  pub count_same : (n : ℕ) → ((j : ℕ) → j < n → p j ≡ q j) → count p n ≡ count q n
  unfolding count
  count_same zero f = refl
  count_same (suc n) f = rw (f n (omega arith), count_same n (λ j k. f j (omega arith)))

-- a test of two is the two tests
pub every-both : (p q : ℕ → Bool) (n : ℕ) → every (λ i. p i && q i) n ≡ true → (every p n ≡ true) × (every q n ≡ true)
every-both p q n h =
    let both : (j : ℕ) → j < n → (p j ≡ true) × (q j ≡ true) =
    λ j k. and-true (p j) (q j) (every-at (λ i. p i && q i) n j h k) in
    (every-from p n (λ j k. (both j k).0), every-from q n (λ j k. (both j k).1))

-- a count is at most the number of those counted
one_more : (t : Bool) (k n : ℕ) → k ≤ n → cond t 1 0 + k ≤ suc n
one_more true k n h = omega arith
one_more false k n h = omega arith

pub count-le : (p : ℕ → Bool) (n : ℕ) → count p n ≤ n
unfolding count
count-le p zero = omega arith
count-le p (suc n) = one_more (p n) (count p n) n (count-le p n)

-- at most the most, and at most the number itself
up-to-at : (most n : ℕ) (t : Bool) → leb n most ≡ t → (cond t n most ≤ most) × (cond t n most ≤ n)
up-to-at most n true e = (leb-true n most e, omega arith)
up-to-at most n false e = let k = leb-false n most e in (omega arith, omega arith)

pub up-to-le : (most n : ℕ) → (up_to most n ≤ most) × (up_to most n ≤ n)
up-to-le most n = up-to-at most n (leb n most) refl

-- ---- zeros

and_assoc : (a b c : Bool) → (a && (b && c)) ≡ ((a && b) && c)
and_assoc true b c = refl
and_assoc false b c = refl

module _ (a b r : ℕ) (ha : a ≤ r) (hb : b ≤ r) (hr : a ≡ 0 → b ≡ 0 → r ≡ 0) where
  zero-at : (s t : Bool) → eqb a 0 ≡ s → eqb b 0 ≡ t → eqb r 0 ≡ (s && t)
  zero-at true true e f = eq-eqb r 0 (hr (eqb-true a 0 e) (eqb-true b 0 f))
  zero-at true false e f = ne_eqb r 0 (λ k. eqb-false b 0 f (omega arith))
  zero-at false t e f = ne_eqb r 0 (λ k. eqb-false a 0 e (omega arith))

  -- the greater of two is 0 exactly if both are
  pub zero-both : eqb r 0 ≡ (eqb a 0 && eqb b 0)
  zero-both = zero-at (eqb a 0) (eqb b 0) refl refl

-- the greatest of some numbers is 0 exactly if all are
pub greatest-zero : (a : ℕ) (xs : List ℕ) → eqb (fold max a xs) 0 ≡ (eqb a 0 && all_zero xs)
unfolding all_zero
greatest-zero a [] = and-true-right (eqb a 0)
greatest-zero a (x ∷ xs) =
    greatest-zero (max a x) xs
    ∙ ap (λ (t : Bool). t && all_zero xs) (zero-both a x (max a x) (omega arith) (omega arith) (λ e f. omega arith))
    ∙ sym (and_assoc (eqb a 0) (eqb x 0) (all_zero xs))
