-- What tests tell: two in any order, and one of every number below another. Assumes nothing.
use Prim.Native.Nat.{ℕ, zero, suc, ◌<◌}
use mathlib.Core.Bool.{Bool, true, false, ◌&&◌}
use mathlib.Core.Path.{◌≡◌, refl, sym, ap, ◌∙◌}
use native.Mathlib.Omega.{arith}
use lib.Dec.{eqb}
use borrow.Author.Tests.{eqb-true, eqb-false}
use Rattle.octets.proofs.Tests.{and-true}
use Rattle.bank_rows.specs.Rows.{all_below}

-- ---- tests in any order

pub and_no : (a : Bool) {b : Bool} → b ≡ false → (a && b) ≡ false
and_no true e = e
and_no false e = refl

pub no-and : {a : Bool} (b : Bool) → a ≡ false → (a && b) ≡ false
no-and b e = rw e

-- ---- every number below

module _ (p : ℕ → Bool) where
  fails-at : (i n : ℕ) (t : Bool) → eqb i n ≡ t → (i < n → all_below p n ≡ false) → p i ≡ false → i < suc n
      → (all_below p n && p n) ≡ false
  fails-at i n true e later f h = and_no (all_below p n) (ap p (sym (eqb-true i n e)) ∙ f)
  fails-at i n false e later f h = no-and (p n) (later (let q = eqb-false i n e in omega arith))

  -- one that fails fails all
  pub all-fails : (i n : ℕ) → i < n → p i ≡ false → all_below p n ≡ false
  unfolding all_below
  all-fails i zero h f = absurd (omega arith)
  all-fails i (suc n) h f = fails-at i n (eqb i n) refl (λ k. all-fails i n k f) f h

  holds_at : (i n : ℕ) (t : Bool) → eqb i n ≡ t → (i < n → p i ≡ true) → p n ≡ true → i < suc n → p i ≡ true
  holds_at i n true e later f h = ap p (eqb-true i n e) ∙ f
  holds_at i n false e later f h = later (let q = eqb-false i n e in omega arith)

  pub all-holds : (n : ℕ) → all_below p n ≡ true → (i : ℕ) → i < n → p i ≡ true
  unfolding all_below
  all-holds zero e i h = absurd (omega arith)
  all-holds (suc n) e i h =
      let a = and-true (all_below p n) (p n) e in
      holds_at i n (eqb i n) refl (all-holds n a.0 i) a.1 h

  pub all_from : (n : ℕ) → ((i : ℕ) → i < n → p i ≡ true) → all_below p n ≡ true
  unfolding all_below
  all_from zero f = refl
  all_from (suc n) f = rw (all_from n (λ i h. f i (omega arith))) (f n (omega arith))
