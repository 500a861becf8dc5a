-- What a verdict tells of the tests that led to it. Assumes nothing.
use Prim.Native.Nat.{ℕ, zero, suc}
use mathlib.Core.Bool.{Bool, true, false, cond, not, ◌&&◌}
use mathlib.Core.List.{List, [], ◌∷◌}
use mathlib.Core.Path.{◌≡◌, refl, sym, ◌∙◌}
use lib.ListN.{get_or}
use borrow.Author.Tests.{not-true}
use Rattle.octets.proofs.Tests.{never, and-true}
use Rattle.message.specs.Verdicts.{decide}

module _ {A : Type 0} (is : A → Bool) where
  -- no row has a verdict that passes
  abbrev pub no_row : List (Bool × A) → Bool
  no_row [] = true
  no_row (row ∷ rows) = not (is row.1) && no_row rows

  neither : (t : Bool) (v w : A) → is v ≡ false → is w ≡ false → is (cond t v w) ≡ false
  neither true v w e f = e
  neither false v w e f = f

  -- a verdict that stands in no row, and is not the last one, is not given
  pub not-given : (rows : List (Bool × A)) (other : A) → no_row rows ≡ true → is other ≡ false → is (decide rows other) ≡ false
  not-given [] other h e = e
  not-given (row ∷ rows) other h e =
      let a = and-true (not (is row.1)) (no_row rows) h in
      neither row.0 row.1 (decide rows other) (not-true (is row.1) a.0) (not-given rows other a.1 e)

  first : (t : Bool) (v w : A) → is w ≡ false → is (cond t v w) ≡ true → t ≡ true
  first true v w e h = refl
  first false v w e h = never (sym e ∙ h)

  -- a verdict that stands in the first row alone is given only where that row's test holds
  pub first-held : (t : Bool) (v : A) (rows : List (Bool × A)) (other : A) → no_row rows ≡ true → is other ≡ false
      → is (decide ((t, v) ∷ rows) other) ≡ true → t ≡ true
  first-held t v rows other h e k = first t v (decide rows other) (not-given rows other h e) k

  -- a verdict that does not stand in the first row is given only where that row's test fails, by what is behind it
  pub first-failed : (t : Bool) (v w : A) → is v ≡ false → is (cond t v w) ≡ true → (t ≡ false) × (is w ≡ true)
  first-failed true v w e h = never (sym e ∙ h)
  first-failed false v w e h = (refl, h)

  -- a verdict that stands in no row is given only where all tests fail
  pub all-failed : (rows : List (Bool × A)) (other : A) → no_row rows ≡ true → is (decide rows other) ≡ true
      → (i : ℕ) → (get_or rows i (false, other)).0 ≡ false
  all-failed [] other h k i = refl
  all-failed (row ∷ rows) other h k i =
      let a = and-true (not (is row.1)) (no_row rows) h in
      let b = first-failed row.0 row.1 (decide rows other) (not-true (is row.1) a.0) k in
      at i b.0 (all-failed rows other a.1 b.1)
    where
      at : (j : ℕ) → row.0 ≡ false → ((k : ℕ) → (get_or rows k (false, other)).0 ≡ false) → (get_or (row ∷ rows) j (false, other)).0 ≡ false
      at zero e f = e
      at (suc j) e f = f j

-- a fact of what a test picks, from what the test tells
pub by-test {ℓ} : {A : Type ℓ} (P : A → Type 0) (t : Bool) {a b : A} → (t ≡ true → P a) → (t ≡ false → P b) → P (cond t a b)
by-test P true f g = f refl
by-test P false f g = g refl

pub and-false : (a b : Bool) → a && b ≡ false → a ≡ true → b ≡ false
and-false true b h e = h
and-false false b h e = never e
