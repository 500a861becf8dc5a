-- What tests on numbers and truth values tell. Assumes nothing.
use Prim.Native.Nat.{ℕ, zero, suc, ◌+◌, ◌-◌, ◌≤◌, ◌<◌}
use mathlib.Core.Bool.{Bool, true, false, ◌&&◌, ◌||◌}
use mathlib.Core.Path.{◌≡◌, refl, sym, ap, ◌∙◌}
use native.Mathlib.Omega.{arith}
use lib.Dec.{eqb, leb, ltb}
use borrow.Author.Tests.{
  eqb-true,
  eqb-false,
  ltb-true,
  ltb-false,
  leb-true,
  leb-false,
  lt-ltb,
  le-ltb,
  le-leb,
  lt-leb,
  eq-eqb,
  ne_eqb,
}

-- a test on numbers in code, as the definitions say it
pub ruleset tests = (eq-eqb, ne_eqb, lt-ltb, le-ltb, le-leb, lt-leb)

pub never : {A : Type 0} → ◌≡◌ {A = Bool} false true → A
never h = absurd (let z : ◌≡◌ {A = ℕ} 0 1 = cc in omega arith)

pub and-true : (a b : Bool) → a && b ≡ true → (a ≡ true) × (b ≡ true)
and-true true b h = (refl, h)
and-true false b h = never h

pub or-true : (a b : Bool) → a ≡ false → a || b ≡ true → b ≡ true
or-true true b e h = never (rw e)
or-true false b e h = h

pub or-neither : (a b : Bool) → a || b ≡ false → (a ≡ false) × (b ≡ false)
or-neither true b h = never (sym h)
or-neither false b h = (refl, h)

pub or_left : (a b : Bool) → a ≡ true → a || b ≡ true
or_left a b h = rw h

pub or_right : (a b : Bool) → b ≡ true → a || b ≡ true
or_right true b h = refl
or_right false b h = h

-- p holds below n
abbrev pub every : (ℕ → Bool) → ℕ → Bool
every p zero = true
every p (suc n) = p n && every p n

below_last : (p : ℕ → Bool) (n t : ℕ) (b : Bool) → eqb t n ≡ b → p n ≡ true → (t < n → p t ≡ true) → t < suc n → p t ≡ true
below_last p n t true e h r k = ap p (eqb-true t n e) ∙ h
below_last p n t false e h r k = r (let q = eqb-false t n e in omega arith)

-- a test computed for all numbers below n holds of each
pub every-below : (p : ℕ → Bool) (n : ℕ) → every p n ≡ true → (t : ℕ) → t < n → p t ≡ true
every-below p zero h t k = absurd (omega arith)
every-below p (suc n) h t k =
    let a = and-true (p n) (every p n) h in
    below_last p n t (eqb t n) refl a.0 (every-below p n a.1 t) k

-- ---- tests that agree

module _ {a b c d : ℕ} where
  ltb-at : (t : Bool) → ltb a b ≡ t → (a < b → c < d) → (b ≤ a → d ≤ c) → t ≡ ltb c d
  ltb-at true e f g = sym (lt-ltb c d (f (ltb-true a b e)))
  ltb-at false e f g = sym (le-ltb c d (g (ltb-false a b e)))

  -- facts that hold together have the same test
  pub ltb-same : (a < b → c < d) → (b ≤ a → d ≤ c) → ltb a b ≡ ltb c d
  ltb-same f g = ltb-at (ltb a b) refl f g

  leb-at : (t : Bool) → leb a b ≡ t → (a ≤ b → c ≤ d) → (b < a → d < c) → t ≡ leb c d
  leb-at true e f g = sym (le-leb c d (f (leb-true a b e)))
  leb-at false e f g = sym (lt-leb c d (g (leb-false a b e)))

  pub leb-same : (a ≤ b → c ≤ d) → (b < a → d < c) → leb a b ≡ leb c d
  leb-same f g = leb-at (leb a b) refl f g

  eqb-at : (t : Bool) → eqb a b ≡ t → (a ≡ b → c ≡ d) → (c ≡ d → a ≡ b) → t ≡ eqb c d
  eqb-at true e f g = sym (eq-eqb c d (f (eqb-true a b e)))
  eqb-at false e f g = sym (ne_eqb c d (λ k. eqb-false a b e (g k)))

  pub eqb_same : (a ≡ b → c ≡ d) → (c ≡ d → a ≡ b) → eqb a b ≡ eqb c d
  eqb_same f g = eqb-at (eqb a b) refl f g

pub and-true-right : (a : Bool) → a ≡ (a && true)
and-true-right true = refl
and-true-right false = refl

-- a sum that need not fit, tested by a difference
pub leb-sub : (k n x : ℕ) → k ≤ n → leb x (n - k) ≡ leb (k + x) n
leb-sub k n x h = leb-same {a = x} {b = n - k} {c = k + x} {d = n} (λ e. omega arith) (λ e. omega arith)
