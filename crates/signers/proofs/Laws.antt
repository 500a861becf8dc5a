-- A signer added: exactly that subscriber is in the set besides those that were, and one who is in it adds nobody.
-- Assumes nothing.
use Prim.Native.Nat.{ℕ, ◌+◌, ◌-◌, ◌/◌, ◌%◌, ◌≤◌, ◌<◌}
use mathlib.Core.Bool.{Bool, true, false, cond, ◌&&◌, ◌||◌}
use mathlib.Core.Path.{◌≡◌, refl, ap, ◌∙◌}
use native.Mathlib.Nat.{mod-lt, zero-div, zero-lt-suc}
use native.Mathlib.Omega.{arith}
use lib.Dec.{eqb, leb}
use borrow.Author.Tests.{eqb-true, eqb-false, eq-eqb, leb-true}
use Rattle.octets.proofs.Tests.{and-true}
use Rattle.signers.specs.Signers.{bit_count, has_bit, value_of, is_signer, with_signer}
use Rattle.signers.proofs.Bits.{bit, bit-own, bit-other, bit-fits, bit-low}

-- a subscriber with a bit is one of 1 to 8
pub bit_in : (s : ℕ) → has_bit s ≡ true → (1 ≤ s) × (s ≤ bit_count)
unfolding has_bit
bit_in s h = let a = and-true (leb 1 s) (leb s bit_count) h in (leb-true 1 s a.0, leb-true s bit_count a.1)

not-one : (x : ℕ) → x < 2 → eqb x 1 ≡ false → x ≡ 0
not-one x l h = let n = eqb-false x 1 h in omega arith

-- the bit of a subscriber who is no signer is not set
pub unset : (s set : ℕ) → has_bit s ≡ true → is_signer s set ≡ false → bit (s - 1) set ≡ 0
unfolding is_signer
unset s set b h = not-one (bit (s - 1) set) (mod-lt (set / value_of s) (zero-lt-suc 1)) (rw b at h)

module _ (s set : ℕ) (b : has_bit s ≡ true) where
  -- a set with a signer more, where the subscriber was none and where it was one
  pub newly : is_signer s set ≡ false → with_signer s set ≡ set + value_of s
  unfolding with_signer
  newly h = rw (b, h)

  -- "Signing again ... adds nobody"
  pub again : is_signer s set ≡ true → with_signer s set ≡ set
  unfolding with_signer
  again h = rw (b, h)

  -- "the subscriber becomes a signer"
  pub becomes : is_signer s (with_signer s set) ≡ true
  unfolding is_signer
  becomes = at (is_signer s set) refl
    where
      at : (t : Bool) → is_signer s set ≡ t → is_signer s (with_signer s set) ≡ true
      at true h = rw (again h) h
      at false h = rw (newly h, b) (eq-eqb (bit (s - 1) (set + value_of s)) 1 (bit-own (s - 1) set (unset s set b h)))

  other_at : (t : ℕ) → has_bit t ≡ true → (t ≡ s → ⊥) → bit (t - 1) (with_signer s set) ≡ bit (t - 1) set
  other_at t g d = at (is_signer s set) refl
    where
      at : (u : Bool) → is_signer s set ≡ u → bit (t - 1) (with_signer s set) ≡ bit (t - 1) set
      at true h = rw (again h)
      at false h = rw (newly h) (bit-other (s - 1) (t - 1) set (unset s set b h) (λ e. d (omega (arith, e, bit_in s b, bit_in t g))))

  -- and nobody else does
  pub others : (t : ℕ) → (t ≡ s → ⊥) → is_signer t (with_signer s set) ≡ is_signer t set
  unfolding is_signer
  others t d = at (has_bit t) refl
    where
      at : (u : Bool) → has_bit t ≡ u → (u && eqb (bit (t - 1) (with_signer s set)) 1) ≡ (u && eqb (bit (t - 1) set) 1)
      at true g = ap (λ (x : ℕ). eqb x 1) (other_at t g d)
      at false g = refl

  -- the set with the subscriber in it has exactly that one besides
  pub with-signer : (t : ℕ) → is_signer t (with_signer s set) ≡ (eqb t s || is_signer t set)
  with-signer t = at (eqb t s) refl
    where
      at : (u : Bool) → eqb t s ≡ u → is_signer t (with_signer s set) ≡ (u || is_signer t set)
      at true h = ap (λ (x : ℕ). is_signer x (with_signer s set)) (eqb-true t s h) ∙ becomes
      at false h = others t (eqb-false t s h)

  -- it is a number of 8 bits as before
  pub stays-small : set < 256 → with_signer s set < 256
  stays-small l = at (is_signer s set) refl
    where
      at : (t : Bool) → is_signer s set ≡ t → with_signer s set < 256
      at true h = rw (again h) l
      at false h = rw (newly h) (bit-fits (s - 1) bit_count set (unset s set b h) (omega (arith, bit_in s b)) l)

-- one without a bit adds nobody
pub nobody : (s set : ℕ) → has_bit s ≡ false → with_signer s set ≡ set
unfolding with_signer
nobody s set h = rw h (at (is_signer s set))
  where
    at : (t : Bool) → cond t set set ≡ set
    at true = refl
    at false = refl

-- "adds nobody" twice
pub twice : (s set : ℕ) → with_signer s (with_signer s set) ≡ with_signer s set
twice s set = at (has_bit s) refl
  where
    at : (t : Bool) → has_bit s ≡ t → with_signer s (with_signer s set) ≡ with_signer s set
    at true b = again s (with_signer s set) b (becomes s set b)
    at false b = nobody s (with_signer s set) b

-- a set is the low byte of a wider number
pub low_byte : (s n : ℕ) → is_signer s (n % 256) ≡ is_signer s n
unfolding is_signer
low_byte s n = at (has_bit s) refl
  where
    at : (t : Bool) → has_bit s ≡ t → (t && eqb (bit (s - 1) (n % 256)) 1) ≡ (t && eqb (bit (s - 1) n) 1)
    at true b = ap (λ (x : ℕ). eqb x 1) (bit-low (s - 1) bit_count n (omega (arith, bit_in s b)))
    at false b = refl

-- the empty set has no signer
pub nobody-yet : (s : ℕ) → is_signer s 0 ≡ false
unfolding is_signer
nobody-yet s = at (has_bit s)
  where
    at : (t : Bool) → (t && eqb (bit (s - 1) 0) 1) ≡ false
    at true = ap (λ (x : ℕ). eqb (x % 2) 1) (zero-div (value_of s))
    at false = refl
