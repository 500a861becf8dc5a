-- The ones of a u8 are the size of its set, by one test over its 256 values; a signer who was none makes one more.
-- Assumes nothing.
use Prim.Native.Nat.{ℕ, zero, suc, ◌+◌, ◌%◌, ◌≤◌, ◌<◌}
use mathlib.Core.Bool.{Bool, true, false, cond}
use mathlib.Core.Path.{◌≡◌, refl, ap}
use native.Mathlib.Nat.{add-suc}
use native.Mathlib.Omega.{arith}
use lib.Count.{ones, ones_in}
use lib.Dec.{eqb}
use borrow.Author.Tests.{eqb-true, eqb-false}
use Rattle.octets.proofs.Tests.{every, every-below}
use Rattle.signers.specs.Signers.{bit_count, has_bit, is_signer, with_signer, count_from, signer_count}
use Rattle.signers.proofs.Laws.{bit_in, becomes, others, again, low_byte}

-- the test of one value
abbrev is_size : ℕ → Bool
is_size set = eqb (ones set) (signer_count set)

all-sizes : every is_size 256 ≡ true
unfolding ones ones_in signer_count count_from is_signer has_bit
all-sizes = refl

-- "ones counted by the language's operation and equal to the set's size"
pub ones-are-size : (set : ℕ) → set < 256 → ones set ≡ signer_count set
ones-are-size set l = eqb-true (ones set) (signer_count set) (every-below is_size 256 all-sizes set l)

-- a set has at most as many signers as subscribers are counted
count-within : (s n set : ℕ) → count_from s n set ≤ n
unfolding count_from
count-within s zero set = omega arith
count-within s (suc n) set = at (is_signer s set) (count-within (suc s) n set)
  where
    at : (t : Bool) → count_from (suc s) n set ≤ n → cond t 1 0 + count_from (suc s) n set ≤ suc n
    at true h = omega (arith, h)
    at false h = omega (arith, h)

-- "the 8 subscribers"
pub count_most : (set : ℕ) → signer_count set ≤ bit_count
unfolding signer_count
count_most set = count-within 1 bit_count set

-- a set is the low byte of a wider number
count_low : (s n set : ℕ) → count_from s n (set % 256) ≡ count_from s n set
unfolding count_from
count_low s zero set = refl
count_low s (suc n) set = rw (low_byte s set, count_low (suc s) n set)

pub count-low-byte : (set : ℕ) → signer_count (set % 256) ≡ signer_count set
unfolding signer_count
count-low-byte set = count_low 1 bit_count set

-- the empty set has none
pub count_none : signer_count 0 ≡ 0
unfolding signer_count count_from is_signer has_bit
count_none = refl

-- ---- one signer more

module _ (s set : ℕ) (b : has_bit s ≡ true) where
  abbrev more : ℕ
  more = with_signer s set

  -- of the subscribers after it the count stays
  after : (n t : ℕ) → s < t → count_from t n more ≡ count_from t n set
  unfolding count_from
  after zero t l = refl
  after (suc n) t l = rw (others s set b t (λ e. omega (arith, e, l)), after n (suc t) (omega (arith, l)))

  -- where it is counted too, the count is one more
  counted : is_signer s set ≡ false → (n t : ℕ) → t ≤ s → s < t + n → count_from t n more ≡ suc (count_from t n set)
  unfolding count_from
  counted new zero t l m = absurd (omega (arith, l, m))
  counted new (suc n) t l m = at (eqb t s) refl (counted new n (suc t))
    where
      at : (u : Bool) → eqb t s ≡ u → (suc t ≤ s → s < suc t + n → count_from (suc t) n more ≡ suc (count_from (suc t) n set))
          → count_from t (suc n) more ≡ suc (count_from t (suc n) set)
      at true h further = let e = eqb-true t s h in rw (e, becomes s set b, new, after n (suc s) (omega arith)) (omega arith)
      at false h further =
          let d = eqb-false t s h in
          rw (others s set b t d, further (omega (arith, l, d)) (omega (arith, m)))
          (add-suc (cond (is_signer t set) 1 0) (count_from (suc t) n set))

  -- the count grows by one exactly where the subscriber was no signer
  pub count-grows : signer_count more ≡ cond (is_signer s set) (signer_count set) (suc (signer_count set))
  unfolding signer_count
  count-grows = at (is_signer s set) refl
    where
      at : (u : Bool) → is_signer s set ≡ u → signer_count more ≡ cond u (signer_count set) (suc (signer_count set))
      at true h = ap signer_count (again s set b h)
      at false h = let i = bit_in s b in counted h bit_count 1 i.0 (omega (arith, i.1))
