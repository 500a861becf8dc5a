-- What the shapes of tests tell, and what passes them: zeros, unused records, counts of a row, no two the same. Assumes
-- nothing.
use Prim.Native.Nat.{ℕ, zero, suc, ◌+◌, ◌-◌, ◌*◌, ◌≤◌, ◌<◌}
use mathlib.Core.Bool.{Bool, true, false, not, cond, ◌&&◌}
use mathlib.Core.List.{List, [], ◌∷◌}
use mathlib.Core.Path.{◌≡◌, refl, sym, ap, ◌∙◌}
use native.Mathlib.Nat.{add-zero, add-suc, mul-le-mul_right}
use native.Mathlib.Omega.{arith}
use lib.Dec.{eqb, ltb}
use lib.ListN.{length, get_or, take, drop, replicate, length-take}
use lib.Seq.{get_or-take, get_or-drop}
use borrow.Author.Tests.{eqb-true, eqb-false, eq-eqb, ltb-true, ltb-false, not-true}
use Rattle.octets.proofs.Tests.{and-true}
use Rattle.bank_state.specs.Rows.{count_of}
use Rattle.image_records.specs.Shapes.{every, count, distinct, all_zero, unused}
use Rattle.image_records.proofs.Shapes.{every-at, every-from}

-- ---- tests one after another

pub and_both : {a b : Bool} → a ≡ true → b ≡ true → (a && b) ≡ true
and_both e f = rw (e, f)

-- where a test holds, another does
pub implied : {a b : Bool} → cond a b true ≡ true → a ≡ true → b ≡ true
implied {a} {b} h e = rw e at h

pub implies-from : (a : Bool) {b : Bool} → (a ≡ true → b ≡ true) → cond a b true ≡ true
implies-from true f = f refl
implies-from false f = refl

-- ---- zeros

pub zeros-at : (l : List ℕ) → all_zero l ≡ true → (i : ℕ) → get_or l i 0 ≡ 0
unfolding all_zero
zeros-at [] h i = refl
zeros-at (x ∷ l) h zero = eqb-true x 0 (and-true (eqb x 0) (all_zero l) h).0
zeros-at (x ∷ l) h (suc i) = zeros-at l (and-true (eqb x 0) (all_zero l) h).1 i

pub zeros-from : (l : List ℕ) → ((i : ℕ) → i < length l → get_or l i 0 ≡ 0) → all_zero l ≡ true
unfolding all_zero
zeros-from [] f = refl
zeros-from (x ∷ l) f = rw (eq-eqb x 0 (f 0 (omega arith))) (zeros-from l (λ i h. f (suc i) (omega arith)))

pub zeros-are : (l : List ℕ) → all_zero l ≡ true → l ≡ replicate (length l) 0
unfolding all_zero
zeros-are [] h = refl
zeros-are (x ∷ l) h =
    let a = and-true (eqb x 0) (all_zero l) h in
    rw (eqb-true x 0 a.0) (ap (λ (r : List ℕ). 0 ∷ r) (zeros-are l a.1))

pub all-zeros : (n : ℕ) → all_zero (replicate n 0) ≡ true
unfolding all_zero
all-zeros zero = refl
all-zeros (suc n) = all-zeros n

-- ---- records not in use

-- a number by its record and its place in it
record Split (w j : ℕ) : Type 0 where
  index : ℕ
  part : ℕ
  is : j ≡ index * w + part
  below : part < w

split-next : (w j : ℕ) → 0 < w → (p : Split w j) (t : Bool) → ltb (suc p.part) w ≡ t → Split w (suc j)
split-next w j h p true e =
    record { index = p.index; part = suc p.part; is = omega (arith, p.is); below = ltb-true (suc p.part) w e }
split-next w j h p false e =
    let full = ltb-false (suc p.part) w e in
    record { index = suc p.index; part = 0; is = omega (arith, p.is, p.below); below = h }

split-of : (w j : ℕ) → 0 < w → Split w j
split-of w zero h = record { index = 0; part = 0; is = omega arith; below = h }
split-of w (suc j) h =
    let p = split-of w j h in
    split-next w j h p (ltb (suc p.part) w) refl

module _ (xs : List ℕ) (at w used all : ℕ) where
  pub unused-at : unused xs at w used all ≡ true → (j : ℕ) → used * w ≤ j → j < w * all → get_or xs (at + j) 0 ≡ 0
  unfolding unused
  unused-at h j low high =
      let n : ℕ = w * all - used * w in
      let k : ℕ = j - used * w in
      let e : at + j ≡ at + used * w + k = omega arith in
      ap (λ (i : ℕ). get_or xs i 0) e ∙ sym (get_or-drop (at + used * w) xs k 0)
      ∙ sym (get_or-take n (drop (at + used * w) xs) k 0 (omega arith)) ∙ zeros-at (take n (drop (at + used * w) xs)) h k

  pub unused-from : ((j : ℕ) → used * w ≤ j → j < w * all → get_or xs (at + j) 0 ≡ 0) → unused xs at w used all ≡ true
  unfolding unused
  unused-from f =
      let n : ℕ = w * all - used * w in
      let l : List ℕ = drop (at + used * w) xs in
      zeros-from (take n l)
      (λ i h.
      let k : i < n = omega (arith, length-take n l) in
      let e : at + used * w + i ≡ at + (used * w + i) = omega arith in
      get_or-take n l i 0 k ∙ get_or-drop (at + used * w) xs i 0 ∙ ap (λ (q : ℕ). get_or xs q 0) e
      ∙ f (used * w + i) (omega arith) (omega arith))

-- numbers by their records
module _ (w used all : ℕ) (some : 0 < w) (P : ℕ → Type 0) where
  pub by-record : ((i p : ℕ) → used ≤ i → i < all → p < w → P (i * w + p)) → (j : ℕ) → used * w ≤ j → j < w * all → P j
  by-record f j low high =
      let a = split-of w j some in
      rw a.is
      (f a.index a.part (least a (ltb a.index used) refl) (most a (ltb a.index all) refl) a.below)
    where
      least : (a : Split w j) (t : Bool) → ltb a.index used ≡ t → used ≤ a.index
      least a true e =
          absurd (omega (arith, mul-le-mul_right w (ltb-true a.index used e), a.is, a.below))
      least a false e = ltb-false a.index used e

      most : (a : Split w j) (t : Bool) → ltb a.index all ≡ t → a.index < all
      most a true e = ltb-true a.index all e
      most a false e = absurd (omega (arith, mul-le-mul_right w (ltb-false a.index all e), a.is))

  pub of-record : ((j : ℕ) → used * w ≤ j → j < w * all → P j) → (i p : ℕ) → used ≤ i → i < all → p < w → P (i * w + p)
  of-record f i p low high below =
      f (i * w + p) (omega (arith, mul-le-mul_right w low)) (omega (arith, mul-le-mul_right w high))

-- the facts of a record's parts, one by one
abbrev pub Below : (ℕ → Type 0) → ℕ → Type 0
Below P zero = Unit {0}
Below P (suc n) = Below P n × P n

below_last : (P : ℕ → Type 0) (n p : ℕ) (t : Bool) → eqb p n ≡ t → P n → (p < n → P p) → p < suc n → P p
below_last P n p true e last f h = rw (eqb-true p n e) last
below_last P n p false e last f h = f (let q = eqb-false p n e in omega arith)

pub below_at : (P : ℕ → Type 0) (n : ℕ) → Below P n → (p : ℕ) → p < n → P p
below_at P zero f p h = absurd (omega arith)
below_at P (suc n) f p h = below_last P n p (eqb p n) refl f.1 (below_at P n f.0 p) h

-- a part of a record not in use is 0, and records are not in use where each part is
module _ (xs : List ℕ) (at w used all : ℕ) (some : 0 < w) where
  pub unused-part : unused xs at w used all ≡ true → (i p q : ℕ) → used ≤ i → i < all → p < w → q ≡ at + (i * w + p)
      → get_or xs q 0 ≡ 0
  unused-part h i p q low high below e =
      ap (λ (k : ℕ). get_or xs k 0) e
      ∙ of-record w used all some (λ (j : ℕ). get_or xs (at + j) 0 ≡ 0) (unused-at xs at w used all h) i p low high below

  pub unused-parts : ((i : ℕ) → used ≤ i → i < all → Below (λ (p : ℕ). get_or xs (at + (i * w + p)) 0 ≡ 0) w)
      → unused xs at w used all ≡ true
  unused-parts f =
      unused-from xs at w used all
      (by-record w used all some (λ (j : ℕ). get_or xs (at + j) 0 ≡ 0)
      (λ i p low high. below_at (λ (q : ℕ). get_or xs (at + (i * w + q)) 0 ≡ 0) w (f i low high) p))

-- ---- how many

module _ (p : ℕ → Bool) where
  pub count-first : (n : ℕ) → count p (suc n) ≡ cond (p 0) 1 0 + count (λ i. p (suc i)) n
  unfolding count
  count-first zero = refl
  count-first (suc n) = let e = count-first n in omega arith

  pub count-two : (n k : ℕ) → count p (n + k) ≡ count p n + count (λ i. p (n + i)) k
  unfolding count
  count-two n zero = rw (add-zero n) (sym (add-zero (count p n)))
  count-two n (suc k) = let e = count-two n k in rw (add-suc n k) (omega arith)

  pub count-zero : (n : ℕ) → ((i : ℕ) → i < n → p i ≡ false) → count p n ≡ 0
  unfolding count
  count-zero zero f = refl
  count-zero (suc n) f = rw (f n (omega arith), count-zero n (λ i h. f i (omega arith)))

-- in a row as by index
pub count-row : {A : Type 0} (p : A → Bool) (l : List A) (d : A) → count_of p l ≡ count (λ i. p (get_or l i d)) (length l)
unfolding count_of count
count-row p [] d = refl
count-row p (x ∷ l) d =
    rw (count-row p l d) (sym (count-first (λ i. p (get_or (x ∷ l) i d)) (length l)))

-- ---- no two the same

module _ (same : ℕ → ℕ → Bool) (n : ℕ) where
  pub distinct-at : distinct same n ≡ true → (i j : ℕ) → i < n → j < i → same i j ≡ false
  unfolding distinct
  distinct-at h i j below less =
      let row : ℕ → Bool = λ k. every (λ l. not (same k l)) k in
      not-true (same i j) (every-at (λ l. not (same i l)) i j (every-at row n i h below) less)

  pub distinct_from : ((i j : ℕ) → i < n → j < i → same i j ≡ false) → distinct same n ≡ true
  unfolding distinct
  distinct_from f =
      let row : ℕ → Bool = λ k. every (λ l. not (same k l)) k in
      every-from row n (λ i below. every-from (λ l. not (same i l)) i (λ j less. ap not (f i j below less)))
