-- Laws of counting in lists of transactions with their numbers: tests that balance, one of a list, and a list that has
-- exactly those that pass a test.
use Prim.Native.Nat.{ℕ, ◌+◌}
use mathlib.Core.Bool.{Bool, true, false, cond, not, ◌&&◌}
use mathlib.Core.List.Memᴰ.{head as here}
use mathlib.Core.List.Memᴰ.{not-nil as in-none}
use mathlib.Core.List.Memᴰ.{tail as there}
use mathlib.Core.List.{
  List,
  [],
  ◌∷◌,
  ◌++◌,
  Memᴰ as In,
}
use mathlib.Core.Logic.{◌⊎◌, inl, inr}
use mathlib.Core.Path.{◌≡◌, refl, sym, ap, ◌∙◌}
use native.Mathlib.Omega.{arith}
use lib.ListN.{length}
use Rattle.frame_table.specs.declared.fields.Bits128.{Bits128}
use Rattle.frame_table.specs.Names.{same_bits}
use Rattle.frame_table.proofs.Bits.{bits-same}
use Rattle.octets.proofs.Tests.{never, and-true, and-true-right}
use Rattle.message.proofs.Verdicts.{by-test}
use Rattle.bank_state.specs.Rows.{count_of, keep}
use Rattle.bank_history.specs.Status.{Numbered}
use Rattle.bank_history.proofs.Counts.{unit, count_same, count_none, count-two-less}
use Rattle.bank_history.proofs.Drops.{in_either}
use Rattle.bank_history.proofs.Entries.{same_bits_lem, other-bits, and_no}
use Rattle.bank_history.proofs.JournalCounts.{one-listed}

-- ---- three tests and three others

pub count-three : {A : Type 0} (p q r p' q' r' : A → Bool) (l : List A) →
    ((x : A) → In x l → unit (p x) + unit (q x) + unit (r x) ≡ unit (p' x) + unit (q' x) + unit (r' x)) →
    count_of p l + count_of q l + count_of r l ≡ count_of p' l + count_of q' l + count_of r' l
unfolding count_of
count-three p q r p' q' r' [] f = refl
count-three p q r p' q' r' (x ∷ l) f =
    let a = f x (here refl) in let b = count-three p q r p' q' r' l (λ y i. f y (there i)) in omega arith

-- two and two
pub count-balanced : {A : Type 0} (p q r s : A → Bool) (l : List A) →
    ((x : A) → In x l → unit (p x) + unit (q x) ≡ unit (r x) + unit (s x)) →
    count_of p l + count_of q l ≡ count_of r l + count_of s l
count-balanced {A} p q r s l f =
    let a = count-three p q (λ (x : A). false) r s (λ (x : A). false) l (λ x i. let b = f x i in omega arith) in
    omega arith

-- a fixed test before another, and after it
pub count-before : {A : Type 0} (b : Bool) (p : A → Bool) (l : List A) →
    count_of (λ (x : A). b && p x) l ≡ cond b (count_of p l) 0
count-before true p l = refl
count-before {A} false p l = count_none (λ (x : A). false) l (λ x i. refl)

pub count-after : {A : Type 0} (b : Bool) (p : A → Bool) (l : List A) →
    count_of (λ (x : A). p x && b) l ≡ cond b (count_of p l) 0
count-after {A} true p l = count_same (λ (x : A). p x && true) p l (λ x i. sym (and-true-right (p x)))
count-after {A} false p l = count_none (λ (x : A). p x && false) l (λ x i. and_no (p x))

-- those that pass a test are as many as are kept by it
pub length-keep : {A : Type 0} (p : A → Bool) (l : List A) → length (keep p l) ≡ count_of p l
unfolding keep count_of
length-keep p [] = refl
length-keep {A} p (x ∷ l) =
    let a = length-keep p l in
    by-test (λ (k : List A). length k ≡ unit (p x) + count_of p l) (p x) (λ z. rw z (omega arith))
    (λ z. rw z (omega arith))

-- in a list with its numbers each is there once
pub counted-once : {m : ℕ} {l : List Bits128} → Numbered m l → {t : Bits128} → In t l →
    count_of (λ (x : Bits128). same_bits x t) l ≡ 1
counted-once {l = l} r {t} i =
    let most = one-listed t r in
    let least = count-two-less (λ (x : Bits128). false) (λ (x : Bits128). false) (λ (x : Bits128). same_bits x t) l
    (λ x j. omega arith) i (rw (same_bits_lem t) (omega arith)) in
    omega arith

-- ---- a list without repetitions that has exactly those that pass a test

pub data Apart : List Bits128 → Type 0 where
  end : Apart []
  more : {t : Bits128} {l : List Bits128} → ((u : Bits128) → In u l → u.low ≡ t.low → ⊥) → Apart l → Apart (t ∷ l)

pub apart-append : {l m : List Bits128} → Apart l → Apart m →
    ((t u : Bits128) → In t l → In u m → t.low ≡ u.low → ⊥) → Apart (l ++ m)
apart-append end b f = b
apart-append {m = m} (more {t = t} {l = l} n a) b f =
    more (λ u i z. at u (in_either l m i) z) (apart-append a b (λ x y i j. f x y (there i) j))
  where
    at : (u : Bits128) → In u l ⊎ In u m → u.low ≡ t.low → ⊥
    at u (inl i) z = n u i z
    at u (inr i) z = f t u (here refl) i (sym z)

-- p, and not t
abbrev but : Bits128 → (Bits128 → Bool) → Bits128 → Bool
but t p x = p x && not (same_bits x t)

pub count-exact : {m : ℕ} {l : List Bits128} → Numbered m l → (p : Bits128 → Bool) {ids : List Bits128} → Apart ids →
    ((t : Bits128) → In t ids → In t l × (p t ≡ true)) → ((t : Bits128) → In t l → p t ≡ true → In t ids) →
    length ids ≡ count_of p l
count-exact {m} {l} r p end inside all = sym (count_none p l (λ t i. at t (p t) (all t i)))
  where
    at : (t : Bits128) (b : Bool) → (b ≡ true → In t []) → b ≡ false
    at t true f = absurd (in-none (f refl))
    at t false f = refl
count-exact {m} {l} r p (more {t = t} {l = ids} n a) inside all =
    let others = count-exact r (but t p) a rest kept in
    let once = counted-once r (inside t (here refl)).0 in
    let balance = count-balanced (but t p) (λ (x : Bits128). same_bits x t) p (λ (x : Bits128). false) l each in
    let zero = count_none (λ (x : Bits128). false) l (λ x i. refl) in
    omega arith
  where
    rest : (u : Bits128) → In u ids → In u l × (but t p u ≡ true)
    rest u i = let b = inside u (there i) in (b.0, rw (b.1, other-bits u t (n u i)))

    kept : (u : Bits128) → In u l → but t p u ≡ true → In u ids
    kept u i z = let y = and-true (p u) (not (same_bits u t)) z in at (all u i y.0) y.1
      where
        at : In u (t ∷ ids) → not (same_bits u t) ≡ true → In u ids
        at (here e) k = never (ap not (sym (ap (λ (x : Bits128). same_bits x t) e ∙ same_bits_lem t)) ∙ k)
        at (there j) k = j

    each : (x : Bits128) → In x l → unit (but t p x) + unit (same_bits x t) ≡ unit (p x) + unit false
    each x i = at (same_bits x t) refl (p x) refl
      where
        at : (b : Bool) → same_bits x t ≡ b → (c : Bool) → p x ≡ c → unit (c && not b) + unit b ≡ unit c + unit false
        at true z true y = refl
        at true z false y = never (sym y ∙ (ap p (bits-same x t z) ∙ (inside t (here refl)).1))
        at false z true y = refl
        at false z false y = refl
