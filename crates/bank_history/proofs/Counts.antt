-- How many of a list pass a test: laws of `count_of`.
use Prim.Native.Nat.{ℕ, ◌+◌, ◌≤◌}
use mathlib.Core.Bool.{Bool, true, false, cond, ◌&&◌}
use mathlib.Core.List.Memᴰ.{head as here}
use mathlib.Core.List.Memᴰ.{not-nil as in-none}
use mathlib.Core.List.Memᴰ.{tail as there}
use mathlib.Core.List.{
  List,
  [],
  ◌∷◌,
  ◌++◌,
  map,
  Memᴰ as In,
}
use mathlib.Core.Path.{◌≡◌, refl, ap, ◌∙◌, subst}
use native.Mathlib.Omega.{arith}
use Rattle.bank_state.specs.Rows.{count_of, keep}

abbrev pub unit : Bool → ℕ
unit b = cond b 1 0

pub count-append : {A : Type 0} (p : A → Bool) (l m : List A) → count_of p (l ++ m) ≡ count_of p l + count_of p m
unfolding count_of
count-append p [] m = omega arith
count-append p (x ∷ l) m = let z = count-append p l m in omega arith

pub count_map : {A B : Type 0} (p : B → Bool) (f : A → B) (l : List A) → count_of p (map f l) ≡ count_of (λ (x : A). p (f x)) l
unfolding count_of
count_map p f [] = refl
count_map p f (x ∷ l) = ap (λ (n : ℕ). unit (p (f x)) + n) (count_map p f l)

pub count-keep : {A : Type 0} (p q : A → Bool) (l : List A) → count_of p (keep q l) ≡ count_of (λ (x : A). q x && p x) l
unfolding count_of keep
count-keep p q [] = refl
count-keep {A} p q (x ∷ l) = at (q x) (count-keep p q l)
  where
    at : (b : Bool) → count_of p (keep q l) ≡ count_of (λ (y : A). q y && p y) l →
        count_of p (cond b (x ∷ keep q l) (keep q l)) ≡ unit (b && p x) + count_of (λ (y : A). q y && p y) l
    at true z = ap (λ (n : ℕ). unit (p x) + n) z
    at false z = let y = z in omega arith

pub count_same : {A : Type 0} (p q : A → Bool) (l : List A) → ((x : A) → In x l → p x ≡ q x) → count_of p l ≡ count_of q l
unfolding count_of
count_same p q [] f = refl
count_same p q (x ∷ l) f =
    ap (λ (b : Bool). unit b + count_of p l) (f x (here refl))
    ∙ ap (λ (n : ℕ). unit (q x) + n) (count_same p q l (λ y i. f y (there i)))

pub count_none : {A : Type 0} (p : A → Bool) (l : List A) → ((x : A) → In x l → p x ≡ false) → count_of p l ≡ 0
unfolding count_of
count_none p [] f = refl
count_none p (x ∷ l) f = rw (f x (here refl)) (let z = count_none p l (λ y i. f y (there i)) in omega arith)

pub count_less : {A : Type 0} (p q : A → Bool) (l : List A) → ((x : A) → In x l → unit (p x) ≤ unit (q x)) →
    count_of p l ≤ count_of q l
unfolding count_of
count_less p q [] f = omega arith
count_less p q (x ∷ l) f =
    let a = f x (here refl) in let b = count_less p q l (λ y i. f y (there i)) in omega arith

-- two tests that never pass together, and only where a third does
module _ {A : Type 0} (p q r : A → Bool) where
  pub count-two : (l : List A) → ((x : A) → In x l → unit (p x) + unit (q x) ≤ unit (r x)) →
      count_of p l + count_of q l ≤ count_of r l
  unfolding count_of
  count-two [] f = omega arith
  count-two (x ∷ l) f =
      let a = f x (here refl) in let b = count-two l (λ y i. f y (there i)) in omega arith

  -- and neither where the third does once
  pub count-two-less : (l : List A) → ((x : A) → In x l → unit (p x) + unit (q x) ≤ unit (r x)) → {y : A} → In y l →
      unit (p y) + unit (q y) + 1 ≤ unit (r y) →
      count_of p l + count_of q l + 1 ≤ count_of r l
  unfolding count_of
  count-two-less [] f i z = absurd (in-none i)
  count-two-less (x ∷ l) f {y} (here k) z =
      let a : unit (p x) + unit (q x) + 1 ≤ unit (r x) = subst (λ (m : A). unit (p m) + unit (q m) + 1 ≤ unit (r m)) k z in
      let b = count-two l (λ y i. f y (there i)) in
      omega arith
  count-two-less (x ∷ l) f {y} (there k) z =
      let a = f x (here refl) in
      let b = count-two-less l (λ m i. f m (there i)) k z in
      omega arith
