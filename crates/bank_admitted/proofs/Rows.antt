-- Laws of searches, counts and changed elements, beside those of bank_state, and of rows without gaps. Assumes nothing.
use Prim.Native.Nat.{ℕ, zero, suc, ◌+◌, ◌-◌, ◌≤◌, ◌<◌}
use mathlib.Core.Bool.{Bool, true, false, not, cond}
use mathlib.Core.List.{List, [], ◌∷◌, ◌++◌}
use mathlib.Core.Path.{◌≡◌, refl, sym, ap, ◌∙◌, subst}
use native.Mathlib.Decide.{ℕ_discrete}
use native.Mathlib.Omega.{arith}
use lib.ListN.{length, get_or, set, replicate}
use lib.Seq.{get_or-set_same, get_or-set_other}
use Rattle.octets.proofs.Tests.{never}
use Rattle.bank_state.specs.Rows.{first_of, count_of, keep, keep_only}
use Rattle.bank_admitted.specs.Packed.{AllFree, none, more, Packed, rest, one}

module _ {A : Type 0} (p : A → Bool) where
  -- an element that passes stands at the one found or behind it
  pub first-at-most : (l : List A) (d : A) (i : ℕ) → i < length l → p (get_or l i d) ≡ true → first_of p l ≤ i
  unfolding first_of
  first-at-most [] d i h e = absurd (omega arith)
  first-at-most (x ∷ l) d zero h e = rw e (omega arith)
  first-at-most (x ∷ l) d (suc i) h e = at (p x) (first-at-most l d i (omega arith) e)
    where
      at : (t : Bool) → first_of p l ≤ i → cond t 0 (suc (first_of p l)) ≤ suc i
      at true k = omega arith
      at false k = omega arith

  -- what is not counted everywhere is found
  pub first-if-few : (l : List A) → count_of (λ (x : A). not (p x)) l < length l → first_of p l < length l
  unfolding first_of count_of
  first-if-few [] h = absurd (omega arith)
  first-if-few (x ∷ l) h = at (p x) (first-if-few l) h
    where
      at : (t : Bool) → (count_of (λ (y : A). not (p y)) l < length l → first_of p l < length l)
          → cond (not t) 1 0 + count_of (λ (y : A). not (p y)) l < suc (length l) → cond t 0 (suc (first_of p l)) < suc (length l)
      at true f k = omega arith
      at false f k = let g = f (omega arith) in omega arith

  -- a row with one element changed: as many as before, one more or one less
  pub count_set : (l : List A) (i : ℕ) (x d : A) → i < length l →
      count_of p (set l i x) + cond (p (get_or l i d)) 1 0 ≡ count_of p l + cond (p x) 1 0
  unfolding count_of
  count_set [] i x d h = absurd (omega arith)
  count_set (y ∷ l) zero x d h = omega arith
  count_set (y ∷ l) (suc i) x d h = let e = count_set l i x d (omega arith) in omega arith

  pub count-set-le : (l : List A) (i : ℕ) (x d : A) → (p x ≡ true → p (get_or l i d) ≡ true) → count_of p (set l i x) ≤ count_of p l
  unfolding count_of
  count-set-le [] i x d f = omega arith
  count-set-le (y ∷ l) zero x d f = at (p x) (p y) f
    where
      at : (s t : Bool) → (s ≡ true → t ≡ true) → cond s 1 0 + count_of p l ≤ cond t 1 0 + count_of p l
      at true t g = rw (g refl) (omega arith)
      at false t g = omega arith
  count-set-le (y ∷ l) (suc i) x d f = let e = count-set-le l i x d f in omega arith

  pub count-set-suc : (l : List A) (i : ℕ) (x : A) → count_of p (set l i x) ≤ suc (count_of p l)
  unfolding count_of
  count-set-suc [] i x = omega arith
  count-set-suc (y ∷ l) zero x = at (p x) (p y)
    where
      at : (s t : Bool) → cond s 1 0 + count_of p l ≤ suc (cond t 1 0 + count_of p l)
      at true t = omega arith
      at false t = omega arith
  count-set-suc (y ∷ l) (suc i) x = let e = count-set-suc l i x in omega arith

-- rows of free elements
pub get_d-free : {A : Type 0} (free : A) (n i : ℕ) → get_or (replicate n free) i free ≡ free
get_d-free free zero i = refl
get_d-free free (suc n) zero = refl
get_d-free free (suc n) (suc i) = get_d-free free n i

pub free-replicate : {A : Type 0} (free : A) (n : ℕ) → AllFree free (replicate n free)
free-replicate free zero = none
free-replicate free (suc n) = more refl (free-replicate free n)

-- behind a row's end no element is used
pub used-inside : {A : Type 0} (used : A → Bool) (free : A) → used free ≡ false → (l : List A) (i : ℕ) → used (get_or l i free) ≡ true →
    i < length l
used-inside used free e [] i u = never (sym e ∙ u)
used-inside used free e (x ∷ l) zero u = omega arith
used-inside used free e (x ∷ l) (suc i) u = let h = used-inside used free e l i u in omega arith

-- what holds of a changed element and of the others holds of each element
pub each_set : {A : Type 0} (l : List A) (i : ℕ) (x d : A) → i < length l → (P : ℕ → A → Type 0) → P i x →
    ((j : ℕ) → (j ≡ i → ⊥) → P j (get_or l j d)) → (j : ℕ) → P j (get_or (set l i x) j d)
each_set {A} l i x d h P new others j = at (ℕ_discrete j i)
  where
    at : Dec (j ≡ i) → P j (get_or (set l i x) j d)
    at (yes e) = subst (λ (k : ℕ). P k (get_or (set l i x) k d)) (sym e) (rw (get_or-set_same l i x d h) new)
    at (no n) = rw (get_or-set_other l i j x d n) (others j n)

-- the same where every element holds, wherever the change is
pub each-set-all : {A : Type 0} (P : A → Type 0) (l : List A) (i : ℕ) (x d : A) → P x → ((j : ℕ) → P (get_or l j d)) → (j : ℕ) →
    P (get_or (set l i x) j d)
each-set-all P [] i x d new old j = old j
each-set-all P (y ∷ l) zero x d new old zero = new
each-set-all P (y ∷ l) zero x d new old (suc j) = old (suc j)
each-set-all P (y ∷ l) (suc i) x d new old zero = old 0
each-set-all P (y ∷ l) (suc i) x d new old (suc j) = each-set-all P l i x d new (λ k. old (suc k)) j

-- rows without gaps
module _ {A : Type 0} (used : A → Bool) (free : A) (number next : A → ℕ) where
  abbrev Row : ℕ → List A → Type 0
  Row m l = Packed used free number next m l

  packed-from : {m n : ℕ} {l : List A} → n ≤ m → Row m l → Row n l
  packed-from h (rest f) = rest f
  packed-from {n = n} h (one u k r) = one {m = n} u (omega arith) r

  free-append : {a b : List A} → AllFree free a → AllFree free b → AllFree free (a ++ b)
  free-append none g = g
  free-append (more e f) g = more e (free-append f g)

  packed-append : {m : ℕ} {a b : List A} → Row m a → AllFree free b → Row m (a ++ b)
  packed-append (rest f) g = rest (free-append f g)
  packed-append (one u k r) g = one u k (packed-append r g)

  module _ (p : A → Bool) (up : (x : A) → number x ≤ next x) where
    free-keep : {l : List A} → AllFree free l → AllFree free (keep p l)
    unfolding keep
    free-keep none = none
    free-keep (more {x = x} {l = l} e f) = at (p x) (free-keep f)
      where
        at : (t : Bool) → AllFree free (keep p l) → AllFree free (cond t (x ∷ keep p l) (keep p l))
        at true g = more e g
        at false g = g

    packed_keep : {m : ℕ} {l : List A} → Row m l → Row m (keep p l)
    unfolding keep
    packed_keep (rest f) = rest (free-keep f)
    packed_keep (one {m = m} {x = x} {l = l} u k r) = at (p x) (packed_keep r)
      where
        at : (t : Bool) → Packed used free number next (next x) (keep p l) →
            Packed used free number next m (cond t (x ∷ keep p l) (keep p l))
        at true g = one u k g
        at false g = packed-from (let z = up x in omega arith) g

    pub packed-keep_only : {m : ℕ} {l : List A} → Packed used free number next m l → Packed used free number next m (keep_only p free l)
    unfolding keep_only
    packed-keep_only {l = l} r = packed-append (packed_keep r) (free-replicate free (length l - length (keep p l)))

  -- one record changed that keeps its number
  pub packed-set : {m : ℕ} {l : List A} (i : ℕ) (y : A) → Packed used free number next m l → used (get_or l i free) ≡ true →
      used free ≡ false →
      used y ≡ true → number y ≡ number (get_or l i free) → next y ≡ next (get_or l i free) → Packed used free number next m (set l i y)
  packed-set i y (rest f) h e u v w = absurd (unused f i h)
    where
      unused : {k : List A} → AllFree free k → (j : ℕ) → used (get_or k j free) ≡ true → ⊥
      unused none j g = never (sym e ∙ g)
      unused (more q r) zero g = never (sym e ∙ (ap used (sym q) ∙ g))
      unused (more q r) (suc j) g = unused r j g
  packed-set {m} zero y (one {l = l} k g r) h e u v w = one {m = m} {l = l} u (omega arith) (rw w r)
  packed-set (suc i) y (one k g r) h e u v w = one k g (packed-set i y r h e u v w)

  -- a record more behind the used ones
  pub packed-add : {m : ℕ} {l : List A} (y : A) → Packed used free number next m l → used free ≡ false → used y ≡ true → m ≤ number y →
      ((i : ℕ) → used (get_or l i free) ≡ true → next (get_or l i free) ≤ number y) →
      Packed used free number next m (set l (first_of (λ (x : A). not (used x)) l) y)
  unfolding first_of
  packed-add y (rest none) e u k f = rest none
  packed-add y (rest (more {x = x} q r)) e u k f = rw (ap (λ (z : A). not (used z)) q ∙ ap not e) (one u k (rest r))
  packed-add y (one g h r) e u k f = rw g (one g h (packed-add y r e u (f 0 g) (λ i. f (suc i))))

  -- the used records rise
  module _ (none-used : used free ≡ false) (up : (x : A) → number x ≤ next x) where
    free-unused : {l : List A} → AllFree free l → (i : ℕ) → used (get_or l i free) ≡ true → ⊥
    free-unused none i g = never (sym none-used ∙ g)
    free-unused (more q r) zero g = never (sym none-used ∙ (ap used (sym q) ∙ g))
    free-unused (more q r) (suc i) g = free-unused r i g

    packed-low : {m : ℕ} {l : List A} → Packed used free number next m l → (i : ℕ) → used (get_or l i free) ≡ true →
        m ≤ number (get_or l i free)
    packed-low (rest f) i g = absurd (free-unused f i g)
    packed-low (one u k r) zero g = k
    packed-low (one {x = x} u k r) (suc i) g = let a = packed-low r i g in let b = up x in omega arith

    pub packed-rises : {m : ℕ} {l : List A} → Packed used free number next m l → (i j : ℕ) → i < j → used (get_or l j free) ≡ true →
        next (get_or l i free) ≤ number (get_or l j free)
    packed-rises (rest f) i j h g = absurd (free-unused f j g)
    packed-rises (one u k r) zero zero h g = absurd (omega arith)
    packed-rises (one u k r) (suc i) zero h g = absurd (omega arith)
    packed-rises (one u k r) zero (suc j) h g = packed-low r j g
    packed-rises (one u k r) (suc i) (suc j) h g = packed-rises r i j (omega arith) g
