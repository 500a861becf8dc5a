-- The bank's own numbering: it passes over held numbers alone, stops at one that is not held, and with a place free passes over at
-- most seven; for of the places in use at least n - c hold a number from c to below n where all of these are held. Assumes nothing.
use Prim.Native.Nat.{ℕ, zero, suc, ◌+◌, ◌-◌, ◌≤◌, ◌<◌}
use mathlib.Core.Bool.{Bool, true, false, not, cond, ◌&&◌}
use mathlib.Core.List.{List, [], ◌∷◌}
use mathlib.Core.Path.{◌≡◌, refl, sym, ap, ◌∙◌}
use native.Mathlib.Omega.{arith}
use lib.Dec.{ltb, leb, eqb}
use lib.ListN.{length}
use borrow.Author.Tests.{eqb-true, eqb-false, ltb-true, lt-ltb, le-leb, ne_eqb}
use Rattle.octets.proofs.Tests.{never, and-true}
use Rattle.bank_state.specs.declared.state.Place.{Place}
use Rattle.bank_state.specs.Limits.{place_count}
use Rattle.bank_state.specs.Numbers.{first_unheld, next_number}
use Rattle.bank_state.specs.Rows.{first_of, count_of}
use Rattle.bank_state.specs.Search.{is_free, free_place, holds_number, find_number, is_number_held}
use Rattle.bank_state.specs.State.{Bank, series_of, with_series}
use Rattle.bank_state.proofs.Rows.{count-le}

-- ---- counts of two tests

module _ {A : Type 0} (p q : A → Bool) where
  -- at most as many pass where one test implies the other
  pub count-imp : ((x : A) → p x ≡ true → q x ≡ true) → (l : List A) → count_of p l ≤ count_of q l
  unfolding count_of
  count-imp h [] = omega arith
  count-imp h (x ∷ l) = at (p x) (q x) (h x) (count-imp h l)
    where
      at : (s t : Bool) → (s ≡ true → t ≡ true) → {m n : ℕ} → m ≤ n → cond s 1 0 + m ≤ cond t 1 0 + n
      at true true f k = omega arith
      at true false f k = never (f refl)
      at false true f k = omega arith
      at false false f k = omega arith

  module _ (r : A → Bool) where
    -- two tests that no element passes both, and a third that each of them implies
    pub count-apart : ((x : A) → p x ≡ true → q x ≡ false) → ((x : A) → p x ≡ true → r x ≡ true)
        → ((x : A) → q x ≡ true → r x ≡ true) → (l : List A) → count_of p l + count_of q l ≤ count_of r l
    unfolding count_of
    count-apart apart f g [] = omega arith
    count-apart apart f g (x ∷ l) = at (p x) (q x) (r x) (apart x) (f x) (g x) (count_of p l) (count_of q l)
        (count_of r l) (count-apart apart f g l)
      where
        at : (s t u : Bool) → (s ≡ true → t ≡ false) → (s ≡ true → u ≡ true) → (t ≡ true → u ≡ true) → (a b c : ℕ)
            → a + b ≤ c → (cond s 1 0 + a) + (cond t 1 0 + b) ≤ cond u 1 0 + c
        at true true u h f g a b c k = never (sym (h refl))
        at true false true h f g a b c k = omega arith
        at true false false h f g a b c k = never (f refl)
        at false true true h f g a b c k = omega arith
        at false true false h f g a b c k = never (g refl)
        at false false true h f g a b c k = omega arith
        at false false false h f g a b c k = omega arith

-- one that is found counts
pub count-found : {A : Type 0} (p : A → Bool) (l : List A) → first_of p l < length l → 1 ≤ count_of p l
unfolding first_of count_of
count-found p [] h = absurd (omega arith)
count-found p (x ∷ l) h = at (p x) (count-found p l) h
  where
    at : (t : Bool) {m n k : ℕ} → (k < n → 1 ≤ m) → cond t 0 (suc k) < suc n → 1 ≤ cond t 1 0 + m
    at true f h = omega arith
    at false f h = let a = f (omega arith) in omega arith

-- ---- of the places in use, those that hold a number from c to below n

module _ (s c : ℕ) where
  -- a place in use of subscriber s with such a number
  pub holds_from : ℕ → Place → Bool
  holds_from n p = not (is_free p.used) && eqb p.subscriber s && (leb c p.number && ltb p.number n)

  holds-in : (n : ℕ) → c ≤ n → (p : Place) → holds_number s n p ≡ true → holds_from (n + 1) p ≡ true
  unfolding holds_from holds_number
  holds-in n h p e =
      let a = and-true (not (is_free p.used) && eqb p.subscriber s) (eqb p.number n) e in
      let m = eqb-true p.number n a.1 in
      rw (a.0, le-leb c p.number (omega arith), lt-ltb p.number (n + 1) (omega arith))

  wider : (n : ℕ) (p : Place) → holds_from n p ≡ true → holds_from (n + 1) p ≡ true
  unfolding holds_from
  wider n p e =
      let a = and-true (not (is_free p.used) && eqb p.subscriber s) _ e in
      let b = and-true (leb c p.number) (ltb p.number n) a.1 in
      rw (a.0, b.0, lt-ltb p.number (n + 1) (omega (arith, ltb-true p.number n b.1)))

  other : (n : ℕ) (p : Place) → holds_from n p ≡ true → holds_number s n p ≡ false
  unfolding holds_from holds_number
  other n p e =
      let a = and-true (not (is_free p.used) && eqb p.subscriber s) _ e in
      let b = and-true (leb c p.number) (ltb p.number n) a.1 in
      let k = ltb-true p.number n b.1 in
      rw (a.0, ne_eqb p.number n (λ x. omega arith))

  module _ (b : Bank) (places : length b.places ≡ place_count) where
    -- all numbers from c to below n are held
    abbrev HeldTo : ℕ → Type 0
    HeldTo n = (m : ℕ) → c ≤ m → m < n → is_number_held s m b ≡ true

    one_holds : (n : ℕ) → is_number_held s n b ≡ true → 1 ≤ count_of (holds_number s n) b.places
    unfolding is_number_held find_number
    one_holds n e =
        count-found (holds_number s n) b.places
        (omega (arith, ltb-true (first_of (holds_number s n) b.places) place_count e))

    -- the law, by the distance
    holders-to : (k : ℕ) → HeldTo (c + k) → k ≤ count_of (holds_from (c + k)) b.places
    holders-to zero h = omega arith
    holders-to (suc k) h =
        let below = holders-to k (λ m x y. h m x (omega arith)) in
        let own = one_holds (c + k) (h (c + k) (omega arith) (omega arith)) in
        let both = count-apart (holds_from (c + k)) (holds_number s (c + k)) (holds_from (c + k + 1)) (other (c + k))
        (wider (c + k)) (holds-in (c + k) (omega arith)) b.places in
        let e : c + suc k ≡ c + k + 1 = omega arith in
        rw e (omega arith)

    -- at least n - c places in use hold a number from c to below n where all of these are held
    pub holders : (n : ℕ) → c ≤ n → HeldTo n → n - c ≤ count_of (holds_from n) b.places
    holders n h f =
        let e : c + (n - c) ≡ n = omega arith in
        rw e at (holders-to (n - c) (rw e f))

    -- so no more than the places
    pub held-most : (n : ℕ) → c ≤ n → HeldTo n → n ≤ c + place_count
    held-most n h f = omega (arith, holders n h f, count-le (holds_from n) b.places)

    -- and with a place free, one fewer
    in_use_lem : Place → Bool
    in_use_lem p = not (is_free p.used)

    free-counts : free_place b < place_count → count_of in_use_lem b.places + 1 ≤ place_count
    unfolding free_place in_use_lem
    free-counts h =
        let free = count-found (λ (p : Place). is_free p.used) b.places (omega arith) in
        let both = count-apart (λ (p : Place). is_free p.used) in_use_lem (λ (p : Place). true)
        (λ p e. ap not e) (λ p _. refl) (λ p _. refl) b.places in
        omega (arith, count-le (λ (p : Place). true) b.places)

    pub held-most-free : free_place b < place_count → (n : ℕ) → c ≤ n → HeldTo n → n < c + place_count
    unfolding holds_from in_use_lem
    held-most-free free n h f =
        let used = count-imp (holds_from n) in_use_lem
        (λ p e. (and-true (not (is_free p.used)) _ (and-true (not (is_free p.used) && eqb p.subscriber s) _ e).0).0)
        b.places in
        omega (arith, holders n h f, free-counts free)

-- ---- the search

module _ (s : ℕ) (b : Bank) where
  -- one number looked at
  pub unheld-here : (k n : ℕ) → is_number_held s n b ≡ false → first_unheld k s n b ≡ n
  unfolding first_unheld
  unheld-here zero n e = refl
  unheld-here (suc k) n e = rw e

  pub unheld-next : (k n : ℕ) → is_number_held s n b ≡ true → first_unheld (suc k) s n b ≡ first_unheld k s (n + 1) b
  unfolding first_unheld
  unheld-next k n e = rw e

  pub unheld-step : (k n : ℕ) → 0 < k → is_number_held s n b ≡ true → first_unheld k s n b ≡ first_unheld (k - 1) s (n + 1) b
  unheld-step zero n h e = absurd (omega arith)
  unheld-step (suc k) n h e = let z : suc k - 1 ≡ k = omega arith in rw z (unheld-next k n e)

  pub unheld-end : (k n : ℕ) → k ≤ 0 → first_unheld k s n b ≡ n
  unfolding first_unheld
  unheld-end zero n h = refl
  unheld-end (suc k) n h = absurd (omega arith)

  -- what it finds among k numbers from n on: all before are held, and it is not held unless all k are
  pub record Found (k n f : ℕ) : Type 0 where
    pub from : n ≤ f
    pub to : f ≤ n + k
    pub passed : (m : ℕ) → n ≤ m → m < f → is_number_held s m b ≡ true
    pub stops : f < n + k → is_number_held s f b ≡ false

  found-later : (k n g : ℕ) → is_number_held s n b ≡ true → Found k (n + 1) g → Found (suc k) n g
  found-later k n g e y = record {
    from = omega (arith, y.from);
    to = omega (arith, y.to);
    passed = λ m x w. by (eqb m n) m refl x w;
    stops = λ x. y.stops (omega arith);
  }
    where
      by : (t : Bool) (m : ℕ) → eqb m n ≡ t → n ≤ m → m < g → is_number_held s m b ≡ true
      by true m d x w = rw (eqb-true m n d) e
      by false m d x w = y.passed m (omega (arith, eqb-false m n d)) w

  pub found : (k n : ℕ) → Found k n (first_unheld k s n b)
  unfolding first_unheld
  found zero n = record {
    from = omega arith;
    to = omega arith;
    passed = λ m x w. absurd (omega arith);
    stops = λ x. absurd (omega arith);
  }
  found (suc k) n = at (is_number_held s n b) refl (found k (n + 1))
    where
      at : (t : Bool) → is_number_held s n b ≡ t → Found k (n + 1) (first_unheld k s (n + 1) b)
          → Found (suc k) n (cond t (first_unheld k s (n + 1) b) n)
      at true e y = found-later k n _ e y
      at false e y = record {
        from = omega arith;
        to = omega arith;
        passed = λ m x w. absurd (omega arith);
        stops = λ _. e;
      }

  -- the search goes by the places alone
  unheld-by-places : (l : List ℕ) (k n : ℕ) → first_unheld k s n (with_series l b) ≡ first_unheld k s n b
  unfolding first_unheld is_number_held find_number
  unheld-by-places l zero n = refl
  unheld-by-places l (suc k) n = rw (unheld-by-places l k (n + 1))

  -- ---- the bank's own number

  -- it goes by the places and by the subscriber's own series
  pub next-by-own : (l : List ℕ) → series_of s l ≡ series_of s b.series → next_number s (with_series l b) ≡ next_number s b
  unfolding next_number
  next-by-own l e = rw e (unheld-by-places l place_count (series_of s b.series))

  -- "the first number from its counter on"
  pub next-from : series_of s b.series ≤ next_number s b
  unfolding next_number
  next-from = (found place_count (series_of s b.series)).from

  -- those that it passes over are held
  pub next-passed : (m : ℕ) → series_of s b.series ≤ m → m < next_number s b → is_number_held s m b ≡ true
  unfolding next_number
  next-passed = (found place_count (series_of s b.series)).passed

  -- one of the first eight that it stops at is not held
  next-stops : next_number s b < series_of s b.series + place_count → is_number_held s (next_number s b) b ≡ false
  unfolding next_number
  next-stops = (found place_count (series_of s b.series)).stops

  module _ (places : length b.places ≡ place_count) where
    -- the number that follows eight held ones is held by no place
    last-unheld : (t : Bool) → is_number_held s (next_number s b) b ≡ t → t ≡ false
    last-unheld false e = refl
    last-unheld true e =
        let most = held-most s (series_of s b.series) b places (next_number s b + 1) (omega (arith, next-from)) (to-next e) in
        never (sym (sym e ∙ next-stops (omega arith)))
      where
        to-next : is_number_held s (next_number s b) b ≡ true → (m : ℕ) → series_of s b.series ≤ m → m < next_number s b + 1
            → is_number_held s m b ≡ true
        to-next e m x w = by (eqb m (next_number s b)) refl
          where
            by : (t : Bool) → eqb m (next_number s b) ≡ t → is_number_held s m b ≡ true
            by true d = rw (eqb-true m (next_number s b) d) e
            by false d = next-passed m x (omega (arith, eqb-false m (next_number s b) d))

    -- "that no open or booked upload of that subscriber and type holds"
    pub next-unheld : is_number_held s (next_number s b) b ≡ false
    next-unheld = last-unheld (is_number_held s (next_number s b) b) refl

    -- reading 11.3, "At most 7 are passed over in an accepted opening (one place is free)"
    pub next-within : free_place b < place_count → next_number s b < series_of s b.series + place_count
    next-within free =
        held-most-free s (series_of s b.series) b places free (next_number s b) next-from next-passed
