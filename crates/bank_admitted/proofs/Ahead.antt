-- Card 11, the counters and the numbers chosen ahead of them, all together. A number that the bank's own numbering passes
-- over is held by a place that was ahead of the counter and is no more, so that the sum stays; the number that it takes
-- raises the sum by one, and so does at most a chosen one, as its opening raises the openings. Assumes nothing.
use Prim.Native.Nat.{ℕ, zero, suc, ◌+◌, ◌-◌, ◌≤◌, ◌<◌}
use mathlib.Core.Bool.{Bool, true, false, not, cond, ◌&&◌}
use mathlib.Core.List.{List, [], ◌∷◌}
use mathlib.Core.Path.{◌≡◌, refl, ap, ◌∙◌}
use native.Mathlib.Omega.{arith}
use lib.Dec.{eqb}
use lib.ListN.{length, get_or, set}
use lib.Seq.{get_or-set_same}
use borrow.Author.Tests.{eqb-true, leb-true, le-leb, ltb-true, not-true}
use Rattle.octets.proofs.Tests.{and-true}
use Rattle.message.specs.Limits.{subscribers}
use Rattle.bank_state.specs.declared.state.Place.{Place}
use Rattle.bank_state.specs.Limits.{place_count, series_limit}
use Rattle.bank_state.specs.Numbers.{first_unheld, next_number}
use Rattle.bank_state.specs.Search.{is_free, holds_number, find_number, is_number_held}
use Rattle.bank_state.specs.State.{Bank, no_place, series_of}
use Rattle.bank_state.proofs.Numbers.{count-imp, count-apart, count-found}
use Rattle.bank_admitted.specs.State.{total, is_ahead, chosen_ahead, SeriesHold}
use Rattle.bank_admitted.proofs.Rows.{count-set-le, count-set-suc}
use Rattle.bank_admitted.proofs.Series.{Further, raised, total-set, limited-set}

-- ---- of one place

-- a place that is ahead is so of a counter that has come less far
ahead_before : (before after : List ℕ) → Further before after → (p : Place) → is_ahead after p ≡ true → is_ahead before p ≡ true
unfolding is_ahead
ahead_before before after f p h =
    let a = and-true (not (is_free p.used)) _ h in
    let l = leb-true (series_of p.subscriber after) p.number a.1 in
    rw (a.0, le-leb (series_of p.subscriber before) p.number (omega (arith, l, f p.subscriber)))

-- a place with a number below its subscriber's counter is not ahead
not-ahead : (series : List ℕ) (p : Place) → p.number < series_of p.subscriber series → is_ahead series p ≡ true → ⊥
unfolding is_ahead
not-ahead series p below h =
    let l = leb-true (series_of p.subscriber series) p.number (and-true (not (is_free p.used)) _ h).1 in omega arith

-- a place in use that was in use with the same subscriber and number is ahead where it was
pub ahead-stays : (series : List ℕ) (before after : Place)
    → (is_free after.used ≡ false
    → (is_free before.used ≡ false) × (after.subscriber ≡ before.subscriber) × (after.number ≡ before.number))
    → is_ahead series after ≡ true → is_ahead series before ≡ true
unfolding is_ahead
ahead-stays series before after same h =
    let a = and-true (not (is_free after.used)) _ h in
    let e = same (not-true (is_free after.used) a.0) in
    rw (e.0, ← e.1, ← e.2) a.1

-- ---- of all places

pub ahead-further : (before after : List ℕ) → Further before after → (l : List Place)
    → chosen_ahead after l ≤ chosen_ahead before l
unfolding chosen_ahead
ahead-further before after f l = count-imp (is_ahead after) (is_ahead before) (ahead_before before after f) l

-- a place changed that is not newly ahead
pub ahead-kept : (series : List ℕ) (l : List Place) (i : ℕ) (p : Place)
    → (is_ahead series p ≡ true → is_ahead series (get_or l i no_place) ≡ true) → chosen_ahead series (set l i p) ≤ chosen_ahead series l
unfolding chosen_ahead
ahead-kept series l i p f = count-set-le (is_ahead series) l i p no_place f

-- a place changed, whatever it becomes
pub ahead_more : (series : List ℕ) (l : List Place) (i : ℕ) (p : Place)
    → chosen_ahead series (set l i p) ≤ suc (chosen_ahead series l)
unfolding chosen_ahead
ahead_more series l i p = count-set-suc (is_ahead series) l i p

-- ---- one counter moved

set-le : (l : List ℕ) (i x y : ℕ) → x ≤ y → (j : ℕ) → get_or (set l i x) j 0 ≤ get_or (set l i y) j 0
set-le [] i x y h j = omega arith
set-le (z ∷ l) zero x y h zero = h
set-le (z ∷ l) zero x y h (suc j) = omega arith
set-le (z ∷ l) (suc i) x y h zero = omega arith
set-le (z ∷ l) (suc i) x y h (suc j) = set-le l i x y h j

module _ (b : Bank) (s : ℕ) (counters : length b.series ≡ place_count) (places : length b.places ≡ place_count)
    (known : 1 ≤ s) (most : s ≤ subscribers) where
  -- the series with the subscriber's counter at n
  abbrev pub to : ℕ → List ℕ
  to n = set b.series (s - 1) n

  inside : s - 1 < length b.series
  inside = omega arith

  pub to-own : (n : ℕ) → series_of s (to n) ≡ n
  unfolding series_of
  to-own n = get_or-set_same b.series (s - 1) n 0 inside

  to-total : (n : ℕ) → total (to n) + get_or b.series (s - 1) 0 ≡ total b.series + n
  to-total n = total-set b.series (s - 1) n inside

  to-further : (n m : ℕ) → n ≤ m → Further (to n) (to m)
  unfolding series_of
  to-further n m h t = set-le b.series (s - 1) n m h (t - 1)

  from-further : (n : ℕ) → series_of s b.series ≤ n → Further b.series (to n)
  unfolding series_of
  from-further n h t = raised b.series (s - 1) n h (t - 1)

  -- ---- a number passed over

  module _ (n : ℕ) where
    held-parts : (p : Place) → holds_number s n p ≡ true
        → (not (is_free p.used) ≡ true) × (p.subscriber ≡ s) × (p.number ≡ n)
    unfolding holds_number
    held-parts p h =
        let a = and-true (not (is_free p.used) && eqb p.subscriber s) (eqb p.number n) h in
        let c = and-true (not (is_free p.used)) (eqb p.subscriber s) a.0 in
        (c.0, eqb-true p.subscriber s c.1, eqb-true p.number n a.1)

    own-counter : (m : ℕ) (p : Place) → p.subscriber ≡ s → series_of p.subscriber (to m) ≡ m
    own-counter m p e = ap (λ (u : ℕ). series_of u (to m)) e ∙ to-own m

    no_more : (p : Place) → is_ahead (to (n + 1)) p ≡ true → holds_number s n p ≡ false
    no_more p h = at (holds_number s n p) refl
      where
        at : (t : Bool) → holds_number s n p ≡ t → t ≡ false
        at false e = refl
        at true e =
            let a = held-parts p e in
            absurd (not-ahead (to (n + 1)) p (omega (arith, a.2, own-counter (n + 1) p a.1)) h)

    was : (p : Place) → holds_number s n p ≡ true → is_ahead (to n) p ≡ true
    unfolding is_ahead
    was p h =
        let a = held-parts p h in
        rw (a.0, le-leb (series_of p.subscriber (to n)) p.number (omega (arith, a.2, own-counter n p a.1)))

    passed : is_number_held s n b ≡ true → chosen_ahead (to (n + 1)) b.places + 1 ≤ chosen_ahead (to n) b.places
    unfolding chosen_ahead is_number_held find_number
    passed h =
        let found = count-found (holds_number s n) b.places (omega (arith, ltb-true (find_number s n b) place_count h, places)) in
        let apart = count-apart (is_ahead (to (n + 1))) (holds_number s n) (is_ahead (to n)) no_more
        (ahead_before (to n) (to (n + 1)) (to-further n (n + 1) (omega arith))) was b.places in
        omega (arith, found, apart)

  -- ---- the bank's own number

  abbrev Sum : ℕ → ℕ → Type 0
  Sum o n = total (to n) + chosen_ahead (to n) b.places ≤ o

  passed-all : (o k n : ℕ) → Sum o n → Sum o (first_unheld k s n b)
  unfolding first_unheld
  passed-all o zero n h = h
  passed-all o (suc k) n h = at (is_number_held s n b) refl (passed-all o k (n + 1))
    where
      at : (t : Bool) → is_number_held s n b ≡ t → (Sum o (n + 1) → Sum o (first_unheld k s (n + 1) b))
          → Sum o (cond t (first_unheld k s (n + 1) b) n)
      at true e next = next (omega (arith, h, passed n e, to-total n, to-total (n + 1)))
      at false e next = h

  start : (o : ℕ) → total b.series + chosen_ahead b.series b.places ≤ o → Sum o (series_of s b.series)
  unfolding series_of
  start o h =
      let c = get_or b.series (s - 1) 0 in
      omega (arith, h, to-total c, ahead-further b.series (to c) (from-further c (omega arith)) b.places)

  -- an upload of the bank's own number: its counter comes to the number after it
  pub own-sum : (o i : ℕ) (p : Place) → total b.series + chosen_ahead b.series b.places ≤ o → p.subscriber ≡ s
      → p.number ≡ next_number s b
      → total (to (next_number s b + 1)) + chosen_ahead (to (next_number s b + 1)) (set b.places i p) ≤ o + 1
  unfolding next_number
  own-sum o i p h e f =
      let n = first_unheld place_count s (series_of s b.series) b in
      let sum = passed-all o place_count (series_of s b.series) (start o h) in
      let less = ahead-further (to n) (to (n + 1)) (to-further n (n + 1) (omega arith)) b.places in
      let kept = ahead-kept (to (n + 1)) b.places i p
      (λ z. absurd (not-ahead (to (n + 1)) p (omega (arith, f, own-counter n (n + 1) p e)) z)) in
      omega (arith, sum, less, kept, to-total n, to-total (n + 1))

-- an upload of a chosen number leaves the counters
pub chosen-sum : (series : List ℕ) (l : List Place) (o i : ℕ) (p : Place) → total series + chosen_ahead series l ≤ o
    → total series + chosen_ahead series (set l i p) ≤ o + 1
chosen-sum series l o i p h = omega (arith, h, ahead_more series l i p)

-- ---- what the series may hold after an upload's place has changed

-- of the bank's own number
pub own-holds : (b : Bank) (s : ℕ) → length b.series ≡ place_count → length b.places ≡ place_count → 1 ≤ s → s ≤ subscribers
    → (o i : ℕ) (p : Place) → SeriesHold o b.series b.places → next_number s b < series_limit → p.subscriber ≡ s
    → p.number ≡ next_number s b → SeriesHold (o + 1) (set b.series (s - 1) (next_number s b + 1)) (set b.places i p)
own-holds b s counters places known most o i p h below e f = record {
  limited = limited-set b.series (s - 1) (next_number s b + 1) (omega arith) (omega arith) h.limited;
  counted = own-sum b s counters places known most o i p h.counted e f;
}

-- of a chosen number: the counters stay
pub chosen-holds : {series : List ℕ} {l : List Place} (o i : ℕ) (p : Place) → SeriesHold o series l
    → SeriesHold (o + 1) series (set l i p)
chosen-holds {series} {l} o i p h = record {
  limited = h.limited;
  counted = chosen-sum series l o i p h.counted;
}

-- a place that is not newly ahead: a segment taken, booked, signed, cancelled or dropped
pub kept-holds : {series : List ℕ} {l : List Place} (o i : ℕ) (p : Place) → SeriesHold o series l
    → (is_ahead series p ≡ true → is_ahead series (get_or l i no_place) ≡ true) → SeriesHold o series (set l i p)
kept-holds {series} {l} o i p h f = record {
  limited = h.limited;
  counted = omega (arith, h.counted, ahead-kept series l i p f);
}
