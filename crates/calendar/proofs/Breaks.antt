-- At most four closed days stand in a row: of five days three are weekdays, a closed weekday is one of the six holidays
-- of its year, and no three of these lie within five days. Assumes nothing.
use Prim.Native.Nat.{ℕ, suc, ◌+◌, ◌-◌, ◌≤◌, ◌<◌}
use mathlib.Core.Bool.{Bool, true, false}
use mathlib.Core.List.{List, [], ◌∷◌}
use mathlib.Core.Path.{◌≡◌, refl, sym, ap, ◌∙◌}
use native.Mathlib.Omega.{arith}
use lib.Dec.{eqb}
use lib.ListN.{get_or, drop}
use borrow.Author.Tests.{eqb-true}
use Rattle.octets.proofs.Tests.{never, and-true}
use Rattle.calendar.specs.Dates.{leap_day, year_days, month_days, total, year_start, month_start, date_of}
use Rattle.calendar.specs.Dates.{first_year, Spans}
use Rattle.calendar.specs.Easter.{easter_count, easter_number}
use Rattle.calendar.specs.BusinessDays.{weekday_of, saturday, sunday, is_on, closed_days, any, is_closed}
use Rattle.calendar.specs.BusinessDays.{longest_break}
use Rattle.calendar.proofs.Sums.{Each, each_below, one_span}
use Rattle.calendar.proofs.Lengths.{leap-most, year-grows}
use Rattle.calendar.proofs.DateNumbers.{lies, valid-date, number-of-date}
use Rattle.calendar.proofs.EasterDays.{easter-count, easter-place}

-- ---- the six holidays of a year

-- as days of the year, counted from 0, with l leap days and Easter Sunday p days after 22 March
abbrev places : ℕ → ℕ → List ℕ
places l p = 0 ∷ (78 + l + p) ∷ (81 + l + p) ∷ (120 + l) ∷ (358 + l) ∷ (359 + l) ∷ []

abbrev place : ℕ → ℕ → ℕ → ℕ
place l p i = get_or (places l p) i 0

-- they stand in order
InOrder : ℕ → ℕ → ℕ → ℕ → Type 0
InOrder l p i j = place l p i < place l p j → i < j

-- and with one between them five days apart
FarApart : ℕ → ℕ → ℕ → ℕ → Type 0
FarApart l p i j = suc i < j → place l p i + 5 ≤ place l p j

PlaceMost : ℕ → ℕ → ℕ → Type 0
PlaceMost l p i = place l p i ≤ 359 + l

-- a fact of each two of the six
abbrev Pairs : (ℕ → ℕ → Type 0) → Type 0
Pairs P = Each (λ i. Each (P i) 6) 6

pair : (P : ℕ → ℕ → Type 0) → Pairs P → (i j : ℕ) → i < 6 → j < 6 → P i j
pair P all i j g h = each_below (P i) 6 (each_below (λ i. Each (P i) 6) 6 all i g) j h

module _ (l p : ℕ) (small : l ≤ 1) (bound : p ≤ 34) where
  all-in-order : Pairs (InOrder l p)
  unfolding InOrder
  all-in-order = (omega arith, (omega arith, (omega arith, (omega arith, (omega arith, (omega arith, tt))))))

  all-far-apart : Pairs (FarApart l p)
  unfolding FarApart
  all-far-apart = (omega arith, (omega arith, (omega arith, (omega arith, (omega arith, (omega arith, tt))))))

  in_order_lem : (i j : ℕ) → i < 6 → j < 6 → place l p i < place l p j → i < j
  unfolding InOrder
  in_order_lem = pair (InOrder l p) all-in-order

  far_apart : (i j : ℕ) → i < 6 → j < 6 → suc i < j → place l p i + 5 ≤ place l p j
  unfolding FarApart
  far_apart = pair (FarApart l p) all-far-apart

  place-most : (i : ℕ) → i < 6 → place l p i ≤ 359 + l
  unfolding PlaceMost
  place-most = each_below (PlaceMost l p) 6 (omega arith)

-- ---- the holidays of the year of index k

module _ (k : ℕ) where
  abbrev leap_in : ℕ
  leap_in = leap_day (first_year + k)

  abbrev easter_in : ℕ
  easter_in = easter_count (first_year + k) - 114

  leap-in : leap_in ≤ 1
  leap-in = leap-most (first_year + k)

  easter-in : easter_in ≤ 34
  easter-in = let b = easter-count (first_year + k) in omega arith

  -- day n is one of them
  record Holiday (n : ℕ) : Type 0 where
    pub index : ℕ
    pub small : index < 6
    pub at : n ≡ year_start k + place leap_in easter_in index

  -- no three lie within five days
  three-holidays : (x y z : ℕ) → x < y → y < z → z ≤ x + 4 → Holiday x → Holiday y → Holiday z → ⊥
  three-holidays x y z g h near a b c =
      let p = a.at in
      let q = b.at in
      let r = c.at in
      let order = in_order_lem leap_in easter_in leap-in easter-in in
      let first = order a.index b.index a.small b.small (omega arith) in
      let second = order b.index c.index b.small c.small (omega arith) in
      let far = far_apart leap_in easter_in leap-in easter-in a.index c.index a.small c.small (omega arith) in
      omega arith

-- ---- a closed weekday is a holiday of its year

abbrev year_index : ℕ → ℕ
year_index n = (date_of n).year - first_year

year-span : (n : ℕ) → Spans year_start (year_index n) n
year-span n = rw number-of-date at (lies (date_of n) (valid-date n)).year

located : (n : ℕ)
    → n ≡ year_start (year_index n) + (month_start (date_of n).year ((date_of n).month - 1) + ((date_of n).day - 1))
located n = sym (number-of-date n) ∙ (lies (date_of n) (valid-date n)).sum

same-year : (n : ℕ) → first_year + year_index n ≡ (date_of n).year
same-year n = let from = (valid-date n).year-from in omega arith

month-places : (y : ℕ) → (month_start y 0 ≡ 0) × (month_start y 4 ≡ 120 + leap_day y) × (month_start y 11 ≡ 334 + leap_day y)
unfolding total month_days
month-places y = (omega arith, omega arith, omega arith)

module _ (n : ℕ) where
  abbrev place_in : ℕ → ℕ
  place_in = place (leap_in (year_index n)) (easter_in (year_index n))

  -- on day a of month m
  fixed : (a m i : ℕ) → i < 6 → month_start (first_year + year_index n) (m - 1) + (a - 1) ≡ place_in i
      → is_on a m (date_of n) ≡ true → Holiday (year_index n) n
  unfolding is_on
  fixed a m i small e h =
      let both = and-true (eqb (date_of n).day a) (eqb (date_of n).month m) h in
      let start : month_start (date_of n).year ((date_of n).month - 1) ≡ month_start (first_year + year_index n) (m - 1) =
      rw (same-year n, eqb-true (date_of n).month m both.1) in
      let day = eqb-true (date_of n).day a both.0 in
      let at = located n in
      record { index = i; small = small; at = omega arith }

  easter-at : easter_number (date_of n).year
      ≡ year_start (year_index n) + (easter_count (first_year + year_index n) - 34 + leap_in (year_index n))
  easter-at = ap easter_number (sym (same-year n)) ∙ easter-place (year_index n)

  good-friday : eqb (n + 2) (easter_number (date_of n).year) ≡ true → Holiday (year_index n) n
  good-friday h =
      let at = eqb-true (n + 2) (easter_number (date_of n).year) h in
      let easter = easter-at in
      let b = easter-count (first_year + year_index n) in record { index = 1; small = omega arith; at = omega arith }

  easter-monday : eqb n (easter_number (date_of n).year + 1) ≡ true → Holiday (year_index n) n
  easter-monday h =
      let at = eqb-true n (easter_number (date_of n).year + 1) h in
      let easter = easter-at in
      let b = easter-count (first_year + year_index n) in record { index = 2; small = omega arith; at = omega arith }

  no-weekend : {A : Type 0} (d : ℕ) → weekday_of n < saturday → saturday ≤ d → eqb (weekday_of n) d ≡ true → A
  no-weekend d h g e = absurd (let f = eqb-true (weekday_of n) d e in omega arith)

by-any : {A : Type 0} (t : Bool) (ts : List Bool) → (t ≡ true → A) → (any ts ≡ true → A) → any (t ∷ ts) ≡ true → A
by-any true ts f g h = f refl
by-any false ts f g h = g h

closed-weekday : (n : ℕ) → is_closed n ≡ true → weekday_of n < saturday → Holiday (year_index n) n
unfolding is_closed
closed-weekday n h w =
    let starts = month-places (first_year + year_index n) in
    by-any (eqb (weekday_of n) saturday) (drop 1 tests) (no-weekend n saturday w (omega arith))
    (by-any (eqb (weekday_of n) sunday) (drop 2 tests) (no-weekend n sunday w (omega arith))
    (by-any (is_on 1 1 (date_of n)) (drop 3 tests) (fixed n 1 1 0 (omega arith) (omega arith))
    (by-any (eqb (n + 2) (easter_number (date_of n).year)) (drop 4 tests) (good-friday n)
    (by-any (eqb n (easter_number (date_of n).year + 1)) (drop 5 tests) (easter-monday n)
    (by-any (is_on 1 5 (date_of n)) (drop 6 tests) (fixed n 1 5 3 (omega arith) (omega arith))
    (by-any (is_on 25 12 (date_of n)) (drop 7 tests) (fixed n 25 12 4 (omega arith) (omega arith))
    (by-any (is_on 26 12 (date_of n)) [] (fixed n 26 12 5 (omega arith) (omega arith)) never)))))))
    h
  where
    tests : List Bool
    tests = closed_days n (date_of n) (easter_number (date_of n).year)

-- what is closed up to four days after a holiday is one of the same year
holiday-near : (k x y : ℕ) → x ≤ y → y ≤ x + 4 → Holiday k x → is_closed y ≡ true → weekday_of y < saturday → Holiday k y
holiday-near k x y g h a c w =
    let at = a.at in
    let most = place-most (leap_in k) (easter_in k) (leap-in k) (easter-in k) a.index a.small in
    let grows = year-grows k in
    let span : Spans year_start k y = record { from = omega arith; to = omega arith } in
    let same : year_index y ≡ k = one_span (λ i. year_days (first_year + i)) _ _ _ (year-span y) span in
    rw same at (closed-weekday y c w)

-- ---- five days

module _ (n : ℕ) (closed : (m : ℕ) → n ≤ m → m ≤ n + longest_break → is_closed m ≡ true) where
  abbrev Weekdays : ℕ → ℕ → ℕ → Type 0
  Weekdays x y z = (weekday_of x < saturday) × (weekday_of y < saturday) × (weekday_of z < saturday)

  three-weekdays : (x y z : ℕ) → (n ≤ x) × (x < y) × (y < z) × (z ≤ n + 4) → Weekdays x y z → ⊥
  three-weekdays x y z o w =
      let a = closed-weekday x (closed x (omega arith) (omega arith)) w.0 in
      let b = holiday-near _ x y (omega arith) (omega arith) a (closed y (omega arith) (omega arith)) w.1 in
      let c = holiday-near _ x z (omega arith) (omega arith) a (closed z (omega arith) (omega arith)) w.2 in
      three-holidays _ x y z (omega arith) (omega arith) (omega arith) a b c

  -- no five days in a row are closed
  pub five-days : ⊥
  unfolding weekday_of
  five-days =
      let monday : (weekday_of n < 3 → ⊥) = λ w. three-weekdays n (n + 1) (n + 2) (omega arith) (omega arith) in
      let thursday : (weekday_of n ≡ 3 → ⊥) = λ w. three-weekdays n (n + 1) (n + 4) (omega arith) (omega arith) in
      let friday : (weekday_of n ≡ 4 → ⊥) = λ w. three-weekdays n (n + 3) (n + 4) (omega arith) (omega arith) in
      let saturday : (weekday_of n ≡ 5 → ⊥) = λ w. three-weekdays (n + 2) (n + 3) (n + 4) (omega arith) (omega arith) in
      let sunday : (weekday_of n ≡ 6 → ⊥) = λ w. three-weekdays (n + 1) (n + 2) (n + 3) (omega arith) (omega arith) in
      omega arith
