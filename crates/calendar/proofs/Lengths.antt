-- The lengths of years and months: leap years case by case, and what the days of whole years and months add up to.
-- Assumes nothing.
use Prim.Native.Nat.{ℕ, zero, suc, ◌+◌, ◌*◌, ◌/◌, ◌%◌, ◌≤◌, ◌<◌}
use mathlib.Core.Bool.{Bool, true, false}
use mathlib.Core.Path.{◌≡◌, refl}
use native.Mathlib.Omega.{arith}
use native.Mathlib.Numerals.{add-one}
use lib.Dec.{eqb}
use borrow.Author.Tests.{eqb-true, eqb-false, eq-eqb, ne_eqb}
use Rattle.calendar.specs.Dates.{is_leap, leap_day, year_days, month_days, total, year_start, month_start}
use Rattle.calendar.specs.Dates.{first_year, year_count, last_day, Spans}
use Rattle.calendar.proofs.Sums.{each_below, total-le}

-- the four kinds of years
pub data YearKind (y : ℕ) : Type 0 where
  four-hundred : y % 400 ≡ 0 → leap_day y ≡ 1 → YearKind y
  hundred : (y % 400 ≡ 0 → ⊥) → y % 100 ≡ 0 → leap_day y ≡ 0 → YearKind y
  fourth : (y % 100 ≡ 0 → ⊥) → y % 4 ≡ 0 → leap_day y ≡ 1 → YearKind y
  common : (y % 4 ≡ 0 → ⊥) → leap_day y ≡ 0 → YearKind y

pub leap-four-hundred : (y : ℕ) → y % 400 ≡ 0 → leap_day y ≡ 1
unfolding leap_day is_leap
leap-four-hundred y h = rw (eq-eqb (y % 4) 0 (omega arith), eq-eqb (y % 100) 0 (omega arith), eq-eqb (y % 400) 0 h)

pub leap-hundred : (y : ℕ) → (y % 400 ≡ 0 → ⊥) → y % 100 ≡ 0 → leap_day y ≡ 0
unfolding leap_day is_leap
leap-hundred y g h = rw (eq-eqb (y % 4) 0 (omega arith), eq-eqb (y % 100) 0 h, ne_eqb (y % 400) 0 g)

pub leap-fourth : (y : ℕ) → (y % 100 ≡ 0 → ⊥) → y % 4 ≡ 0 → leap_day y ≡ 1
unfolding leap_day is_leap
leap-fourth y g h = rw (eq-eqb (y % 4) 0 h, ne_eqb (y % 100) 0 g)

pub leap-common : (y : ℕ) → (y % 4 ≡ 0 → ⊥) → leap_day y ≡ 0
unfolding leap_day is_leap
leap-common y g = rw (ne_eqb (y % 4) 0 g)

kind-by : (y : ℕ) (a b c : Bool) → eqb (y % 400) 0 ≡ a → eqb (y % 100) 0 ≡ b → eqb (y % 4) 0 ≡ c → YearKind y
kind-by y true b c p q r = let h = eqb-true (y % 400) 0 p in four-hundred h (leap-four-hundred y h)
kind-by y false true c p q r =
    let g = eqb-false (y % 400) 0 p in let h = eqb-true (y % 100) 0 q in hundred g h (leap-hundred y g h)
kind-by y false false true p q r =
    let g = eqb-false (y % 100) 0 q in let h = eqb-true (y % 4) 0 r in fourth g h (leap-fourth y g h)
kind-by y false false false p q r = let g = eqb-false (y % 4) 0 r in common g (leap-common y g)

pub kind-of : (y : ℕ) → YearKind y
kind-of y = kind-by y (eqb (y % 400) 0) (eqb (y % 100) 0) (eqb (y % 4) 0) refl refl refl

leap-most-by : (y : ℕ) → YearKind y → leap_day y ≤ 1
leap-most-by y (four-hundred h e) = omega arith
leap-most-by y (hundred g h e) = omega arith
leap-most-by y (fourth g h e) = omega arith
leap-most-by y (common g e) = omega arith

pub leap-most : (y : ℕ) → leap_day y ≤ 1
leap-most y = leap-most-by y (kind-of y)

-- ---- years

-- a year more: the fourth years, without the hundreds, with the four hundreds
leap-count : (k : ℕ) → YearKind (first_year + k) → (suc k + 1) / 4 + (suc k + 369) / 400 + (k + 69) / 100
    ≡ leap_day (first_year + k) + (k + 1) / 4 + (k + 369) / 400 + (suc k + 69) / 100
leap-count k (four-hundred h e) = omega arith
leap-count k (hundred g h e) = omega arith
leap-count k (fourth g h e) = omega arith
leap-count k (common g e) = omega arith

add-year : (days k leap a b c d e f : ℕ) → days + c ≡ 365 * k + a + b → d + e + c ≡ leap + a + b + f
    → days + (365 + leap) + f ≡ 365 * suc k + d + e
add-year days k leap a b c d e f p q = omega arith

-- the days of the first k years
pub year-start : (k : ℕ) → year_start k + (k + 69) / 100 ≡ 365 * k + (k + 1) / 4 + (k + 369) / 400
unfolding total year_days
year-start zero = refl
year-start (suc k) = add-year _ k _ _ _ _ _ _ _ (year-start k) (leap-count k (kind-of (first_year + k)))

pub year-grows : (k : ℕ) → year_start (suc k) ≡ year_start k + (365 + leap_day (first_year + k))
unfolding total year_days
year-grows k = refl

-- ---- months

pub year-length : (y : ℕ) → month_start y 12 ≡ year_days y
unfolding total month_days year_days
year-length y = omega arith

DayPart : ℕ → ℕ → Type 0
DayPart y i = 1 ≤ month_days y (suc i)

pub month-length : (y i : ℕ) → i < 12 → 1 ≤ month_days y (suc i)
unfolding month_days DayPart
month-length y = each_below (DayPart y) 12 (omega arith)

-- ---- which year or month a day lies in: the spans are nearly as long as the longest

pub year-lengths : (k : ℕ) → (365 * k ≤ year_start k) × (year_start k ≤ 366 * k)
unfolding total year_days
year-lengths zero = omega arith
year-lengths (suc k) = let r = year-lengths k in let l = leap-most (first_year + k) in (omega arith, omega arith)

-- the days of the table's years
pub year-end : year_start year_count ≡ suc last_day
year-end = omega (arith, year-start year_count)

pub year-below : (k n : ℕ) → n ≤ last_day → year_start k ≤ n → k < year_count
year-below k n h g =
    let end = year-end in
    let late : (year_count ≤ k → ⊥) =
    λ e. let l = total-le (λ i. year_days (first_year + i)) year_count k e in omega arith in omega arith

pub year-next : (n k : ℕ) → n ≤ last_day → k ≡ n / 366 + 1 → year_start k ≤ n → Spans year_start k n × (k < year_count)
year-next n k h e g =
    let b = year-lengths (suc k) in
    let below = year-below k n h g in (record { from = g; to = omega arith }, below)

pub year-here : (n k : ℕ) → n ≤ last_day → k ≡ n / 366 → n < year_start (k + 1) → Spans year_start k n × (k < year_count)
year-here n k h e g =
    let b = year-lengths k in
    let from : year_start k ≤ n = omega arith in
    (record { from = from; to = rw add-one at g }, year-below k n h from)

MonthMost : ℕ → ℕ → Type 0
MonthMost y m = month_start y m ≤ 31 * m

pub month-most : (y m : ℕ) → m < 13 → month_start y m ≤ 31 * m
unfolding total month_days MonthMost
month-most y = let l = leap-most y in each_below (MonthMost y) 13 (omega arith)

MonthLeast : ℕ → ℕ → Type 0
MonthLeast y m = 31 * m ≤ month_start y (suc m)

month-least : (y m : ℕ) → m < 12 → 31 * m ≤ month_start y (suc m)
unfolding total month_days MonthLeast
month-least y = each_below (MonthLeast y) 12 (omega arith)

month-below : (y m n : ℕ) → n < 365 + leap_day y → month_start y m ≤ n → m < 12
unfolding year_days
month-below y m n h g =
    let end = year-length y in
    let late : (12 ≤ m → ⊥) = λ e. let l = total-le (λ i. month_days y (suc i)) 12 m e in omega arith in omega arith

pub month-next : (y n m : ℕ) → n < 365 + leap_day y → m ≡ n / 31 + 1 → month_start y m ≤ n
    → Spans (month_start y) m n × (m < 12)
month-next y n m h e g =
    let below = month-below y m n h g in
    let b = month-least y m below in (record { from = g; to = omega arith }, below)

pub month-here : (y n m : ℕ) → n < 365 + leap_day y → m ≡ n / 31 → n < month_start y (m + 1)
    → Spans (month_start y) m n × (m < 12)
month-here y n m h e g =
    let l = leap-most y in
    let below : m < 12 = omega arith in
    let b = month-most y m (omega arith) in (record { from = omega arith; to = rw add-one at g }, below)

-- ---- the months of a year by those of 1970, which was no leap year

Early : ℕ → ℕ → Type 0
Early y m = month_start first_year m ≡ month_start y m

pub early-month : (y m : ℕ) → m < 2 → month_start first_year m ≡ month_start y m
unfolding total month_days Early
early-month y = each_below (Early y) 2 (omega arith)

Late : ℕ → ℕ → Type 0
Late y m = 2 ≤ m → month_start first_year m + leap_day y ≡ month_start y m

pub late-month : (y m : ℕ) → m < 13 → 2 ≤ m → month_start first_year m + leap_day y ≡ month_start y m
unfolding total month_days leap_day is_leap Late
late-month y = each_below (Late y) 13 (omega arith)
