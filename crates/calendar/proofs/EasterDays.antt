-- Easter Sunday by the computus: from 22 March to 25 April in every year, a Sunday in each year of the table; its entry
-- and its day of the year. Assumes nothing.
use Prim.Native.Nat.{ℕ, suc, ◌+◌, ◌-◌, ◌*◌, ◌/◌, ◌%◌, ◌≤◌, ◌<◌}
use mathlib.Core.Bool.{Bool, true, false}
use mathlib.Core.Path.{◌≡◌, refl, ap}
use native.Mathlib.Omega.{arith}
use lib.Dec.{eqb, ltb}
use borrow.Author.Tests.{eqb-true, ltb-true, ltb-false}
use Rattle.octets.proofs.Tests.{every, every-below}
use Rattle.calendar.specs.Dates.{day_number, leap_day, year_days, month_days, total, year_start, month_start}
use Rattle.calendar.specs.Dates.{is_leap, first_year, year_count, last_day}
use Rattle.calendar.specs.BusinessDays.{weekday_of, sunday}
use Rattle.calendar.specs.Easter.{letter_a, letter_h, letter_l, letter_m, easter_count, easter_sunday}
use Rattle.calendar.specs.Easter.{easter_entry, easter_number}
use Rattle.calendar.proofs.Sums.{total-le}
use Rattle.calendar.proofs.Lengths.{leap-most, year-end, year-grows}

letter-h : (y : ℕ) → letter_h y < 30
unfolding letter_h
letter-h y = omega arith

letter-l : (y : ℕ) → letter_l y < 7
unfolding letter_l
letter-l y = omega arith

-- no difference in the letters is cut at 0, so that they are those of the source
uncut-by : (b f g : ℕ) → f ≡ (b + 8) / 25 → g ≡ (b - f + 1) / 3 → (f ≤ b) × (b / 4 + g ≤ b)
uncut-by b f g p q = (omega arith, omega arith)

pub record Uncut (y : ℕ) : Type 0 where
  pub in_g : (y / 100 + 8) / 25 ≤ y / 100
  pub in-h : y / 100 / 4 + (y / 100 - (y / 100 + 8) / 25 + 1) / 3 ≤ y / 100
  pub in-l : letter_h y + y % 100 % 4 ≤ 32
  pub in_count : 7 * letter_m y ≤ letter_h y + letter_l y + 114

pub uncut : (y : ℕ) → Uncut y
unfolding letter_m
uncut y =
    let century = uncut-by (y / 100) _ _ refl refl in
    let h = letter-h y in
    let l = letter-l y in
    record { in_g = century.0; in-h = century.1; in-l = omega arith; in_count = omega arith }

count_by : (a h l m : ℕ) → a < 19 → h < 30 → l < 7 → m ≡ (a + 11 * h + 22 * l) / 451
    → (114 ≤ h + l + 114 - 7 * m) × (h + l + 114 - 7 * m ≤ 148)
count_by a h l m p q r e = omega arith

-- 114 stands for 22 March, 148 for 25 April
pub easter-count : (y : ℕ) → (114 ≤ easter_count y) × (easter_count y ≤ 148)
unfolding letter_m
easter-count y = count_by (letter_a y) (letter_h y) (letter_l y) (letter_m y) (omega arith) (letter-h y) (letter-l y) refl

-- an entry's month and day are those of Easter Sunday
pub record EntryParts (y entry : ℕ) : Type 0 where
  pub month : entry / 100 ≡ (easter_sunday y).month
  pub day : entry % 100 ≡ (easter_sunday y).day
  pub month-from : 3 ≤ entry / 100
  pub month-to : entry / 100 ≤ 4
  pub day-from : 1 ≤ entry % 100

two_digits : (m d : ℕ) → d < 100 → ((100 * m + d) / 100 ≡ m) × ((100 * m + d) % 100 ≡ d)
two_digits m d h = (omega arith, omega arith)

pub entry-parts : (y : ℕ) → EntryParts y (easter_entry y)
unfolding easter_entry easter_sunday
entry-parts y =
    let b = easter-count y in
    let parts = two_digits (easter_count y / 31) (easter_count y % 31 + 1) (omega arith) in
    record {
      month = parts.0;
      day = parts.1;
      month-from = omega arith;
      month-to = omega arith;
      day-from = omega arith;
    }

-- the number of Easter Sunday by the parts of an entry
pub easter-by-entry : (k entry s t : ℕ) → entry ≡ easter_entry (first_year + k) → s ≡ year_start k
    → t ≡ month_start (first_year + k) (entry / 100 - 1) → s + t + entry % 100 - 1 ≡ easter_number (first_year + k)
unfolding easter_number day_number easter_sunday
easter-by-entry k entry s t e p q =
    let parts : EntryParts (first_year + k) entry = rw e (entry-parts (first_year + k)) in
    let years : year_start (first_year + k - first_year) ≡ year_start k = ap year_start (omega arith) in
    let months : month_start (first_year + k) ((easter_sunday (first_year + k)).month - 1) ≡ t =
    rw (q, parts.month) in
    let day = parts.day in
    let from = parts.day-from in
    omega arith

-- ---- the table

-- one test, computed: each is a Sunday
on-sunday : ℕ → Bool
on-sunday k = eqb (weekday_of (easter_number (first_year + k))) sunday

all-sundays : every on-sunday year_count ≡ true
unfolding on-sunday weekday_of easter_number easter_sunday letter_h letter_l letter_m
    day_number total year_days month_days leap_day is_leap
all-sundays = refl

pub easter-sunday : (k : ℕ) → k < year_count → weekday_of (easter_number (first_year + k)) ≡ sunday
unfolding on-sunday
easter-sunday k h = eqb-true _ _ (every-below on-sunday year_count all-sundays k h)

-- ---- the day of the year

before-march : (y : ℕ) → month_start y 2 ≡ 59 + leap_day y
unfolding total month_days
before-march y = omega arith

before-april : (y : ℕ) → month_start y 3 ≡ 90 + leap_day y
unfolding total month_days
before-april y = omega arith

month-by : (y n : ℕ) (t : Bool) → ltb n 124 ≡ t → 114 ≤ n → n ≤ 148
    → month_start y (n / 31 - 1) + (n % 31 + 1 - 1) ≡ n - 34 + leap_day y
month-by y n true e g h =
    let b = ltb-true n 124 e in
    let m : month_start y (n / 31 - 1) ≡ month_start y 2 = ap (month_start y) (omega arith) in
    let s = before-march y in
    omega arith
month-by y n false e g h =
    let b = ltb-false n 124 e in
    let m : month_start y (n / 31 - 1) ≡ month_start y 3 = ap (month_start y) (omega arith) in
    let s = before-april y in
    omega arith

-- 22 March is the 81st day of the year, in a leap year the 82nd
pub easter-place : (k : ℕ)
    → easter_number (first_year + k) ≡ year_start k + (easter_count (first_year + k) - 34 + leap_day (first_year + k))
unfolding easter_number day_number easter_sunday
easter-place k =
    let b = easter-count (first_year + k) in
    let years : year_start (first_year + k - first_year) ≡ year_start k = ap year_start (omega arith) in
    let m = month-by (first_year + k) (easter_count (first_year + k)) _ refl b.0 b.1 in
    omega arith

-- Easter Sunday of the table's years is no later than the last day
pub easter-most : (k : ℕ) → k < year_count → easter_number (first_year + k) ≤ last_day
easter-most k h =
    let b = easter-count (first_year + k) in
    let place = easter-place k in
    let leap = leap-most (first_year + k) in
    let later : year_start (suc k) ≤ year_start year_count =
    total-le (λ i. year_days (first_year + i)) (suc k) year_count h in
    let grows = year-grows k in
    let end = year-end in
    omega arith
