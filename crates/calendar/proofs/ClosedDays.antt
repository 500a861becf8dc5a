-- Weekdays from Thursday 1 January 1970 on; and closed days by the date and the Easter Sunday that the code has found.
-- Assumes nothing.
use Prim.Native.Nat.{ℕ, suc, ◌+◌, ◌-◌, ◌%◌, ◌≤◌, ◌<◌}
use mathlib.Core.Bool.{Bool}
use mathlib.Core.Path.{◌≡◌, refl, ◌∙◌}
use native.Mathlib.Omega.{arith}
use Rattle.calendar.specs.declared.dates.Date.{Date}
use Rattle.calendar.specs.Dates.{date_of, first_year, year_count, last_day}
use Rattle.calendar.specs.Easter.{easter_number}
use Rattle.calendar.specs.BusinessDays.{weekday_of, thursday, closed_days, any, is_closed}
use Rattle.calendar.proofs.Lengths.{year-below}
use Rattle.calendar.proofs.DateNumbers.{valid-date, number-of-date, lies}

-- 1 January 1970 is a Thursday, and each day's weekday follows the one before
pub first-weekday : weekday_of 0 ≡ thursday
unfolding weekday_of
first-weekday = refl

pub next-weekday : (n : ℕ) → weekday_of (suc n) ≡ (weekday_of n + 1) % 7
unfolding weekday_of
next-weekday n = omega arith

-- the tests of a day with a known date
pub closed_on : (n : ℕ) (d : Date) → date_of n ≡ d → is_closed n ≡ any (closed_days n d (easter_number d.year))
unfolding is_closed
closed_on n d e = rw e

-- the same with its year by the years before it
pub closed-as : (n e : ℕ) (d : Date) {r : Bool} → d ≡ date_of n → e ≡ easter_number (first_year + (d.year - first_year))
    → r ≡ any (closed_days n d e) → r ≡ is_closed n
unfolding is_closed
closed-as n e d p q h =
    let from = (valid-date n).year-from in
    let year : first_year + (d.year - first_year) ≡ (date_of n).year = rw p (omega arith) in
    let same : any (closed_days n d e) ≡ is_closed n = rw (q, year, p) in
    h ∙ same

-- the years of the table
pub year-of : (n : ℕ) → n ≤ last_day → (first_year ≤ (date_of n).year) × ((date_of n).year - first_year < year_count)
year-of n h =
    let from = (lies (date_of n) (valid-date n)).year.from in
    let number = number-of-date n in
    ((valid-date n).year-from, year-below ((date_of n).year - first_year) n h (omega arith))
