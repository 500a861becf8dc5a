-- A date and its number are each other's: every number has one valid date, the one so many days after 1 January 1970.
-- Assumes nothing.
use Prim.Native.Nat.{ℕ, zero, suc, ◌+◌, ◌-◌, ◌≤◌, ◌<◌}
use mathlib.Core.Bool.{Bool, true, false}
use mathlib.Core.Path.{◌≡◌, refl, sym, ap, ◌∙◌}
use native.Mathlib.Omega.{arith}
use lib.Dec.{ltb}
use borrow.Author.Tests.{ltb-true, ltb-false}
use Rattle.calendar.specs.declared.dates.Date.{Date}
use Rattle.calendar.specs.Dates.{leap_day, year_days, month_days, total, year_start, month_start, day_number}
use Rattle.calendar.specs.Dates.{date_at, next_date, date_of, first_year, Valid, Spans}
use Rattle.calendar.proofs.Sums.{total-le, one_span}
use Rattle.calendar.proofs.Lengths.{year-length, month-length}

month-step : (y m : ℕ) → 1 ≤ m → month_start y m ≡ month_start y (m - 1) + month_days y m
unfolding total
month-step y zero h = absurd (omega arith)
month-step y (suc i) h = let e : suc i - 1 ≡ i = omega arith in rw e

year-step : (y : ℕ) → first_year ≤ y → year_start (suc y - first_year) ≡ year_start (y - first_year) + year_days y
unfolding total
year-step y h =
    let e : suc y - first_year ≡ suc (y - first_year) = omega arith in
    let f : first_year + (y - first_year) ≡ y = omega arith in
    rw (e, f)

no-months : (y : ℕ) → month_start y (1 - 1) ≡ 0
unfolding total
no-months y = refl

-- ---- a number's date

-- d is a valid date, and its number is n
pub record Dated (n : ℕ) (d : Date) : Type 0 where
  pub valid : Valid d
  pub number : day_number d ≡ n

-- the day after has the next number
module _ (d : Date) (v : Valid d) where
  within-month : d.day < month_days d.year d.month
      → Dated (suc (day_number d)) (date_at d.year d.month (suc d.day))
  unfolding day_number
  within-month h = record {
    valid = record {
      year-from = v.year-from;
      month-from = v.month-from;
      month-to = v.month-to;
      day-from = omega arith;
      day-to = h;
    };
    number = let f = v.day-from in omega arith;
  }

  next-month : month_days d.year d.month ≤ d.day → d.month < 12
      → Dated (suc (day_number d)) (date_at d.year (suc d.month) 1)
  unfolding day_number
  next-month g h = record {
    valid = record {
      year-from = v.year-from;
      month-from = omega arith;
      month-to = h;
      day-from = omega arith;
      day-to = month-length d.year d.month h;
    };
    number =
        let e : month_start d.year (suc d.month - 1) ≡ month_start d.year d.month =
        ap (month_start d.year) (omega arith) in
        let s = month-step d.year d.month v.month-from in
        let from = v.day-from in
        let to = v.day-to in
        omega arith;
  }

  next-year : month_days d.year d.month ≤ d.day → 12 ≤ d.month
      → Dated (suc (day_number d)) (date_at (suc d.year) 1 1)
  unfolding day_number
  next-year g h = record {
    valid = record {
      year-from = let f = v.year-from in omega arith;
      month-from = omega arith;
      month-to = omega arith;
      day-from = omega arith;
      day-to = month-length (suc d.year) 0 (omega arith);
    };
    number =
        let e : month_start d.year d.month ≡ month_start d.year 12 =
        ap (month_start d.year) (let to = v.month-to in omega arith) in
        let l = year-length d.year in
        let s = month-step d.year d.month v.month-from in
        let n = year-step d.year v.year-from in
        let z = no-months (suc d.year) in
        let from = v.day-from in
        let to = v.day-to in
        omega arith;
  }

  next-by : (a b : Bool) → ltb d.day (month_days d.year d.month) ≡ a → ltb d.month 12 ≡ b
      → Dated (suc (day_number d)) (next_date d)
  unfolding next_date
  next-by true b p q = rw p (within-month (ltb-true _ _ p))
  next-by false true p q = rw (p, q) (next-month (ltb-false _ _ p) (ltb-true _ _ q))
  next-by false false p q = rw (p, q) (next-year (ltb-false _ _ p) (ltb-false _ _ q))

first-dated : Dated 0 (date_at first_year 1 1)
unfolding day_number total
first-dated = record {
  valid = record {
    year-from = omega arith;
    month-from = omega arith;
    month-to = omega arith;
    day-from = omega arith;
    day-to = month-length first_year 0 (omega arith);
  };
  number = refl;
}

dated : (n : ℕ) → Dated n (date_of n)
unfolding date_of
dated zero = first-dated
dated (suc n) =
    let r = dated n in
    let s = next-by (date_of n) r.valid _ _ refl refl in
    record { valid = s.valid; number = s.number ∙ ap suc r.number }

-- day n, n days after 1 January 1970, is a date of the calendar
pub valid-date : (n : ℕ) → Valid (date_of n)
valid-date n = (dated n).valid

-- and its number is n: the count of days since 1 January 1970
pub number-of-date : (n : ℕ) → day_number (date_of n) ≡ n
number-of-date n = (dated n).number

-- ---- one date has a number

-- where a valid date lies: in its year, and so many days into the year in its month
pub record Lies (d : Date) (rest : ℕ) : Type 0 where
  pub sum : day_number d ≡ year_start (d.year - first_year) + rest
  pub year : Spans year_start (d.year - first_year) (day_number d)
  pub month : Spans (month_start d.year) (d.month - 1) rest

pub lies : (d : Date) → Valid d → Lies d (month_start d.year (d.month - 1) + (d.day - 1))
unfolding day_number
lies d v =
    let from = v.day-from in
    let to = v.day-to in
    let s = month-step d.year d.month v.month-from in
    let m : month_start d.year (suc (d.month - 1)) ≡ month_start d.year d.month =
    ap (month_start d.year) (let f = v.month-from in omega arith) in
    let l = total-le (λ i. month_days d.year (suc i)) d.month 12 v.month-to in
    let w = year-length d.year in
    let n = year-step d.year v.year-from in
    let y : year_start (suc (d.year - first_year)) ≡ year_start (suc d.year - first_year) =
    ap year_start (let f = v.year-from in omega arith) in
    record {
      sum = omega arith;
      year = record { from = omega arith; to = omega arith };
      month = record { from = omega arith; to = omega arith };
    }

made-same : (y z m n a b : ℕ) → y ≡ z → m ≡ n → a ≡ b → date_at y m a ≡ date_at z n b
made-same y z m n a b p q r = rw (p, q, r)

same-year : (d e : Date) → Valid d → Valid e → day_number d ≡ day_number e → d.year ≡ e.year
same-year d e v w h =
    let f = v.year-from in
    let g = w.year-from in
    let s = one_span (λ i. year_days (first_year + i)) (d.year - first_year) (e.year - first_year) (day_number d)
    (lies d v).year (rw h (lies e w).year) in
    omega arith

same_start : (y z i j : ℕ) → y ≡ z → i ≡ j → month_start y i ≡ month_start z j
same_start y z i j p q = rw (p, q)

same-month : (y z i j r s : ℕ) → y ≡ z → r ≡ s → Spans (month_start y) i r → Spans (month_start z) j s → i ≡ j
same-month y z i j r s p q a b = one_span (λ i. month_days y (suc i)) i j r a (rw (p, q) b)

-- two dates of the calendar with one number are the same
pub one-date : (d e : Date) → Valid d → Valid e → day_number d ≡ day_number e → d ≡ e
one-date d e v w h =
    let a = lies d v in
    let b = lies e w in
    let years = same-year d e v w h in
    let starts : year_start (d.year - first_year) ≡ year_start (e.year - first_year) = rw years in
    let sum = a.sum in
    let other-sum = b.sum in
    let months = same-month d.year e.year (d.month - 1) (e.month - 1) _ _ years (omega arith) a.month
    b.month in
    let begins = same_start d.year e.year (d.month - 1) (e.month - 1) years months in
    let valid = v in
    let other-valid = w in
    made-same d.year e.year d.month e.month d.day e.day years (omega arith) (omega arith)

-- a date of the calendar is the one of its number
pub date-of-number : (d : Date) (n : ℕ) → Valid d → day_number d ≡ n → date_of n ≡ d
date-of-number d n v h = one-date (date_of n) d (valid-date n) v (number-of-date n ∙ sym h)

-- ---- a date put together from the places of its year and its month

pub rest_below : (n k : ℕ) → Spans year_start k n → n - year_start k < 365 + leap_day (first_year + k)
unfolding total year_days
rest_below n k a = let to = a.to in let from = a.from in omega arith

built : (n k i : ℕ) → Spans year_start k n → Spans (month_start (first_year + k)) i (n - year_start k) → i < 12
    → date_of n ≡ date_at (first_year + k) (i + 1) (n - year_start k - month_start (first_year + k) i + 1)
unfolding day_number
built n k i a b h =
    let from = a.from in
    let begins = b.from in
    let ends = b.to in
    let next = month-step (first_year + k) (suc i) (omega arith) in
    let before : month_start (first_year + k) (suc i - 1) ≡ month_start (first_year + k) i =
    ap (month_start (first_year + k)) (omega arith) in
    let length : month_days (first_year + k) (i + 1) ≡ month_days (first_year + k) (suc i) =
    ap (month_days (first_year + k)) (omega arith) in
    let years : year_start (first_year + k - first_year) ≡ year_start k = ap year_start (omega arith) in
    let months : month_start (first_year + k) (i + 1 - 1) ≡ month_start (first_year + k) i =
    ap (month_start (first_year + k)) (omega arith) in
    date-of-number _ n
    (record {
      year-from = omega arith;
      month-from = omega arith;
      month-to = omega arith;
      day-from = omega arith;
      day-to = omega arith;
    })
    (omega arith)

-- the same with the two starts as the code has them
pub put-together : (n k i s t : ℕ) → s ≡ year_start k → t ≡ month_start (first_year + k) i → Spans year_start k n
    → Spans (month_start (first_year + k)) i (n - s) → i < 12 → date_at (first_year + k) (i + 1) (n - s - t + 1) ≡ date_of n
put-together n k i s t p q a b h = rw (p, q) (sym (built n k i a (rw p at b) h))
