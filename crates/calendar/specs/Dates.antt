-- Card 7's calendar, the Gregorian one from 1 January 1970 on: dates, and the number of a day, the days since then.
use Rattle.std.specs.Prelude.{ℕ, zero, suc, ◌+◌, ◌-◌, ◌%◌, ◌≤◌, ◌<◌, Bool, cond, not, ◌&&◌, ◌||◌, List, [], ◌∷◌, eqb, ltb, get_or}
use Rattle.calendar.specs.declared.dates.Date.{Date}

-- the rule of 4, 100 and 400: every fourth year is a leap year, of the full hundreds only every fourth
unfoldable pub is_leap : ℕ → Bool
is_leap y = eqb (y % 4) 0 && (not (eqb (y % 100) 0) || eqb (y % 400) 0)

-- the leap days of a year, one or none
unfoldable pub leap_day : ℕ → ℕ
leap_day y = cond (is_leap y) 1 0

-- the days of a year
unfoldable pub year_days : ℕ → ℕ
year_days y = 365 + leap_day y

-- the days of each month of a year, January first
abbrev pub month_lengths : ℕ → List ℕ
month_lengths y = 31 ∷ (28 + leap_day y) ∷ 31 ∷ 30 ∷ 31 ∷ 30 ∷ 31 ∷ 31 ∷ 30 ∷ 31 ∷ 30 ∷ 31 ∷ []

-- the days of month m of year y, where January is 1
unfoldable pub month_days : ℕ → ℕ → ℕ
month_days y zero = 0
month_days y (suc i) = get_or (month_lengths y) i 0

-- ---- a day, and the day after it

-- "from 1970 to 2199": the first year, and how many there are
abbrev pub first_year : ℕ
first_year = 1970

abbrev pub year_count : ℕ
year_count = 230

-- year, month and day
abbrev pub date_at : ℕ → ℕ → ℕ → Date
date_at y m d = record { year = y; month = m; day = d }

-- a day of the calendar
pub record Valid (d : Date) : Type 0 where
  pub year-from : first_year ≤ d.year
  pub month-from : 1 ≤ d.month
  pub month-to : d.month ≤ 12
  pub day-from : 1 ≤ d.day
  pub day-to : d.day ≤ month_days d.year d.month

-- the day after: the next of the month, the first of the next month, or 1 January of the next year
unfoldable pub next_date : Date → Date
next_date d =
    cond (ltb d.day (month_days d.year d.month)) (date_at d.year d.month (suc d.day))
    (cond (ltb d.month 12) (date_at d.year (suc d.month) 1) (date_at (suc d.year) 1 1))

-- day n: n days after 1 January 1970
unfoldable pub date_of : ℕ → Date
date_of zero = date_at first_year 1 1
date_of (suc n) = next_date (date_of n)

-- ---- the number of a day

-- the first n lengths together
unfoldable pub total : (ℕ → ℕ) → ℕ → ℕ
total size zero = 0
total size (suc n) = total size n + size n

-- the days of the first k years
abbrev pub year_start : ℕ → ℕ
year_start = total (λ k. year_days (first_year + k))

-- the days of the first m months of year y
abbrev pub month_start : ℕ → ℕ → ℕ
month_start y = total (λ m. month_days y (suc m))

-- the number of a day: the days of the years, of the months and of the month before it
unfoldable pub day_number : Date → ℕ
day_number d = year_start (d.year - first_year) + month_start d.year (d.month - 1) + (d.day - 1)

-- number n lies in year or month i, where each begins so
pub record Spans (start : ℕ → ℕ) (i n : ℕ) : Type 0 where
  pub from : start i ≤ n
  pub to : n < start (suc i)

-- the number of 31 December 2199
abbrev pub last_day : ℕ
last_day = 84005
