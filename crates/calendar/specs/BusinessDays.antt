-- Card 7's business days: of which days of the calendar, by their numbers, the bank is open.
use Rattle.std.specs.Prelude.{ℕ, zero, suc, ◌+◌, ◌%◌, Bool, false, cond, not, ◌&&◌, ◌||◌, List, [], ◌∷◌, eqb}
use Rattle.calendar.specs.declared.dates.Date.{Date}
use Rattle.calendar.specs.Dates.{date_of}
use Rattle.calendar.specs.Easter.{easter_number}

-- the days of the week count from Monday, which is 0
abbrev pub thursday : ℕ
thursday = 3

abbrev pub saturday : ℕ
saturday = 5

abbrev pub sunday : ℕ
sunday = 6

-- the weekday of day n: 1 January 1970 was a Thursday
unfoldable pub weekday_of : ℕ → ℕ
weekday_of n = (n + thursday) % 7

-- the date is this day of this month
unfoldable pub is_on : ℕ → ℕ → Date → Bool
is_on day month d = eqb d.day day && eqb d.month month

-- "Closed are Saturdays, Sundays, 1 January, Good Friday, Easter Monday, 1 May, 25 and 26 December.": a test for each,
-- of day n with this date, where the year's Easter Sunday has this number
abbrev pub closed_days : ℕ → Date → ℕ → List Bool
closed_days n d easter =
    -- "Saturdays, Sundays"
    eqb (weekday_of n) saturday
    ∷ eqb (weekday_of n) sunday
    -- "1 January"
    ∷ is_on 1 1 d
    -- "Good Friday, Easter Monday"
    ∷ eqb (n + 2) easter
    ∷ eqb n (easter + 1)
    -- "1 May, 25 and 26 December"
    ∷ is_on 1 5 d
    ∷ is_on 25 12 d
    ∷ is_on 26 12 d
    ∷ []

-- one of the tests holds
abbrev pub any : List Bool → Bool
any [] = false
any (t ∷ ts) = t || any ts

unfoldable pub is_closed : ℕ → Bool
is_closed n = any (closed_days n (date_of n) (easter_number (date_of n).year))

unfoldable pub is_business_day : ℕ → Bool
is_business_day n = not (is_closed n)

-- the first number from n on that passes the test, after at most k that do not
unfoldable pub first_from : (ℕ → Bool) → ℕ → ℕ → ℕ
first_from test zero n = n
first_from test (suc k) n = cond (test n) n (first_from test k (suc n))

-- the most closed days in a row, as from Good Friday to Easter Monday
abbrev pub longest_break : ℕ
longest_break = 4

-- the first business day from day n on
abbrev pub business_day_from : ℕ → ℕ
business_day_from = first_from is_business_day longest_break
