-- The card's example, its weekdays, the table's extremes, leap years, and the first and last times, computed.
-- Assumes nothing.
use Rattle.number_table.specs.Numbers.{number_ten}
use Rattle.number_table.specs.declared.table.TooLate.{TooLate}
use Rattle.std.specs.Prelude.{Err, Ok, Result}
use Prim.Native.Nat.{ℕ, ◌+◌}
use mathlib.Core.Bool.{Bool, true, ◌&&◌}
use mathlib.Core.List.{List, [], ◌∷◌, map}
use mathlib.Core.Path.{◌≡◌, refl, ap, ◌∙◌}
use native.Mathlib.Omega.{arith}
use lib.Dec.{leb}
use Rattle.octets.proofs.Tests.{every}
use Rattle.calendar.specs.declared.dates.Date.{Date}
use Rattle.calendar.specs.Dates.{is_leap, leap_day, year_days, month_days, total, day_number, next_date, date_of, date_at}
use Rattle.calendar.specs.Dates.{first_year, year_count, last_day}
use Rattle.calendar.specs.Easter.{letter_h, letter_l, letter_m, easter_sunday, easter_entry, easter_number}
use Rattle.calendar.specs.BusinessDays.{weekday_of, thursday, is_on, is_closed, is_business_day, first_from}
use Rattle.calendar.specs.ValueDay.{first_day, execution_day, value_day}
use Rattle.calendar.proofs.ExecutionDays.{last-date, last-business}
use Rattle.calendar.proofs.ValueDays.{refused, given, own-day}

abbrev on_day : ℕ → ℕ → ℕ → Result Date TooLate
on_day y m d = Ok (date_at y m d)

-- booking times with their value days
abbrev bookings : List (ℕ × Result Date TooLate)
bookings =
    -- "Thursday 28 March 2024 at 15:59:59.999 takes that day; at 16:00 it takes Tuesday 2 April."
    (1711641599999, on_day 2024 3 28)
    ∷ (1711641600000, on_day 2024 4 2)
    -- 1 January 1970, 00:00
    ∷ (0, on_day 1970 1 2)
    -- Christmas on a Thursday: 24 December 2008, 16:00
    ∷ (1230134400000, on_day 2008 12 29)
    ∷ []

all-bookings : map (λ row. value_day row.0) bookings ≡ map (λ row. row.1) bookings
unfolding value_day execution_day first_day first_from is_business_day is_closed is_on weekday_of
    easter_number easter_sunday letter_h letter_l letter_m
    day_number total year_days month_days leap_day is_leap date_of next_date
all-bookings = refl

-- the last time that is given a day, the first that is refused, and the largest of 64 bits
last-time : value_day 7258089599999 ≡ on_day 2199 12 31
last-time = given 7258089599999 (omega arith) ∙ ap Ok (ap date_of last-day ∙ last-date)
  where
    last-day : execution_day 7258089599999 ≡ last_day
    last-day = own-day 7258089599999 (omega arith) last-business

first-refused : value_day 7258089600000 ≡ Err number_ten
first-refused = refused 7258089600000 (omega arith)

largest-time : value_day 18446744073709551615 ≡ Err number_ten
largest-time = refused 18446744073709551615 (omega arith)

-- the card's weekdays, and that of the last day
abbrev tuesday : ℕ
tuesday = 1

abbrev weekdays : List (Date × ℕ)
weekdays = (date_at 2024 3 28, thursday) ∷ (date_at 2024 4 2, tuesday) ∷ (date_at 2199 12 31, tuesday) ∷ []

all-weekdays : map (λ row. weekday_of (day_number row.0)) weekdays ≡ map (λ row. row.1) weekdays
unfolding weekday_of day_number total year_days month_days leap_day is_leap
all-weekdays = refl

-- 2000 is a leap year, 2100 is none
abbrev februaries : List (Date × Date)
februaries = (date_at 2000 2 28, date_at 2000 2 29) ∷ (date_at 2100 2 28, date_at 2100 3 1) ∷ []

all-februaries : map (λ row. next_date row.0) februaries ≡ map (λ row. row.1) februaries
unfolding next_date month_days leap_day is_leap
all-februaries = refl

-- "Table extremes: 23 March (2008), 25 April (2038, 2190)": Easter Sundays, and no other of the table's is outside them
abbrev extremes : List Date
extremes = date_at 2008 3 23 ∷ date_at 2038 4 25 ∷ date_at 2190 4 25 ∷ []

all-extremes : map (λ d. easter_sunday d.year) extremes ≡ extremes
unfolding easter_sunday letter_h letter_l letter_m
all-extremes = refl

between-extremes : ℕ → Bool
between-extremes k = leb 323 (easter_entry (first_year + k)) && leb (easter_entry (first_year + k)) 425

all-between : every between-extremes year_count ≡ true
unfolding between-extremes easter_entry easter_sunday letter_h letter_l letter_m
all-between = refl
