-- Card 7's call: "takes a booking time and gives year, month and day of execution". Times are milliseconds since 1970
-- UTC, any of 64 bits.
use Rattle.calendar.specs.declared.dates.Date.{Date}
use Rattle.number_table.specs.Numbers.{number_ten}
use Rattle.number_table.specs.declared.table.TooLate.{TooLate}
use Rattle.std.specs.Prelude.{Err, Ok, Result}
use Rattle.std.specs.Prelude.{ℕ, ◌+◌, ◌*◌, ◌/◌, ◌%◌, cond, List, [], ◌∷◌, ltb}
use Rattle.number_table.specs.Table as numbers
use Rattle.calendar.specs.Dates.{date_of, last_day}
use Rattle.calendar.specs.BusinessDays.{business_day_from}

abbrev pub hour : ℕ
hour = 3600000

abbrev pub day_length : ℕ
day_length = 24 * hour

-- "16:00:00.000 UTC"
abbrev pub cut_off : ℕ
cut_off = 16 * hour

-- the day of a booking, and its time of day
abbrev pub booking_day : ℕ → ℕ
booking_day time = time / day_length

abbrev pub time_of_day : ℕ → ℕ
time_of_day time = time % day_length

-- the first day that a booking may take: its own only before 16:00:00.000
unfoldable pub first_day : ℕ → ℕ
first_day time = cond (ltb (time_of_day time) cut_off) (booking_day time) (booking_day time + 1)

-- "A booking before 16:00:00.000 UTC on a business day takes that day, any other the next business day."
unfoldable pub execution_day : ℕ → ℕ
execution_day time = business_day_from (first_day time)

-- "It refuses, with number 10, a booking time whose value day would lie after 2199."
unfoldable pub value_day : ℕ → Result Date TooLate
value_day time = cond (ltb last_day (execution_day time)) (Err number_ten) (Ok (date_of (execution_day time)))

-- what the call gives: the answer, its number of document 02, 0 where it has none, and its values
pub record ValueDayCall : Type 0 where
  pub answer : Result Date TooLate
  pub number : ℕ
  pub values : List ℕ

-- of an answer: "year, month and day of execution", or the number
abbrev pub answered : Result Date TooLate → ValueDayCall
answered (Ok d) = record { answer = Ok d; number = 0; values = d.year ∷ d.month ∷ d.day ∷ [] }
answered (Err e) = record { answer = Err number_ten; number = numbers.too_late; values = [] }

abbrev pub value_day_call : ℕ → ValueDayCall
value_day_call time = answered (value_day time)
