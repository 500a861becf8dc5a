-- The first business day from a day on: within five days there is one, since no five in a row are closed; and the last
-- day of the calendar is one, so that the search never leaves it. Assumes nothing.
use Prim.Native.Nat.{ℕ, ◌+◌, ◌≤◌, ◌<◌}
use mathlib.Core.Bool.{Bool, true, false, not}
use mathlib.Core.Path.{◌≡◌, refl, sym, ap, ◌∙◌}
use native.Mathlib.Omega.{arith}
use lib.Dec.{eqb}
use borrow.Author.Tests.{eqb-true, eqb-false}
use Rattle.octets.proofs.Tests.{never}
use Rattle.calendar.specs.Dates.{is_leap, leap_day, year_days, month_days, total, day_number, date_of, date_at, last_day}
use Rattle.calendar.specs.Easter.{letter_h, letter_l, letter_m, easter_sunday, easter_number}
use Rattle.calendar.specs.BusinessDays.{longest_break, weekday_of, is_on, is_closed, is_business_day, business_day_from}
use Rattle.calendar.proofs.DateNumbers.{date-of-number}
use Rattle.calendar.proofs.ClosedDays.{closed_on}
use Rattle.calendar.proofs.Search.{First, first, found}
use Rattle.calendar.proofs.Breaks.{five-days}

closed-no-business : (n : ℕ) → is_closed n ≡ true → is_business_day n ≡ false
unfolding is_business_day
closed-no-business n h = rw h

open-business : (n : ℕ) → is_closed n ≡ false → is_business_day n ≡ true
unfolding is_business_day
open-business n h = rw h

not-false : (t : Bool) → not t ≡ false → t ≡ true
not-false true h = refl
not-false false h = never (sym h)

no-business-closed : (n : ℕ) → is_business_day n ≡ false → is_closed n ≡ true
unfolding is_business_day
no-business-closed n h = not-false (is_closed n) h

-- no day of these is a business day
abbrev pub NoneFrom : ℕ → ℕ → Type 0
NoneFrom n m = (j : ℕ) → n ≤ j → j < m → is_business_day j ≡ false

-- at most four closed days stand in a row: five days in a row have a business day
pub within-five : (n : ℕ) → NoneFrom n (n + longest_break + 1) → ⊥
within-five n f = five-days n (λ m p q. no-business-closed m (f m p (omega arith)))

-- one day more
one_more : (n m j : ℕ) (t : Bool) → eqb j m ≡ t → NoneFrom n m → is_business_day m ≡ false → n ≤ j → j < m + 1
    → is_business_day j ≡ false
one_more n m j true e f c p q = ap is_business_day (eqb-true j m e) ∙ c
one_more n m j false e f c p q = f j p (let d = eqb-false j m e in omega arith)

none_more : (n m : ℕ) → NoneFrom n m → is_business_day m ≡ false → NoneFrom n (m + 1)
none_more n m f c j = one_more n m j (eqb j m) refl f c

-- ---- what the search gives

pub searched : (n : ℕ) → First is_business_day longest_break n (business_day_from n)
searched n = first is_business_day longest_break n

business-by : (n : ℕ) (t : Bool) → is_business_day (business_day_from n) ≡ t → t ≡ true
business-by n true e = refl
business-by n false e =
    let end = (searched n).end e in
    let none = none_more n (business_day_from n) (searched n).between e in
    absurd (within-five n (λ j p q. none j p (omega arith)))

-- every search finds a business day
pub business-found : (n : ℕ) → is_business_day (business_day_from n) ≡ true
business-found n = business-by n (is_business_day (business_day_from n)) refl

-- ---- the last day of the calendar

pub last-date : date_of last_day ≡ date_at 2199 12 31
unfolding day_number total year_days month_days leap_day is_leap
last-date =
    date-of-number (date_at 2199 12 31) last_day
    (record {
      year-from = omega arith;
      month-from = omega arith;
      month-to = omega arith;
      day-from = omega arith;
      day-to = omega arith;
    })
    refl

pub last-open : is_closed last_day ≡ false
unfolding weekday_of is_on easter_number easter_sunday letter_h letter_l letter_m
    day_number total year_days month_days leap_day is_leap
last-open = closed_on last_day (date_at 2199 12 31) last-date

pub last-business : is_business_day last_day ≡ true
last-business = open-business last_day last-open

-- the search from a day of the calendar ends in it
pub found-by-last : (n : ℕ) → n ≤ last_day → business_day_from n ≤ last_day
found-by-last n h =
    let late : (last_day < business_day_from n → ⊥) = λ l. never (sym ((searched n).between last_day h l) ∙ last-business) in
    omega arith

-- ---- the code's search

-- a closed day passed is one more
pub passed : (n m : ℕ) → is_closed m ≡ true → NoneFrom n m → NoneFrom n (m + 1)
passed n m c f = none_more n m f (closed-no-business m c)

-- the first day that is not closed is the one searched for
pub stopped : (n m : ℕ) → n ≤ m → is_closed m ≡ false → NoneFrom n m → m ≡ business_day_from n
stopped n m h c f =
    let far : (n + longest_break < m → ⊥) = λ l. within-five n (λ j p q. f j p (omega arith)) in
    sym (found is_business_day longest_break n m h (omega arith) f (open-business m c))
