-- The value day: a business day, not before the booking's day, the first that it may take; never going back as time
-- grows; and which times are refused. By the laws of the search, at business days. Assumes nothing.
use Rattle.number_table.specs.Numbers.{number_ten}
use Rattle.std.specs.Prelude.{Err, Ok}
use Prim.Native.Nat.{ℕ, ◌+◌, ◌*◌, ◌/◌, ◌≤◌, ◌<◌}
use mathlib.Core.Bool.{Bool, true, false}
use mathlib.Core.Path.{◌≡◌, refl, sym, ap, ◌∙◌}
use native.Mathlib.Omega.{arith}
use lib.Dec.{ltb}
use borrow.Author.Tests.{ltb-true, ltb-false, lt-ltb, le-ltb}
use Rattle.octets.proofs.Tests.{never}
use Rattle.calendar.specs.declared.dates.Date.{Date}
use Rattle.calendar.specs.Dates.{date_of, day_number, last_day, Valid}
use Rattle.calendar.specs.BusinessDays.{longest_break, is_business_day, business_day_from}
use Rattle.calendar.specs.ValueDay.{hour, day_length, cut_off, booking_day, time_of_day, first_day}
use Rattle.calendar.specs.ValueDay.{execution_day, value_day, answered, value_day_call}
use Rattle.calendar.proofs.DateNumbers.{valid-date, number-of-date}
use Rattle.calendar.proofs.Search.{found, first-grows}
use Rattle.calendar.proofs.ExecutionDays.{NoneFrom, searched, business-found, found-by-last}

-- ---- given or refused, by the first day

late-day : (time : ℕ) → last_day < first_day time → value_day time ≡ Err number_ten
unfolding value_day execution_day
late-day time h =
    let from = (searched (first_day time)).from in rw (lt-ltb last_day (business_day_from (first_day time)) (omega arith))

early-day : (time : ℕ) → first_day time ≤ last_day → value_day time ≡ Ok (date_of (execution_day time))
unfolding value_day execution_day
early-day time h =
    rw (le-ltb last_day (business_day_from (first_day time)) (found-by-last (first_day time) h))

-- the same with the first day and the date as the code has them
pub refused-from : (time n : ℕ) → n ≡ first_day time → last_day < n → answered (Err number_ten) ≡ value_day_call time
refused-from time n e h = ap answered (sym (late-day time (rw e at h)))

pub given-from : (time n m : ℕ) (d : Date) → n ≡ first_day time → n ≤ last_day → m ≡ business_day_from n → d ≡ date_of m
    → answered (Ok d) ≡ value_day_call time
unfolding execution_day
given-from time n m d e h p q =
    let day : date_of m ≡ date_of (business_day_from (first_day time)) = rw (p, e) in
    ap answered (ap Ok (q ∙ day) ∙ sym (early-day time (rw e at h)))

-- ---- the first day that a booking may take

first-day-by : (time : ℕ) (t : Bool) → ltb (time_of_day time) cut_off ≡ t → first_day time ≡ (time + 8 * hour) / day_length
unfolding first_day
first-day-by time true e = let h = ltb-true (time_of_day time) cut_off e in rw e (omega arith)
first-day-by time false e = let h = ltb-false (time_of_day time) cut_off e in rw e (omega arith)

-- as if a day began eight hours before it
first-day-shifted : (time : ℕ) → first_day time ≡ (time + 8 * hour) / day_length
first-day-shifted time = first-day-by time _ refl

first-day-grows : (t u : ℕ) → t ≤ u → first_day t ≤ first_day u
first-day-grows t u h = let p = first-day-shifted t in let q = first-day-shifted u in omega arith

-- ---- which times are refused

-- 31 December 2199, 16:00:00.000
abbrev pub first_refused : ℕ
first_refused = 7258089600000

-- from there on every time is refused
pub refused : (time : ℕ) → first_refused ≤ time → value_day time ≡ Err number_ten
refused time h = late-day time (let s = first-day-shifted time in omega arith)

-- and none before
pub given : (time : ℕ) → time < first_refused → value_day time ≡ Ok (date_of (execution_day time))
given time h = early-day time (let s = first-day-shifted time in omega arith)

-- ---- the card's sentence

-- "A booking before 16:00:00.000 UTC on a business day takes that day"
pub own-day : (time : ℕ) → time_of_day time < cut_off → is_business_day (booking_day time) ≡ true
    → execution_day time ≡ booking_day time
unfolding execution_day
own-day time h b =
    let here : first_day time ≡ booking_day time = let s = first-day-shifted time in omega arith in
    rw here (found is_business_day longest_break (booking_day time) (booking_day time) (omega arith) (omega arith)
    (λ j p q. absurd (omega arith)) b)

-- "any other the next business day": after its day, with no business day between
pub record NextDay (time n : ℕ) : Type 0 where
  pub after : booking_day time < n
  pub business : is_business_day n ≡ true
  pub between : NoneFrom (booking_day time + 1) n

pub late-booking : (time : ℕ) → cut_off ≤ time_of_day time → NextDay time (execution_day time)
unfolding execution_day
late-booking time h =
    let next : first_day time ≡ booking_day time + 1 = let s = first-day-shifted time in omega arith in
    let s = searched (first_day time) in
    let from = s.from in
    record {
      after = omega arith;
      business = business-found (first_day time);
      between = λ j p q. s.between j (omega arith) q;
    }

pub closed-booking : (time : ℕ) → is_business_day (booking_day time) ≡ false → NextDay time (execution_day time)
unfolding execution_day
closed-booking time c =
    let shifted = first-day-shifted time in
    let s = searched (first_day time) in
    let from = s.from in
    let business = business-found (first_day time) in
    let other : (business_day_from (first_day time) ≡ booking_day time → ⊥) =
    λ e. never (sym c ∙ (sym (ap is_business_day e) ∙ business)) in
    record {
      after = omega arith;
      business = business;
      between = λ j p q. s.between j (omega arith) q;
    }

-- ---- what an answer says

-- the one date of a business day, not before the booking's day, with no business day between, within five days
pub record Executed (time : ℕ) (d : Date) : Type 0 where
  pub valid : Valid d
  pub number : day_number d ≡ execution_day time
  pub business : is_business_day (day_number d) ≡ true
  pub from : booking_day time ≤ day_number d
  pub between : NoneFrom (first_day time) (day_number d)
  pub near : day_number d ≤ first_day time + longest_break
  pub last : day_number d ≤ last_day

executed-at : (time : ℕ) → first_day time ≤ last_day → Executed time (date_of (execution_day time))
unfolding execution_day
executed-at time h =
    let n = business_day_from (first_day time) in
    let e = number-of-date n in
    let s = searched (first_day time) in
    let shifted = first-day-shifted time in
    let from = s.from in
    let to = s.to in
    let last = found-by-last (first_day time) h in
    record {
      valid = valid-date n;
      number = e;
      business = rw e (business-found (first_day time));
      from = omega arith;
      between = λ j p q. s.between j p (rw e at q);
      near = omega arith;
      last = omega arith;
    }

executed-by : (time : ℕ) (d : Date) (t : Bool) → ltb last_day (first_day time) ≡ t → value_day time ≡ Ok d
    → Executed time d
executed-by time d true e h =
    let late = late-day time (ltb-true last_day (first_day time) e) in
    never (cc)
executed-by time d false e h =
    let first = ltb-false last_day (first_day time) e in
    let early = early-day time first in
    let day : d ≡ date_of (execution_day time) = cc in
    rw day (executed-at time first)

pub executed : (time : ℕ) (d : Date) → value_day time ≡ Ok d → Executed time d
executed time d h = executed-by time d _ refl h

-- ---- it never goes back

pub never_back : (t u : ℕ) → t ≤ u → execution_day t ≤ execution_day u
unfolding execution_day
never_back t u h = first-grows is_business_day longest_break (first_day t) (first_day u) (first-day-grows t u h)

pub answers-in-order : (t u : ℕ) (d e : Date) → t ≤ u → value_day t ≡ Ok d → value_day u ≡ Ok e
    → day_number d ≤ day_number e
answers-in-order t u d e h p q =
    let a = (executed t d p).number in
    let b = (executed u e q).number in
    let l = never_back t u h in
    omega arith
