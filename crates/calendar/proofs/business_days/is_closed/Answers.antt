-- The year is one of the table's, so that its Easter Sunday is at hand. Assumes nothing.
use Prim.Native.Nat.{◌-◌, ◌≤◌, ◌<◌}
use Rattle.calendar.specs.Dates.{first_year, year_count}
use Rattle.calendar.proofs.EasterDays.{easter-most}
use Rattle.calendar.proofs.ClosedDays.{closed-as, year-of}
use Rattle.calendar.proofs.business_days.is_closed.Goals as goal

pub overflow_sub-date : goal.overflow_sub-date
overflow_sub-date c =
    let year : (first_year ≤ c.date_of-date.result.year) × (c.date_of-date.result.year - first_year < year_count) = rw c.date_of-date.ensures (year-of _ c.requires) in
    (year).0

pub easter_number-easter-requires : goal.easter_number-easter-requires
easter_number-easter-requires c =
    let year : (first_year ≤ c.date_of-date.result.year) × (c.date_of-date.result.year - first_year < year_count) = rw c.date_of-date.ensures (year-of _ c.requires) in
    (year).1

pub is_listed-requires : goal.is_listed-requires
is_listed-requires c =
    let year : (first_year ≤ c.date_of-date.result.year) × (c.date_of-date.result.year - first_year < year_count) = rw c.date_of-date.ensures (year-of _ c.requires) in
    (c.requires, rw c.easter_number-easter.ensures (easter-most _ (year).1))

pub returns : goal.returns
returns c =
    closed-as _ _ _ c.date_of-date.ensures c.easter_number-easter.ensures c.is_listed.ensures
