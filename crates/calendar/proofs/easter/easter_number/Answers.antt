-- The entry is that of the computus, and its parts are the month and the day. Assumes nothing.
use Prim.Native.Nat.{◌+◌, ◌-◌, ◌*◌, ◌/◌, ◌≤◌}
use mathlib.Core.Path.{◌≡◌}
use native.Mathlib.Omega.{arith}
use Rattle.calendar.specs.Dates.{first_year, year_count}
use Rattle.calendar.specs.Easter.{easter_entry}
use Rattle.calendar.proofs.Lengths.{year-lengths, month-most}
use Rattle.calendar.proofs.EasterDays.{EntryParts, entry-parts, easter-by-entry}
use Rattle.calendar.proofs.easter.easter_number.Goals as goal

pub overflow_sub-entry : goal.overflow_sub-entry
overflow_sub-entry c =
    let entry : c.easter_entry-entry.result ≡ easter_entry (first_year + c.args.years) = c.easter_entry-entry.ensures in
    let parts : EntryParts (first_year + c.args.years) c.easter_entry-entry.result = rw (entry) (entry-parts _) in
    let p = parts in omega arith

pub month_start-requires : goal.month_start-requires
month_start-requires c =
    let entry : c.easter_entry-entry.result ≡ easter_entry (first_year + c.args.years) = c.easter_entry-entry.ensures in
    let parts : EntryParts (first_year + c.args.years) c.easter_entry-entry.result = rw (entry) (entry-parts _) in
    let p = parts in omega arith

pub overflow_add-result : goal.overflow_add-result
overflow_add-result c =
    let entry : c.easter_entry-entry.result ≡ easter_entry (first_year + c.args.years) = c.easter_entry-entry.ensures in
    let parts : EntryParts (first_year + c.args.years) c.easter_entry-entry.result = rw (entry) (entry-parts _) in
    let small : (c.year_start.result ≤ 366 * year_count) × (c.month_start.result ≤ 31 * 3) = let p = parts in
    let k = c.args.years in
    let years = year-lengths k in
    let months = month-most (first_year + k) (c.easter_entry-entry.result / 100 - 1) (omega arith) in
    (omega arith, omega arith) in
    let s = small in omega arith

pub overflow_add-result-2 : goal.overflow_add-result-2
overflow_add-result-2 c =
    let entry : c.easter_entry-entry.result ≡ easter_entry (first_year + c.args.years) = c.easter_entry-entry.ensures in
    let parts : EntryParts (first_year + c.args.years) c.easter_entry-entry.result = rw (entry) (entry-parts _) in
    let small : (c.year_start.result ≤ 366 * year_count) × (c.month_start.result ≤ 31 * 3) = let p = parts in
    let k = c.args.years in
    let years = year-lengths k in
    let months = month-most (first_year + k) (c.easter_entry-entry.result / 100 - 1) (omega arith) in
    (omega arith, omega arith) in
    let s = small in omega arith

pub overflow_sub-result : goal.overflow_sub-result
overflow_sub-result c =
    let entry : c.easter_entry-entry.result ≡ easter_entry (first_year + c.args.years) = c.easter_entry-entry.ensures in
    let parts : EntryParts (first_year + c.args.years) c.easter_entry-entry.result = rw (entry) (entry-parts _) in
    let p = parts in omega arith

pub returns : goal.returns
returns c =
    let entry : c.easter_entry-entry.result ≡ easter_entry (first_year + c.args.years) = c.easter_entry-entry.ensures in
    easter-by-entry _ _ _ _ (entry) c.year_start.ensures c.month_start.ensures
