-- "the Gregorian computus": Easter Sunday of a year, in the form of Meeus, Jones and Butcher (the anonymous Gregorian
-- algorithm: Nature, 20 April 1876; J. Meeus, Astronomical Algorithms, 1991, chapter 8), with the letters used there.
use Rattle.std.specs.Prelude.{ℕ, ◌+◌, ◌-◌, ◌*◌, ◌/◌, ◌%◌}
use Rattle.calendar.specs.declared.dates.Date.{Date}
use Rattle.calendar.specs.Dates.{date_at, day_number}

-- a: the year's place in the cycle of 19 years
abbrev pub letter_a : ℕ → ℕ
letter_a y = y % 19

-- h: the Paschal full moon is so many days after 21 March
unfoldable pub letter_h : ℕ → ℕ
letter_h y =
    let b = y / 100 in
    let d = b / 4 in
    let f = (b + 8) / 25 in
    let g = (b - f + 1) / 3 in
    (19 * letter_a y + b - d - g + 15) % 30

-- l: the Sunday after it is so many days after the day that follows it
unfoldable pub letter_l : ℕ → ℕ
letter_l y =
    let b = y / 100 in
    let c = y % 100 in
    let e = b % 4 in
    let i = c / 4 in
    let k = c % 4 in
    (32 + 2 * e + 2 * i - letter_h y - k) % 7

-- m: 1 in the two exceptions, where Easter is a week earlier
unfoldable pub letter_m : ℕ → ℕ
letter_m y = (letter_a y + 11 * letter_h y + 22 * letter_l y) / 451

-- h + l - 7m + 114, a count in months of 31 days
abbrev pub easter_count : ℕ → ℕ
easter_count y = letter_h y + letter_l y + 114 - 7 * letter_m y

-- n and p: the month, and the day counted from 0
unfoldable pub easter_sunday : ℕ → Date
easter_sunday y = date_at y (easter_count y / 31) (easter_count y % 31 + 1)

-- its entry in the table: the month and two digits of the day
unfoldable pub easter_entry : ℕ → ℕ
easter_entry y = 100 * (easter_sunday y).month + (easter_sunday y).day

-- its number
unfoldable pub easter_number : ℕ → ℕ
easter_number y = day_number (easter_sunday y)
