-- A day: "`day YYYY-MM-DD` (four, two and two digits)", but for its first word.
use Rattle.std.specs.Prelude.{ℕ, ◌+◌, List, ◌∷◌, ◌++◌}
use Rattle.calendar.specs.declared.dates.Date.{Date}
use Rattle.print.specs.Text.{digits_in, hyphen}

-- the last w decimal digits of a number
abbrev pub last_digits : ℕ → ℕ → List ℕ
last_digits w x = digits_in 10 48 w x

unfoldable pub day_text : Date → List ℕ
day_text d =
    last_digits 4 d.year ++ (hyphen ∷ (last_digits 2 d.month ++ (hyphen ∷ last_digits 2 d.day)))

-- its bytes
abbrev pub day_room : ℕ
day_room = 4 + 1 + 2 + 1 + 2
