-- "From card 12 on the counts follow the journal": their header, and one row with the seven.
use Rattle.std.specs.Prelude.{ℕ, ◌+◌, List, [], ◌∷◌, ◌++◌}
use Rattle.opening_counts.specs.declared.seven.Counts.{Counts}
use Rattle.print.specs.Text.{ascii, newline}
use Rattle.print.specs.Seven.{counts_text, counts_room}

unfoldable pub counts_table : Counts → List ℕ
counts_table c = ascii "open booked fetched skipped ended cancelled dropped\n" ++ (counts_text c ++ (newline ∷ []))

-- the most bytes that it takes
abbrev pub counts_table_room : ℕ
counts_table_room = 52 + counts_room + 1
