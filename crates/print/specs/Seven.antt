-- The seven counts: "in card 12's order, each behind a space", but for what stands in front of the first.
use Rattle.std.specs.Prelude.{ℕ, ◌+◌, ◌*◌, List, ◌++◌}
use Rattle.opening_counts.specs.declared.seven.Counts.{Counts}
use Rattle.print.specs.Text.{max_digits, decimal, space, column, column_room}

unfoldable pub counts_text : Counts → List ℕ
counts_text c =
    column c.pending space ++ (column c.booked space
    ++ (column c.fetched space ++ (column c.skipped space
    ++ (column c.ended space ++ (column c.cancelled space ++ decimal c.dropped)))))

-- the most bytes that they take
abbrev pub counts_room : ℕ
counts_room = 6 * column_room + max_digits
