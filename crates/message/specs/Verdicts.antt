-- "Checked in the order given, from top to bottom."
use Rattle.std.specs.Prelude.{Bool, cond, List, [], ◌∷◌}

-- what stands beside the first test that holds; the last one where none does
abbrev pub decide : {A : Type 0} → List (Bool × A) → A → A
decide [] other = other
decide (row ∷ rows) other = cond row.0 row.1 (decide rows other)
