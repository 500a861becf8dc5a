-- Tables that hold: by one equation of lists, two in one, and one whose calls come to the same in another way. Assumes
-- nothing.
use mathlib.Core.List.{List, [], ◌∷◌, ◌++◌, map}
use mathlib.Core.Path.{◌≡◌, ap, ◌∙◌}
use lib.ListN.{get_or, drop}
use Rattle.case_rows.specs.Rows.{Case, Holds, none, row}

module _ {C A : Type 0} {come : C → A} where
  pub listed : (l : List (Case C A)) → map (λ (c : Case C A). come c.call) l ≡ map (λ (c : Case C A). c.due) l →
      Holds come l
  listed [] e = none
  listed (c ∷ l) e = row (ap (λ (m : List A). get_or m 0 c.due) e) (listed l (ap (drop 1) e))

  pub both : {l m : List (Case C A)} → Holds come l → Holds come m → Holds come (l ++ m)
  both none g = g
  both (row e f) g = row e (both f g)

  pub otherwise : {quick : C → A} → ((c : C) → come c ≡ quick c) → {l : List (Case C A)} → Holds quick l → Holds come l
  otherwise same none = none
  otherwise same (row {c = c} e f) = row (same c.call ∙ e) (otherwise same f)
