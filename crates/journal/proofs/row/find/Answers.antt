-- A fold over the records from the last to the first. Assumes nothing.
use Rattle.std.proofs.Common.{◌≡◌, ◌∙◌, ap, refl, List, [], ◌∷◌, reverse, rules}
use mathlib.Core.List.{reverse-cons}
use Rattle.std.specs.List.{fold}
use Rattle.std.proofs.lemmas.Iterator.Adapters.{YieldsList-from_rev_slice}
use Rattle.std.proofs.lemmas.Iterator.Consumers.{fold_from_yields_List}
use Rattle.std.proofs.lemmas.List.Sums.{fold_push}
use Rattle.frame_table.specs.declared.fields.Bits128.{Bits128}
use Rattle.journal.specs.declared.event.Event.{Event}
use Rattle.journal.specs.declared.event.Found.{Found}
use Rattle.journal.specs.declared.event.Found.TheVariants.{Nothing}
use Rattle.journal.specs.Row.{with_record, lookup}
use Rattle.journal.proofs.row.find.Goals as goal

abbrev step : Bits128 → Found → Event → Found
step t f e = with_record t e f

from_last : (t : Bits128) (xs : List Event) → fold (step t) Nothing (reverse xs) ≡ lookup t xs
unfolding lookup
from_last t [] = refl
from_last t (e ∷ es) =
    ap (fold (step t) Nothing) (reverse-cons e es) ∙ fold_push (step t) Nothing (reverse es) e ∙ ap (with_record t e) (from_last t es)

pub returns : goal.returns
returns c =
    let t = c.args.transaction in
    let row = c.args.row.now in
    fold_from_yields_List _ (step t) Nothing _ c.fold.ensures.ran (YieldsList-from_rev_slice row cc) (λ a x b q k. search rules)
    ∙ from_last t row
