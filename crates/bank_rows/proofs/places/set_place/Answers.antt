-- The eleven numbers of the place are written over its row.
use mathlib.Core.Path.{◌∙◌}
use Rattle.bank_rows.proofs.Writing.{place-write}
use Rattle.bank_rows.proofs.places.set_place.Goals as goal

pub returns : goal.returns
returns c =
    let a = c.args in
    c.put.ensures
    ∙ rw c.number_of_use.ensures (place-write a.rows.now c.requires.0 a.i a.p c.requires.1)
