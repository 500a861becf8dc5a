-- The bank's own number is below the limit, so the one after it fits; an upload that brought its number changes nothing.
use mathlib.Core.Path.{sym, ◌∙◌}
use native.Mathlib.Omega.{arith}
use Rattle.bank_rows.proofs.State.{stored-own}
use Rattle.bank_openings.proofs.Numbering.{fits_below}
use Rattle.bank_openings.proofs.openings.move_series.Goals as goal

pub overflow_add-number : goal.overflow_add-number
overflow_add-number c =
    let own = sym c.edition_of.ensures ∙ c.in-V25.is in
    omega (arith, fits_below _ c.args.number own c.requires.1)

pub returns-in-V24 : goal.returns-in-V24
returns-in-V24 c =
    rw (← c.edition_of.ensures, c.in-V24.is) (sym (stored-own c.args.rows.now c.requires.0))

pub returns-in-V25 : goal.returns-in-V25
returns-in-V25 c =
    rw (
      ← c.edition_of.ensures,
      c.in-V25.is,
      ← c.subscriber.ensures,
    ) c.set_series_of.ensures
