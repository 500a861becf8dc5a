-- The eight numbers are written over those behind the bank's.
use mathlib.Core.Path.{◌∙◌}
use Rattle.bank_session.proofs.Rows.{counted}
use Rattle.bank_session.proofs.numbers.set_numbers.Goals as goal

pub returns : goal.returns
returns c =
    let a = c.args in
    c.put.ensures ∙ counted a.rows.now c.requires a.events a.c
