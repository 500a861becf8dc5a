-- By the edition, the number that it brings or the bank's own. Assumes nothing.
use mathlib.Core.Path.{sym, ◌∙◌}
use Rattle.bank_rows.specs.State.{bank_of}
use Rattle.bank_openings.proofs.Numbering.{counter-below}
use Rattle.bank_openings.proofs.judgement.opening_number.Goals as goal

pub next_number-requires : goal.next_number-requires
next_number-requires c =
    let a = c.args in
    let own = sym c.edition_of.ensures ∙ c.in-V25.is in
    (c.requires.0, counter-below (bank_of a.rows.now) a.q own c.requires.1 _ c.subscriber.ensures)
