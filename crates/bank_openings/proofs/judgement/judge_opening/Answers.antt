-- The tests go from top to bottom, and each that fails leaves the list shorter. Assumes nothing.
use mathlib.Core.Path.{sym, ◌∙◌}
use Rattle.octets.proofs.Tests.{or-neither}
use Rattle.bank_rows.specs.State.{bank_of}
use Rattle.bank_verdicts.specs.Refusals.{is_full, no_share}
use Rattle.bank_verdicts.proofs.Sound.{place-and-numbers}
use Rattle.bank_openings.proofs.judgement.judge_opening.Goals as goal

pub accepted-requires : goal.accepted-requires
accepted-requires c =
    let a = c.args in
    let b = bank_of a.rows.now in
    let none = or-neither (is_full a.d b a.q) (no_share a.context.others b)
    (sym c.no_room.ensures ∙ c.if-no_room.false) in
    (c.requires, (place-and-numbers a.context b a.q a.d none.0).3)
