-- The rows are lent, those that stay come back at their front, and their count is written.
use mathlib.Core.Path.{refl}
use Rattle.bank_state.specs.Clock.{forget}
use Rattle.bank_rows.specs.Records.{stays_remembered}
use Rattle.bank_rows.proofs.Records.{stays-kept}
use Rattle.bank_rows.proofs.Writing.{nonces-lent}
use Rattle.bank_lists.proofs.nonces.forget.Goals as goal

pub returns : goal.returns
unfolding forget
returns c =
    let a = c.args in
    nonces-lent a.rows.now c.requires (stays_remembered a.clock) (stays-kept a.clock) refl _ _ _ refl c.keep_nonces-kept.ensures
