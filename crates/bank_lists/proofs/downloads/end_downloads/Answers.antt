-- The rows are lent, those that stay come back at their front, and their count is written.
use mathlib.Core.Path.{refl}
use Rattle.bank_state.specs.Clock.{end_downloads}
use Rattle.bank_rows.specs.Records.{stays_open}
use Rattle.bank_rows.proofs.Records.{stays_open_lem}
use Rattle.bank_rows.proofs.Writing.{downloads-lent}
use Rattle.bank_lists.proofs.downloads.end_downloads.Goals as goal

pub returns : goal.returns
unfolding end_downloads
returns c =
    let a = c.args in
    downloads-lent a.rows.now c.requires (stays_open a.which) (stays_open_lem a.which) refl _ _ _ refl c.keep_downloads-kept.ensures
