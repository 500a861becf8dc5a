-- The entry goes to the first place that is free.
use mathlib.Core.Path.{◌≡◌, refl}
use native.Mathlib.Omega.{arith}
use lib.ListN.{length}
use Rattle.journal.specs.Events.{max_entries}
use Rattle.bank_events.proofs.Batches.{holds-one}
use Rattle.bank_events.proofs.actions.with_entry.Goals as goal

pub returns : goal.returns
returns c =
    let a = c.args in
    let long : length a.batch.entries ≡ max_entries =
    c.well_formed.0.1.1.1.0.1.0.1 in
    holds-one a.batch _ a.entry long (omega (arith, c.requires)) refl refl
