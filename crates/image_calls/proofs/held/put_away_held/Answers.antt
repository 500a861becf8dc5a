-- The row by value is the session's. Assumes nothing.
use Rattle.std.specs.Prelude.{◌≡◌, length}
use mathlib.Core.Path.{refl}
use Rattle.journal.specs.Events.{record_count}
use borrow.Author.Rules.{rules}
use Rattle.image_calls.proofs.held.put_away_held.Goals as goal

pub returns : goal.returns
returns c =
    let a = c.args in
    let long : length a.row ≡ record_count = search rules in
    c.put_away_core.ensures a.row long (λ h. refl)
