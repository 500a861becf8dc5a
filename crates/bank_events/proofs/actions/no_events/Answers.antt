-- A count of zero holds nothing.
use mathlib.Core.Path.{refl}
use native.Mathlib.Omega.{arith}
use mathlib.Core.List.{[]}
use Rattle.bank_events.proofs.Batches.{holds-first}
use Rattle.bank_events.proofs.actions.no_events.Goals as goal

pub returns : goal.returns
returns c = holds-first _ (omega arith) [] refl refl
