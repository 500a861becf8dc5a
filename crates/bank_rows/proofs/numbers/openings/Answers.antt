-- The openings accepted are a number of their own.
use mathlib.Core.Path.{refl}
use Rattle.bank_rows.specs.State.{bank_of}
use Rattle.bank_rows.proofs.numbers.openings.Goals as goal

pub returns : goal.returns
unfolding bank_of
returns c = refl
