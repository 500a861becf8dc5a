-- The clock is the first number.
use mathlib.Core.Path.{refl}
use Rattle.bank_rows.specs.State.{bank_of}
use Rattle.bank_rows.proofs.numbers.clock.Goals as goal

pub returns : goal.returns
unfolding bank_of
returns c = refl
