-- The bit of a subscriber is looked at where it has one. Assumes nothing.
use mathlib.Core.Path.{sym, ◌∙◌}
use native.Mathlib.Omega.{arith}
use Rattle.signers.proofs.Laws.{bit_in}
use Rattle.signers.proofs.set.is_signer.Goals as goal

pub overflow_sub-result : goal.overflow_sub-result
overflow_sub-result c = omega (arith, bit_in _ (sym c.has_bit.ensures ∙ c.if-has_bit.true))

pub overflow_cast-result : goal.overflow_cast-result
overflow_cast-result c = record { fits = omega (arith, bit_in _ (sym c.has_bit.ensures ∙ c.if-has_bit.true)) }

pub overflow_shr-result : goal.overflow_shr-result
overflow_shr-result c = omega (arith, bit_in _ (sym c.has_bit.ensures ∙ c.if-has_bit.true))
