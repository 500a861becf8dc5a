-- A bit is added where the subscriber has one that is not set. Assumes nothing.
use Rattle.std.proofs.Common.{◌-◌, sym, ◌∙◌, arith, rules}
use Rattle.signers.specs.Signers.{bit_count, is_signer, with_signer}
use Rattle.signers.proofs.Bits.{bit-fits, one_shifted}
use Rattle.signers.proofs.Laws.{bit_in, unset, newly}
use Rattle.signers.proofs.set.with_signer.Goals as goal
use Rattle.signers.proofs.set.with_signer.Goals.{
  else-has_bit-via-then-has_bit+else-not-is_signer,
  else-has_bit-via-else-has_bit,
}

pub overflow_sub-result : goal.overflow_sub-result
overflow_sub-result c = omega (arith, bit_in _ (sym c.has_bit.ensures ∙ c.if-has_bit.true))

pub overflow_cast-result : goal.overflow_cast-result
overflow_cast-result c = record { fits = omega (arith, bit_in _ (sym c.has_bit.ensures ∙ c.if-has_bit.true)) }

pub overflow_shl-result : goal.overflow_shl-result
overflow_shl-result c = omega (arith, bit_in _ (sym c.has_bit.ensures ∙ c.if-has_bit.true))

pub overflow_add-result : goal.overflow_add-result
overflow_add-result c =
    let a = c.args in
    let b = sym c.has_bit.ensures ∙ c.if-has_bit.true in
    let none = sym c.is_signer.ensures ∙ c.if-not-is_signer.true in
    record {
      fits = rw (one_shifted (a.subscriber - 1) (omega (arith, bit_in _ b)))
          (bit-fits (a.subscriber - 1) bit_count a.set (unset a.subscriber a.set b none) (omega (arith, bit_in _ b)) (search rules));
    }

pub returns-then-not-is_signer : goal.returns-then-not-is_signer
returns-then-not-is_signer c =
    let a = c.args in
    let b = sym c.has_bit.ensures ∙ c.if-has_bit.true in
    let none = sym c.is_signer.ensures ∙ c.if-not-is_signer.true in
    rw (one_shifted (a.subscriber - 1) (omega (arith, bit_in _ b))) (sym (newly a.subscriber a.set b none))

pub returns-else-has_bit : goal.returns-else-has_bit
unfolding with_signer is_signer
returns-else-has_bit c =
    elim c.else-has_bit.branch [
      | else-has_bit-via-then-has_bit+else-not-is_signer w ↦
          sym (rw (sym w.is_signer.ensures ∙ w.if-not-is_signer.false))
      | else-has_bit-via-else-has_bit w ↦ sym (rw (sym c.has_bit.ensures ∙ w.if-has_bit.false))
    ]
