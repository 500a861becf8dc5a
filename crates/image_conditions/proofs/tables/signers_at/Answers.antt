-- `signers_at` meets its contract: the set is the low byte, and its ones are counted. Assumes nothing.
use Prim.Native.Nat.{◌%◌}
use mathlib.Core.Path.{ap, ◌∙◌}
use native.Mathlib.Omega.{arith}
use Rattle.signers.specs.Signers.{signer_count}
use Rattle.signers.proofs.Counts.{count_most, count-low-byte}
use Rattle.image_records.specs.declared.layout.PlaceRecord.{PlaceRecord}
use Rattle.image_conditions.specs.Conditions.{signers_at}
use Rattle.image_conditions.proofs.tables.signers_at.Goals as goal

pub returns : goal.returns
unfolding signers_at
returns c =
    let low = c.place_at.result.signers % 256 in (
      c.from.ensures ∙ c.count.ensures ∙ count-low-byte c.place_at.result.signers ∙ ap (λ (r : PlaceRecord). signer_count r.signers) c.place_at.ensures,
      omega (arith, c.from.ensures, c.count.ensures, count_most low),
    )
