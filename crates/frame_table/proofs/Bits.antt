-- A law of 128-bit values. Assumes nothing.
use mathlib.Core.Bool.{true}
use mathlib.Core.Path.{◌≡◌}
use lib.Dec.{eqb}
use borrow.Author.Tests.{eqb-true}
use Rattle.octets.proofs.Tests.{and-true}
use Rattle.frame_table.specs.declared.fields.Bits128.{Bits128}
use Rattle.frame_table.specs.Names.{same_bits}

-- two IDs or nonces that test the same are one
pub bits-same : (t u : Bits128) → same_bits t u ≡ true → t ≡ u
bits-same t u h =
    let a = and-true (eqb t.high u.high) (eqb t.low u.low) h in
    λ i. record { high = eqb-true t.high u.high a.0 i; low = eqb-true t.low u.low a.1 i }
