-- `at_most_segments` meets its contract: so many segments hold the bytes. Assumes nothing.
use Prim.Native.Nat.{ℕ, ◌*◌}
use mathlib.Core.Path.{ap, ◌∙◌}
use native.Mathlib.Omega.{arith}
use lib.Dec.{leb}
use Rattle.octets.proofs.Tests.{leb-same}
use Rattle.message.specs.Limits.{segment_bytes}
use Rattle.message.specs.Segments.{segments_of}
use Rattle.image_records.proofs.tests.at_most_segments.Goals as goal

pub returns : goal.returns
unfolding segments_of
returns c =
    let a = c.args in
    ap (λ (n : ℕ). leb n a.k) c.segments_of.ensures
    ∙ leb-same {a = segments_of a.n} {b = a.k} {c = a.n} {d = segment_bytes * a.k} (λ h. omega arith) (λ h. omega arith)
