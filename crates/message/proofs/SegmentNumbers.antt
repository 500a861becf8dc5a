-- Laws of a file's segments: their number, their lengths, the last mark. Assumes nothing.
use Prim.Native.Nat.{ℕ, ◌≤◌}
use mathlib.Core.List.{List}
use native.Mathlib.Omega.{arith}
use lib.Dec.{eqb}
use lib.ListN.{length, length-take, length-drop}
use Rattle.message.specs.Limits.{segment_bytes}
use Rattle.message.specs.Segments.{segments_of, segment_of, last_mark_of}
use Rattle.message.proofs.Verdicts.{by-test}

pub some-segment : (n : ℕ) → 1 ≤ n → 1 ≤ segments_of n
unfolding segments_of
some-segment n h = omega arith

-- a segment of a file has 1 to 256 bytes
pub segment-length : (file : List ℕ) (s : ℕ) → 1 ≤ s → s ≤ segments_of (length file) →
    (1 ≤ length (segment_of file s)) × (length (segment_of file s) ≤ segment_bytes)
unfolding segment_of segments_of
segment-length file s some within = (simp (length-take, length-drop) (omega arith), simp (length-take, length-drop) (omega arith))

pub mark-most : (s n : ℕ) → last_mark_of s n ≤ 1
mark-most s n = by-test (λ (m : ℕ). m ≤ 1) (eqb s n) (λ _. omega arith) (λ _. omega arith)
