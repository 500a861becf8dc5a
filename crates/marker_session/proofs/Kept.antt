-- Bytes moved to the front. Assumes nothing.
use Prim.Native.Nat.{ℕ, ◌+◌, ◌-◌, ◌≤◌}
use mathlib.Core.List.{List, append_assoc}
use mathlib.Core.Path.{◌≡◌, sym, ap, ◌∙◌}
use native.Mathlib.Omega.{arith}
use lib.ListN.{length, take, drop, length-take, length-drop}
use lib.Seq.{paste}
use Rattle.std.proofs.lemmas.List.{drop-take}
use Rattle.octets.specs.Bytes.{overwrite}

module _ (d : List ℕ) (from end : ℕ) (h : end ≤ length d) where
  abbrev pub kept : List ℕ
  kept = drop from (take end d)

  pub length-kept : length kept ≡ end - from
  length-kept = simp (length-drop, length-take) (omega arith)

  pub kept-moved : from ≤ end → paste d 0 (drop from d) (end - from) ≡ overwrite d 0 kept
  unfolding overwrite
  kept-moved k =
      let e : from + (end - from) ≡ end = omega arith in
      let t : kept ≡ take (end - from) (drop from d) =
      ap (λ (n : ℕ). drop from (take n d)) (sym e) ∙ drop-take from (end - from) d in
      rw (length-kept, t) (append_assoc (take 0 d) (take (end - from) (drop from d)) (drop (0 + (end - from)) d))
