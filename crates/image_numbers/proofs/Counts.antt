-- The seven counts among a session's numbers and among an image's. Assumes nothing.
use Prim.Native.Nat.{ℕ, ◌+◌, ◌-◌, ◌≤◌}
use mathlib.Core.List.{List}
use mathlib.Core.Path.{◌≡◌, sym, ap, ◌∙◌}
use native.Mathlib.Omega.{arith}
use lib.ListN.{length, take, drop, length-drop}
use lib.Seq.{get_or-drop, take_all}
use Rattle.bank_rows.proofs.General.{take-listed}
use Rattle.opening_counts.specs.Counts.{count_size, count_row, counts_from}

module _ (s : List ℕ) (at : ℕ) (room : at + count_size ≤ length s) where
  -- seven numbers from a place on are the counts there
  pub counts-are : take count_size (drop at s) ≡ count_row (counts_from at s)
  counts-are =
      take-listed count_size (drop at s) (simp length-drop (omega arith))
      ∙ rw (
        get_or-drop at s 0 0,
        get_or-drop at s 1 0,
        get_or-drop at s 2 0,
        get_or-drop at s 3 0,
        get_or-drop at s 4 0,
        get_or-drop at s 5 0,
        get_or-drop at s 6 0,
      )

  -- as a part of the numbers up to their end
  pub counts-there : take (at + count_size - at) (drop at s) ≡ count_row (counts_from at s)
  counts-there =
      let e : at + count_size - at ≡ count_size = omega arith in
      ap (λ (n : ℕ). take n (drop at s)) e ∙ counts-are

-- where the counts stand last, they are all that is left
pub counts-last : (s : List ℕ) (at : ℕ) → length s ≡ at + count_size → drop at s ≡ count_row (counts_from at s)
counts-last s at long =
    sym (take_all count_size (drop at s) (simp length-drop (omega arith))) ∙ counts-are s at (omega arith)
