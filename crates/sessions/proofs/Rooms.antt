-- The rooms of the 16 runs: a part written is read back, and the parts of the other runs stay.
use Prim.Native.Nat.{ℕ, ◌+◌, ◌*◌, ◌≤◌, ◌<◌}
use mathlib.Core.List.{List}
use mathlib.Core.Path.{◌≡◌, sym, ap, ◌∙◌}
use native.Mathlib.Decide.{dec_lt}
use native.Mathlib.Omega.{arith}
use lib.ListN.{length, take, drop, length-take, length-drop}
use lib.Seq.{take-take}
use Rattle.octets.specs.Bytes.{overwrite}
use Rattle.octets.proofs.Numbers.{length-overwrite}
use Rattle.message.specs.Limits.{file_bytes}
use Rattle.bank_state.specs.Store.{part_at, with_part, file_of}
use Rattle.bank_state.proofs.Stores.{overwrite-same, overwrite-before, overwrite-behind}
use Rattle.unit_state.specs.Records.{run_count}
use Rattle.unit_state.specs.State.{rooms_bytes}

module _ (d : List ℕ) (whole : length d ≡ rooms_bytes) (i : ℕ) (inside : i < run_count) where
  pub length_part : length (part_at d i) ≡ file_bytes
  unfolding part_at
  length_part = simp (length-take, length-drop) (omega arith)

  module _ (x : List ℕ) (fits : length x ≤ file_bytes) where
    room : i * file_bytes + length x ≤ length d
    room = omega arith

    pub length-room : length (with_part d i x) ≡ rooms_bytes
    unfolding with_part
    length-room = length-overwrite d (i * file_bytes) x room ∙ whole

    pub room-file : file_of (with_part d i x) i (length x) ≡ x
    unfolding file_of part_at with_part
    room-file =
        take-take (length x) file_bytes (drop (i * file_bytes) (overwrite d (i * file_bytes) x)) fits
        ∙ overwrite-same d (i * file_bytes) x room

    pub room-part : length x ≡ file_bytes → part_at (with_part d i x) i ≡ x
    unfolding part_at with_part
    room-part e =
        ap (λ (n : ℕ). take n (drop (i * file_bytes) (overwrite d (i * file_bytes) x))) (sym e)
        ∙ overwrite-same d (i * file_bytes) x room

    pub room-other : (j : ℕ) → (j ≡ i → ⊥) → part_at (with_part d i x) j ≡ part_at d j
    unfolding part_at with_part
    room-other j other = apart (dec_lt j i)
      where
        apart : Dec (j < i) → take file_bytes (drop (j * file_bytes) (overwrite d (i * file_bytes) x))
            ≡ take file_bytes (drop (j * file_bytes) d)
        apart (yes h) = overwrite-before d (i * file_bytes) x room (j * file_bytes) file_bytes (omega arith)
        apart (no h) =
            ap (take file_bytes) (overwrite-behind d (i * file_bytes) x room (j * file_bytes) (omega arith))
