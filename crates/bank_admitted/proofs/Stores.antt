-- Laws of the lent stores, beside those of bank_state: bytes written at the front of a part. Assumes nothing.
use Prim.Native.Nat.{ℕ, ◌+◌, ◌-◌, ◌*◌, ◌≤◌, ◌<◌}
use mathlib.Core.List.{List, ◌++◌}
use mathlib.Core.Path.{◌≡◌, sym, ap, ◌∙◌}
use native.Mathlib.Decide.{dec_lt}
use native.Mathlib.Omega.{arith}
use lib.ListN.{length, take, drop, length-drop}
use lib.Seq.{drop_at, drop-drop, take-add, length-take-le}
use Rattle.octets.specs.Bytes.{overwrite}
use Rattle.octets.proofs.Numbers.{length-overwrite}
use Rattle.message.specs.Limits.{file_bytes}
use Rattle.bank_state.specs.Limits.{place_count, store_bytes}
use Rattle.bank_state.specs.Store.{part_at}
use Rattle.bank_state.proofs.Stores.{overwrite-same, overwrite-before, overwrite-behind}

pub drop-take : {A : Type 0} (a r : ℕ) (l : List A) → a ≤ length l → drop a (take (a + r) l) ≡ take r (drop a l)
drop-take a r l h = rw take-add (drop_at (take a l) (take r (drop a l)) a (length-take-le a l h))

-- bytes written, and m of those that stand from there on
written-part : (s : List ℕ) (a : ℕ) (x : List ℕ) (m : ℕ) → length x ≤ m → a + m ≤ length s →
    take m (drop a (overwrite s a x)) ≡ x ++ drop (length x) (take m (drop a s))
written-part s a x m fits room =
    let r : ℕ = m - length x in
    let e : length x + r ≡ m = omega arith in
    let h : a + length x ≤ length s = omega arith in
    let k : length x ≤ length (drop a s) = simp length-drop (omega arith) in
    let b : drop (a + length x) (overwrite s a x) ≡ drop (a + length x) s = overwrite-behind s a x h (a + length x) (omega arith) in
    rw (← e, take-add (length x) r (drop a (overwrite s a x)), overwrite-same s a x h, drop-drop, b)
    (ap (λ (l : List ℕ). x ++ l) (ap (take r) (sym (drop-drop (length x) a s)) ∙ sym (drop-take (length x) r (drop a s) k)))

-- a store of 8 parts
module _ (d : List ℕ) (whole : length d ≡ store_bytes) (i : ℕ) (inside : i < place_count) where
  module _ (xs : List ℕ) (fits : length xs ≤ file_bytes) where
    room : i * file_bytes + length xs ≤ length d
    room = omega arith

    pub length-written : length (overwrite d (i * file_bytes) xs) ≡ store_bytes
    length-written = length-overwrite d (i * file_bytes) xs room ∙ whole

    pub part-written : part_at (overwrite d (i * file_bytes) xs) i ≡ xs ++ drop (length xs) (part_at d i)
    unfolding part_at
    part-written = written-part d (i * file_bytes) xs file_bytes fits (omega arith)

    pub part-unwritten : (j : ℕ) → (j ≡ i → ⊥) → part_at (overwrite d (i * file_bytes) xs) j ≡ part_at d j
    unfolding part_at
    part-unwritten j ne = apart (dec_lt j i)
      where
        apart : Dec (j < i) → part_at (overwrite d (i * file_bytes) xs) j ≡ part_at d j
        apart (yes h) = overwrite-before d (i * file_bytes) xs room (j * file_bytes) file_bytes (omega arith)
        apart (no h) = ap (take file_bytes) (overwrite-behind d (i * file_bytes) xs room (j * file_bytes) (omega arith))
