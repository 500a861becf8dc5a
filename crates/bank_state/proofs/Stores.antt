-- Laws of bytes written into a store, and of the lengths of its parts. Assumes nothing.
use Prim.Native.Nat.{ℕ, ◌+◌, ◌-◌, ◌*◌, ◌≤◌, ◌<◌}
use mathlib.Core.Bool.{Bool, true, false}
use mathlib.Core.List.{List, ◌++◌, append_assoc, append-nil}
use mathlib.Core.Path.{◌≡◌, refl, sym, ap, ◌∙◌}
use native.Mathlib.Nat.{add-sub_cancel_left, zero-add}
use native.Mathlib.Omega.{arith}
use lib.Dec.{ltb}
use lib.ListN.{length, take, drop, get_or, replicate, length-append, length-take, length-drop, length-replicate, take-append-drop}
use lib.Seq.{take_all, drop-length, drop-drop, length-take-le, drop_at, take-append-le, drop-append-le, take-append_seam, drop-append-add}
use borrow.Rule.Slice.PartMut.{put_mid, mid_of, mid_len, Post-is}
use borrow.Author.Tests.{ltb-true, ltb-false}
use Rattle.octets.specs.Bytes.{overwrite}
use Rattle.octets.proofs.Numbers.{length-overwrite}
use Rattle.message.specs.Limits.{subscribers, file_bytes}
use Rattle.bank_state.specs.Limits.{place_count, store_bytes}
use Rattle.bank_state.specs.State.{BankState, file_length}
use Rattle.bank_state.specs.Store.{part_at, with_part, zeroed, file_of, mailbox_file}

-- one more byte zeroed from the front
-- a part of n bytes that came back as x
pub part-back : (s x : List ℕ) (a n : ℕ) → a + n ≤ length s → length x ≡ length (mid_of a (a + n - a) s)
    → put_mid a (a + n - a) s x ≡ overwrite s a x
unfolding overwrite
part-back s x a n h e =
    let k : length x ≡ n = e ∙ mid_len a (a + n) s h ∙ add-sub_cancel_left a n in
    rw (Post-is a (a + n) s (omega arith), k)

-- a part of n bytes that came back zeroed
pub zeroed-part : (s : List ℕ) (a n : ℕ) → a + n ≤ length s
    → put_mid a (a + n - a) s (replicate (length (mid_of a (a + n - a) s)) 0) ≡ overwrite s a (replicate n 0)
zeroed-part s a n h =
    let m : ℕ = length (mid_of a (a + n - a) s) in
    let k : m ≡ n = mid_len a (a + n) s h ∙ add-sub_cancel_left a n in
    part-back s (replicate m 0) a n h (length-replicate {A = ℕ} m 0) ∙ rw k

-- the part of place i
pub part-lent : (s : List ℕ) (i : ℕ) → mid_of (i * file_bytes) (i * file_bytes + file_bytes - i * file_bytes) s ≡ part_at s i
unfolding part_at
part-lent s i = rw (add-sub_cancel_left (i * file_bytes) file_bytes)

-- a part from a to the end that came back with d at its front
pub appended : (s : List ℕ) (a : ℕ) (d : List ℕ) → a ≤ length s
    → put_mid a (length s - a) s (overwrite (mid_of a (length s - a) s) 0 d) ≡ overwrite s a d
unfolding overwrite
appended s a d h =
    rw (
      take_all (length s - a) (drop a s) (omega (arith, length-drop a s)),
      Post-is a (length s) s h,
      drop-length,
      append-nil,
      zero-add,
      drop-drop,
    )

-- ---- the parts of a store

inside-append : (l r : List ℕ) (b m : ℕ) → b + m ≤ length l → take m (drop b (l ++ r)) ≡ take m (drop b l)
inside-append l r b m h =
    rw (drop-append-le b l r (omega arith), take-append-le m (drop b l) r (simp length-drop (omega arith)))

module _ (s : List ℕ) (a : ℕ) (x : List ℕ) (h : a + length x ≤ length s) where
  length_front : length (take a s) ≡ a
  length_front = length-take-le a s (omega arith)

  -- the bytes written
  pub overwrite-same : take (length x) (drop a (overwrite s a x)) ≡ x
  unfolding overwrite
  overwrite-same = rw (drop_at (take a s) (x ++ drop (a + length x) s) a length_front, take-append_seam)

  -- the bytes before them
  pub overwrite-before : (b m : ℕ) → b + m ≤ a → take m (drop b (overwrite s a x)) ≡ take m (drop b s)
  unfolding overwrite
  overwrite-before b m k =
      inside-append (take a s) (x ++ drop (a + length x) s) b m (omega (arith, length_front))
      ∙ sym (inside-append (take a s) (drop a s) b m (omega (arith, length_front)))
      ∙ ap (λ (l : List ℕ). take m (drop b l)) (take-append-drop a s)

  -- the bytes behind them
  pub overwrite-behind : (b : ℕ) → a + length x ≤ b → drop b (overwrite s a x) ≡ drop b s
  unfolding overwrite
  overwrite-behind b k =
      let e = length-append (take a s) x in
      let n : b ≡ length (take a s ++ x) + (b - (a + length x)) = omega (arith, length_front) in
      let m : a + length x + (b - (a + length x)) ≡ b = omega arith in
      ap (λ (l : List ℕ). drop b l) (sym (append_assoc (take a s) x (drop (a + length x) s)))
      ∙ ap (λ (i : ℕ). drop i ((take a s ++ x) ++ drop (a + length x) s)) n
      ∙ drop-append-add (take a s ++ x) (drop (a + length x) s) (b - (a + length x))
      ∙ drop-drop (b - (a + length x)) (a + length x) s
      ∙ ap (λ (i : ℕ). drop i s) m

module _ (s : List ℕ) (i : ℕ) (x : List ℕ) (k : length s ≡ store_bytes) (e : length x ≡ file_bytes) (h : i < place_count) where
  in-store : i * file_bytes + length x ≤ length s
  in-store = omega arith

  pub length-with_part : length (with_part s i x) ≡ length s
  unfolding with_part
  length-with_part = length-overwrite s (i * file_bytes) x in-store

  pub part_same : part_at (with_part s i x) i ≡ x
  unfolding part_at with_part
  part_same =
      ap (λ (n : ℕ). take n (drop (i * file_bytes) (overwrite s (i * file_bytes) x))) (sym e)
      ∙ overwrite-same s (i * file_bytes) x in-store

  part-other-at : (j : ℕ) (t : Bool) → ltb j i ≡ t → (j ≡ i → ⊥) → part_at (with_part s i x) j ≡ part_at s j
  unfolding part_at with_part
  part-other-at j true l n = overwrite-before s (i * file_bytes) x in-store (j * file_bytes) file_bytes (omega (arith, ltb-true j i l))
  part-other-at j false l n =
      ap (take file_bytes) (overwrite-behind s (i * file_bytes) x in-store (j * file_bytes) (omega (arith, ltb-false j i l)))

  pub part-other : (j : ℕ) → (j ≡ i → ⊥) → part_at (with_part s i x) j ≡ part_at s j
  part-other j = part-other-at j (ltb j i) refl

module _ (s : List ℕ) (i : ℕ) (k : length s ≡ store_bytes) (h : i < place_count) where
  pub length-zeroed : length (zeroed s i) ≡ length s
  unfolding zeroed
  length-zeroed = length-with_part s i (replicate file_bytes 0) k (length-replicate {A = ℕ} file_bytes 0) h

  pub zeroed-same : part_at (zeroed s i) i ≡ replicate file_bytes 0
  unfolding zeroed
  zeroed-same = part_same s i (replicate file_bytes 0) k (length-replicate {A = ℕ} file_bytes 0) h

  pub zeroed-other : (j : ℕ) → (j ≡ i → ⊥) → part_at (zeroed s i) j ≡ part_at s j
  unfolding zeroed
  zeroed-other = part-other s i (replicate file_bytes 0) k (length-replicate {A = ℕ} file_bytes 0) h

-- ---- the parts of a store of 8

pub length_part : (d : List ℕ) → length d ≡ store_bytes → (i : ℕ) → i < place_count → length (part_at d i) ≡ file_bytes
unfolding part_at
length_part d whole i inside = simp (length-take, length-drop) (omega arith)

-- the file of a mailbox has the length that is kept for it
pub kept-long : (w : BankState) → length w.mailboxes ≡ store_bytes →
    ((i : ℕ) → i < place_count → get_or w.bank.files i 0 ≤ file_bytes) → (s : ℕ) → 1 ≤ s → s ≤ subscribers →
    length (mailbox_file w s) ≡ file_length s w.bank.files
unfolding mailbox_file file_length file_of
kept-long w long room s a b =
    let inside : s - 1 < place_count = omega arith in
    let l = length_part w.mailboxes long (s - 1) inside in
    let m = room (s - 1) inside in
    simp length-take (omega arith)
