-- Each half is shorter, and comes back zeroed.
use Prim.Native.Nat.{ℕ, ◌+◌, ◌-◌, ◌/◌, ◌≤◌}
use mathlib.Core.List.{List, ◌++◌, append-nil}
use mathlib.Core.Path.{◌≡◌, sym, ap, ◌∙◌}
use native.Mathlib.Omega.{arith}
use borrow.Rule.Slice.PartMut.{put_mid, mid_of, mid_len, Post-is}
use lib.ListN.{
  length,
  take,
  drop,
  replicate,
  length-append,
  length-drop,
  length-replicate,
  replicate-append-replicate,
}
use lib.Seq.{length-take-le, drop-length, take_at}
use Rattle.bank_state.proofs.store.+clear.Goals as goal

-- the bytes with the front half, of m bytes, come back as x
abbrev halved : List ℕ → ℕ → List ℕ → List ℕ
halved s m x = x ++ drop m s

module _ (s : List ℕ) (m : ℕ) (h : m ≤ length s) (x : List ℕ) (e : x ≡ replicate (length (take m s)) 0) where
  length_front : length x ≡ m
  length_front = ap length e ∙ length-replicate _ 0 ∙ length-take-le m s h

  length-halved : length (halved s m x) ≡ length s
  length-halved = simp (length-append, length-drop) (omega (arith, length_front))

  -- the other half comes back as y
  halves : (y : List ℕ) → y ≡ replicate (length (mid_of m (length (halved s m x) - m) (halved s m x))) 0
      → put_mid m (length (halved s m x) - m) (halved s m x) y ≡ replicate (length s) 0
  halves y k =
      let l = length-halved in
      let n : m + (length s - m) ≡ length s = omega arith in
      rw (
        k,
        mid_len m (length (halved s m x)) (halved s m x) (omega arith),
        Post-is m (length (halved s m x)) (halved s m x) (omega arith),
        drop-length,
        append-nil,
        take_at x (drop m s) m length_front,
        l,
        e,
        length-take-le m s h,
        replicate-append-replicate {A = ℕ} m _ 0,
        n,
      )

pub slice_bounds-clear-end-else-n-le-BLOCK_BYTES : goal.slice_bounds-clear-end-else-n-le-BLOCK_BYTES
slice_bounds-clear-end-else-n-le-BLOCK_BYTES t c = sym (length-take-le _ c.args.part.now (omega arith))

pub clear-requires : goal.clear-requires
clear-requires t c =
    let s = c.args.part.now in
    (omega (arith, length-take-le (length s / 2) s (omega arith)), tt)

pub clear-requires-else-n-le-BLOCK_BYTES : goal.clear-requires-else-n-le-BLOCK_BYTES
clear-requires-else-n-le-BLOCK_BYTES t c =
    let s = c.args.part.now in
    let m : ℕ = length s / 2 in
    let x = c.clear.new.part in
    let l = length-halved s m (omega arith) x c.clear.ensures in
    (omega (arith, mid_len m (length (halved s m x)) (halved s m x) (omega arith)), tt)

pub returns-else-n-le-BLOCK_BYTES : goal.returns-else-n-le-BLOCK_BYTES
returns-else-n-le-BLOCK_BYTES t c =
    let s = c.args.part.now in
    halves s (length s / 2) (omega arith) c.clear.new.part c.clear.ensures c.clear-else-n-le-BLOCK_BYTES.new.part c.clear-else-n-le-BLOCK_BYTES.ensures
