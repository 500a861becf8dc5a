-- What the loops over a table's rows keep, with so many bytes of room for each row. Assumes nothing.
use Prim.Native.Nat.{ℕ, suc, ◌+◌, ◌-◌, ◌*◌, ◌≤◌, ◌<◌}
use mathlib.Core.List.{List}
use mathlib.Core.Path.{◌≡◌}
use native.Mathlib.Numerals.{add-one}
use native.Mathlib.Omega.{arith}
use lib.ListN.{length}
use Rattle.print.specs.Text.{Put, rows_to}
use Rattle.print.proofs.Texts.{put-length, put-nothing, put_then}

module _ (row : ℕ → List ℕ) (room n : ℕ) (old : List ℕ) (at : ℕ) where
  -- the first i of n rows are written, and the others have room
  pub record Rows (i : ℕ) (output : List ℕ) (end : ℕ) : Type 0 where
    pub most : i ≤ n
    pub left : end + (n - i) * room ≤ length old
    pub put : Put old at (rows_to row i) output end

  pub rows_start : at + n * room ≤ length old → Rows 0 old at
  unfolding rows_to
  rows_start h =
      let e : n - 0 ≡ n = omega arith in
      record { most = omega arith; left = rw e h; put = put-nothing old at (omega arith) }

  pub rows_left : {i end : ℕ} {output : List ℕ} → Rows i output end → i < n → end + room ≤ length output
  rows_left {i} {end} k h =
      let e : n - i ≡ suc (n - (i + 1)) = omega arith in
      omega (arith, put-length k.put, rw e at k.left)

  pub rows_next : {i end behind : ℕ} {output new : List ℕ} → Rows i output end → i < n → length (row i) ≤ room
      → Put output end (row i) new behind → Rows (i + 1) new behind
  unfolding rows_to
  rows_next {i} {end} {behind} k h m p =
      let e : n - i ≡ suc (n - (i + 1)) = omega arith in
      record {
        most = omega arith;
        left = omega (arith, p.place, rw e at k.left);
        put = rw (add-one i) (put_then k.put p);
      }

  pub rows_end : {i end : ℕ} {output : List ℕ} → Rows i output end → n ≤ i → Put old at (rows_to row n) output end
  rows_end {i} k h = let e : i ≡ n = omega (arith, k.most) in rw e at k.put
