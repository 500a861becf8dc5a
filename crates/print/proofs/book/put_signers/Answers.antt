-- The count, the text, and the byte after them, each with the room that is left; the low byte of a set has its signers.
-- Assumes nothing.
use Prim.Native.Nat.{ℕ, ◌+◌, ◌%◌, ◌≤◌}
use mathlib.Core.Path.{◌≡◌, ap, ◌∙◌}
use native.Mathlib.Omega.{arith}
use lib.Dec.{leb}
use lib.ListN.{length}
use Rattle.signers.specs.Signers.{releasing, is_released}
use Rattle.signers.proofs.Counts.{count-low-byte}
use Rattle.print.specs.Text.{column_room}
use Rattle.print.specs.Book.{released_room, signer_columns}
use Rattle.print.proofs.Digits.{column-most}
use Rattle.print.proofs.Lengths.{released-most}
use Rattle.print.proofs.Texts.{put_then, put-left}
use Rattle.print.proofs.book.put_signers.Goals as goal

released-low-byte : (set : ℕ) → is_released (set % 256) ≡ is_released set
unfolding is_released
released-low-byte set = ap (λ (n : ℕ). leb releasing n) (count-low-byte set)

pub put_released-b-requires : goal.put_released-b-requires
put_released-b-requires c =
    let left : c.put_column-a.result + (released_room + 1) ≤ length c.put_column-a.new.output = put-left column_room (released_room + 1) c.put_column-a.ensures (column-most _ _) (omega arith) in
    omega (arith, left)

pub put_byte-requires : goal.put_byte-requires
put_byte-requires c =
    let left : c.put_column-a.result + (released_room + 1) ≤ length c.put_column-a.new.output = put-left column_room (released_room + 1) c.put_column-a.ensures (column-most _ _) (omega arith) in
    let left-2 : c.put_released-b.result + 1 ≤ length c.put_released-b.new.output = put-left released_room 1 c.put_released-b.ensures (released-most c.is_released.result)
    (left) in
    omega (arith, left-2)

pub returns : goal.returns
unfolding signer_columns
returns c =
    rw (← (c.count.ensures ∙ count-low-byte _), ← (c.is_released.ensures ∙ released-low-byte _))
    (put_then c.put_column-a.ensures (put_then c.put_released-b.ensures c.put_byte.ensures))
