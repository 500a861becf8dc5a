-- The seven stand one after the other, and each has the room that is left. Assumes nothing.
use Prim.Native.Nat.{◌+◌, ◌*◌, ◌≤◌}
use native.Mathlib.Omega.{arith}
use lib.ListN.{length}
use Rattle.print.specs.Text.{max_digits, column_room}
use Rattle.print.specs.Seven.{counts_text}
use Rattle.print.proofs.Digits.{column-most}
use Rattle.print.proofs.Texts.{put_then, put-left}
use Rattle.print.proofs.seven.put_counts.Goals as goal

pub put_column-b-requires : goal.put_column-b-requires
put_column-b-requires c =
    let left : c.put_column-a.result + (5 * column_room + max_digits) ≤ length c.put_column-a.new.output = put-left column_room (5 * column_room + max_digits) c.put_column-a.ensures (column-most _ _) (omega arith) in
    omega (arith, left)

pub put_column-d-requires : goal.put_column-d-requires
put_column-d-requires c =
    let left : c.put_column-a.result + (5 * column_room + max_digits) ≤ length c.put_column-a.new.output = put-left column_room (5 * column_room + max_digits) c.put_column-a.ensures (column-most _ _) (omega arith) in
    let left-2 : c.put_column-b.result + (4 * column_room + max_digits) ≤ length c.put_column-b.new.output = put-left column_room (4 * column_room + max_digits) c.put_column-b.ensures (column-most _ _)
    (omega (arith, left)) in
    omega (arith, left-2)

pub put_column-e-requires : goal.put_column-e-requires
put_column-e-requires c =
    let left : c.put_column-a.result + (5 * column_room + max_digits) ≤ length c.put_column-a.new.output = put-left column_room (5 * column_room + max_digits) c.put_column-a.ensures (column-most _ _) (omega arith) in
    let left-2 : c.put_column-b.result + (4 * column_room + max_digits) ≤ length c.put_column-b.new.output = put-left column_room (4 * column_room + max_digits) c.put_column-b.ensures (column-most _ _)
    (omega (arith, left)) in
    let left-3 : c.put_column-d.result + (3 * column_room + max_digits) ≤ length c.put_column-d.new.output = put-left column_room (3 * column_room + max_digits) c.put_column-d.ensures (column-most _ _)
    (omega (arith, left-2)) in
    omega (arith, left-3)

pub put_column-f-requires : goal.put_column-f-requires
put_column-f-requires c =
    let left : c.put_column-a.result + (5 * column_room + max_digits) ≤ length c.put_column-a.new.output = put-left column_room (5 * column_room + max_digits) c.put_column-a.ensures (column-most _ _) (omega arith) in
    let left-2 : c.put_column-b.result + (4 * column_room + max_digits) ≤ length c.put_column-b.new.output = put-left column_room (4 * column_room + max_digits) c.put_column-b.ensures (column-most _ _)
    (omega (arith, left)) in
    let left-3 : c.put_column-d.result + (3 * column_room + max_digits) ≤ length c.put_column-d.new.output = put-left column_room (3 * column_room + max_digits) c.put_column-d.ensures (column-most _ _)
    (omega (arith, left-2)) in
    let left-4 : c.put_column-e.result + (2 * column_room + max_digits) ≤ length c.put_column-e.new.output = put-left column_room (2 * column_room + max_digits) c.put_column-e.ensures (column-most _ _)
    (omega (arith, left-3)) in
    omega (arith, left-4)

pub put_column-g-requires : goal.put_column-g-requires
put_column-g-requires c =
    let left : c.put_column-a.result + (5 * column_room + max_digits) ≤ length c.put_column-a.new.output = put-left column_room (5 * column_room + max_digits) c.put_column-a.ensures (column-most _ _) (omega arith) in
    let left-2 : c.put_column-b.result + (4 * column_room + max_digits) ≤ length c.put_column-b.new.output = put-left column_room (4 * column_room + max_digits) c.put_column-b.ensures (column-most _ _)
    (omega (arith, left)) in
    let left-3 : c.put_column-d.result + (3 * column_room + max_digits) ≤ length c.put_column-d.new.output = put-left column_room (3 * column_room + max_digits) c.put_column-d.ensures (column-most _ _)
    (omega (arith, left-2)) in
    let left-4 : c.put_column-e.result + (2 * column_room + max_digits) ≤ length c.put_column-e.new.output = put-left column_room (2 * column_room + max_digits) c.put_column-e.ensures (column-most _ _)
    (omega (arith, left-3)) in
    let left-5 : c.put_column-f.result + (column_room + max_digits) ≤ length c.put_column-f.new.output = put-left column_room (column_room + max_digits) c.put_column-f.ensures (column-most _ _)
    (omega (arith, left-4)) in
    omega (arith, left-5)

pub put_decimal-requires : goal.put_decimal-requires
put_decimal-requires c =
    let left : c.put_column-a.result + (5 * column_room + max_digits) ≤ length c.put_column-a.new.output = put-left column_room (5 * column_room + max_digits) c.put_column-a.ensures (column-most _ _) (omega arith) in
    let left-2 : c.put_column-b.result + (4 * column_room + max_digits) ≤ length c.put_column-b.new.output = put-left column_room (4 * column_room + max_digits) c.put_column-b.ensures (column-most _ _)
    (omega (arith, left)) in
    let left-3 : c.put_column-d.result + (3 * column_room + max_digits) ≤ length c.put_column-d.new.output = put-left column_room (3 * column_room + max_digits) c.put_column-d.ensures (column-most _ _)
    (omega (arith, left-2)) in
    let left-4 : c.put_column-e.result + (2 * column_room + max_digits) ≤ length c.put_column-e.new.output = put-left column_room (2 * column_room + max_digits) c.put_column-e.ensures (column-most _ _)
    (omega (arith, left-3)) in
    let left-5 : c.put_column-f.result + (column_room + max_digits) ≤ length c.put_column-f.new.output = put-left column_room (column_room + max_digits) c.put_column-f.ensures (column-most _ _)
    (omega (arith, left-4)) in
    let left-6 : c.put_column-g.result + max_digits ≤ length c.put_column-g.new.output = put-left column_room max_digits c.put_column-g.ensures (column-most _ _)
    (omega (arith, left-5)) in
    left-6

pub returns : goal.returns
unfolding counts_text
returns c =
    put_then c.put_column-a.ensures
    (put_then c.put_column-b.ensures
    (put_then c.put_column-d.ensures
    (put_then c.put_column-e.ensures
    (put_then c.put_column-f.ensures
    (put_then c.put_column-g.ensures c.put_decimal.ensures)))))
