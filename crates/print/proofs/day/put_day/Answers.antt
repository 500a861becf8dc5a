-- Its parts stand one after the other, and each has the room that is left. Assumes nothing.
use Prim.Native.Nat.{ℕ, ◌+◌, ◌≤◌}
use native.Mathlib.Omega.{arith}
use lib.ListN.{length}
use Rattle.print.specs.Day.{last_digits, day_text}
use Rattle.print.proofs.Digits.{length-digits_in}
use Rattle.print.proofs.Texts.{put_then, put-left}
use Rattle.print.proofs.day.put_day.Goals as goal

digits-most : (w x : ℕ) → length (last_digits w x) ≤ w
digits-most w x = omega (arith, length-digits_in 10 48 w x)

pub put_byte-b-requires : goal.put_byte-b-requires
put_byte-b-requires c =
    let left : c.put_last-a.result + 6 ≤ length c.put_last-a.new.output = put-left 4 6 c.put_last-a.ensures (digits-most 4 _) (omega arith) in
    omega (arith, left)

pub put_last-c-requires : goal.put_last-c-requires
put_last-c-requires c =
    let left : c.put_last-a.result + 6 ≤ length c.put_last-a.new.output = put-left 4 6 c.put_last-a.ensures (digits-most 4 _) (omega arith) in
    let left-2 : c.put_byte-b.result + 5 ≤ length c.put_byte-b.new.output = put-left 1 5 c.put_byte-b.ensures (omega arith) (left) in
    omega (arith, left-2)

pub put_byte-d-requires : goal.put_byte-d-requires
put_byte-d-requires c =
    let left : c.put_last-a.result + 6 ≤ length c.put_last-a.new.output = put-left 4 6 c.put_last-a.ensures (digits-most 4 _) (omega arith) in
    let left-2 : c.put_byte-b.result + 5 ≤ length c.put_byte-b.new.output = put-left 1 5 c.put_byte-b.ensures (omega arith) (left) in
    let left-3 : c.put_last-c.result + 3 ≤ length c.put_last-c.new.output = put-left 2 3 c.put_last-c.ensures (digits-most 2 _) (left-2) in
    omega (arith, left-3)

pub put_last-requires : goal.put_last-requires
put_last-requires c =
    let left : c.put_last-a.result + 6 ≤ length c.put_last-a.new.output = put-left 4 6 c.put_last-a.ensures (digits-most 4 _) (omega arith) in
    let left-2 : c.put_byte-b.result + 5 ≤ length c.put_byte-b.new.output = put-left 1 5 c.put_byte-b.ensures (omega arith) (left) in
    let left-3 : c.put_last-c.result + 3 ≤ length c.put_last-c.new.output = put-left 2 3 c.put_last-c.ensures (digits-most 2 _) (left-2) in
    let left-4 : c.put_byte-d.result + 2 ≤ length c.put_byte-d.new.output = put-left 1 2 c.put_byte-d.ensures (omega arith) (left-3) in
    left-4

pub returns : goal.returns
unfolding day_text
returns c =
    put_then c.put_last-a.ensures
    (put_then c.put_byte-b.ensures
    (put_then c.put_last-c.ensures (put_then c.put_byte-d.ensures c.put_last.ensures)))
