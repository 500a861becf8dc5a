-- `put_hex` meets its contract. The loop keeps that the first bytes are written. Assumes nothing.
use native.Mathlib.Omega.{arith}
use lib.ListN.{length-set}
use lib.Seq.{take_all}
use Rattle.print.proofs.Texts.{put-length, put-nothing, put_then}
use Rattle.driver_print.specs.Line.{hex_of}
use Rattle.driver_print.proofs.Texts.{hex_of-next, put_two}
use Rattle.driver_print.proofs.call_line.put_hex.Goals as goal

pub loop-b-init : goal.loop-b-init
unfolding hex_of
loop-b-init c = (omega arith, put-nothing _ _ (omega arith))

pub bounds-output-end : goal.bounds-output-end
bounds-output-end c = omega (arith, put-length c.loop-b.invariant.1)

pub overflow_add-output : goal.overflow_add-output
overflow_add-output c = omega (arith, put-length c.loop-b.invariant.1)

pub bounds-output-end-in-loop-b : goal.bounds-output-end-in-loop-b
bounds-output-end-in-loop-b c = simp length-set (omega (arith, put-length c.loop-b.invariant.1))

pub overflow_add-end : goal.overflow_add-end
overflow_add-end c = omega (arith, put-length c.loop-b.invariant.1)

pub loop-b-preserved : goal.loop-b-preserved
loop-b-preserved c =
    let b = c.args.bytes.now in
    let fits = put-length c.loop-b.invariant.1 in
    let more = put_two c.loop-b.output c.loop-b.end c.hex_digit.result c.hex_digit-in-loop-b.result (omega arith) in
    (omega arith, rw (hex_of-next b c.loop-b.b-index (omega arith), ← c.hex_digit.ensures, ← c.hex_digit-in-loop-b.ensures) (put_then c.loop-b.invariant.1 more))

pub shape_of-output : goal.shape_of-output
shape_of-output c = put-length c.loop-b.invariant.1

pub returns : goal.returns
returns c =
    rw (take_all c.loop-b.b-index c.args.bytes.now (omega arith)) at c.loop-b.invariant.1
