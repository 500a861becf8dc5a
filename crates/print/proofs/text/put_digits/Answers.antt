-- `put_digits` meets its contract. The loop keeps that the digits left, written before those written, are the digits of x. Assumes nothing.
use mathlib.Core.Path.{◌≡◌, sym, ◌∙◌}
use native.Mathlib.Nat.{mod-lt}
use native.Mathlib.Omega.{arith}
use Rattle.octets.specs.Bytes.{overwrite}
use Rattle.octets.proofs.Numbers.{overwrite-nil}
use Rattle.print.specs.Text.{digits_in}
use Rattle.print.proofs.Digits.{length-digits_in, digits_step}
use Rattle.print.proofs.text.put_digits.Goals as goal

pub overflow_add-output : goal.overflow_add-output
overflow_add-output c =
    omega (arith, mod-lt c.loop-i.rest c.requires.1)

pub overflow_cast-output : goal.overflow_cast-output
overflow_cast-output c =
    omega (arith, mod-lt c.loop-i.rest c.requires.1)

pub loop-i-preserved : goal.loop-i-preserved
loop-i-preserved c =
    let a = c.args in
    let l = c.loop-i in
    l.invariant ∙ digits_step a.base a.first l.i l.rest l.output a.at (omega arith) (omega arith)

pub returns : goal.returns
unfolding digits_in
returns c =
    let a = c.args in
    let l = c.loop-i in
    let e : l.i ≡ 0 = omega arith in
    let last : overwrite l.output a.at (digits_in a.base a.first l.i l.rest) ≡ l.output =
    rw e (overwrite-nil l.output a.at) in
    record {
      place = omega (arith, length-digits_in a.base a.first a.w a.x);
      fits = omega arith;
      bytes = sym (l.invariant ∙ last);
    }
