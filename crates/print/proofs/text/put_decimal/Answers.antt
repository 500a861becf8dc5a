-- `put_decimal` meets its contract. Assumes nothing.
use native.Mathlib.Omega.{arith}
use Rattle.print.specs.Text.{decimal}
use Rattle.print.proofs.Digits.{digit_count-most}
use Rattle.print.proofs.text.put_decimal.Goals as goal

pub put_digits-requires : goal.put_digits-requires
put_digits-requires c =
    let most = digit_count-most c.args.x in
    (omega (arith, c.digit_count.ensures), omega arith, omega arith)

pub returns : goal.returns
unfolding decimal
returns c =
    rw (← c.digit_count.ensures) c.put_digits.ensures
