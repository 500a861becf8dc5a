-- `code_digits` meets its contract. Assumes nothing.
use mathlib.Core.Path.{sym, ◌∙◌}
use Rattle.octets.proofs.Numbers.{overwrite-all}
use Rattle.print.specs.Text.{code_digits}
use Rattle.print.proofs.Digits.{length-digits_in}
use Rattle.print.proofs.text.code_digits.Goals as goal

pub returns : goal.returns
returns c =
    let long = sym (length-digits_in 256 0 code_digits c.args.code) in
    c.put_code.ensures.bytes ∙ overwrite-all _ _ long
