-- The four characters fill the text. Assumes nothing.
use mathlib.Core.Path.{sym, ◌∙◌}
use Rattle.octets.proofs.Numbers.{overwrite-all}
use Rattle.print.specs.Text.{order_characters}
use Rattle.print.proofs.Digits.{length-digits_in}
use Rattle.exercise_texts.proofs.say.order_number_text.Goals as goal

pub returns : goal.returns
returns c =
    let long = sym (length-digits_in 256 0 order_characters c.args.x) in
    c.put_order_number.ensures.bytes ∙ overwrite-all _ _ long
