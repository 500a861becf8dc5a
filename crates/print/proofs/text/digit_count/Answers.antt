-- `digit_count` meets its contract: the logarithm is one below the count. Assumes nothing.
use mathlib.Core.Path.{sym}
use Rattle.print.proofs.Digits.{digit_count-log}
use Rattle.print.proofs.text.digit_count.Goals as goal

pub returns : goal.returns
returns c =
    let e = c.ilog10.ensures in
    sym (digit_count-log c.ilog10.result c.args.x c.max.result c.max.ensures e.bound e.power_le e.next_power_gt)
