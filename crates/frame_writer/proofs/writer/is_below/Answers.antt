-- `is_below` meets its contract. Assumes nothing.
use Rattle.std.proofs.Common.{sym, ◌∙◌, rules}
use borrow.Author.Tests.{le-leb, lt-ltb}
use Rattle.frame_writer.proofs.Numbers.{wide_below, shifted-below}
use Rattle.frame_writer.proofs.writer.is_below.Goals as goal

pub returns-then-w-ge8 : goal.returns-then-w-ge8
returns-then-w-ge8 c =
    le-leb 8 c.args.w c.if-w-ge8.true
    ∙ sym (lt-ltb _ _ (wide_below c.args.x c.args.w (search rules) c.if-w-ge8.true))

pub returns-else-w-ge8 : goal.returns-else-w-ge8
returns-else-w-ge8 c = shifted-below c.args.x c.args.w
