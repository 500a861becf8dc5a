-- `content` meets its contract: a number's own bytes are the last of the sixteen. Assumes nothing.
use Rattle.std.proofs.Common.{◌≤◌, arith}
use borrow.Author.Tests.{ne_eqb}
use Rattle.frame_table.specs.Table.{width}
use Rattle.octets.proofs.Numbers.{last-bytes}
use Rattle.frame_table.proofs.Values.{width_narrow}
use Rattle.frame_writer.proofs.writer.content.Goals as goal

pub overflow_sub-result : goal.overflow_sub-result
overflow_sub-result c =
    omega (arith, width_narrow c.args.tag c.requires.0 c.if-tag-eq-DATA.false, c.width.ensures)

pub returns-else-tag-eq-DATA : goal.returns-else-tag-eq-DATA
returns-else-tag-eq-DATA c hi lo q m =
    let a = c.args in
    let n = c.if-tag-eq-DATA.false in
    let w : width a.tag ≤ 16 = omega (arith, width_narrow a.tag c.requires.0 n) in
    rw (c.width.ensures, ne_eqb _ _ n) (last-bytes (width a.tag) hi lo a.bytes.now q w m)
