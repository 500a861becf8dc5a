-- `number_spelled` meets its contract: the last bytes of the sixteen are the number's own. Assumes nothing.
use Rattle.std.proofs.Common.{◌≡◌, ap, ◌∙◌, length, length-append}
use Rattle.octets.proofs.Numbers.{length-bytes_of, last-bytes}
use Rattle.frame_writer.proofs.writer.number_spelled.Goals as goal

pub returns : goal.returns
returns c =
    let a = c.args in
    let d = c.digits-bytes.ensures in
    let s = c.digits-bytes.result in
    let n : length s ≡ 16 = ap length d.0 ∙ simp (length-append, length-bytes_of) in
    c.spelled.ensures ∙ rw (rw n at (last-bytes a.w a.number.high a.number.low s d.0 c.requires d.1))
