-- `digits` meets its contract: the number's bytes are those of its halves.
use Rattle.std.proofs.Common.{◌≡◌, ◌+◌, ◌*◌, ◌^◌, ap, ◌∙◌, arith}
use Rattle.std.specs.Int.{bytes_high_first}
use Rattle.octets.proofs.Numbers.{bytes_of-halves}
use Rattle.octets.proofs.bytes.digits.Goals as goal

pub returns : goal.returns
returns c =
    let a = c.args in
    let e : c.from.result * 2 ^ 64 + c.from-2.result ≡ a.high * 2 ^ 64 + a.low = omega arith in
    let l = c.ranges.low.fits in
    (c.to_be_bytes.ensures ∙ ap (bytes_high_first 16) e ∙ bytes_of-halves a.high a.low l, l)
