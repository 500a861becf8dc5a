-- The digits, then the newline. Assumes nothing.
use native.Mathlib.Omega.{arith}
use Rattle.message.specs.Limits.{file_bytes}
use Rattle.print.proofs.Texts.{put_then, put-left}
use Prim.Native.Nat.{◌*◌}
use Rattle.driver_print.specs.Tables.{content_text}
use Rattle.driver_print.proofs.Texts.{length-hex_of}
use Rattle.driver_print.proofs.tables.put_content.Goals as goal

pub put_hex-a-requires : goal.put_hex-a-requires
put_hex-a-requires c = omega (arith, c.requires.1)

pub put_byte-requires : goal.put_byte-requires
put_byte-requires c =
    let most = length-hex_of c.args.content.now in
    omega (arith, put-left (2 * file_bytes) 1 c.put_hex-a.ensures (omega (arith, most, c.requires.1)) c.requires.0)

pub returns : goal.returns
unfolding content_text
returns c =
    put_then c.put_hex-a.ensures c.put_byte.ensures
