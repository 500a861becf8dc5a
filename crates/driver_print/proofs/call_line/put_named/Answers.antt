-- `put_named` meets its contract. Assumes nothing.
use Rattle.print.proofs.Texts.{put_then}
use Rattle.driver_print.proofs.call_line.put_named.Goals as goal

pub returns : goal.returns
returns c = put_then c.put_text-a.ensures c.put_hex.ensures
