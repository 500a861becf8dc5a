-- `put_byte` meets its contract. Assumes nothing.
use Rattle.print.proofs.Texts.{put_one}
use Rattle.print.proofs.text.put_byte.Goals as goal

pub returns : goal.returns
returns c = put_one _ _ _ c.requires
