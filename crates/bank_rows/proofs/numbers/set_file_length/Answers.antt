-- The lengths of the files stand one after another.
use Rattle.bank_rows.proofs.Writing.{file-write}
use Rattle.bank_rows.proofs.numbers.set_file_length.Goals as goal

pub returns : goal.returns
returns c = file-write c.args.rows.now c.requires.0 c.args.i c.args.n c.requires.1
