-- The lengths of the files stand one after another.
use Rattle.bank_rows.proofs.Reading.{file-read}
use Rattle.bank_rows.proofs.numbers.file_length.Goals as goal

pub returns : goal.returns
returns c = let a = c.args in file-read a.rows.now a.i c.requires.1
