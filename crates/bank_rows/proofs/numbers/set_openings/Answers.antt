-- The openings accepted are a number of their own.
use Rattle.bank_rows.proofs.Writing.{openings-write}
use Rattle.bank_rows.proofs.numbers.set_openings.Goals as goal

pub returns : goal.returns
returns c = openings-write c.args.rows.now c.requires c.args.n
