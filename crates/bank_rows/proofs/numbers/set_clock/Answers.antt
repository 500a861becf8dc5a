-- The first number is the clock.
use Rattle.bank_rows.proofs.Writing.{clock-write}
use Rattle.bank_rows.proofs.numbers.set_clock.Goals as goal

pub returns : goal.returns
returns c = clock-write c.args.rows.now c.requires c.args.clock
