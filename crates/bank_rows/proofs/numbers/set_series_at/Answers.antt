-- The counters of the series stand one after another.
use Rattle.bank_rows.proofs.Writing.{series-write}
use Rattle.bank_rows.proofs.numbers.set_series_at.Goals as goal

pub returns : goal.returns
returns c = series-write c.args.rows.now c.requires.0 c.args.i c.args.n c.requires.1
