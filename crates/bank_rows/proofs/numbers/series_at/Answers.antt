-- The counters of the series stand one after another.
use Rattle.bank_rows.proofs.Reading.{series-read}
use Rattle.bank_rows.proofs.numbers.series_at.Goals as goal

pub returns : goal.returns
returns c = let a = c.args in series-read a.rows.now a.i c.requires.1
