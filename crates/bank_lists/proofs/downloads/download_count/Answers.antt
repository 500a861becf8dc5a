-- The rows in use stand first, so their count is the first free one.
use mathlib.Core.Path.{sym}
use Rattle.bank_rows.proofs.Reading.{free-download}
use Rattle.bank_lists.proofs.downloads.download_count.Goals as goal

pub returns : goal.returns
returns c = sym (free-download c.args.rows.now)
