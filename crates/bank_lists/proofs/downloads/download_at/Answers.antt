-- Each field is a number of the row.
use mathlib.Core.Path.{sym}
use Rattle.bank_rows.proofs.Reading.{download-read}
use Rattle.bank_lists.proofs.downloads.download_at.Goals as goal

pub returns : goal.returns
returns c =
    sym (download-read c.args.rows.now c.requires.0 c.args.i c.requires.1)
