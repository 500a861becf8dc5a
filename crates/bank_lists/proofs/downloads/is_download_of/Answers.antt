-- A row in use is open, and its subscriber is a number of the row.
use Rattle.bank_rows.proofs.Reading.{download-read}
use Rattle.bank_lists.proofs.downloads.is_download_of.Goals as goal

pub returns : goal.returns
returns c =
    let a = c.args in
    rw (download-read a.rows.now c.requires.0 a.i c.requires.1)
