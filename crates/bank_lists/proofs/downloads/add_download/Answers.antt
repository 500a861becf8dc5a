-- The next row is written and the count is one more.
use Rattle.bank_rows.proofs.Reading.{free-download}
use Rattle.bank_rows.proofs.Writing.{download-add}
use Rattle.bank_lists.proofs.downloads.add_download.Goals as goal

pub put_download-requires : goal.put_download-requires
put_download-requires c = (c.requires.0, c.requires.1)

pub returns : goal.returns
returns c =
    let a = c.args in
    let s = a.rows.now in
    rw (c.put_download.ensures, free-download s) (download-add s c.requires.0 a.e c.requires.2 c.requires.1)
