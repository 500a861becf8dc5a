-- The numbers of the download are written over its row.
use native.Mathlib.Omega.{arith}
use mathlib.Core.Path.{◌∙◌}
use Rattle.bank_rows.proofs.Writing.{download-write}
use Rattle.bank_lists.proofs.downloads.set_download.Goals as goal

pub put_download-requires : goal.put_download-requires
put_download-requires c = (c.requires.0, omega (arith, c.requires.0.downloads))

pub returns : goal.returns
returns c =
    let a = c.args in
    c.put_download.ensures ∙ download-write a.rows.now c.requires.0 a.e c.requires.2 a.i c.requires.1
