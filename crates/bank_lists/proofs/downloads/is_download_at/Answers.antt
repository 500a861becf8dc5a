-- A row in use says its download.
use Prim.Native.Nat.{◌+◌, ◌*◌}
use mathlib.Core.Path.{sym, ap, ◌∙◌}
use Rattle.bank_state.specs.Search.{is_download}
use Rattle.bank_rows.specs.Layout.{downloads_at, download_width}
use Rattle.bank_rows.specs.Records.{bits}
use Rattle.bank_rows.proofs.Reading.{download-read, download-from}
use Rattle.bank_lists.proofs.downloads.is_download_at.Goals as goal

pub returns : goal.returns
returns c =
    let a = c.args in
    c.is_row_of.ensures
    ∙ ap (is_download a.subscriber (bits a.high a.low))
    (download-from a.rows.now (downloads_at + download_width * a.i) ∙ sym (download-read a.rows.now c.requires.0 a.i c.requires.1))
