-- Of the rows passed those that stay stand at the front; then the rows after them are wiped.
use Rattle.bank_rows.specs.Layout.{download_width}
use Rattle.bank_rows.specs.Records.{download_of, download_row, stays_open}
use Rattle.bank_lists.proofs.Keeping.{Keeping}
use Rattle.bank_rows.proofs.Records.{download-wide, download-row}
use Rattle.bank_lists.proofs.downloads.keep_downloads.Given as goal

abbrev pub invariant-loop-row : goal.invariant-loop-row
invariant-loop-row l = Keeping download_width download_of download_row (stays_open l.which) download-wide download-row l.initial.area l.area l.n l.kept l.row
