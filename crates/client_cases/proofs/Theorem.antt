-- Every row of the table of the client's cases gives what is due, by computation: each list of rows by itself. Assumes
-- nothing.
use mathlib.Core.Path.{refl}
use Rattle.case_rows.specs.Rows.{Holds}
use Rattle.case_rows.proofs.Tables.{listed, both}
use Rattle.client_cases.specs.Table.{
  come,
  begin_cases,
  run_cases,
  upload_cases,
  edition_cases,
  not_lodged_cases,
  download_cases,
  client_cases,
}
use Rattle.client_cases.proofs.Computing.{calls}

begins-hold : Holds come begin_cases
unfolding begin_cases calls
begins-hold = listed begin_cases refl

runs-hold : Holds come run_cases
unfolding run_cases calls
runs-hold = listed run_cases refl

uploads-hold : Holds come upload_cases
unfolding upload_cases calls
uploads-hold = listed upload_cases refl

editions-hold : Holds come edition_cases
unfolding edition_cases calls
editions-hold = listed edition_cases refl

not-lodged-hold : Holds come not_lodged_cases
unfolding not_lodged_cases calls
not-lodged-hold = listed not_lodged_cases refl

downloads-hold : Holds come download_cases
unfolding download_cases calls
downloads-hold = listed download_cases refl

pub client-cases-hold : Holds come client_cases
unfolding client_cases
client-cases-hold =
    both begins-hold
    (both runs-hold (both uploads-hold (both editions-hold (both not-lodged-hold downloads-hold))))
