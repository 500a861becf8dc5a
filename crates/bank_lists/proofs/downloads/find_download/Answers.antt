-- The search passes the open downloads that are others; a free record is none.
use Rattle.std.proofs.Common.{true, false, ◌≡◌, ◌∙◌, refl, rules, tests, arith}
use Rattle.std.proofs.lemmas.Iterator.{first_from_Range}
use Rattle.bank_state.specs.Limits.{place_count}
use Rattle.bank_state.specs.Search.{is_download, find_download}
use Rattle.bank_state.specs.State.{no_download}
use Rattle.bank_rows.specs.Records.{bits}
use Rattle.bank_rows.specs.State.{bank_of}
use Rattle.bank_rows.proofs.Ranges.{row_passes, first-or}
use Rattle.bank_rows.proofs.Reading.{length-downloads-of, no-download}
use Rattle.bank_lists.proofs.downloads.find_download.Goals as goal

pub returns : goal.returns
unfolding find_download is_download
returns c =
    let a = c.args in
    let s = a.rows.now in
    let downloads = (bank_of s).downloads in
    let p = is_download a.subscriber (bits a.high a.low) in
    let test = row_passes p downloads no_download in
    c.unwrap_or.ensures
    ∙ first-or _ downloads no_download _ place_count (omega (arith, c.requires.downloads, length-downloads-of s c.requires))
    (no-download s c.requires p refl) c.find.result
    (first_from_Range _ _ _ c.find.result (λ i. test i ≡ true) (λ i. test i ≡ false) c.find.ensures.ran (λ x q k. search (rules, tests)) (λ x q k. search (rules, tests)))
