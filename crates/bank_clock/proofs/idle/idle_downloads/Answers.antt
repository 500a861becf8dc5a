-- The numbers of the open downloads that are idle are as many as those downloads; a free record is not open.
use Rattle.std.proofs.Common.{◌≡◌, ◌∙◌, refl, rules, tests, arith}
use Rattle.std.proofs.lemmas.Iterator.{YieldsList-from_range}
use Rattle.std.proofs.lemmas.Iterator.Consumers.{YieldsList-at, YieldsList-from_filter, count_from_yields_List}
use Rattle.bank_state.specs.Rows.{count_of}
use Rattle.bank_state.specs.State.{no_download}
use Rattle.bank_state.proofs.Rows.{count-le}
use Rattle.bank_rows.specs.State.{bank_of, download_count_of}
use Rattle.bank_rows.proofs.Ranges.{row_passes, counted-below}
use Rattle.bank_rows.proofs.Reading.{length-downloads-of, all-downloads}
use Rattle.bank_clock.specs.Idle.{is_idle_download}
use Rattle.bank_clock.proofs.idle.idle_downloads.Goals as goal

pub returns : goal.returns
returns c =
    let a = c.args in
    let s = a.rows.now in
    let downloads = (bank_of s).downloads in
    let n = download_count_of s in
    let test = row_passes (is_idle_download a.clock) downloads no_download in
    let long = length-downloads-of s c.requires in
    let e : c.count.result ≡ count_of (is_idle_download a.clock) downloads =
    count_from_yields_List c.filter.result _ c.count.ensures.ran
    (YieldsList-from_filter _ test (YieldsList-at c.filter.ensures.source (YieldsList-from_range 0 n n refl (omega arith)))
    c.filter.ensures.closure (λ x r q k. search (rules, tests)))
    ∙ all-downloads s c.requires (is_idle_download a.clock) refl _ (counted-below _ downloads no_download n (omega (arith, c.requires.downloads, long))) in
    (omega (arith, e, count-le (is_idle_download a.clock) downloads, long), e)
