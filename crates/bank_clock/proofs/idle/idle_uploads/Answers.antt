-- The numbers of the places whose upload is idle are as many as those places.
use Rattle.std.proofs.Common.{refl, ◌≡◌, ◌∙◌, rules, tests, arith}
use Rattle.std.proofs.lemmas.Iterator.{YieldsList-from_range}
use Rattle.std.proofs.lemmas.Iterator.Consumers.{YieldsList-at, YieldsList-from_filter, count_from_yields_List}
use Rattle.bank_state.specs.Limits.{place_count}
use Rattle.bank_state.specs.Rows.{count_of}
use Rattle.bank_state.specs.State.{no_place}
use Rattle.bank_state.proofs.Rows.{count-le}
use Rattle.bank_rows.specs.State.{bank_of}
use Rattle.bank_rows.proofs.Ranges.{row_passes, count-of-all}
use Rattle.bank_rows.proofs.Reading.{length-places-of}
use Rattle.bank_clock.specs.Idle.{is_idle_upload}
use Rattle.bank_clock.proofs.idle.idle_uploads.Goals as goal

pub returns : goal.returns
returns c =
    let a = c.args in
    let s = a.rows.now in
    let places = (bank_of s).places in
    let test = row_passes (is_idle_upload a.clock) places no_place in
    let e : c.count.result ≡ count_of (is_idle_upload a.clock) places =
    count_from_yields_List c.filter.result _ c.count.ensures.ran
    (YieldsList-from_filter _ test (YieldsList-at c.filter.ensures.source (YieldsList-from_range 0 place_count place_count refl (omega arith)))
    c.filter.ensures.closure (λ x r q k. search (rules, tests)))
    ∙ count-of-all _ places no_place _ (length-places-of s) in
    (omega (arith, e, count-le (is_idle_upload a.clock) places, length-places-of s), e)
