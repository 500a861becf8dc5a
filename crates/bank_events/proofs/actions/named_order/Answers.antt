-- The place is where the search finds the upload; where it finds none the definition looks behind the last place.
use mathlib.Core.Path.{◌≡◌, sym, ap, ◌∙◌}
use Prim.Native.Nat.{ℕ}
use native.Mathlib.Omega.{arith}
use lib.ListN.{get_or-eq_default}
use Rattle.bank_state.specs.declared.state.Place.{Place}
use Rattle.bank_state.specs.State.{place_at, no_place}
use Rattle.bank_rows.specs.State.{bank_of}
use Rattle.bank_rows.proofs.Reading.{length-places-of}
use Rattle.bank_verdicts.specs.Judgement.{upload_at}
use Rattle.bank_events.proofs.actions.named_order.Goals as goal

pub returns-then-i-lt-PLACE_COUNT : goal.returns-then-i-lt-PLACE_COUNT
returns-then-i-lt-PLACE_COUNT c =
    let a = c.args in
    let b = bank_of a.rows.now in
    let found : c.find_upload-i.result ≡ upload_at b a.q = c.find_upload-i.ensures ∙ rw (c.transaction-id.ensures, c.subscriber.ensures) in
    ap (λ (p : Place). p.number) c.place_at.ensures
    ∙ ap (λ (i : ℕ). (place_at b i).number) found

pub returns-else-i-lt-PLACE_COUNT : goal.returns-else-i-lt-PLACE_COUNT
returns-else-i-lt-PLACE_COUNT c =
    let a = c.args in
    let b = bank_of a.rows.now in
    let found : c.find_upload-i.result ≡ upload_at b a.q = c.find_upload-i.ensures ∙ rw (c.transaction-id.ensures, c.subscriber.ensures) in
    sym (ap (λ (p : Place). p.number)
    (get_or-eq_default b.places no_place (omega (arith, found, c.if-i-lt-PLACE_COUNT.false, length-places-of a.rows.now))))
