-- The request's event is entered, or there is none.
use mathlib.Core.List.{List, ◌++◌}
use mathlib.Core.Path.{◌≡◌, sym, ◌∙◌, subst}
use native.Mathlib.Omega.{arith}
use lib.ListN.{length}
use Rattle.journal.specs.declared.event.Entry.{Entry}
use Rattle.journal.specs.Events.{max_entries, entries_in}
use Rattle.bank_events.specs.Entries.{Holds}
use Rattle.bank_events.proofs.Batches.{holds-none}
use Rattle.bank_events.proofs.Requests.{entry-of, no-entry}
use Rattle.bank_events.proofs.actions.with_action.Goals as goal

pub returns-then-is_event : goal.returns-then-is_event
returns-then-is_event c =
    let a = c.args in
    let e = entry-of a.verdict a.order a.q c.verdict_kind-kind.result c.verdict_kind-kind.ensures _ _
    c.verdict_subscriber.ensures c.verdict_id-id.ensures
    (sym c.is_event.ensures ∙ c.if-is_event.true) in
    subst (λ (es : List Entry). Holds c.with_entry.result (entries_in a.batch ++ es)) (sym e) c.with_entry.ensures

pub returns-else-is_event : goal.returns-else-is_event
returns-else-is_event c =
    let a = c.args in
    let e = no-entry a.verdict a.order a.q c.verdict_kind-kind.result c.verdict_kind-kind.ensures
    (sym c.is_event.ensures ∙ c.if-is_event.false) in
    let long : length a.batch.entries ≡ max_entries =
    c.well_formed.0.1.1.1.0.1.0.1 in
    subst (λ (es : List Entry). Holds a.batch (entries_in a.batch ++ es)) (sym e)
    (holds-none a.batch (omega (arith, c.requires)) long)
