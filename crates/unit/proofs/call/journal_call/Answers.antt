-- The run that the record names is one of the unit's: taken out, handed the journal, and put back. Assumes nothing.
use mathlib.Core.List.{List}
use mathlib.Core.Path.{ap, ◌∙◌}
use Rattle.journal.specs.declared.event.Event.{Event}
use Rattle.client.specs.Journal.{journal_call}
use Rattle.unit_state.specs.declared.state.Run.{Run}
use Rattle.unit_state.specs.State.{run_at}
use Rattle.unit_rows.specs.Rows.{runs_from, unit_from}
use Rattle.unit.specs.Call.{with_client}
use Rattle.unit.proofs.Steps.{handed}
use Rattle.unit.proofs.call.journal_call.Goals as goal

pub returns : goal.returns
returns c =
    λ m.
    let a = c.args in
    let i = c.index_of-i.result in
    let run = run_at (runs_from a.runs.now a.nonces.now) i in
    let taken = c.run_at-run.ensures in
    handed (unit_from a.runs.now a.nonces.now a.row.now) _ m a.«record».now i c.journal_held-o.result _ _
    c.index_of-i.ensures.0
    (c.journal_held-o.ensures ∙ ap (λ (x : Run). journal_call x.client.run c.journal_of-held.result) taken
    ∙ ap (λ (l : List Event). journal_call run.client.run l) c.journal_of-held.ensures)
    (c.with_client.ensures ∙ ap (λ (x : Run). with_client x c.journal_held-o.result.client.run) taken)
    c.set_run.ensures c.journal_answer.ensures
