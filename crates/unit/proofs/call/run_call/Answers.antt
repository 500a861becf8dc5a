-- The run that the record names is one of the unit's: taken out, called, and put back. Assumes nothing.
use mathlib.Core.Path.{ap, ◌∙◌}
use Rattle.unit_state.specs.declared.state.Run.{Run}
use Rattle.unit_state.specs.State.{unit_of}
use Rattle.unit_rows.specs.Rows.{runs_from}
use Rattle.unit.specs.State.{memory}
use Rattle.unit.specs.Call.{run_call}
use Rattle.unit.proofs.Steps.{put_back}
use Rattle.unit.proofs.call.run_call.Goals as goal

pub returns : goal.returns
returns c =
    λ row bank room l.
    let a = c.args in
    let m = memory bank a.payloads.now a.files.now a.buffer.now room l in
    let i = c.index_of-i.result in
    put_back (unit_of (runs_from a.runs.now a.nonces.now) row) _ m _ a.«record».now a.event i _
    c.index_of-i.ensures.0
    (c.run_event-o.ensures bank room l
    ∙ ap (λ (x : Run). run_call a.event i x m a.«record».now) c.run_at-run.ensures)
    c.set_run.ensures
