-- One run more is read, until all are. Assumes nothing.
use Prim.Native.Nat.{◌+◌}
use mathlib.Core.List.{[]}
use mathlib.Core.Path.{refl, ap, ◌∙◌}
use native.Mathlib.Omega.{arith}
use lib.ListN.{take, set, length-set}
use Rattle.unit_state.specs.declared.state.Run.{Run}
use Rattle.unit_state.specs.Records.{run_count}
use Rattle.unit_state.specs.State.{new_run}
use Rattle.unit_rows.specs.Rows.{runs_from}
use Rattle.unit_rows.proofs.Rows.{copied_next, copied_all, length_runs}
use Rattle.unit_rows.proofs.whole.runs_of.Goals as goal

pub loop-i-preserved : goal.loop-i-preserved
loop-i-preserved c =
    let a = c.args in (
      length-set c.loop-i.held c.loop-i.i c.run_at.result ∙ c.loop-i.invariant.0,
      ap (λ (x : Run). take (c.loop-i.i + 1) (set c.loop-i.held c.loop-i.i x)) c.run_at.ensures
          ∙ copied_next c.loop-i.held (runs_from a.runs.now a.nonces.now) c.loop-i.i (new_run []) (omega arith)
          (omega (arith, length_runs a.runs.now a.nonces.now)) c.loop-i.invariant.1,
    )

pub returns : goal.returns
returns c =
    let a = c.args in
    copied_all c.loop-i.held (runs_from a.runs.now a.nonces.now) run_count c.loop-i.i c.loop-i.invariant.0 (length_runs _ _) (omega arith) c.loop-i.invariant.1

pub loop-i-init : goal.loop-i-init
loop-i-init c = (refl, refl)
