-- `index_of` meets its contract. Assumes nothing.
use native.Mathlib.Omega.{arith}
use mathlib.Core.Path.{ap}
use Prim.Native.Nat.{ℕ, ◌-◌}
use Rattle.unit_state.specs.Records.{run_of}
use Rattle.unit_state.proofs.Parts.{run-within}
use Rattle.unit.proofs.call.index_of.Goals as goal

pub overflow_sub-result : goal.overflow_sub-result
overflow_sub-result c =
    omega (arith, c.number_at.ensures, run-within (run_of c.args.«record».now) c.requires)

pub returns : goal.returns
returns c =
    let within = run-within (run_of c.args.«record».now) c.requires in
    (ap (λ (n : ℕ). n - 1) c.number_at.ensures, omega (arith, c.number_at.ensures, within))
