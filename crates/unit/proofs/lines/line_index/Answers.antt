-- One less than the line's number, which is one of 32. Assumes nothing.
use native.Mathlib.Omega.{arith}
use mathlib.Core.Path.{ap}
use Prim.Native.Nat.{ℕ, ◌-◌}
use Rattle.unit_state.specs.Records.{line_of}
use Rattle.unit_state.proofs.Parts.{line-within}
use Rattle.unit.proofs.lines.line_index.Goals as goal

pub overflow_sub-result : goal.overflow_sub-result
overflow_sub-result c =
    omega (arith, c.number_at.ensures, line-within (line_of c.args.«record».now) c.requires)

pub returns : goal.returns
returns c =
    let within = line-within (line_of c.args.«record».now) c.requires in
    (ap (λ (n : ℕ). n - 1) c.number_at.ensures, omega (arith, c.number_at.ensures, within))
