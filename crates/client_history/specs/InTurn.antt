-- "In turn: ... the run's only calls are begin and the arrivals of these replies": where such a run stands.
use Rattle.std.specs.Prelude.{ℕ, ◌≡◌}
use Rattle.message.specs.declared.directions.Direction.{Direction}
use Rattle.client_run.specs.declared.run.Stage.TheVariants as stage
use Rattle.client_run.specs.declared.run.Step.{Step}
use Rattle.client_history.specs.History.{Past}

-- the run has this step outstanding under exchange number x, of segment j where it is a segment's, and has repeated and
-- returned nothing
pub record InTurn (p : Past) (d : Direction) (s : Step) (j x : ℕ) : Type 0 where
  pub running : p.run.stage ≡ stage.Running
  pub direction : p.run.direction ≡ d
  pub step : p.run.step ≡ s
  pub segment : p.run.segment ≡ j
  pub repeats : p.run.repeats ≡ 0
  pub number : p.run.exchange ≡ x
