-- Constructors that differ are never equal. Assumes nothing.
use Rattle.std.specs.Prelude.{Result}
use Rattle.std.specs.Prelude.{Err, Ok}
use Prim.Native.Nat.{ℕ}
use mathlib.Core.Path.{◌≡◌}
use native.Mathlib.Omega.{arith}
use Rattle.message.specs.declared.directions.Direction.{Direction}
use Rattle.message.specs.declared.directions.Direction.TheVariants.{Upload, Download}
use Rattle.client_run.specs.declared.run.Refusal.{Refusal}
use Rattle.client_run.specs.declared.run.Stage.{Stage}
use Rattle.client_run.specs.declared.run.Stage.TheVariants as stage
use Rattle.client_run.specs.declared.run.Step.{Step}
use Rattle.client_run.specs.declared.run.Step.TheVariants as step
use Rattle.client_run.specs.declared.run.Word.{Word}

pub not-both : {A : Type 0} {direction : Direction} → direction ≡ Upload → direction ≡ Download → A
not-both a b = absurd (let z : ◌≡◌ {A = ℕ} 0 1 = cc in omega arith)

pub not-opening-segment : {A : Type 0} {x : Step} → x ≡ step.Opening → x ≡ step.Segment → A
not-opening-segment a b = absurd (let z : ◌≡◌ {A = ℕ} 0 1 = cc in omega arith)

pub not-opening-receipt : {A : Type 0} {x : Step} → x ≡ step.Opening → x ≡ step.Receipt → A
not-opening-receipt a b = absurd (let z : ◌≡◌ {A = ℕ} 0 1 = cc in omega arith)

pub not-segment-receipt : {A : Type 0} {x : Step} → x ≡ step.Segment → x ≡ step.Receipt → A
not-segment-receipt a b = absurd (let z : ◌≡◌ {A = ℕ} 0 1 = cc in omega arith)

pub not-new-running : {A : Type 0} {x : Stage} → x ≡ stage.NotBegun → x ≡ stage.Running → A
not-new-running a b = absurd (let z : ◌≡◌ {A = ℕ} 0 1 = cc in omega arith)

pub not-ended-running : {A : Type 0} {x : Stage} (w : Word) → x ≡ stage.Ended w → x ≡ stage.Running → A
not-ended-running w a b = absurd (let z : ◌≡◌ {A = ℕ} 0 1 = cc in omega arith)

pub not-accepted : {A : Type 0} (x : Refusal) → ◌≡◌ {A = Result (Unit {0}) Refusal} (Err x) (Ok tt) → A
not-accepted x h = absurd (let z : ◌≡◌ {A = ℕ} 0 1 = cc in omega arith)
