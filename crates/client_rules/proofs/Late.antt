-- Card 3: "Values over 253,402,300,799,999 ... as bank or client time number 1". It is the first of all refusals, at
-- begin and at each call after it, and a call that is given no number brings no such time. Assumes nothing.
use Rattle.std.specs.Prelude.{Err, Ok, Result}
use Prim.Native.Nat.{ℕ, ◌<◌, ◌≤◌}
use mathlib.Core.Bool.{Bool, true, false, cond}
use mathlib.Core.Path.{◌≡◌, refl}
use lib.Dec.{ltb}
use borrow.Author.Tests.{ltb-false, lt-ltb}
use Rattle.frame_table.specs.Table.{last_time}
use Rattle.client_run.specs.declared.run.ClientRun.{ClientRun}
use Rattle.client_run.specs.declared.run.Lengths.{Lengths}
use Rattle.client_run.specs.declared.run.Refusal.{Refusal}
use Rattle.client_run.specs.declared.run.Refusal.TheVariants.{TimeTooHigh}
use Rattle.client_run.specs.declared.run.RunParameters.{RunParameters}
use Rattle.client_run.proofs.Apart.{not-accepted}
use Rattle.client_rules.specs.Rulings.{time_first, begin_ruling, run_ruling}

-- whatever the others are
late : (time : ℕ) (others : Result (Unit {0}) Refusal) → last_time < time → time_first time others ≡ Err TimeTooHigh
unfolding time_first
late time others h = rw (lt-ltb last_time time h)

pub begin-late : (c : ClientRun) (params : RunParameters) (time : ℕ) (l : Lengths) → last_time < time
    → begin_ruling c params time l ≡ Err TimeTooHigh
unfolding begin_ruling
begin-late c params time l h = late time _ h

pub run-late : (c : ClientRun) (time : ℕ) (l : Lengths) → last_time < time → run_ruling c time l ≡ Err TimeTooHigh
unfolding run_ruling
run-late c time l h = late time _ h

-- where a test would refuse, it is false, and the rest decides
pub passed : (u : Bool) (x : Refusal) (rest : Result (Unit {0}) Refusal) → cond u (Err x) rest ≡ Ok tt → (u ≡ false) × (rest ≡ Ok tt)
passed true x rest h = not-accepted x h
passed false x rest h = (refl, h)

pub in-time : (time : ℕ) (others : Result (Unit {0}) Refusal) → time_first time others ≡ Ok tt → (time ≤ last_time) × (others ≡ Ok tt)
unfolding time_first
in-time time others h =
    let a = passed (ltb last_time time) TimeTooHigh others h in (ltb-false last_time time a.0, a.1)
