-- A run's stage, direction, step and edition, each as a number, and what a number says.
use Rattle.std.specs.Prelude.{ℕ, cond, eqb}
use Rattle.message.specs.declared.editions.Edition.{Edition}
use Rattle.message.specs.declared.editions.Edition.TheVariants.{V24, V25}
use Rattle.message.specs.declared.directions.Direction.{Direction}
use Rattle.message.specs.declared.directions.Direction.TheVariants.{Upload, Download}
use Rattle.client_run.specs.declared.run.Stage.{Stage}
use Rattle.client_run.specs.declared.run.Stage.TheVariants.{NotBegun, Running, Ended}
use Rattle.client_run.specs.declared.run.Step.{Step}
use Rattle.client_run.specs.declared.run.Step.TheVariants.{Opening, Segment, Receipt}
use Rattle.client_run.specs.declared.run.Word.{Word}
use Rattle.client_run.specs.declared.run.Word.TheVariants.{
  Lodged,
  NotLodged,
  Unclear,
  Fetched,
  HeldUnconfirmed,
  NotFetched,
}

-- 0 not begun, 1 running, from 2 on ended with a closing word
abbrev pub number_of_word : Word → ℕ
number_of_word Lodged = 2
number_of_word NotLodged = 3
number_of_word Unclear = 4
number_of_word Fetched = 5
number_of_word HeldUnconfirmed = 6
number_of_word NotFetched = 7

abbrev pub number_of_stage : Stage → ℕ
number_of_stage NotBegun = 0
number_of_stage Running = 1
number_of_stage (Ended w) = number_of_word w

abbrev pub word_of : ℕ → Word
word_of n =
    cond (eqb n 2) Lodged
    (cond (eqb n 3) NotLodged
    (cond (eqb n 4) Unclear (cond (eqb n 5) Fetched (cond (eqb n 6) HeldUnconfirmed NotFetched))))

abbrev pub stage_of : ℕ → Stage
stage_of n = cond (eqb n 0) NotBegun (cond (eqb n 1) Running (Ended (word_of n)))

-- 0 upload, 1 download
abbrev pub number_of_direction : Direction → ℕ
number_of_direction Upload = 0
number_of_direction Download = 1

abbrev pub direction_of : ℕ → Direction
direction_of n = cond (eqb n 0) Upload Download

-- 0 opening, 1 segment, 2 receipt
abbrev pub number_of_step : Step → ℕ
number_of_step Opening = 0
number_of_step Segment = 1
number_of_step Receipt = 2

abbrev pub step_of : ℕ → Step
step_of n = cond (eqb n 0) Opening (cond (eqb n 1) Segment Receipt)

-- as in a record of the input: "0 is 2.5, 1 is 2.4"; the unit's records say what a number says
abbrev pub number_of_edition : Edition → ℕ
number_of_edition V25 = 0
number_of_edition V24 = 1
