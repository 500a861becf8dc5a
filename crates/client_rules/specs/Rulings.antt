-- "The client's owner": which call is given which number, in the order 5, 6, 7, 8; since card 3 number 1 comes first.
use Rattle.client_run.specs.declared.run.Refusal.{Refusal}
use Rattle.std.specs.Prelude.{Err, Ok, Result}
use Rattle.std.specs.Prelude.{ℕ, Bool, true, false, not, ◌||◌, List, [], ◌∷◌, ltb, eqb}
use Rattle.frame_table.specs.Table.{last_time}
use Rattle.message.specs.Limits.{file_bytes, subscribers}
use Rattle.message.specs.Verdicts.{decide}
use Rattle.client_run.specs.declared.run.ClientRun.{ClientRun}
use Rattle.message.specs.declared.directions.Direction.{Direction}
use Rattle.message.specs.declared.directions.Direction.TheVariants.{Upload, Download}
use Rattle.client_run.specs.declared.run.Lengths.{Lengths}
use Rattle.client_run.specs.declared.run.Refusal.TheVariants.{
  TimeTooHigh,
  WrongBuffer,
  ExchangeTooHigh,
  NoSubscriber,
  WrongStage,
}
use Rattle.client_run.specs.declared.run.RunParameters.{RunParameters}
use Rattle.client_run.specs.declared.run.Stage.{Stage}
use Rattle.client_run.specs.declared.run.Stage.TheVariants as stage
use Rattle.client_run.specs.Run.{request_room, max_first_exchange, max_exchange}

-- 1, before all others: "Values over 253,402,300,799,999 ... as bank or client time number 1"
unfoldable pub time_first : ℕ → Result (Unit {0}) Refusal → Result (Unit {0}) Refusal
time_first time others = decide ((ltb last_time time, Err TimeTooHigh) ∷ []) others

-- 5: an upload's payload of 0 or over 7,936 bytes, a download's file buffer not 7,936 (card 6), "request buffer under 303
-- (upload runs ignore the file buffer, download runs the payload)"
abbrev pub wrong_buffers : Direction → Lengths → Bool
wrong_buffers Upload l = eqb l.payload 0 || ltb file_bytes l.payload || ltb l.request request_room
wrong_buffers Download l = not (eqb l.file file_bytes) || ltb l.request request_room

-- 5: "or of changed length"
abbrev pub changed_length : Direction → ClientRun → Lengths → Bool
changed_length Upload c l = not (eqb l.payload c.length)
changed_length Download c l = false

-- 5, for a run that was begun
unfoldable pub wrong_lengths : ClientRun → Lengths → Bool
wrong_lengths c l = wrong_buffers c.direction l || changed_length c.direction c l

-- 7: "subscriber not 1 to 8"
unfoldable pub no_subscriber : ℕ → Bool
no_subscriber subscriber = ltb subscriber 1 || ltb subscribers subscriber

-- 8: "begin comes to one already begun"
abbrev pub is_begun : Stage → Bool
is_begun stage.NotBegun = false
is_begun stage.Running = true
is_begun (stage.Ended w) = true

-- begin's refusals 5 to 8, from top to bottom
abbrev pub begin_refusals : ClientRun → RunParameters → Lengths → List (Bool × Result (Unit {0}) Refusal)
begin_refusals c params l =
    (wrong_buffers params.direction l, Err WrongBuffer)
    ∷ (ltb max_first_exchange params.first, Err ExchangeTooHigh)
    ∷ (no_subscriber params.subscriber, Err NoSubscriber)
    ∷ (is_begun c.stage, Err WrongStage)
    ∷ []

unfoldable pub ruling_at_begin : ClientRun → RunParameters → Lengths → Result (Unit {0}) Refusal
ruling_at_begin c params l = decide (begin_refusals c params l) (Ok tt)

unfoldable pub begin_ruling : ClientRun → RunParameters → ℕ → Lengths → Result (Unit {0}) Refusal
begin_ruling c params time l = time_first time (ruling_at_begin c params l)

-- 8: "another call to one not begun"
unfoldable pub ruling_not_begun : Lengths → Result (Unit {0}) Refusal
ruling_not_begun l = decide ((ltb l.request request_room, Err WrongBuffer) ∷ []) (Err WrongStage)

-- no call leaves a run above the highest exchange number
unfoldable pub ruling_running : ClientRun → Lengths → Result (Unit {0}) Refusal
ruling_running c l =
    decide
    ((wrong_lengths c l, Err WrongBuffer)
    ∷ (ltb max_exchange c.exchange, Err ExchangeTooHigh)
    ∷ [])
    (Ok tt)

-- 8: "the run has ended"
unfoldable pub ruling_ended : ClientRun → Lengths → Result (Unit {0}) Refusal
ruling_ended c l = decide ((wrong_lengths c l, Err WrongBuffer) ∷ []) (Err WrongStage)

-- 5 to 8 at a call with a reply, or with none
abbrev pub ruling_at_stage : Stage → ClientRun → Lengths → Result (Unit {0}) Refusal
ruling_at_stage stage.NotBegun c l = ruling_not_begun l
ruling_at_stage stage.Running c l = ruling_running c l
ruling_at_stage (stage.Ended w) c l = ruling_ended c l

unfoldable pub run_ruling : ClientRun → ℕ → Lengths → Result (Unit {0}) Refusal
run_ruling c time l = time_first time (ruling_at_stage c.stage c l)
