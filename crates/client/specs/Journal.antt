-- "An unclear client is handed the journal": what the call with the row leaves of the run.
use Rattle.std.specs.Prelude.{ℕ, Bool, true, false, cond, List, eqb, length}
use Rattle.number_table.specs.Table as numbers
use Rattle.journal.specs.declared.event.Event.{Event}
use Rattle.journal.specs.declared.event.Found.{Found}
use Rattle.journal.specs.declared.event.Found.TheVariants as found
use Rattle.journal.specs.Events.{record_count}
use Rattle.journal.specs.Row.{lookup}
use Rattle.client_run.specs.declared.run.ClientRun.{ClientRun}
use Rattle.client_run.specs.declared.run.Stage.{Stage}
use Rattle.client_run.specs.declared.run.Stage.TheVariants as stage
use Rattle.client_run.specs.declared.run.Word.{Word}
use Rattle.client_run.specs.declared.run.Word.TheVariants as word
use Rattle.client_run.specs.NextRun.{ended}
use Rattle.number_table.specs.declared.table.WrongLength.{WrongLength}
use Rattle.number_table.specs.Numbers.{number_one}
use Rattle.std.specs.Prelude.{Result, Ok, Err, Option, Some, None}
use Rattle.client.specs.declared.journal_call.JournalOutcome.{JournalOutcome}

-- what the call leaves: the next run, the answer, and document 01's number for it
pub record JournalCall : Type 0 where
  pub run : ClientRun
  pub answer : Result (Option Word) WrongLength
  pub number : ℕ

-- "never gets number 8": its only number is 1
abbrev pub journal_number : Result (Option Word) WrongLength → ℕ
journal_number (Ok (Some w)) = 0
journal_number (Ok None) = 0
journal_number (Err e) = numbers.wrong_length

-- what the call leaves, by the next run and the answer
abbrev pub journal_left : ClientRun → Result (Option Word) WrongLength → JournalCall
journal_left c a = record { run = c; answer = a; number = journal_number a }

-- what the call leaves, from what it returns
abbrev pub journal_call_of : JournalOutcome → JournalCall
journal_call_of o = journal_left o.client.run o.answer

-- whether a run closed as unclear
abbrev pub is_unclear : Word → Bool
is_unclear word.Lodged = false
is_unclear word.NotLodged = false
is_unclear word.Unclear = true
is_unclear word.Fetched = false
is_unclear word.HeldUnconfirmed = false
is_unclear word.NotFetched = false

abbrev pub ended_unclear : Stage → Bool
ended_unclear stage.NotBegun = false
ended_unclear stage.Running = false
ended_unclear (stage.Ended w) = is_unclear w

-- "a booking ... makes it lodged, a cancellation or drop makes it not lodged, otherwise it stays unclear"
abbrev pub answer_on : Found → Result (Option Word) WrongLength
answer_on found.Booked = Ok (Some word.Lodged)
answer_on found.Ended = Ok (Some word.NotLodged)
answer_on found.Nothing = Ok None

-- the answer to a run, where a row of so many records says this of its upload: another length is number 1, and "other
-- runs come back unchanged"
unfoldable pub answer_to : Stage → ℕ → Found → Result (Option Word) WrongLength
answer_to s records f =
    cond (eqb records record_count) (cond (ended_unclear s) (answer_on f) (Ok None)) (Err number_one)

-- the run after the answer
abbrev pub run_after : Result (Option Word) WrongLength → ClientRun → ClientRun
run_after (Ok (Some w)) c = ended w c
run_after (Ok None) c = c
run_after (Err e) c = c

abbrev pub answered : Result (Option Word) WrongLength → ClientRun → JournalCall
answered a c = journal_left (run_after a c) a

-- a row of so many records says this of the run's upload
abbrev pub heard : ClientRun → ℕ → Found → JournalCall
heard c records f = answered (answer_to c.stage records f) c

-- the journal is handed to the run: "a closing word holds for the upload that earned it, by its transaction ID; the
-- journal gains that ID, an unclear client now goes by it"
unfoldable pub journal_call : ClientRun → List Event → JournalCall
journal_call c row = heard c (length row) (lookup c.transaction row)
