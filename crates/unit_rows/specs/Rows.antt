-- The unit that lent numbers and bytes are: of each run 16 numbers and its nonce bytes, of each event 8 numbers.
use Rattle.std.specs.Prelude.{ℕ, ◌*◌, get_or, take}
use mathlib.Core.List.{List, [], ◌∷◌, map, zip_with}
use Rattle.journal.specs.declared.event.Event.{Event}
use Rattle.journal.specs.Events.{record_count}
use Rattle.bank_rows.specs.Records.{bits}
use Rattle.bank_rows.specs.Rows.{rows_of}
use Rattle.image_numbers.specs.Numbers.{event_of}
use Rattle.client_run.specs.declared.run.ClientRun.{ClientRun}
use Rattle.client_run.specs.Run.{nonce_bytes}
use Rattle.unit_state.specs.declared.state.Run.{Run}
use Rattle.unit_state.specs.declared.state.UnitState.{UnitState}
use Rattle.unit_state.specs.Records.{run_count, edition_of}
use Rattle.unit_rows.specs.Codes.{
  number_of_stage,
  stage_of,
  number_of_direction,
  direction_of,
  number_of_step,
  step_of,
  number_of_edition,
}

abbrev pub run_width : ℕ
run_width = 16

abbrev pub event_width : ℕ
event_width = 8

-- all numbers of the runs, their nonce bytes, and the numbers of the journal's row
abbrev pub runs_size : ℕ
runs_size = run_count * run_width

abbrev pub nonces_size : ℕ
nonces_size = run_count * nonce_bytes

abbrev pub row_size : ℕ
row_size = record_count * event_width

-- the first n rows of w numbers, each by itself
abbrev pub parts : ℕ → ℕ → List ℕ → List (List ℕ)
parts w n s = rows_of w (take w) n s

-- the client of a run's numbers, which stand in the order of its fields
abbrev pub client_of : List ℕ → ClientRun
client_of s = record {
  stage = stage_of (get_or s 0 0);
  direction = direction_of (get_or s 1 0);
  step = step_of (get_or s 2 0);
  subscriber = get_or s 3 0;
  exchange = get_or s 4 0;
  repeats = get_or s 5 0;
  terms = record { edition = edition_of (get_or s 6 0); number = get_or s 7 0 };
  transaction = bits (get_or s 8 0) (get_or s 9 0);
  number = get_or s 10 0;
  length = get_or s 11 0;
  segments = get_or s 12 0;
  segment = get_or s 13 0;
  issued = get_or s 14 0;
}

-- the run of such numbers, the last of which is its payload's length, and of its nonce bytes; and a run's numbers
abbrev pub run_of : List ℕ → List ℕ → Run
run_of s nonce = record { client = record { run = client_of s }; nonce = nonce; payload = get_or s 15 0 }

abbrev pub client_numbers : ClientRun → ℕ → List ℕ
client_numbers c payload =
    number_of_stage c.stage ∷ number_of_direction c.direction ∷ number_of_step c.step ∷ c.subscriber ∷ c.exchange
    ∷ c.repeats ∷ number_of_edition c.terms.edition ∷ c.terms.number ∷ c.transaction.high ∷ c.transaction.low
    ∷ c.number ∷ c.length ∷ c.segments ∷ c.segment ∷ c.issued ∷ payload ∷ []

abbrev pub run_numbers : Run → List ℕ
run_numbers run = client_numbers run.client.run run.payload

-- the runs of all numbers and nonce bytes
unfoldable pub runs_from : List ℕ → List ℕ → List Run
runs_from runs nonces = zip_with run_of (parts run_width run_count runs) (parts nonce_bytes run_count nonces)

-- the journal's row
unfoldable pub journal_from : List ℕ → List Event
journal_from row = map event_of (parts event_width record_count row)

abbrev pub unit_from : List ℕ → List ℕ → List ℕ → UnitState
unit_from runs nonces row = record { runs = runs_from runs nonces; journal = journal_from row }
