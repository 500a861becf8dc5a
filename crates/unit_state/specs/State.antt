-- The unit's 16 client runs, with what each keeps between its calls, and the journal's row.
use Rattle.std.specs.Prelude.{ℕ, ◌*◌, List, [], replicate, get_or, set}
use Rattle.line.specs.Line.{message_bytes}
use Rattle.message.specs.Limits.{file_bytes}
use Rattle.journal.specs.declared.event.Event.{Event}
use Rattle.journal.specs.Row.{empty_row}
use Rattle.client_run.specs.Run.{nonce_bytes}
use Rattle.client.specs.Calls.{new_client}
use Rattle.unit_state.specs.declared.state.Run.{Run}
use Rattle.unit_state.specs.declared.state.UnitState.{UnitState}
use Rattle.unit_state.specs.Records.{run_count}

-- "payload rooms and file buffers have 7,936 bytes": those of all runs
abbrev pub rooms_bytes : ℕ
rooms_bytes = run_count * file_bytes

-- the buffer for a reply, a request or a held message, of which the last is the longest
abbrev pub buffer_bytes : ℕ
buffer_bytes = message_bytes

-- a run not begun, with no payload
abbrev pub new_run : List ℕ → Run
new_run nonce = record { client = new_client; nonce = nonce; payload = 0 }

-- "16 client runs, numbered 1 to 16, none begun", and no event entered
unfoldable pub fresh : UnitState
fresh = record { runs = replicate run_count (new_run (replicate nonce_bytes 0)); journal = empty_row }

-- run i, from 0 on; of 16 runs none is past the last
abbrev pub run_at : List Run → ℕ → Run
run_at runs i = get_or runs i (new_run [])

-- a unit of these runs and this journal; the unit with this run as run i, and with this row as the journal
abbrev pub unit_of : List Run → List Event → UnitState
unit_of runs row = record { runs = runs; journal = row }

abbrev pub with_run : UnitState → ℕ → Run → UnitState
with_run u i run = record { runs = set u.runs i run; journal = u.journal }

abbrev pub with_journal : UnitState → List Event → UnitState
with_journal u row = record { runs = u.runs; journal = row }
