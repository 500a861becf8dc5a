-- "The program reads records from standard input": what a session has read, and what it leaves.
use Rattle.std.specs.Prelude.{ℕ, ◌+◌, ◌*◌, ◌/◌, ◌≤◌, ◌<◌, ◌≡◌, List, [], ◌++◌, length, take, replicate}
use Rattle.bank_state.specs.Limits.{store_bytes, reply_room}
use Rattle.bank_rows.specs.Layout.{state_size}
use Rattle.bank_steps.specs.Lent.{Lent, lent}
use Rattle.marker_session.specs.declared.session.Reading.{Reading}
use Rattle.marker_session.specs.Lines.{head_bytes, line_room}
use Rattle.marker_session.specs.Marking.{MarkerState, marker_state, calls_of, lines_in}

-- a part of the input comes behind what is left
abbrev pub with_more : MarkerState → List ℕ → MarkerState
with_more s part = record { lent = s.lent; buffer = s.buffer; calls = s.calls; rest = s.rest ++ part }

-- and the records that are whole then are called
unfoldable pub read_on : MarkerState → List ℕ → MarkerState
read_on s part = calls_of (with_more s part)

-- what the code holds between two reads: of a record cut short the bytes at the front of the input
abbrev pub reading_of : Reading → List ℕ → Lent → List ℕ → MarkerState
reading_of t input kept buffer = marker_state t.calls (take t.held input) kept buffer

-- the input held, a record of the longest frame; the output, a line for each record that it can hold
abbrev pub input_bytes : ℕ
input_bytes = head_bytes + 65535

abbrev pub output_bytes : ℕ
output_bytes = input_bytes / head_bytes * line_room

-- the output has room for a line for each record that the input can hold
abbrev pub HasRoom : List ℕ → List ℕ → Type 0
HasRoom input output = length input < head_bytes * (lines_in (length output) + 1)

-- what stands after reading on from s. No contract says what a read brings: it is the part that came
pub record ReadFrom (s : MarkerState) (t : Reading) (input : List ℕ) (kept : Lent) (buffer : List ℕ) : Type 0 where
  pub part : List ℕ
  pub result : reading_of t input kept buffer ≡ read_on s part
  pub held : t.held ≤ length input

-- this memory lent to the bank, and nothing read
abbrev pub started_with : Lent → List ℕ → MarkerState
started_with m buffer = marker_state 0 [] m buffer

-- a fresh bank
abbrev pub fresh_memory : Lent
fresh_memory = lent (replicate state_size 0) (replicate store_bytes 0) (replicate store_bytes 0)

-- the calls of the whole records of an input, one after the other: "Fresh means clock 0, .. and every lent byte kept
-- between calls 0"
unfoldable pub session : List ℕ → MarkerState
session input = read_on (started_with fresh_memory (replicate reply_room 0)) input

-- what a session leaves, of the input that came: every number of the rows
pub record SessionOf (rows : List ℕ) (calls : ℕ) : Type 0 where
  pub input : List ℕ
  pub bank : rows ≡ (session input).lent.rows
  pub count : calls ≡ (session input).calls
