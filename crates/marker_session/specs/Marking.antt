-- "The marker's print": the calls of the records of an input, one after the other, and their lines. "the lent ID
-- bytes are 0"
use Rattle.std.specs.Prelude.{ℕ, zero, suc, ◌+◌, ◌/◌, ◌≤◌, Bool, true, cond, ◌&&◌, List, [], ◌++◌, ◌≡◌, ltb, length, drop, replicate}
use Rattle.octets.specs.Bytes.{overwrite}
use Rattle.frame_table.specs.Table.{last_time}
use Rattle.bank_state.specs.Limits.{id_bytes}
use Rattle.bank_rows.specs.State.{bank_of}
use Rattle.bank_sound.specs.Sound.{is_sound}
use Rattle.bank_steps.specs.Lent as memory
use Rattle.bank_steps.specs.Lent.{Lent}
use Rattle.bank.specs.Call.{FrameInput, frame_input}
use Rattle.bank.specs.Journal.{clock_by}
use Rattle.bank.specs.Lent.{LentFrameCall, lent_frame_call}
use Rattle.marker_session.specs.declared.mark.Marked.{Marked}
use Rattle.marker_session.specs.Lines.{head_bytes, time_of, size_of, frame_in, is_whole, line_of, line_room}

-- between two calls: the memory lent to the bank, the reply buffer, the calls so far, the input that is left
pub record MarkerState : Type 0 where
  pub lent : Lent
  pub buffer : List ℕ
  pub calls : ℕ
  pub rest : List ℕ

abbrev pub marker_state : ℕ → List ℕ → Lent → List ℕ → MarkerState
marker_state calls rest m buffer = record { lent = m; buffer = buffer; calls = calls; rest = rest }

-- the calls that a number of 64 bits counts
abbrev pub max_calls : ℕ
max_calls = 18446744073709551615

-- one more call can be counted, and a whole record stands in the input that is left
unfoldable pub is_ready : ℕ → List ℕ → Bool
is_ready calls rest = ltb calls max_calls && is_whole rest

-- what the record that comes brings to its call
abbrev pub input_of : MarkerState → FrameInput
input_of s = frame_input (time_of s.rest) (replicate id_bytes 0) (frame_in s.rest) s.buffer

-- the call
unfoldable pub call_of : MarkerState → LentFrameCall
call_of s = lent_frame_call s.lent (input_of s)

-- what it leaves
unfoldable pub called : MarkerState → MarkerState
called s = record {
  lent = (call_of s).lent;
  buffer = (call_of s).buffer;
  calls = s.calls + 1;
  rest = drop (head_bytes + size_of s.rest) s.rest;
}

-- the clock of its offset, as the call sets it: "the larger of its old value and the time given"
abbrev pub offset_clock : MarkerState → ℕ
offset_clock s = clock_by (memory.state_of s.lent) (input_of s)

-- and its line
unfoldable pub called_line : MarkerState → List ℕ
called_line s = line_of (s.calls + 1) (call_of s).answer (call_of s).buffer (frame_in s.rest) (offset_clock s)

-- what the calls find, from a fresh bank on: a bank's rows, and a clock that is at most the last time
pub record Clocked (rows : List ℕ) : Type 0 where
  pub sound : is_sound rows ≡ true
  pub in_time : (bank_of rows).clock ≤ last_time

-- at most n calls, while one is ready
unfoldable pub calls_to : ℕ → MarkerState → MarkerState
calls_to zero s = s
calls_to (suc n) s = cond (is_ready s.calls s.rest) (calls_to n (called s)) s

-- and their lines
unfoldable pub lines_to : ℕ → MarkerState → List ℕ
lines_to zero s = []
lines_to (suc n) s = cond (is_ready s.calls s.rest) (called_line s ++ lines_to n (called s)) []

-- the calls of all whole records: fewer stand in the input than bytes
unfoldable pub calls_of : MarkerState → MarkerState
calls_of s = calls_to (length s.rest) s

-- what marking leaves: the marker's state, the output, and how many bytes are written
pub record Print : Type 0 where
  pub state : MarkerState
  pub output : List ℕ
  pub written : ℕ

-- what the code holds between two calls
abbrev pub state_of : Marked → List ℕ → Lent → List ℕ → MarkerState
state_of m input kept buffer = marker_state m.calls (drop m.used input) kept buffer

abbrev pub print_of : Marked → List ℕ → Lent → List ℕ → List ℕ → Print
print_of m input kept buffer output =
    record { state = state_of m input kept buffer; output = output; written = m.written }

-- lines written into the output from a place on
abbrev pub left_at : ℕ → MarkerState → List ℕ → List ℕ → Print
left_at at s lines output = record { state = s; output = overwrite output at lines; written = at + length lines }

-- one call is marked
abbrev pub marked_next : ℕ → MarkerState → List ℕ → Print
marked_next at s output = left_at at (called s) (called_line s) output

-- the lines that an output of so many bytes has room for
abbrev pub lines_in : ℕ → ℕ
lines_in room = room / line_room

-- an input is marked, as far as the output has room
abbrev pub marked_all : MarkerState → List ℕ → Print
marked_all s output = left_at 0 (calls_to (lines_in (length output)) s) (lines_to (lines_in (length output)) s) output
