-- A session: the calls of the records read, made one after the other on a fresh unit.
use Rattle.std.specs.Prelude.{ℕ, ◌≡◌, Bool, true, ◌&&◌, List, [], ◌∷◌, replicate}
use Rattle.bank_state.specs.Limits.{store_bytes}
use Rattle.bank_steps.specs.Lent.{lent}
use Rattle.bank_session.specs.Session.{session_size}
use Rattle.unit_state.specs.declared.state.UnitState.{UnitState}
use Rattle.unit_state.specs.Records.{room_bytes, call_of, is_call}
use Rattle.unit_state.specs.State.{fresh, rooms_bytes, buffer_bytes}
use Rattle.unit_rows.specs.Rows.{unit_from}
use Rattle.unit_rows.specs.Lines.{lines_size, stores_bytes, lines_of}
use Rattle.unit.specs.State.{State, memory, state_of}
use Rattle.unit.specs.Call.{unit_call}
use Rattle.driver_session.specs.declared.session.Lending.{Lending}

-- the unit after the calls of these records, one after the other
unfoldable pub unit_after : State → List (List ℕ) → State
unit_after s [] = s
unit_after s (r ∷ rs) = unit_after (unit_call s r).state rs

-- each of these records is a call, or a message for a line not made, which changes nothing
unfoldable pub all_calls : List (List ℕ) → Bool
all_calls [] = true
all_calls (r ∷ rs) = is_call (call_of r) && all_calls rs

-- the calls of some records, which are what happens to stand in the input, make the state after of the state before
pub record Calls (before after : State) : Type 0 where
  pub records : List (List ℕ)
  pub each : all_calls records ≡ true
  pub left : after ≡ unit_after before records

-- the unit that the lent numbers and bytes are
abbrev pub state_in : Lending → State
state_in l =
    state_of (unit_from l.runs l.nonces l.row)
    (memory (lent l.rows l.orders l.mailboxes) l.payloads l.files l.buffer l.room (lines_of l.lines l.stores))

abbrev zeros : ℕ → List ℕ
zeros n = replicate n 0

-- "one fresh bank (8 places, 8 mailboxes) and 16 client runs", and "32 lines, numbered 1 to 32, none made": no run begun,
-- and all that is lent to them zeroed
unfoldable pub start : State
start =
    let bank = lent (zeros session_size) (zeros store_bytes) (zeros store_bytes) in
    state_of fresh
    (memory bank (zeros rooms_bytes) (zeros rooms_bytes) (zeros buffer_bytes) (zeros room_bytes)
    (lines_of (zeros lines_size) (zeros stores_bytes)))

-- the runs, the journal and the session's numbers that a session leaves
pub record Session (u : UnitState) (rows : List ℕ) : Type 0 where
  pub last : State
  pub calls : Calls start last
  pub unit : u ≡ last.unit
  pub bank : rows ≡ last.memory.bank.rows
