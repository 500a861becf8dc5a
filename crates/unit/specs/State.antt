-- The unit and the memory lent to it and to one bank.
use Rattle.std.specs.Prelude.{ℕ, List}
use Rattle.bank_steps.specs.Lent.{Lent}
use Rattle.bank_session.specs.Session.{LentSession, session}
use Rattle.unit_state.specs.declared.state.UnitState.{UnitState}
use Rattle.unit_rows.specs.Lines.{Lines}

-- the memory lent to the unit: the session's numbers and stores, the rooms of the runs' payloads, their file buffers,
-- the buffer that holds a call's reply or request or a held message, the image room, and the lines
pub record Memory : Type 0 where
  pub bank : Lent
  pub payloads : List ℕ
  pub files : List ℕ
  pub buffer : List ℕ
  pub room : List ℕ
  pub lines : Lines

abbrev pub memory : Lent → List ℕ → List ℕ → List ℕ → List ℕ → Lines → Memory
memory bank payloads files buffer room lines =
    record { bank = bank; payloads = payloads; files = files; buffer = buffer; room = room; lines = lines }

-- the unit and its memory
pub record State : Type 0 where
  pub unit : UnitState
  pub memory : Memory

abbrev pub state_of : UnitState → Memory → State
state_of u m = record { unit = u; memory = m }

-- the session in them: the journal's row is the unit's, all else is the memory's
abbrev pub session_in : State → LentSession
session_in s =
    let bank = s.memory.bank in
    session bank.rows s.unit.journal bank.orders bank.mailboxes
