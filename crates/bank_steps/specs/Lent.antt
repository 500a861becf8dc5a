-- The memory lent to the bank: rows of numbers and two stores. The rows are a bank; what the step of a request asks of
-- the memory, and what it leaves.
use Rattle.std.specs.Prelude.{ℕ, ◌<◌, ◌≤◌, List, ◌≡◌, length}
use Rattle.frame_table.specs.declared.fields.Fields.{Fields}
use Rattle.frame_table.specs.Names.{subscriber}
use Rattle.message.specs.Limits.{subscribers, segment_bytes}
use Rattle.bank_state.specs.Limits.{store_bytes}
use Rattle.bank_state.specs.State.{BankState, bank_state}
use Rattle.bank_rows.specs.State.{bank_of, stored, Laid}
use Rattle.bank_sound.specs.Sound.{InRange}
use Rattle.bank_verdicts.specs.declared.verdict.Verdict.{Verdict}
use Rattle.bank_steps.specs.Steps.{carry_out}

-- the memory lent to the bank that it keeps between calls: rows, order places, mailboxes
pub record Lent : Type 0 where
  pub rows : List ℕ
  pub orders : List ℕ
  pub mailboxes : List ℕ

abbrev pub lent : List ℕ → List ℕ → List ℕ → Lent
lent rows orders mailboxes = record { rows = rows; orders = orders; mailboxes = mailboxes }

-- the bank with its stores that the memory is
abbrev pub state_of : Lent → BankState
state_of m = bank_state (bank_of m.rows) m.orders m.mailboxes

-- the memory m after a call that leaves the bank with its stores w
abbrev pub kept_in : Lent → BankState → Lent
kept_in m w = lent (stored w.bank m.rows) w.orders w.mailboxes

-- ---- the step of a request

-- rows of a bank in range and stores of their lengths: what the step of a request asks
pub record Prepared (rows orders mailboxes : List ℕ) : Type 0 where
  pub laid : Laid rows
  pub range : InRange (bank_of rows)
  pub places : length orders ≡ store_bytes
  pub mailbox_store : length mailboxes ≡ store_bytes

-- and the request is a subscriber's, with at most one segment of data
pub record Ready (q : Fields) (d rows orders mailboxes : List ℕ) : Type 0 where
  pub known : 0 < subscriber q
  pub most : subscriber q ≤ subscribers
  pub short : length d ≤ segment_bytes
  pub memory : Prepared rows orders mailboxes

-- what is left where the request q with the data d was judged to be v: the verdict, and the memory
pub record CarriedOut (v : Verdict) (m : Lent) (q : Fields) (d : List ℕ) (r : Verdict) (after : Lent) : Type 0 where
  pub judged : r ≡ v
  pub done : after ≡ kept_in m (carry_out v (state_of m) q d)
