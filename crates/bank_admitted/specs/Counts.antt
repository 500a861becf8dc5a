-- What the counts of a session hold of its bank: the three conditions of an image's counts.
use Rattle.std.specs.Prelude.{ℕ, ◌≡◌}
use Rattle.bank_state.specs.declared.state.Place.{Place}
use Rattle.bank_state.specs.Rows.{count_of}
use Rattle.bank_state.specs.Search.{is_booked, open_count}
use Rattle.bank_state.specs.State.{Bank}
use Rattle.opening_counts.specs.declared.seven.Counts.{Counts}
use Rattle.opening_counts.specs.Counts.{sum}

-- the orders in the book
abbrev pub booked_orders : Bank → ℕ
booked_orders b = count_of (λ (p : Place). is_booked p.used) b.places

pub record CountsHold (b : Bank) (c : Counts) : Type 0 where
  -- "the first count is the number of open uploads and open downloads"
  pub pending : c.pending ≡ open_count b
  -- "the second count is the number of places of state 2"
  pub booked : c.booked ≡ booked_orders b
  -- "the seven counts add up to openings, exactly, without wrap"
  pub all : sum c ≡ b.openings
