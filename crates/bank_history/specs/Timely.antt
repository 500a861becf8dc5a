-- A timestamp in time and a nonce not seen before, by requests, replies and clocks alone: what 091103 asks.
use Rattle.std.specs.Prelude.{ℕ, ◌≤◌, ◌+◌, Bool, true, ◌&&◌, ◌||◌, List, ◌≡◌, leb}
use Rattle.frame_table.specs.Names.{nonce, timestamp}
use Rattle.bank_state.specs.Limits.{window}
use Rattle.bank_history.specs.History.{Exchange, Stands}
use Rattle.bank_history.specs.Opened.{is_opened}
use Rattle.bank_history.specs.Signatures.{is_signed}

-- an accepted opening or signing whose nonce is remembered at this clock: "while its timestamp is at most" the window
-- "behind the clock"
abbrev pub is_kept : ℕ → Exchange → Bool
is_kept clock e = (is_opened e || is_signed e) && leb clock (timestamp e.request + window)

-- a timestamp in time, and a nonce that is not remembered: no line 091103
pub record Timely (e : Exchange) (h : List Exchange) : Type 0 where
  pub early : timestamp e.request ≤ e.clock + window
  pub late : e.clock ≤ timestamp e.request + window
  pub unseen : (f : Exchange) (g : List Exchange) → Stands f g h → is_kept e.clock f ≡ true →
      nonce e.request ≡ nonce f.request → ⊥
