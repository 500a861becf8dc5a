-- The bank that lists of calls leave is in range: by the invariant.
use mathlib.Core.List.{List}
use Rattle.bank_state.specs.State.{BankState}
use Rattle.bank_sound.specs.Sound.{InRange}
use Rattle.bank_admitted.proofs.InRange.{state-in-range}
use Rattle.bank_history.specs.History.{Exchange}
use Rattle.bank_history.specs.Invariant.{Invariant}

pub in-range : {w : BankState} {h : List Exchange} → Invariant w h → InRange w.bank
in-range {w} v = state-in-range w v.state
