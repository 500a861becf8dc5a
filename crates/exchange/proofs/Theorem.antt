-- Demand 3 of document 01, whole: the theorem over every list of calls. Assumes nothing.
use Rattle.exchange.specs.Course.{start}
use Rattle.exchange.specs.Demand3.{Demand3}
use Rattle.exchange.proofs.Safety.{allowed-first, first-numbers, first-outcome, never-booked}
use Rattle.exchange.proofs.Turn.{closes-in-turn}

pub demand3 : Demand3
unfolding Demand3
demand3 ks ls allowed numbers = (
  first-outcome ks ls allowed numbers,
  closes-in-turn ks (allowed-first ks ls start allowed) (first-numbers ks ls allowed numbers),
  never-booked ks ls allowed numbers,
)
