-- The entry's fields, with the number and the clock.
use Prim.Native.Nat.{ℕ, suc, ◌+◌}
use mathlib.Core.Path.{◌≡◌, ap}
use native.Mathlib.Omega.{arith}
use lib.ListN.{get_or}
use Rattle.journal.specs.Events.{no_entry, event_of, event_at}
use Rattle.journal.proofs.places.event_at.Goals as goal

next : (n k : ℕ) → n + 1 + k ≡ suc (n + k)
next n k = omega arith

pub returns : goal.returns
unfolding event_at
returns c =
    let a = c.args in
    ap (λ (m : ℕ). event_of m a.clock (get_or a.batch.entries a.k no_entry)) (next a.events a.k)
