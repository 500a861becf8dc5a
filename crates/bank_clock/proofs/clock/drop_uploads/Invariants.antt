-- The first i places are gone through.
use Prim.Native.Nat.{ℕ}
use mathlib.Core.List.{List}
use mathlib.Core.Path.{◌≡◌}
use lib.ListN.{length}
use Rattle.bank_state.specs.Clock.{drop_uploads}
use Rattle.bank_state.specs.State.{bank_state}
use Rattle.bank_rows.specs.State.{bank_of, StoredWith}
use Rattle.bank_clock.proofs.clock.drop_uploads.Given as goal

abbrev pub invariant-loop-i : goal.invariant-loop-i
invariant-loop-i l = (length l.rows ≡ length l.initial.rows) × (length l.orders ≡ length l.initial.orders)
    × ((mailboxes : List ℕ) → StoredWith (drop_uploads l.i (bank_state (bank_of l.initial.rows) l.initial.orders mailboxes)) l.initial.rows l.rows l.orders)
