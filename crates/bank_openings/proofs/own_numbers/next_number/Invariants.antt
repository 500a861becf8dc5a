-- The numbers that the search has passed are held.
use Prim.Native.Nat.{◌-◌}
use mathlib.Core.Path.{◌≡◌}
use Rattle.bank_state.specs.Numbers.{first_unheld, next_number}
use Rattle.bank_rows.specs.State.{bank_of}
use Rattle.bank_openings.proofs.own_numbers.next_number.Given as goal

abbrev pub invariant-loop-n : goal.invariant-loop-n
invariant-loop-n l =
    next_number l.subscriber (bank_of l.rows) ≡ first_unheld (l.end - l.n) l.subscriber l.n (bank_of l.rows)
