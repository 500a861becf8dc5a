-- The search passes the places that hold another order or none.
use Rattle.bank_state.proofs.Loops.{Searched}
use Rattle.bank_rows.specs.State.{bank_of}
use Rattle.bank_verdicts.specs.Refusals.{is_order}
use Rattle.bank_signing.proofs.orders.find_order.Given as goal

abbrev pub invariant-loop-i : goal.invariant-loop-i
invariant-loop-i l = Searched (is_order l.owner l.order) (bank_of l.rows).places l.i
