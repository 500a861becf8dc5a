-- `keep_payload` meets its contract. Assumes nothing.
use native.Mathlib.Omega.{arith}
use Rattle.bank_state.specs.Store.{with_part}
use Rattle.unit.proofs.call.keep_payload.Goals as goal

pub append-requires : goal.append-requires
append-requires c = omega (arith, c.requires.2 c.if-kept.true)

pub returns-then-kept : goal.returns-then-kept
unfolding with_part
returns-then-kept c = rw c.if-kept.true c.append.ensures
