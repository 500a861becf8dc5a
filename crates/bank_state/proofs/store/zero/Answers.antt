-- The part that is lent comes back zeroed.
use Prim.Native.Nat.{◌*◌}
use native.Mathlib.Omega.{arith}
use Rattle.message.specs.Limits.{file_bytes}
use Rattle.bank_state.specs.Store.{zeroed, with_part}
use Rattle.bank_state.proofs.Stores.{zeroed-part}
use Rattle.bank_state.proofs.store.zero.Goals as goal

pub returns : goal.returns
unfolding zeroed with_part
returns c =
    let a = c.args in
    rw c.clear.ensures (zeroed-part a.store.now (a.i * file_bytes) file_bytes (omega arith))
