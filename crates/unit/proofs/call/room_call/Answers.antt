-- `room_call` meets its contract: the run's part of the files is lent and comes back. Assumes nothing.
use native.Mathlib.Omega.{arith}
use Prim.Native.Nat.{◌+◌, ◌*◌, ◌≤◌}
use lib.ListN.{length}
use Rattle.message.specs.Limits.{file_bytes}
use Rattle.bank_state.proofs.Stores.{part-lent}
use Rattle.unit.proofs.Steps.{part-kept, roomed}
use Rattle.unit.proofs.call.room_call.Goals as goal

pub returns : goal.returns
returns c =
    let a = c.args in
    let fits : a.i * file_bytes + file_bytes ≤ length a.files.now = omega (arith, c.requires) in
    let back = part-kept a.files.now _ a.i fits c.files-1.given.0 in
    roomed _ _ a.i _ _ _ _ a.files.now _ _ _ _ _ _ (part-lent a.files.now a.i) back c.event_call.ensures
