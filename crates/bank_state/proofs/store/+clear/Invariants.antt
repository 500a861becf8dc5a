-- Each half is shorter.
use Rattle.std.proofs.Common.{length}
use Rattle.bank_state.proofs.store.+clear.Given as goal

abbrev pub decreases-clear : goal.decreases-clear
decreases-clear l = length l.part.now
