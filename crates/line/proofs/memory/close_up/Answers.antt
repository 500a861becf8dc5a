-- The bytes moved are written over the front.
use mathlib.Core.Path.{◌∙◌}
use Prim.Native.Nat.{◌-◌}
use native.Mathlib.Omega.{arith}
use Rattle.line.proofs.Lists.{front-moved}
use Rattle.line.proofs.memory.close_up.Goals as goal

pub returns : goal.returns
returns c =
    let a = c.args in
    c.copy_within.ensures.after ∙ front-moved a.store.now a.n (a.end - a.n) (omega arith)
