-- An empty record is whole for no kind. Assumes nothing.
use Prim.Native.Nat.{◌<◌}
use lib.ListN.{length}
use Rattle.unit_state.specs.Records.{call_of}
use Rattle.unit_state.proofs.Parts.{nothing-whole}
use borrow.Author.Rules.{rules}
use Rattle.unit_state.proofs.record.call_of.Goals as goal

pub returns-then-is_empty : goal.returns-then-is_empty
unfolding call_of
returns-then-is_empty c =
    let h : length c.args.s.now < 1 = search rules in
    rw (nothing-whole _ c.args.s.now h)
