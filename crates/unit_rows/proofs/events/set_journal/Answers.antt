-- One record more is the array's, until all are. Assumes nothing.
use Prim.Native.Nat.{◌+◌}
use mathlib.Core.Path.{refl, ap, ◌∙◌}
use native.Mathlib.Omega.{arith}
use lib.ListN.{take}
use Rattle.journal.specs.Events.{record_count}
use Rattle.unit_rows.specs.Rows.{journal_from}
use Rattle.unit_rows.proofs.Rows.{copied_next, copied_all, length-journal}
use Rattle.unit_rows.proofs.events.set_journal.Goals as goal

pub loop-i-preserved : goal.loop-i-preserved
loop-i-preserved c =
    ap (take (c.loop-i.i + 1)) c.set_record.ensures
    ∙ copied_next (journal_from c.loop-i.row) c.args.held c.loop-i.i _ (omega (arith, length-journal c.loop-i.row)) (omega arith) c.loop-i.invariant

pub returns : goal.returns
returns c =
    copied_all (journal_from c.loop-i.row) c.args.held record_count c.loop-i.i (length-journal c.loop-i.row) (omega arith) (omega arith) c.loop-i.invariant

pub loop-i-init : goal.loop-i-init
loop-i-init c = refl
