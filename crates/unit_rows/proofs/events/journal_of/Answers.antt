-- One record more is read, until all are. Assumes nothing.
use Prim.Native.Nat.{◌+◌}
use mathlib.Core.Path.{refl, ap, ◌∙◌}
use native.Mathlib.Omega.{arith}
use lib.ListN.{take, set, length-set}
use Rattle.journal.specs.declared.event.Event.{Event}
use Rattle.journal.specs.Events.{record_count, no_event}
use Rattle.unit_rows.specs.Rows.{journal_from}
use Rattle.unit_rows.proofs.Rows.{copied_next, copied_all, length-journal}
use Rattle.unit_rows.proofs.events.journal_of.Goals as goal

pub loop-i-preserved : goal.loop-i-preserved
loop-i-preserved c =
    let row = c.args.row.now in (
      length-set c.loop-i.held c.loop-i.i c.record_at.result ∙ c.loop-i.invariant.0,
      ap (λ (x : Event). take (c.loop-i.i + 1) (set c.loop-i.held c.loop-i.i x)) c.record_at.ensures
          ∙ copied_next c.loop-i.held (journal_from row) c.loop-i.i no_event (omega arith) (omega (arith, length-journal row)) c.loop-i.invariant.1,
    )

pub returns : goal.returns
returns c =
    copied_all c.loop-i.held (journal_from c.args.row.now) record_count c.loop-i.i c.loop-i.invariant.0 (length-journal _) (omega arith) c.loop-i.invariant.1

pub loop-i-init : goal.loop-i-init
loop-i-init c = (refl, refl)
