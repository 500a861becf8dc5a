-- `row_from` meets its contract. The loop's invariant: the first i records are read. Assumes nothing.
use mathlib.Core.Path.{◌≡◌, refl, sym, ◌∙◌}
use native.Mathlib.Omega.{arith}
use lib.ListN.{length-set}
use lib.Seq.{take_all}
use Rattle.journal.specs.Events.{record_count}
use Rattle.bank_rows.specs.Rows.{rows_of}
use Rattle.image_numbers.specs.Numbers.{row_from}
use Rattle.image_numbers.proofs.Journal.{row_next}
use Rattle.image_numbers.proofs.events.row_from.Goals as goal

pub loop-i-init : goal.loop-i-init
unfolding rows_of
loop-i-init c = (refl, refl)

pub loop-i-preserved : goal.loop-i-preserved
loop-i-preserved c = (
  length-set c.loop-i.row c.loop-i.i c.event_from.result ∙ c.loop-i.invariant.0,
  row_next c.args.numbers.now c.loop-i.row c.loop-i.i c.event_from.result (omega arith) c.event_from.ensures c.loop-i.invariant.1,
)

pub returns : goal.returns
unfolding row_from
returns c =
    let e : c.loop-i.i ≡ record_count = omega arith in
    sym (take_all record_count c.loop-i.row (omega arith)) ∙ (rw e at c.loop-i.invariant.1)
