-- `put_events` meets its contract. The loop's invariant: the first i records are written. Assumes nothing.
use mathlib.Core.List.{List}
use mathlib.Core.Path.{◌≡◌, refl, sym, ap, ◌∙◌}
use native.Mathlib.Omega.{arith}
use lib.ListN.{length, take}
use lib.Seq.{take_all}
use Rattle.octets.specs.Bytes.{overwrite}
use Rattle.octets.proofs.Numbers.{overwrite-nil}
use Rattle.journal.specs.declared.event.Event.{Event}
use Rattle.journal.specs.Events.{record_count}
use Rattle.bank_rows.specs.Rows.{numbers_of}
use Rattle.image_records.specs.Layout.{journal_at}
use Rattle.image_numbers.specs.Numbers.{event_numbers}
use Rattle.image_numbers.proofs.Journal.{put_next}
use borrow.Author.Rules.{rules}
use Rattle.image_numbers.proofs.events.put_events.Goals as goal

pub loop-i-init : goal.loop-i-init
unfolding numbers_of
loop-i-init c = (refl, sym (overwrite-nil _ journal_at))

pub loop-i-preserved : goal.loop-i-preserved
loop-i-preserved c =
    let a = c.args in
    let long : length a.row ≡ record_count = c.well_formed.0.1.0.1 in (
      search rules,
      put_next a.numbers.now a.row c.loop-i.i c.loop-i.numbers _ c.requires long (omega arith) c.loop-i.invariant.1 c.put_event.ensures,
    )

pub returns : goal.returns
returns c =
    let a = c.args in
    let long : length a.row ≡ record_count = c.well_formed.0.1.0.1 in
    let e : take c.loop-i.i a.row ≡ a.row = take_all c.loop-i.i a.row (omega arith) in
    c.loop-i.invariant.1 ∙ ap (λ (t : List Event). overwrite a.numbers.now journal_at (numbers_of event_numbers t)) e
