-- The first loop gives the places before `start` the records further on, the second the events to those after it.
-- Assumes nothing.
use Prim.Native.Nat.{ℕ}
use mathlib.Core.List.{List}
use mathlib.Core.Path.{◌≡◌, sym, ap, ◌∙◌}
use native.Mathlib.Omega.{arith}
use lib.ListN.{length}
use Rattle.journal.specs.declared.event.Event.{Event}
use Rattle.journal.specs.Events.{max_entries}
use Rattle.journal.specs.Row.{row_after}
use Rattle.journal.proofs.Mixed.{mixed}
use Rattle.unit_rows.specs.Rows.{journal_from}
use Rattle.unit_rows.proofs.Rows.{entering-row, given-on, moved_on}
use Rattle.unit_rows.proofs.events.enter.Goals as goal

pub loop-i-init : goal.loop-i-init
loop-i-init c =
    let a = c.args in
    let p = c.places_of-places.result in
    let nine : length a.batch.entries ≡ max_entries = c.well_formed.1.1.1.0.1.1.1.0.1.0.1 in
    let k = entering-row a.row.now a.events a.clock a.batch p nine c.places_of-places.ensures in
    sym k.begins

pub overflow_add-i : goal.overflow_add-i
overflow_add-i c =
    let a = c.args in
    let p = c.places_of-places.result in
    let nine : length a.batch.entries ≡ max_entries = c.well_formed.1.1.1.0.1.1.1.0.1.0.1 in
    let k = entering-row a.row.now a.events a.clock a.batch p nine c.places_of-places.ensures in
    let i = c.loop-i.i in
    let m = k.moves i (omega arith) (omega arith) in
    omega (arith, m.1)

pub record_at-e-requires : goal.record_at-e-requires
record_at-e-requires c =
    let a = c.args in
    let p = c.places_of-places.result in
    let nine : length a.batch.entries ≡ max_entries = c.well_formed.1.1.1.0.1.1.1.0.1.0.1 in
    let k = entering-row a.row.now a.events a.clock a.batch p nine c.places_of-places.ensures in
    let i = c.loop-i.i in
    let m = k.moves i (omega arith) (omega arith) in
    m.1

pub set_record-requires : goal.set_record-requires
set_record-requires c =
    let a = c.args in
    let p = c.places_of-places.result in
    let nine : length a.batch.entries ≡ max_entries = c.well_formed.1.1.1.0.1.1.1.0.1.0.1 in
    let k = entering-row a.row.now a.events a.clock a.batch p nine c.places_of-places.ensures in
    let i = c.loop-i.i in
    let m = k.moves i (omega arith) (omega arith) in
    omega (arith, m.1)

pub loop-i-preserved : goal.loop-i-preserved
loop-i-preserved c =
    let a = c.args in
    let p = c.places_of-places.result in
    let nine : length a.batch.entries ≡ max_entries = c.well_formed.1.1.1.0.1.1.1.0.1.0.1 in
    let k = entering-row a.row.now a.events a.clock a.batch p nine c.places_of-places.ensures in
    moved_on _ _ _ _ c.loop-i.i _ k.same c.loop-i.invariant c.set_record.ensures _ c.record_at-e.ensures
    (k.moved c.loop-i.i (omega arith) (omega arith))

pub loop-i-2-init : goal.loop-i-2-init
loop-i-2-init c =
    let a = c.args in
    let p = c.places_of-places.result in
    let nine : length a.batch.entries ≡ max_entries = c.well_formed.1.1.1.0.1.1.1.0.1.0.1 in
    let k = entering-row a.row.now a.events a.clock a.batch p nine c.places_of-places.ensures in
    let xs : List Event = journal_from a.row.now in
    let zs : List Event = row_after a.events a.clock a.batch xs in
    let last : c.loop-i.i ≡ p.start = omega (arith, k.in_order.0) in
    c.loop-i.invariant ∙ ap (λ (n : ℕ). mixed n zs xs) last

pub overflow_sub-i : goal.overflow_sub-i
overflow_sub-i c =
    omega arith

pub event_at-requires : goal.event_at-requires
event_at-requires c =
    let a = c.args in
    let p = c.places_of-places.result in
    let nine : length a.batch.entries ≡ max_entries = c.well_formed.1.1.1.0.1.1.1.0.1.0.1 in
    let k = entering-row a.row.now a.events a.clock a.batch p nine c.places_of-places.ensures in
    let i = c.loop-i-2.i in
    let t = k.takes i (omega arith) (omega arith) in
    (t.2, t.3)

pub set_record-requires-in-loop-i-2 : goal.set_record-requires-in-loop-i-2
set_record-requires-in-loop-i-2 c =
    let a = c.args in
    let p = c.places_of-places.result in
    let nine : length a.batch.entries ≡ max_entries = c.well_formed.1.1.1.0.1.1.1.0.1.0.1 in
    let k = entering-row a.row.now a.events a.clock a.batch p nine c.places_of-places.ensures in
    let i = c.loop-i-2.i in
    let t = k.takes i (omega arith) (omega arith) in
    t.1

pub loop-i-2-preserved : goal.loop-i-2-preserved
loop-i-2-preserved c =
    let a = c.args in
    let p = c.places_of-places.result in
    let nine : length a.batch.entries ≡ max_entries = c.well_formed.1.1.1.0.1.1.1.0.1.0.1 in
    let k = entering-row a.row.now a.events a.clock a.batch p nine c.places_of-places.ensures in
    let xs : List Event = journal_from a.row.now in
    let zs : List Event = row_after a.events a.clock a.batch xs in
    given-on zs xs _ _ c.loop-i-2.i _ k.same c.loop-i-2.invariant c.set_record-in-loop-i-2.ensures
    (c.event_at.ensures ∙ k.taken c.loop-i-2.i (omega arith) (omega arith))

pub returns : goal.returns
returns c =
    let a = c.args in
    let p = c.places_of-places.result in
    let nine : length a.batch.entries ≡ max_entries = c.well_formed.1.1.1.0.1.1.1.0.1.0.1 in
    let k = entering-row a.row.now a.events a.clock a.batch p nine c.places_of-places.ensures in
    let xs : List Event = journal_from a.row.now in
    let zs : List Event = row_after a.events a.clock a.batch xs in
    let last : c.loop-i-2.i ≡ p.end = omega (arith, k.in_order.1) in
    c.loop-i-2.invariant ∙ ap (λ (n : ℕ). mixed n zs xs) last ∙ k.ends
