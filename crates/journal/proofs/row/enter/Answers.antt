-- The records move up, and then the first i records are those that the row is to hold, and the others as they were
-- (`mixed`), which `Entering` keeps from place to place. Assumes nothing.
use Prim.Native.Nat.{ℕ, ◌+◌, ◌-◌, ◌<◌, ◌≤◌, ◌^◌}
use mathlib.Core.Path.{◌≡◌, sym, ap, ◌∙◌}
use mathlib.Core.List.{List}
use native.Mathlib.Numerals.{add-one}
use native.Mathlib.Omega.{arith}
use lib.ListN.{length, get_or, set}
use mir.Val.{Val}
use denote.Laws.{Is}
use denote.Struct.Laws as LL
use Rattle.journal.specs.contracts.event.Batch as B
use Rattle.journal.proofs.event.Batch.TheLaws as B'
use Rattle.journal.specs.declared.event.Event.{Event}
use Rattle.journal.specs.declared.event.Batch.{Batch}
use Rattle.journal.specs.declared.places.Places.{Places}
use Rattle.journal.specs.Events.{record_count, max_entries, no_event, event_at}
use Rattle.journal.specs.Row.{row_after}
use Rattle.journal.specs.Places.{places_of}
use Rattle.journal.proofs.Mixed.{mixed, mixed-next}
use Rattle.journal.proofs.Entering.{Entering, entering, moves-within, moved-up}
use Rattle.journal.proofs.row.enter.Goals as goal

-- a batch has nine entries
nine_entries : (b : Batch) (vs : List Val) → Is B.the_row b vs → length b.entries ≡ max_entries
nine_entries b vs is = (LL.owed B.the_type B'.the_laws b vs is).1.0.1.0.1

-- nine is that a batch has nine entries
module _ (n clock : ℕ) (b : Batch) (xs : List Event) (p : Places) (nine : length b.entries ≡ max_entries)
    (e : p ≡ places_of (length xs) n b.count) where
  abbrev zs : List Event
  zs = row_after n clock b xs

  rightly : Entering n clock b p xs zs
  rightly = rw e (entering n clock b xs nine)

  -- a place that is given an event is one of the row
  takes : (i : ℕ) → p.start ≤ i → i < p.end → (length xs ≡ record_count) × (i < record_count)
  takes i h l = let t = rightly.takes i h l in (t.0, t.1)

  asks : (i : ℕ) → p.start ≤ i → i < p.end → (n + max_entries < 2 ^ 64) × (i - p.start < max_entries)
  asks i h l = let t = rightly.takes i h l in (t.2, t.3)

  -- one place more, given v
  next : (i : ℕ) (row : List Event) (v : Event) → row ≡ mixed i zs xs → v ≡ get_or zs i no_event
      → set row i v ≡ mixed (i + 1) zs xs
  next i row v r w =
      ap (λ (l : List Event). set l i v) r
      ∙ ap (set (mixed i zs xs) i) w
      ∙ mixed-next i zs xs no_event rightly.same
      ∙ ap (λ (k : ℕ). mixed k zs xs) (sym (add-one i))

  taken : (i : ℕ) (row : List Event) (v : Event) → p.start ≤ i → i < p.end → row ≡ mixed i zs xs
      → v ≡ event_at n clock b (i - p.start)
      → set row i v ≡ mixed (i + 1) zs xs
  taken i row v h l r w = next i row v r (w ∙ rightly.taken i h l)

  ended : (i : ℕ) (row : List Event) → i ≡ p.end → row ≡ mixed i zs xs → row ≡ zs
  ended i row h r = r ∙ ap (λ (k : ℕ). mixed k zs xs) h ∙ rightly.ends

pub move_up-requires : goal.move_up-requires
move_up-requires c =
    let a = c.args in
    let p = c.places_of-places.result in
    let k = nine_entries a.batch _ c.well_formed.1.1.1.0 in
    moves-within (rightly a.events a.clock a.batch a.row.now p k c.places_of-places.ensures)

pub loop-i-init : goal.loop-i-init
loop-i-init c =
    let a = c.args in
    let p = c.places_of-places.result in
    let k = nine_entries a.batch _ c.well_formed.1.1.1.0 in
    c.move_up.ensures ∙ moved-up (rightly a.events a.clock a.batch a.row.now p k c.places_of-places.ensures)

pub event_at-requires : goal.event_at-requires
event_at-requires c =
    let a = c.args in
    let p = c.places_of-places.result in
    let k = nine_entries a.batch _ c.well_formed.1.1.1.0 in
    asks a.events a.clock a.batch a.row.now p k c.places_of-places.ensures c.loop-i.i (omega arith) (omega arith)

pub offset_bounds-row-i : goal.offset_bounds-row-i
offset_bounds-row-i c =
    let a = c.args in
    let p = c.places_of-places.result in
    let k = nine_entries a.batch _ c.well_formed.1.1.1.0 in
    record {
      fits = omega (arith, takes a.events a.clock a.batch a.row.now p k c.places_of-places.ensures c.loop-i.i (omega arith) (omega arith));
    }

pub bounds-row-i : goal.bounds-row-i
bounds-row-i c =
    let a = c.args in
    let p = c.places_of-places.result in
    let k = nine_entries a.batch _ c.well_formed.1.1.1.0 in
    omega (arith, takes a.events a.clock a.batch a.row.now p k c.places_of-places.ensures c.loop-i.i (omega arith) (omega arith))

pub loop-i-preserved : goal.loop-i-preserved
loop-i-preserved c =
    let a = c.args in
    let p = c.places_of-places.result in
    let k = nine_entries a.batch _ c.well_formed.1.1.1.0 in
    let l = c.loop-i in
    taken a.events a.clock a.batch a.row.now p k c.places_of-places.ensures l.i l.row c.event_at.result (omega arith) (omega arith) l.invariant c.event_at.ensures

pub returns : goal.returns
returns c =
    let a = c.args in
    let p = c.places_of-places.result in
    let k = nine_entries a.batch _ c.well_formed.1.1.1.0 in
    let l = c.loop-i in
    let right = rightly a.events a.clock a.batch a.row.now p k c.places_of-places.ensures in
    ended a.events a.clock a.batch a.row.now p k c.places_of-places.ensures l.i l.row (omega (arith, right.in_order)) l.invariant
