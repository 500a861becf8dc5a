-- The records in use and the events entered have room, or the records move up.
use native.Mathlib.Omega.{arith}
use Rattle.octets.proofs.Tests.{tests}
use Rattle.journal.specs.Places.{places_for, places_of}
use Rattle.journal.proofs.Bounds.{used-most, entered-most}
use Rattle.journal.proofs.places.places_of.Goals as goal

pub overflow_add-end : goal.overflow_add-end
overflow_add-end c =
    let a = c.args in
    record {
      fits =
          omega (arith, c.used_after-used.ensures, c.entered_count.ensures, used-most a.events, entered-most a.records a.events a.count);
    }

pub returns-then-end-le-RECORD_COUNT : goal.returns-then-end-le-RECORD_COUNT
unfolding places_of places_for
returns-then-end-le-RECORD_COUNT c = search (tests, ← c.used_after-used.ensures, ← c.entered_count.ensures)

pub overflow_sub-start : goal.overflow_sub-start
overflow_sub-start c =
    let a = c.args in
    omega (arith, c.used_after-used.ensures, c.entered_count.ensures, used-most a.events, entered-most a.records a.events a.count)

pub returns : goal.returns
unfolding places_of places_for
returns c = search (tests, ← c.used_after-used.ensures, ← c.entered_count.ensures)
