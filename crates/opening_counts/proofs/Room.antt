-- Counts that can grow have room for what one call adds. Assumes nothing.
use Prim.Native.Nat.{ℕ, ◌+◌, ◌^◌, ◌≤◌, ◌<◌}
use mathlib.Core.Bool.{Bool, true, ◌&&◌}
use mathlib.Core.Path.{◌≡◌}
use native.Mathlib.Omega.{arith}
use borrow.Author.Tests.{ltb-true, lt-ltb}
use Rattle.octets.proofs.Tests.{and-true}
use Rattle.opening_counts.specs.declared.seven.Counts.{Counts}
use Rattle.opening_counts.specs.Counts.{with_dropped, most_moved, fits, can_grow, Room}

fits_told : (n : ℕ) → fits n ≡ true → n + most_moved < 2 ^ 64
unfolding fits
fits_told n e = ltb-true (n + most_moved) (2 ^ 64) e

fits-tested : (n : ℕ) → n + most_moved < 2 ^ 64 → fits n ≡ true
unfolding fits
fits-tested n h = lt-ltb (n + most_moved) (2 ^ 64) h

-- each of the seven
pub record Roomy (c : Counts) : Type 0 where
  pub pending : c.pending + most_moved < 2 ^ 64
  pub booked : c.booked + most_moved < 2 ^ 64
  pub fetched : c.fetched + most_moved < 2 ^ 64
  pub skipped : c.skipped + most_moved < 2 ^ 64
  pub ended : c.ended + most_moved < 2 ^ 64
  pub cancelled : c.cancelled + most_moved < 2 ^ 64
  pub dropped : c.dropped + most_moved < 2 ^ 64

module _ (c : Counts) where
  -- the tests, from the last one on
  pub roomy : can_grow c ≡ true → Roomy c
  unfolding can_grow
  roomy h =
      let two : Bool = fits c.pending && fits c.booked in
      let three : Bool = two && fits c.fetched in
      let four : Bool = three && fits c.skipped in
      let five : Bool = four && fits c.ended in
      let six : Bool = five && fits c.cancelled in
      let f = and-true six (fits c.dropped) h in
      let e = and-true five (fits c.cancelled) f.0 in
      let d = and-true four (fits c.ended) e.0 in
      let t = and-true three (fits c.skipped) d.0 in
      let b = and-true two (fits c.fetched) t.0 in
      let a = and-true (fits c.pending) (fits c.booked) b.0 in
      record {
        pending = fits_told c.pending a.0;
        booked = fits_told c.booked a.1;
        fetched = fits_told c.fetched b.1;
        skipped = fits_told c.skipped t.1;
        ended = fits_told c.ended d.1;
        cancelled = fits_told c.cancelled e.1;
        dropped = fits_told c.dropped f.1;
      }

  -- and back
  pub can-grow : Roomy c → can_grow c ≡ true
  unfolding can_grow
  can-grow r =
      rw (
        fits-tested c.pending r.pending,
        fits-tested c.booked r.booked,
        fits-tested c.fetched r.fetched,
        fits-tested c.skipped r.skipped,
        fits-tested c.ended r.ended,
        fits-tested c.cancelled r.cancelled,
        fits-tested c.dropped r.dropped,
      )

  module _ (h : can_grow c ≡ true) (gone : ℕ) (few : gone ≤ most_moved) where
    pub room-dropped : c.dropped + gone < 2 ^ 64
    room-dropped = let r = roomy h in omega arith

    pub room-left : (others : ℕ) → others ≤ most_moved → Room others (with_dropped gone c)
    room-left others most =
        let r = roomy h in
        record {
          pending = omega arith;
          booked = omega arith;
          fetched = omega arith;
          skipped = omega arith;
          ended = omega arith;
          cancelled = omega arith;
        }
