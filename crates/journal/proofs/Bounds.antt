-- Bounds on the numbers by which `enter` goes through the row. Assumes nothing.
use Prim.Native.Nat.{ℕ, ◌≤◌}
use mathlib.Core.Path.{◌≡◌, refl}
use mathlib.Core.Bool.{Bool, true, false, cond}
use native.Mathlib.Omega.{arith}
use lib.Dec.{ltb}
use borrow.Author.Tests.{ltb-true, ltb-false, le-ltb}
use Rattle.journal.specs.Events.{record_count, max_entries, count_of}
use Rattle.journal.specs.Row.{takes_events}
use Rattle.journal.specs.Places.{used_after, entered_count}

most-at : (n b : ℕ) (t : Bool) → ltb n b ≡ t → cond t n b ≤ b
most-at n b true e = omega (arith, ltb-true n b e)
most-at n b false e = omega arith

pub used-most : (n : ℕ) → used_after n ≤ record_count
unfolding used_after
used-most n = most-at n record_count (ltb n record_count) refl

pub used-below : (n : ℕ) → n ≤ record_count → used_after n ≡ n
unfolding used_after
used-below n h = used-at (ltb n record_count) refl
  where
    used-at : (t : Bool) → ltb n record_count ≡ t → cond t n record_count ≡ n
    used-at true e = refl
    used-at false e = omega (arith, h, ltb-false n record_count e)

pub used-above : (n : ℕ) → record_count ≤ n → used_after n ≡ record_count
unfolding used_after
used-above n h = rw (le-ltb n record_count h)

pub count_most : (n : ℕ) → count_of n ≤ max_entries
unfolding count_of
count_most n = most-at n max_entries (ltb n max_entries) refl

pub entered-most : (records n count : ℕ) → entered_count records n count ≤ max_entries
unfolding entered_count
entered-most records n count = at (takes_events records n)
  where
    at : (t : Bool) → cond t (count_of count) 0 ≤ max_entries
    at true = count_most count
    at false = omega arith
