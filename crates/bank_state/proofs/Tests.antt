-- What a test that does not hold tells. Assumes nothing.
use Prim.Native.Nat.{ℕ}
use mathlib.Core.Bool.{Bool, true, false, not}
use mathlib.Core.Path.{◌≡◌, refl, sym}
use lib.Dec.{ltb, leb}
use borrow.Author.Tests.{ltb-true, ltb-false, le-leb, lt-leb}

not-ltb-at : (a b : ℕ) (t : Bool) → ltb a b ≡ t → not t ≡ leb b a
not-ltb-at a b true e = sym (lt-leb b a (ltb-true a b e))
not-ltb-at a b false e = sym (le-leb b a (ltb-false a b e))

pub not-ltb : (a b : ℕ) → not (ltb a b) ≡ leb b a
not-ltb a b = not-ltb-at a b (ltb a b) refl
