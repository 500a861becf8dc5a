-- Laws of texts written into the output one behind the other. Assumes nothing.
use Prim.Native.Nat.{ℕ, ◌+◌, ◌≤◌, ◌<◌}
use mathlib.Core.Bool.{Bool, true, false, cond}
use mathlib.Core.List.{List, [], ◌∷◌, ◌++◌}
use mathlib.Core.Path.{◌≡◌, refl, sym, ap, ◌∙◌}
use native.Mathlib.Omega.{arith}
use borrow.Author.Tests.{lt-leb, le-leb}
use lib.ListN.{length, set, length-append}
use Rattle.octets.proofs.Numbers.{length-overwrite, overwrite-overwrite, overwrite-nil, overwrite-set}
use Rattle.print.specs.Text.{Put, printed, printed_count}

pub put-length : {old new : List ℕ} {at behind : ℕ} {text : List ℕ} → Put old at text new behind → length new ≡ length old
put-length {old} {new} {at} {behind} {text} p = ap length p.bytes ∙ length-overwrite old at text (omega (arith, p.place, p.fits))

pub put-nothing : (old : List ℕ) (at : ℕ) → at ≤ length old → Put old at [] old at
put-nothing old at h = record { place = omega arith; fits = h; bytes = sym (overwrite-nil old at) }

pub put_one : (old : List ℕ) (at v : ℕ) → at < length old → Put old at (v ∷ []) (set old at v) (at + 1)
put_one old at v h = record {
  place = omega arith;
  fits = omega arith;
  bytes = sym (overwrite-nil (set old at v) (at + 1)) ∙ overwrite-set old at v [] h;
}

-- a text, and another behind it
pub put_then : {old mid new : List ℕ} {at between behind : ℕ} {xs ys : List ℕ}
    → Put old at xs mid between → Put mid between ys new behind → Put old at (xs ++ ys) new behind
put_then {old} {mid} {new} {at} {between} {behind} {xs} {ys} p q =
    let l = put-length p in
    let n = length-append xs ys in
    let both = overwrite-overwrite old at (length xs) xs ys refl (omega (arith, p.place, q.place, q.fits)) in
    record {
      place = omega (arith, p.place, q.place);
      fits = omega (arith, q.fits);
      bytes = q.bytes ∙ rw (p.bytes, p.place) both;
    }

-- what is left of the output's room behind a text of at most k bytes
pub put-left : (k j : ℕ) {old new : List ℕ} {at behind : ℕ} {text : List ℕ}
    → Put old at text new behind → length text ≤ k → at + (k + j) ≤ length old → behind + j ≤ length new
put-left k j p h r = omega (arith, put-length p, p.place)

-- one of two texts, both of at most n bytes
pub cond-most : (t : Bool) (a b : List ℕ) (n : ℕ) → length a ≤ n → length b ≤ n → length (cond t a b) ≤ n
cond-most true a b n h k = h
cond-most false a b n h k = k

-- a text at the front of the output, where there is room for so many bytes, and where there is none
pub printed-put : (room : ℕ) {text old new : List ℕ} {behind : ℕ} → room ≤ length old → Put old 0 text new behind
    → (new ≡ printed room text old) × (behind ≡ printed_count room text old)
printed-put room {text} {old} {new} {behind} h p =
    let e = le-leb room (length old) h in
    (rw e p.bytes, rw e (omega (arith, p.place)))

pub printed-none : (room : ℕ) (text old : List ℕ) → length old < room
    → (old ≡ printed room text old) × (0 ≡ printed_count room text old)
printed-none room text old h = let e = lt-leb room (length old) h in (rw e, rw e)
