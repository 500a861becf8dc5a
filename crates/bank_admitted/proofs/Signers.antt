-- The signers of all places together: a place without signers gives none, so neither a drop nor a request takes any away.
use Prim.Native.Nat.{ℕ, zero, suc, ◌+◌, ◌*◌, ◌≤◌, ◌<◌, max}
use mathlib.Core.Bool.{true, false}
use mathlib.Core.List.{List, [], ◌∷◌}
use mathlib.Core.Path.{◌≡◌, refl, sym, ap, ◌∙◌}
use native.Mathlib.Omega.{arith}
use lib.ListN.{length, get_or, set}
use Rattle.octets.proofs.Tests.{never, and-true}
use Rattle.message.proofs.Verdicts.{by-test}
use Rattle.signers.specs.Signers.{bit_count, signer_count}
use Rattle.signers.proofs.Counts.{count_most, count_none}
use Rattle.bank_state.specs.declared.state.Place.{Place}
use Rattle.bank_state.specs.declared.state.Use.{Use}
use Rattle.bank_state.specs.declared.state.Use.TheVariants.{Free, Open, Booked}
use Rattle.bank_state.specs.Clock.{is_idle, advanced}
use Rattle.bank_state.specs.Limits.{place_count}
use Rattle.bank_state.specs.Search.{is_free, is_open, is_booked}
use Rattle.bank_state.specs.State.{BankState, no_place, place_at}
use Rattle.bank_state.specs.Store.{part_at}
use Rattle.bank_state.proofs.Drops.{is_idle_place, Sized, advanced-sized}
use Rattle.bank_admitted.specs.State.{PlaceHolds, StateHolds}
use Rattle.bank_admitted.specs.Session.{signers_given}
use Rattle.bank_admitted.proofs.DropsKept.{advanced-place}

-- ---- any places

-- a place without signers gives none
none-given : {n : ℕ} → n ≡ 0 → signer_count n ≡ 0
none-given e = ap signer_count e ∙ count_none

-- "a set over the 8 subscribers"
pub given-most : (l : List Place) → signers_given l ≤ bit_count * length l
unfolding signers_given
given-most [] = omega arith
given-most (p ∷ l) = let e = given-most l in omega (arith, count_most p.signers)

-- one place changed
pub given-set : (l : List Place) (i : ℕ) (p d : Place) → i < length l →
    signers_given (set l i p) + signer_count (get_or l i d).signers ≡ signers_given l + signer_count p.signers
unfolding signers_given
given-set [] i p d h = absurd (omega arith)
given-set (x ∷ l) zero p d h = omega arith
given-set (x ∷ l) (suc i) p d h = let e = given-set l i p d (omega arith) in omega arith

-- where one without signers is changed, no signer is lost
pub given-more : (l : List Place) (i : ℕ) (p d : Place) → i < length l → (get_or l i d).signers ≡ 0 →
    signers_given l ≤ signers_given (set l i p)
given-more l i p d h e = omega (arith, given-set l i p d h, none-given e)

-- each place has as many signers
given-same : (l m : List Place) → length m ≡ length l →
    ((i : ℕ) → i < length l → signer_count (get_or m i no_place).signers ≡ signer_count (get_or l i no_place).signers) →
    signers_given m ≡ signers_given l
unfolding signers_given
given-same [] [] h f = refl
given-same [] (y ∷ m) h f = absurd (omega arith)
given-same (x ∷ l) [] h f = absurd (omega arith)
given-same (x ∷ l) (y ∷ m) h f =
    let a = given-same l m (omega arith) (λ i k. f (suc i) (omega arith)) in
    let b = f 0 (omega arith) in
    omega arith

-- ---- what a bank may hold

-- an order that is not booked has no signers
pub unsigned : (w : BankState) → StateHolds w → (i : ℕ) → i < place_count → is_booked (place_at w.bank i).used ≡ false →
    (place_at w.bank i).signers ≡ 0
unsigned w v i l = at (place_at w.bank i).used (v.places i l)
  where
    at : (u : Use) → PlaceHolds u w.bank.clock w.bank.openings (place_at w.bank i) (part_at w.orders i) →
        is_booked u ≡ false → (place_at w.bank i).signers ≡ 0
    at Free p e = ap (λ (r : Place). r.signers) p.empty
    at Open p e = p.unsigned
    at Booked p e = never (sym e)

pub open-not-booked : (u : Use) → is_open u ≡ true → is_booked u ≡ false
open-not-booked Free e = never e
open-not-booked Open e = refl
open-not-booked Booked e = never e

pub free-not-booked : (u : Use) → is_free u ≡ true → is_booked u ≡ false
free-not-booked Free e = refl
free-not-booked Open e = never e
free-not-booked Booked e = never e

-- the clock drops what is open, so no signer
pub drops-unsigned : (time : ℕ) (w : BankState) → StateHolds w → Sized w →
    signers_given (advanced time w).bank.places ≡ signers_given w.bank.places
drops-unsigned time w v s =
    given-same w.bank.places (advanced time w).bank.places
    (let a = (advanced-sized time w s).places in let b = s.places in omega arith) each
  where
    each : (i : ℕ) → i < length w.bank.places →
        signer_count (place_at (advanced time w).bank i).signers ≡ signer_count (place_at w.bank i).signers
    each i h =
        let l : i < place_count = (let b = s.places in omega arith) in
        let p = place_at w.bank i in
        let c = max w.bank.clock time in
        ap (λ (r : Place). signer_count r.signers) (advanced-place time w s i l)
        ∙ by-test (λ (r : Place). signer_count r.signers ≡ signer_count p.signers) (is_idle_place c p)
        (λ e.
        let o = (and-true (is_open p.used) (is_idle c p.last) e).0 in
        count_none ∙ sym (none-given (unsigned w v i l (open-not-booked p.used o))))
        (λ _. refl)
