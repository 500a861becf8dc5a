-- The uploads that a clock drops: an open upload stays open or is dropped, and each dropped one is entered as it stood.
use Prim.Native.Nat.{ℕ, suc, ◌+◌, ◌<◌, max}
use mathlib.Core.Bool.{Bool, true, false, cond, ◌&&◌}
use mathlib.Core.List.Memᴰ.{of_map}
use mathlib.Core.List.{List, [], ◌∷◌, map, Memᴰ as In}
use mathlib.Core.Path.{◌≡◌, refl, ap, ◌∙◌, subst}
use native.Mathlib.Omega.{arith}
use lib.ListN.{length, get_or}
use Rattle.bank_state.specs.declared.state.Place.{Place}
use Rattle.bank_state.specs.Clock.{is_idle, advanced}
use Rattle.bank_state.specs.Limits.{place_count}
use Rattle.bank_state.specs.Rows.{count_of, keep}
use Rattle.bank_state.specs.Search.{is_open}
use Rattle.bank_state.specs.State.{BankState, no_place, place_at}
use Rattle.bank_state.proofs.Drops.{is_idle_place, Sized, advanced-sized, Spot, free_spot, spot_at, advanced-spot}
use Rattle.journal.specs.declared.event.Entry.{Entry}
use Rattle.bank_events.specs.Entries.{is_idle_upload, dropped_uploads, drop_entry}
use Rattle.bank_events.proofs.Dropped.{length-by, in-dropped, dropped-place}
use Rattle.bank_admitted.specs.State.{StateHolds}
use Rattle.bank_admitted.specs.Session.{Words, open_uploads}
use Rattle.bank_admitted.proofs.Held.{open-in-use, place-used}
use Rattle.bank_admitted.proofs.JournalKept.{EntryHolds}

-- a place after the clock is free, or as it was and not idle
pub advanced-place : (time : ℕ) (w : BankState) → Sized w → (i : ℕ) → i < place_count →
    place_at (advanced time w).bank i ≡ cond (is_idle_place (max w.bank.clock time) (place_at w.bank i)) no_place
    (place_at w.bank i)
advanced-place time w s i h =
    ap (λ (x : Spot). x.0) (advanced-spot time w s i h)
    ∙ at (is_idle_place (max w.bank.clock time) (place_at w.bank i))
  where
    at : (t : Bool) → (cond t free_spot (spot_at w i)).0 ≡ cond t no_place (place_at w.bank i)
    at true = refl
    at false = refl

-- ---- how many are dropped

module _ (clock : ℕ) where
  abbrev idle : Place → Bool
  idle p = is_idle_upload clock p

  abbrev opened : Place → Bool
  opened p = is_open p.used

  -- one open upload
  one-stays : (p : Place) → cond (opened (cond (idle p) no_place p)) 1 0 + cond (idle p) 1 0 ≡ cond (opened p) 1 0
  one-stays p = at (opened p) (is_idle clock p.last) refl
    where
      at : (s t : Bool) → opened p ≡ s → cond (opened (cond (s && t) no_place p)) 1 0 + cond (s && t) 1 0 ≡ cond s 1 0
      at true true e = refl
      at true false e = rw e refl
      at false t e = rw e refl

  count-stays : (l m : List Place) → length m ≡ length l →
      ((i : ℕ) → i < length l → get_or m i no_place ≡ cond (idle (get_or l i no_place)) no_place (get_or l i no_place)) →
      count_of opened m + count_of idle l ≡ count_of opened l
  unfolding count_of
  count-stays [] [] h f = omega arith
  count-stays [] (y ∷ m) h f = absurd (omega arith)
  count-stays (x ∷ l) [] h f = absurd (omega arith)
  count-stays (x ∷ l) (y ∷ m) h f =
      let a = count-stays l m (omega arith) (λ i k. f (suc i) (omega arith)) in
      let b = ap (λ (p : Place). cond {A = ℕ} (opened p) 1 0) (f 0 (omega arith)) in
      let c = one-stays x in
      omega arith

  length-kept : (l : List Place) → length (keep idle l) ≡ count_of idle l
  unfolding count_of keep
  length-kept [] = refl
  length-kept (x ∷ l) = at (idle x) (length-kept l)
    where
      at : (t : Bool) → length (keep idle l) ≡ count_of idle l →
          length (cond t (x ∷ keep idle l) (keep idle l)) ≡ cond t 1 0 + count_of idle l
      at true e = omega arith
      at false e = omega arith

-- an upload that was open is open after the clock, or is among the dropped ones
pub drops-counted : (time : ℕ) (w : BankState) → Sized w →
    open_uploads (advanced time w).bank + length (dropped_uploads (max w.bank.clock time) w.bank)
    ≡ open_uploads w.bank
unfolding dropped_uploads
drops-counted time w s =
    let c = max w.bank.clock time in
    let l = w.bank.places in
    let m = (advanced time w).bank.places in
    let a = length-by (keep (is_idle_upload c) l) in
    let b = length-kept c l in
    let n = (advanced-sized time w s).places in
    let k = s.places in
    let d = count-stays c l m (omega arith) (λ i h. advanced-place time w s i (omega arith)) in
    omega arith

-- ---- what is entered of them

module _ (w : BankState) (v : StateHolds w) (words : (i : ℕ) → i < place_count → Words (place_at w.bank i).transaction) where
  pub drops-entered : (clock : ℕ) (e : Entry) → In e (map drop_entry (dropped_uploads clock w.bank)) →
      EntryHolds w.bank.openings e
  drops-entered clock e m =
      let x = of_map drop_entry (dropped_uploads clock w.bank) m in
      let k = dropped-place clock w.bank x.1 in
      let o = (in-dropped clock w.bank x.1).1 in
      let same : place_at w.bank k.0 ≡ x.0 = k.1.1 in
      let long = v.sizes.places in
      let inside : k.0 < place_count = (let l = k.1.0 in omega arith) in
      let used = open-in-use (place_at w.bank k.0).used (ap (λ (p : Place). is_open p.used) same ∙ o) in
      let u = place-used w v k.0 inside used in
      subst (EntryHolds w.bank.openings) x.2
      (subst (λ (p : Place). EntryHolds w.bank.openings (drop_entry p)) same
      (record {
        known = u.known;
        most = u.most;
        typed = refl;
        ordered = v.orders k.0 inside used;
        lent = (words k.0 inside).high;
        counted = u.counted;
        happened = refl;
      }))
