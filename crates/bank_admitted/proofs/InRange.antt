-- A bank that holds what it may hold is in range: what the calls ask of it follows. Assumes nothing.
use Prim.Native.Nat.{ℕ, ◌≤◌, ◌<◌}
use mathlib.Core.Bool.{true}
use mathlib.Core.Path.{◌≡◌, sym, ap, ◌∙◌, subst}
use native.Mathlib.Decide.{dec_lt}
use native.Mathlib.Omega.{arith}
use lib.ListN.{get_or-eq_default}
use Rattle.octets.proofs.Tests.{never}
use Rattle.message.specs.Limits.{file_bytes}
use Rattle.message.specs.Segments.{segments_of}
use Rattle.bank_state.specs.declared.state.Place.{Place}
use Rattle.bank_state.specs.declared.state.Use.{Use}
use Rattle.bank_state.specs.declared.state.Use.TheVariants.{Free, Open, Booked}
use Rattle.bank_state.specs.Limits.{place_count, all_signers}
use Rattle.bank_state.specs.Search.{is_open}
use Rattle.bank_state.specs.State.{BankState, no_place, place_at, download_at, file_length}
use Rattle.bank_state.specs.Store.{part_at}
use Rattle.bank_sound.specs.Sound.{InRange}
use Rattle.bank_admitted.specs.State.{OpenPlace, PlaceHolds, StateHolds}
use Rattle.bank_admitted.proofs.Held.{file-long, download-open}

module _ (w : BankState) (v : StateHolds w) where
  -- what is open is one of the places
  place_inside : (i : ℕ) → is_open (place_at w.bank i).used ≡ true → i < place_count
  place_inside i o = at (dec_lt i place_count)
    where
      at : Dec (i < place_count) → i < place_count
      at (yes l) = l
      at (no l) = never (sym (ap (λ (p : Place). is_open p.used)
          (get_or-eq_default w.bank.places no_place {n = i} (let z = v.sizes.places in omega arith)))
          ∙ o)

  open-place : (i : ℕ) → is_open (place_at w.bank i).used ≡ true →
      OpenPlace w.bank.clock w.bank.openings (place_at w.bank i) (part_at w.orders i)
  open-place i o = at (place_at w.bank i).used o (v.places i (place_inside i o))
    where
      at : (u : Use) → is_open u ≡ true →
          PlaceHolds u w.bank.clock w.bank.openings (place_at w.bank i) (part_at w.orders i) →
          OpenPlace w.bank.clock w.bank.openings (place_at w.bank i) (part_at w.orders i)
      at Free z p = never z
      at Open z p = p
      at Booked z p = never z

  place_short : (i : ℕ) → i < place_count → (place_at w.bank i).length ≤ file_bytes
  place_short i l = at (place_at w.bank i).used (v.places i l)
    where
      at : (u : Use) → PlaceHolds u w.bank.clock w.bank.openings (place_at w.bank i) (part_at w.orders i) →
          (place_at w.bank i).length ≤ file_bytes
      at Free p = let z = ap (λ (r : Place). r.length) p.empty in omega arith
      at Open p = let a = p.below in let b = p.few in let c = p.largest in omega arith
      at Booked p = p.room

  place-signed : (i : ℕ) → i < place_count → (place_at w.bank i).signers ≤ all_signers
  place-signed i l = at (place_at w.bank i).used (v.places i l)
    where
      at : (u : Use) → PlaceHolds u w.bank.clock w.bank.openings (place_at w.bank i) (part_at w.orders i) →
          (place_at w.bank i).signers ≤ all_signers
      at Free p = let z = ap (λ (r : Place). r.signers) p.empty in omega arith
      at Open p = let z = p.unsigned in omega arith
      at Booked p = p.signed

  delivered-within : (j : ℕ) → (download_at w.bank j).used ≡ true →
      (download_at w.bank j).delivered ≤ segments_of (file_length (download_at w.bank j).subscriber w.bank.files)
  delivered-within j u =
      let o = download-open w v j u in
      subst (λ (m : ℕ). (download_at w.bank j).delivered ≤ segments_of m)
      (file-long w v (download_at w.bank j).subscriber o.known o.most) o.within

  pub state-in-range : InRange w.bank
  state-in-range = record {
    files = λ i l. (v.mailboxes_hold i l).room;
    lengths = place_short;
    signers = place-signed;
    few = λ i o. (open-place i o).few;
    below = λ i o. (open-place i o).below;
    largest = λ i o. (open-place i o).largest;
    known = λ j u. (download-open w v j u).known;
    most = λ j u. (download-open w v j u).most;
    within = delivered-within;
  }
