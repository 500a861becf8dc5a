-- A booked order with another set of signers, and other nonces remembered: what the state may hold is kept.
use Prim.Native.Nat.{ℕ, ◌≤◌, ◌<◌}
use mathlib.Core.Bool.{false, ◌&&◌}
use mathlib.Core.List.{List}
use mathlib.Core.Path.{◌≡◌, refl, sym, ap, ◌∙◌, subst}
use native.Mathlib.Omega.{arith}
use lib.Dec.{eqb}
use lib.ListN.{length, length-set}
use Rattle.frame_table.specs.declared.fields.Fields.{Fields}
use Rattle.frame_table.specs.Names.{subscriber, order_number, owner}
use Rattle.signers.specs.Signers.{with_signer}
use Rattle.bank_state.specs.declared.state.Place.{Place}
use Rattle.bank_state.specs.declared.state.Use.{Use}
use Rattle.bank_state.specs.declared.state.Use.TheVariants.{Booked}
use Rattle.bank_state.specs.Limits.{place_count, nonce_count, all_signers}
use Rattle.bank_state.specs.Search.{is_free, is_open, free_nonce, open_count, open_count_of}
use Rattle.bank_state.specs.State.{Nonce, BankState, bank_state, no_place, place_at}
use Rattle.bank_state.specs.Store.{part_at}
use Rattle.bank_verdicts.specs.Judgement.{order_at}
use Rattle.bank_verdicts.proofs.Signing.{order-found}
use Rattle.bank_signing.specs.Signings.{sign}
use Rattle.bank_signing.proofs.Signed.{signers-few}
use Rattle.bank_steps.proofs.Cases.{ToOrder}
use Rattle.bank_admitted.specs.State.{PlaceHolds, NoncesHold, StateHolds}
use Rattle.bank_admitted.proofs.Rows.{count-set-le}
use Rattle.bank_admitted.proofs.Parts.{with_signers, place-signed}
use Rattle.bank_admitted.proofs.Ahead.{kept-holds, ahead-stays}
use Rattle.bank_admitted.proofs.Nonces.{nonces-added}
use Rattle.bank_admitted.proofs.InRange.{state-in-range}
use Rattle.bank_admitted.proofs.PlaceChange.{changed_at, place-change, alike-sym}

module _ (w : BankState) (v : StateHolds w) (i : ℕ) (inside : i < place_count) (booked : (place_at w.bank i).used ≡ Booked)
    (signers : ℕ) (small : signers ≤ all_signers) (nonces : List Nonce) (long : length nonces ≡ nonce_count)
    (memory : NoncesHold w.bank.clock nonces) where
  abbrev before : Place
  before = place_at w.bank i

  abbrev after : Place
  after = with_signers signers before

  used : is_free before.used ≡ false
  used = ap is_free booked

  -- what holds of its place
  abbrev Holds : Place → Use → Type 0
  Holds p u = PlaceHolds u w.bank.clock w.bank.openings p (part_at w.orders i)

  new : Holds after after.used
  new = subst (Holds after) (sym booked) (place-signed signers small (subst (Holds before) booked (v.places i inside)))

  pub order_signed : StateHolds (changed_at i after w.bank.openings w.bank.series nonces w.orders w)
  unfolding open_count open_count_of
  order_signed =
      place-change w i after w.bank.openings w.bank.series nonces w.orders v (record {
        bytes = part_at w.orders i;
        inside = inside;
        stored = v.sizes.orders;
        here = refl;
        elsewhere = λ j n. refl;
        remembered = long;
        memory = memory;
        grow = omega arith;
        numbers = v.numbers;
        counters = v.sizes.series;
        series_hold = kept-holds w.bank.openings i after v.series
            (ahead-stays w.bank.series before after (λ _. (used, refl, refl)));
        new = new;
        order = λ _. v.orders i inside used;
        apart_place = λ j a n f g e. n (v.places_apart j i a inside g used (alike-sym before (place_at w.bank j) e));
        apart_download = λ j f. v.apart i j inside used;
        open_all = let m = count-set-le (λ (r : Place). is_open r.used) w.bank.places i after no_place (λ e. e) in omega
            (arith, v.open_all);
        open_of = λ s. let m = count-set-le (λ (r : Place). is_open r.used && eqb r.subscriber s) w.bank.places i after no_place
            (λ e. e) in
            omega (arith, v.open_of s);
      })

-- a signing: the order is booked, its set has one signer more or the same ones, and its nonce is remembered
pub signing-keeps : (w : BankState) → StateHolds w → (q : Fields) (d : List ℕ) → ToOrder w q d
    → StateHolds (bank_state (sign q w.bank) w.orders w.mailboxes)
unfolding sign free_nonce
signing-keeps w v q d t =
    let i = order_at w.bank q in
    let p = place_at w.bank i in
    let inside = t.signable.inside in
    order_signed w v i inside (order-found (owner q) (order_number q) p t.found).0
    (with_signer (subscriber q) p.signers) (signers-few (subscriber q) p.signers ((state-in-range w v).signers i inside)) _
    (length-set w.bank.nonces (free_nonce w.bank) _ ∙ v.sizes.nonces)
    (nonces-added w.bank.clock w.bank.nonces v.nonces _ refl t.signable.timely t.signable.memory)
