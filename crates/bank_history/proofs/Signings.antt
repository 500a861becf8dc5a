-- An accepted signing keeps the invariant: one order's place has a signer more, by the bank and by the history, its nonce
-- is remembered, and nothing else moves. Assumes nothing.
use Prim.Native.Nat.{ℕ, ◌<◌}
use mathlib.Core.Bool.{Bool, false, cond, not, ◌&&◌}
use mathlib.Core.List.{List, ◌∷◌}
use mathlib.Core.Path.{◌≡◌, refl, sym, ap, ◌∙◌, subst}
use native.Mathlib.Omega.{arith}
use native.Mathlib.Decide.{ℕ_discrete}
use lib.Dec.{eqb}
use lib.ListN.{length}
use lib.Seq.{get_or-set_same, get_or-set_other}
use borrow.Author.Tests.{eq-eqb, ne_eqb}
use Rattle.frame_table.specs.declared.fields.Fields.{Fields}
use Rattle.frame_table.specs.Names.{subscriber, order_type, order_number, owner}
use Rattle.message.specs.Limits.{ful}
use Rattle.message.specs.OrderNumbers.{order_number_of}
use Rattle.message.specs.Replies.{refusal}
use Rattle.signers.specs.Signers.{is_signer, with_signer}
use Rattle.bank_state.specs.declared.state.Place.{Place}
use Rattle.bank_state.specs.declared.state.Use.{Use}
use Rattle.bank_state.specs.declared.state.Use.TheVariants.{Free, Open, Booked}
use Rattle.bank_state.specs.Limits.{place_count}
use Rattle.bank_state.specs.Search.{free_nonce}
use Rattle.bank_state.specs.State.{BankState, bank_state, no_place, place_at, download_at, file_length}
use Rattle.bank_state.specs.Store.{part_at}
use Rattle.bank_state.proofs.Rows.{first_passes}
use Rattle.journal.specs.declared.event.OrderName.{OrderName}
use Rattle.bank_verdicts.specs.Refusals.{is_order, find_order}
use Rattle.bank_verdicts.specs.Judgement.{order_at, signed}
use Rattle.bank_verdicts.proofs.Signing.{order-found}
use Rattle.bank_signing.specs.Signings.{signed_place, sign}
use Rattle.bank_steps.proofs.Cases.{ToOrder}
use Rattle.bank_admitted.specs.State.{mailbox_file}
use Rattle.bank_admitted.proofs.Rows.{each_set}
use Rattle.bank_admitted.proofs.Signings as admitted
use Rattle.bank_history.specs.History.{Exchange, is_booking, is_action, accepted}
use Rattle.bank_history.specs.Signatures.{signed_name, same_name, is_signed, signers_in}
use Rattle.bank_history.specs.Sound.{SoundSigning, more}
use Rattle.bank_history.specs.Invariant.{PlaceTold, OrderTold, Invariant, signers_held}
use Rattle.bank_history.proofs.Entries.{and_no, ever-other, series-unmoved}
use Rattle.bank_history.proofs.Signatures.{first-kept}
use Rattle.bank_history.proofs.Memory.{memory-added}
use Rattle.bank_history.proofs.Places.{place-unchanged}
use Rattle.bank_history.proofs.Records.{download-unchanged}
use Rattle.bank_history.proofs.Uploads.{entry, bare}

module _ (w : BankState) (h : List Exchange) (v : Invariant w h) (q : Fields) (d : List ℕ) (t : ToOrder w q d) where
  abbrev i : ℕ
  i = order_at w.bank q

  abbrev old : Place
  old = place_at w.bank i

  abbrev new : Place
  new = signed_place (subscriber q) old

  abbrev x : Exchange
  x = entry (signed w.bank q) w q d

  abbrev w' : BankState
  w' = bank_state (sign q w.bank) w.orders w.mailboxes

  named : (old.used ≡ Booked) × (old.subscriber ≡ owner q) × (order_number_of old.number ≡ order_number q)
  named = order-found (owner q) (order_number q) old t.found

  inside : i < length w.bank.places
  inside = let l = v.state.sizes.places in let b = t.signable.inside in omega arith

  -- what does not read the signers is as it was in every place
  kept : {A : Type 0} (f : Place → A) → f new ≡ f old → (j : ℕ) → f (place_at w'.bank j) ≡ f (place_at w.bank j)
  unfolding sign
  kept f same = each_set w.bank.places i new no_place inside (λ (j : ℕ) (r : Place). f r ≡ f (place_at w.bank j)) same
      (λ j n. refl)

  -- the order's place is told as before
  place-signed : (u : Use) → PlaceTold u (x ∷ h) old (part_at w.orders i) → PlaceTold u (x ∷ h) new (part_at w.orders i)
  place-signed Free p = p
  place-signed Open p = record { place = p.place; size = p.size; takings = p.takings; unbooked = p.unbooked }
  place-signed Booked p = record {
    place = p.place;
    some = p.some;
    few = p.few;
    whole = p.whole;
    least = p.least;
    largest = p.largest;
    booked = p.booked;
  }

  told : (j : ℕ) → j < place_count →
      PlaceTold (place_at w.bank j).used (x ∷ h) (place_at w.bank j) (part_at w.orders j)
  told j a = place-unchanged x h _ _ (place_at w.bank j).used (λ _. refl) (v.places j a)

  places : (j : ℕ) → j < place_count →
      PlaceTold (place_at w'.bank j).used (x ∷ h) (place_at w'.bank j) (part_at w.orders j)
  unfolding sign
  places = each_set w.bank.places i new no_place inside
      (λ (j : ℕ) (r : Place). j < place_count → PlaceTold r.used (x ∷ h) r (part_at w.orders j))
      (λ a. place-signed old.used (told i a)) (λ j n a. told j a)

  -- ---- the signers

  found-kept : (o n : ℕ) → find_order o n w'.bank ≡ find_order o n w.bank
  unfolding sign find_order is_order
  found-kept o n = first-kept (is_order o n) w.bank.places i new refl inside

  module _ (o n : ℕ) where
    abbrev at : ℕ
    at = find_order o n w.bank

    -- the order that the signing names: it has the signer more
    own : o ≡ owner q → n ≡ order_number q → signers_held o n w'.bank ≡ with_signer (subscriber q) (signers_held o n w.bank)
    unfolding sign
    own a b =
        ap (λ (j : ℕ). (place_at w'.bank j).signers) (found-kept o n ∙ place)
        ∙ (ap (λ (r : Place). r.signers) (admitted-own)
        ∙ ap (λ (j : ℕ). with_signer (subscriber q) (place_at w.bank j).signers) (sym place))
      where
        place : at ≡ i
        place = rw (a, b) refl

        admitted-own : place_at w'.bank i ≡ new
        admitted-own = get_or-set_same w.bank.places i new no_place inside

    -- any other has those that it had
    other : (at ≡ i → ⊥) → signers_held o n w'.bank ≡ signers_held o n w.bank
    unfolding sign
    other apart =
        ap (λ (j : ℕ). (place_at w'.bank j).signers) (found-kept o n)
        ∙ ap (λ (r : Place). r.signers) (get_or-set_other w.bank.places i at new no_place apart)

    -- the order found in the place signed has the name signed
    is-named : at ≡ i → (o ≡ owner q) × (n ≡ order_number q)
    unfolding find_order
    is-named place =
        let b = t.signable.inside in
        let f = order-found o n (place_at w.bank at) (first_passes (is_order o n) w.bank.places no_place
        (let l = v.state.sizes.places in omega arith)) in
        let r : place_at w.bank at ≡ old = ap (place_at w.bank) place in (
          sym f.1 ∙ (ap (λ (y : Place). y.subscriber) r ∙ named.1),
          sym f.2 ∙ (ap (λ (y : Place). order_number_of y.number) r ∙ named.2),
        )

    abbrev name : OrderName
    name = record { subscriber = o; order_type = ful; number = n }

    signers-kept : signers_held o n w'.bank ≡ signers_in name (x ∷ h)
    unfolding signers_in same_name refusal
    signers-kept = by (ℕ_discrete o (owner q)) (ℕ_discrete n (order_number q))
      where
        -- a signing that names another order
        unsigned : same_name (signed_name x) name ≡ false → signers_in name (x ∷ h) ≡ signers_in name h
        unsigned z = ap (λ (c : Bool). cond c (with_signer (subscriber q) (signers_in name h)) (signers_in name h))
            (ap (λ (c : Bool). is_signed x && c) z ∙ and_no (is_signed x))

        by : Dec (o ≡ owner q) → Dec (n ≡ order_number q) → signers_held o n w'.bank ≡ signers_in name (x ∷ h)
        by (yes a) (yes b) =
            own a b ∙ (ap (with_signer (subscriber q)) (v.signers o n)
            ∙ rw (t.asked, t.signable.upload, eq-eqb (owner q) o (sym a), eq-eqb (order_number q) n (sym b)) refl)
        by (no a) b = other (λ z. a (is-named z).0) ∙ (v.signers o n ∙ sym (unsigned (ap (λ (c : Bool). c && eqb (order_type q) ful && eqb (order_number q) n)
            (ne_eqb (owner q) o (λ z. a (sym z))))))
        by (yes a) (no b) =
            other (λ z. b (is-named z).1) ∙ (v.signers o n ∙ sym (unsigned (ap (λ (c : Bool). eqb (owner q) o && eqb (order_type q) ful && c)
            (ne_eqb (order_number q) n (λ z. b (sym z))) ∙ and_no (eqb (owner q) o && eqb (order_type q) ful))))

  -- ---- the exchange

  order-told : OrderTold h old (part_at w.orders i)
  order-told = subst (λ (u : Use). PlaceTold u h old (part_at w.orders i)) named.0 (v.places i t.signable.inside)

  sound : SoundSigning (record { transaction = old.transaction; number = old.number }) (not (is_signer (subscriber q) old.signers)) x h
  sound = record {
    asked = t.asked;
    known = t.readable.known;
    most = t.readable.most;
    typed = t.signable.upload;
    named = sym named.2;
    opened = order-told.place.opened;
    owned = order-told.place.owner ∙ named.1;
    order = order-told.place.order;
    booked = order-told.booked;
    adds = ap (λ (set : ℕ). not (is_signer (subscriber q) set)) (v.signers (owner q) (order_number q)
        ∙ ap (λ (y : ℕ). signers_in (record { subscriber = owner q; order_type = y; number = order_number q }) h)
        (sym t.signable.upload));
    bare = bare w (subscriber q);
  }

  pub signing-keeps : Invariant w' (x ∷ h)
  unfolding accepted sign free_nonce mailbox_file file_length
  signing-keeps = record {
    state = admitted.signing-keeps w v.state q d t;
    counted = v.counted;
    series = λ s a b. v.series s a b ∙ sym (series-unmoved s x h refl);
    places = places;
    downloads = λ j. download-unchanged x h _ _ (download_at w.bank j).used (λ _. refl) (v.downloads j);
    memory = memory-added w.bank.clock h x refl t.signable.timely w.bank.nonces v.memory t.signable.memory;
    known = λ u e. v.known u (sym (ever-other u x h refl is_action) ∙ e);
    booked = λ u e.
        let b = v.booked u (sym (ever-other u x h refl is_booking) ∙ e) in
        record {
          place = b.place;
          inside = b.inside;
          used = kept (λ (r : Place). r.used) refl b.place ∙ b.used;
          same = kept (λ (r : Place). r.transaction) refl b.place ∙ b.same;
        };
    signers = signers-kept;
    sound = more {e = x} (record { reply = refl; verdict = sound }) v.sound;
  }
