-- The conditions "counts open", "counts booked" and "counts sum" are what the counts of a session hold of its bank. Assumes
-- nothing.
use Prim.Native.Nat.{ℕ, zero, suc, ◌≤◌, ◌<◌}
use mathlib.Core.Bool.{Bool, true}
use mathlib.Core.List.{List}
use mathlib.Core.Path.{◌≡◌, refl, sym, ap, ◌∙◌}
use native.Mathlib.Omega.{arith}
use lib.Dec.{eqb}
use lib.ListN.{length, get_or}
use borrow.Author.Tests.{eqb-true, eq-eqb}
use Rattle.journal.specs.declared.event.Event.{Event}
use Rattle.journal.specs.Events.{record_count}
use Rattle.journal.specs.Row.{Journal}
use Rattle.bank_state.specs.declared.state.Place.{Place}
use Rattle.bank_state.specs.declared.state.Use.{Use}
use Rattle.bank_state.specs.declared.state.Use.TheVariants.{Free, Open, Booked}
use Rattle.bank_state.specs.Limits.{place_count}
use Rattle.bank_state.specs.Search.{is_booked}
use Rattle.bank_state.specs.State.{Bank, no_place, place_at}
use Rattle.bank_rows.specs.Records.{number_of_use}
use Rattle.opening_counts.specs.declared.seven.Counts.{Counts}
use Rattle.opening_counts.specs.Counts.{count_row, sum}
use Rattle.bank_session.specs.Session.{counts_in}
use Rattle.bank_admitted.specs.Counts.{booked_orders, CountsHold}
use Rattle.image_records.specs.declared.layout.PlaceRecord.{PlaceRecord}
use Rattle.image_records.specs.Shapes.{count, total}
use Rattle.image_records.specs.Layout as image
use Rattle.image_records.specs.Layout.{booked_state, count_size, count_at}
use Rattle.image_conditions.specs.Conditions.{is_open_slot, counts_open, is_booked_place, counts_booked, counts_sum}
use Rattle.image_records.proofs.Shapes.{count_same, total-same}
use Rattle.image_records.proofs.General.{count-row}
use Rattle.image_numbers.specs.Numbers.{numbers_in}
use Rattle.image_numbers.proofs.Records.{count-in}
use Rattle.image_admitted.proofs.Shown.{Shown}
use Rattle.image_admitted.proofs.Slots.{open-count}

booked-number : (u : Use) → eqb (number_of_use u) booked_state ≡ is_booked u
booked-number Free = refl
booked-number Open = refl
booked-number Booked = refl

-- the seven of a row
seven-sum : (c : Counts) → total (λ (i : ℕ). get_or (count_row c) i 0) count_size ≡ sum c
unfolding total
seven-sum c = omega arith

module _ (s : List ℕ) (row : List Event) (full : length row ≡ record_count) where
  abbrev xs : List ℕ
  xs = numbers_in s row

  abbrev c : Counts
  c = counts_in s

  total-is : total (count_at xs) count_size ≡ sum c
  total-is =
      total-same (count_at xs) (λ (i : ℕ). get_or (count_row c) i 0) count_size (λ i h. count-in s row full i) ∙ seven-sum c

  module _ {b : Bank} {j : Journal} {d n : ℕ} (v : Shown xs b j d n) where
    booked-count : count (is_booked_place xs) place_count ≡ booked_orders b
    unfolding is_booked_place
    booked-count =
        let passes : Place → Bool = λ (p : Place). is_booked p.used in
        count_same (is_booked_place xs) (λ i. passes (place_at b i)) place_count
        (λ i h. ap (λ (r : PlaceRecord). eqb r.state booked_state) (v.place i h) ∙ booked-number (place_at b i).used)
        ∙ ap (count (λ i. passes (place_at b i))) (sym v.long_places) ∙ sym (count-row passes b.places no_place)

    -- what the list tells
    pub counts-hold : counts_open xs ≡ true → counts_booked xs ≡ true → counts_sum xs ≡ true → CountsHold b c
    unfolding counts_open counts_booked counts_sum
    counts-hold o k a =
        let first = count-in s row full 0 in
        let second = count-in s row full 1 in
        record {
          pending = sym first ∙ eqb-true (count_at xs 0) (count (is_open_slot xs) image.slot_count) o ∙ open-count v;
          booked = sym second ∙ eqb-true (count_at xs 1) (count (is_booked_place xs) place_count) k ∙ booked-count;
          all = sym total-is ∙ eqb-true (total (count_at xs) count_size) (image.openings xs) a ∙ v.openings;
        }

    -- and what passes it
    module _ (h : CountsHold b c) where
      pub counts-open : counts_open xs ≡ true
      unfolding counts_open
      counts-open = eq-eqb (count_at xs 0) (count (is_open_slot xs) image.slot_count) (count-in s row full 0 ∙ h.pending ∙ sym (open-count v))

      pub counts-booked : counts_booked xs ≡ true
      unfolding counts_booked
      counts-booked = eq-eqb (count_at xs 1) (count (is_booked_place xs) place_count) (count-in s row full 1 ∙ h.booked ∙ sym booked-count)

      pub counts-sum : counts_sum xs ≡ true
      unfolding counts_sum
      counts-sum = eq-eqb (total (count_at xs) count_size) (image.openings xs) (total-is ∙ h.all ∙ sym v.openings)

      -- none is more than the openings
      each-few : (i : ℕ) → i < count_size → get_or (count_row c) i 0 ≤ sum c
      each-few zero k = omega arith
      each-few (suc zero) k = omega arith
      each-few (suc (suc zero)) k = omega arith
      each-few (suc (suc (suc zero))) k = omega arith
      each-few (suc (suc (suc (suc zero)))) k = omega arith
      each-few (suc (suc (suc (suc (suc zero))))) k = omega arith
      each-few (suc (suc (suc (suc (suc (suc zero)))))) k = omega arith
      each-few (suc (suc (suc (suc (suc (suc (suc i))))))) k = absurd (omega arith)

      pub counts-few : (i : ℕ) → i < count_size → count_at xs i ≤ b.openings
      counts-few i k = omega (arith, each-few i k, count-in s row full i, h.all)
