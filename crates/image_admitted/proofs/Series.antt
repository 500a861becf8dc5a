-- Series: the conditions "series" and "series sum" are what a session's series may hold. Assumes nothing.
use Prim.Native.Nat.{ℕ, ◌+◌, ◌-◌, ◌≤◌, ◌<◌}
use mathlib.Core.Bool.{true, false, not, ◌&&◌}
use mathlib.Core.List.{List, [], ◌∷◌}
use mathlib.Core.Path.{◌≡◌, refl, sym, ap, ◌∙◌}
use native.Mathlib.Omega.{arith}
use lib.Dec.{leb, ltb}
use lib.ListN.{length, get_or}
use borrow.Author.Tests.{leb-true, le-leb}
use Rattle.message.specs.Limits.{subscribers}
use Rattle.journal.specs.Row.{Journal}
use Rattle.bank_state.specs.declared.state.Place.{Place}
use Rattle.bank_state.specs.declared.state.Use.{Use}
use Rattle.bank_state.specs.declared.state.Use.TheVariants.{Free, Open, Booked}
use Rattle.bank_state.specs.Limits.{place_count, series_limit}
use Rattle.bank_state.specs.Search.{is_free}
use Rattle.bank_state.specs.State.{Bank, no_place, place_at, series_of}
use Rattle.bank_rows.specs.Records.{number_of_use}
use Rattle.bank_admitted.specs.State as held
use Rattle.bank_admitted.specs.State.{SeriesHold}
use Rattle.image_records.specs.Shapes.{count, total}
use Rattle.image_records.specs.Layout as image
use Rattle.image_conditions.specs.Conditions.{series_fits, is_ahead, chosen_ahead, series_sum, every_series}
use Rattle.image_records.proofs.Shapes.{every-at, every-from, count_same, total-none, total_first, total-same}
use Rattle.image_records.proofs.General.{count-row}
use Rattle.image_admitted.proofs.Shown.{Shown}

-- the sum of a list as by index
total-row : (l : List ℕ) → total (λ i. get_or l i 0) (length l) ≡ held.total l
unfolding held.total
total-row [] = total-none (λ i. get_or [] i 0)
total-row (x ∷ l) = let e = total-row l in omega (arith, total_first (λ i. get_or (x ∷ l) i 0) (length l))

module _ {xs : List ℕ} {b : Bank} {j : Journal} {d n : ℕ} (v : Shown xs b j d n) where
  -- the counter of a subscriber's series
  pub counter-of : (s : ℕ) → 1 ≤ s → s ≤ subscribers → image.counter_of xs s ≡ series_of s b.series
  unfolding image.counter_of series_of
  counter-of s first most = rw (le-leb 1 s first, le-leb s subscribers most) (v.counter (s - 1) (omega arith))

  sum_is : total (image.counter_at xs) place_count ≡ held.total b.series
  sum_is =
      total-same (image.counter_at xs) (λ i. get_or b.series i 0) place_count v.counter
      ∙ ap (total (λ i. get_or b.series i 0)) (sym v.long_series) ∙ total-row b.series

  -- the places ahead of their counters, where each place in use has a subscriber
  module _ (known : (i : ℕ) → i < place_count → is_free (place_at b i).used ≡ false
      → (1 ≤ (place_at b i).subscriber) × ((place_at b i).subscriber ≤ subscribers)) where
    ahead-at : (p : Place) (u : Use) → (is_free u ≡ false → image.counter_of xs p.subscriber ≡ series_of p.subscriber b.series)
        → (ltb 0 (number_of_use u) && leb (image.counter_of xs p.subscriber) p.number)
        ≡ (not (is_free u) && leb (series_of p.subscriber b.series) p.number)
    ahead-at p Free f = refl
    ahead-at p Open f = ap (λ (n : ℕ). leb n p.number) (f refl)
    ahead-at p Booked f = ap (λ (n : ℕ). leb n p.number) (f refl)

    ahead-is : chosen_ahead xs ≡ held.chosen_ahead b.series b.places
    unfolding chosen_ahead is_ahead held.chosen_ahead held.is_ahead
    ahead-is =
        count_same (is_ahead xs) (λ i. held.is_ahead b.series (place_at b i)) place_count
        (λ i k.
        let p = place_at b i in
        rw (v.place i k)
        (ahead-at p p.used (λ e. let s = known i k e in counter-of p.subscriber s.0 s.1)))
        ∙ ap (count (λ i. held.is_ahead b.series (place_at b i))) (sym v.long_places)
        ∙ sym (count-row (held.is_ahead b.series) b.places no_place)

    pub series-hold : every_series xs ≡ true → series_sum xs ≡ true → SeriesHold b.openings b.series b.places
    unfolding every_series series_fits series_sum
    series-hold h s = record {
      limited = λ i k.
          omega (arith, leb-true (image.counter_at xs i) series_limit (every-at (series_fits xs) place_count i h k), v.counter i k);
      counted =
          omega (arith, leb-true (total (image.counter_at xs) place_count + chosen_ahead xs) (image.openings xs) s, sum_is, ahead-is, v.openings);
    }

    pub series-sum : SeriesHold b.openings b.series b.places → series_sum xs ≡ true
    unfolding series_sum
    series-sum o =
        le-leb (total (image.counter_at xs) place_count + chosen_ahead xs) (image.openings xs)
        (omega (arith, o.counted, sum_is, ahead-is, v.openings))

  -- and from what a session may hold
  pub every-series : SeriesHold b.openings b.series b.places → every_series xs ≡ true
  unfolding every_series series_fits
  every-series o =
      every-from (series_fits xs) place_count
      (λ i k. le-leb (image.counter_at xs i) series_limit (omega (arith, o.limited i k, v.counter i k)))
