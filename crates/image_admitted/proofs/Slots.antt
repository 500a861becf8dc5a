-- Places and open downloads together: the conditions "orders distinct", "numbers distinct", "open in all", "open of one"
-- and "events" are what a session may hold. Assumes nothing.
use Prim.Native.Nat.{ℕ, ◌+◌, ◌-◌, ◌*◌, ◌≤◌, ◌<◌}
use mathlib.Core.Bool.{Bool, true, false, cond, ◌&&◌}
use mathlib.Core.List.{List, [], ◌∷◌}
use mathlib.Core.Logic.{inl, inr}
use mathlib.Core.Path.{◌≡◌, refl, sym, ap, ◌∙◌}
use native.Mathlib.Decide.{dec_lt}
use native.Mathlib.Omega.{arith}
use lib.Dec.{eqb, leb, ltb}
use lib.ListN.{length, get_or}
use borrow.Author.Tests.{eqb-true, eq-eqb, ne_eqb, leb-true, leb-false, le-leb, ltb-true, ltb-false, lt-ltb, le-ltb}
use Rattle.octets.proofs.Tests.{never, and-true}
use Rattle.message.specs.Limits.{subscribers}
use Rattle.signers.specs.Signers.{signer_count}
use Rattle.journal.specs.Row.{Journal}
use Rattle.bank_state.specs.declared.state.Download.{Download}
use Rattle.bank_state.specs.declared.state.Place.{Place}
use Rattle.bank_state.specs.declared.state.Use.{Use}
use Rattle.bank_state.specs.declared.state.Use.TheVariants.{Free, Open, Booked}
use Rattle.bank_state.specs.Limits.{place_count, max_open, max_open_per_subscriber}
use Rattle.bank_state.specs.Rows.{count_of}
use Rattle.bank_state.specs.Search.{is_free, is_open, open_count, open_count_of}
use Rattle.bank_state.specs.State.{Bank, no_place, no_download, place_at, download_at}
use Rattle.bank_rows.specs.Records.{number_of_use}
use Rattle.bank_admitted.specs.Session.{open_uploads, signers_given}
use Rattle.bank_admitted.specs.State.{Alike}
use Rattle.image_records.specs.declared.layout.PlaceRecord.{PlaceRecord}
use Rattle.image_records.specs.declared.layout.Slot.{Slot}
use Rattle.image_records.specs.Shapes.{count, total}
use Rattle.image_records.specs.Layout as image
use Rattle.image_records.specs.Layout.{open_state, slot_count, slot_at}
use Rattle.image_conditions.specs.Conditions.{
  same_order,
  orders_distinct,
  same_number,
  numbers_distinct,
  is_open_slot,
  is_open_of,
  open_in_all,
  open_of_one,
  signers_at,
  signers_in_all,
  events_fit,
  every_subscriber,
}
use Rattle.image_records.proofs.Shapes.{every-at, every-from, count_same, total-none, total_first, total-same}
use Rattle.image_records.proofs.General.{count-two, count-zero, count-row, distinct-at, distinct_from}
use Rattle.image_conditions.proofs.Laws.{orders-apart}
use Rattle.image_admitted.proofs.Shown.{Shown, downloads-are}

-- the signers of a row of places
given-row : (l : List Place) → total (λ i. signer_count (get_or l i no_place).signers) (length l) ≡ signers_given l
unfolding signers_given
given-row [] = total-none (λ i. signer_count (get_or [] i no_place).signers)
given-row (p ∷ l) =
    let e = given-row l in
    omega (arith, total_first (λ i. signer_count (get_or (p ∷ l) i no_place).signers) (length l))

abbrev slot : ℕ → ℕ → ℕ → Slot
slot state subscriber low = record { state = state; subscriber = subscriber; low = low }

-- a use by its number
used-number : (u : Use) → is_free u ≡ false → 0 < number_of_use u
used-number Free e = never (sym e)
used-number Open e = omega arith
used-number Booked e = omega arith

number-used : (u : Use) → 0 < number_of_use u → is_free u ≡ false
number-used Free h = absurd (omega arith)
number-used Open h = refl
number-used Booked h = refl

open-number : (u : Use) → eqb (number_of_use u) open_state ≡ is_open u
open-number Free = refl
open-number Open = refl
open-number Booked = refl

not_so : (t : Bool) → (t ≡ true → ⊥) → t ≡ false
not_so true f = absurd (f refl)
not_so false f = refl

module _ {xs : List ℕ} {b : Bank} {j : Journal} {d n : ℕ} (v : Shown xs b j d n) where
  -- ---- the slots

  place-slot : (i : ℕ) → i < place_count
      → slot_at xs i ≡ slot (number_of_use (place_at b i).used) (place_at b i).subscriber (place_at b i).transaction.low
  unfolding slot_at
  place-slot i h = rw (lt-ltb i place_count h, v.place i h)

  -- the slot of record i of the downloads, in use or not
  download-slot : (i : ℕ) → slot_at xs (place_count + i)
      ≡ slot (cond (ltb i d) open_state 0) (image.download_at xs i).subscriber (image.download_at xs i).low
  unfolding slot_at
  download-slot i =
      let e : place_count + i - place_count ≡ i = omega arith in
      rw (le-ltb (place_count + i) place_count (omega arith), e, downloads-are v)

  open-slot : (i : ℕ) → i < d
      → slot_at xs (place_count + i) ≡ slot open_state (download_at b i).subscriber (download_at b i).transaction.low
  open-slot i h = download-slot i ∙ rw (lt-ltb i d h, v.download i h)

  used-slot : (i : ℕ) → 0 < (slot_at xs (place_count + i)).state → i < d
  used-slot i h = at (ltb i d) refl
    where
      at : (t : Bool) → ltb i d ≡ t → i < d
      at true e = ltb-true i d e
      at false e =
          let z : (slot_at xs (place_count + i)).state ≡ 0 = ap (λ (s : Slot). s.state) (download-slot i) ∙ rw e in
          absurd (omega arith)

  -- ---- numbers distinct

  apart-slots : numbers_distinct xs ≡ true → (i k : ℕ) → i < slot_count → k < i → (s t : Slot) → slot_at xs i ≡ s
      → slot_at xs k ≡ t → 0 < s.state → 0 < t.state → s.low ≡ t.low → ⊥
  unfolding numbers_distinct same_number
  apart-slots h i k below less s t e f p q same =
      let g = rw (e, f) at (distinct-at (same_number xs) slot_count h i k below less) in
      never (sym g ∙ rw (lt-ltb 0 s.state p, lt-ltb 0 t.state q, eq-eqb s.low t.low same))

  module _ (h : numbers_distinct xs ≡ true) where
    two-places : (i k : ℕ) → i < place_count → k < i → is_free (place_at b i).used ≡ false
        → is_free (place_at b k).used ≡ false → (place_at b i).transaction.low ≡ (place_at b k).transaction.low → ⊥
    two-places i k below less p q =
        apart-slots h i k (omega arith) less _ _ (place-slot i below) (place-slot k (omega arith))
        (used-number (place_at b i).used p) (used-number (place_at b k).used q)

    module _ (o : orders_distinct xs ≡ true) where
      two-orders : (i k : ℕ) → i < place_count → k < i → is_free (place_at b i).used ≡ false
          → is_free (place_at b k).used ≡ false → (place_at b i).subscriber ≡ (place_at b k).subscriber
          → (place_at b i).number ≡ (place_at b k).number → ⊥
      two-orders i k below less p q s e =
          let r = v.place i below in
          let t = v.place k (omega arith) in
          orders-apart xs o i k below less (rw r (used-number (place_at b i).used p)) (rw t (used-number (place_at b k).used q))
          (rw (r, t) s) (rw (r, t) e)

      two-alike : (i k : ℕ) → i < place_count → k < i → is_free (place_at b i).used ≡ false
          → is_free (place_at b k).used ≡ false → Alike (place_at b i) (place_at b k) → ⊥
      two-alike i k below less p q (inl e) = two-places i k below less p q e
      two-alike i k below less p q (inr e) = two-orders i k below less p q e.0 e.1

      turned : (p r : Place) → Alike p r → Alike r p
      turned p r (inl e) = inl (sym e)
      turned p r (inr e) = inr (sym e.0, sym e.1)

      pub places-apart : (i k : ℕ) → i < place_count → k < place_count → is_free (place_at b i).used ≡ false
          → is_free (place_at b k).used ≡ false → Alike (place_at b i) (place_at b k) → i ≡ k
      places-apart i k p q f g alike = order (dec_lt i k) (dec_lt k i)
        where
          order : Dec (i < k) → Dec (k < i) → i ≡ k
          order (yes less) r = absurd (two-alike k i q less g f (turned (place_at b i) (place_at b k) alike))
          order (no r) (yes less) = absurd (two-alike i k p less f g alike)
          order (no r) (no t) = omega arith

    pub downloads-apart : (i k : ℕ) → i < place_count → is_free (place_at b i).used ≡ false → k < d
        → (place_at b i).transaction.low ≡ (download_at b k).transaction.low → ⊥
    downloads-apart i k p f q same =
        apart-slots h (place_count + k) i (omega (arith, v.few_downloads)) (omega arith) _ _ (open-slot k q) (place-slot i p)
        (omega arith) (used-number (place_at b i).used f) (sym same)

  -- and from what a session may hold
  module _ (places : (i k : ℕ) → i < place_count → k < place_count → is_free (place_at b i).used ≡ false
      → is_free (place_at b k).used ≡ false → Alike (place_at b i) (place_at b k) → i ≡ k)
      (apart : (i k : ℕ) → i < place_count → is_free (place_at b i).used ≡ false → (download_at b k).used ≡ true
      → (place_at b i).transaction.low ≡ (download_at b k).transaction.low → ⊥)
      (rises : (i k : ℕ) → i < k → k < d → (download_at b i).transaction.low < (download_at b k).transaction.low) where
    -- two slots, the first one's number the greater
    Alone : ℕ → ℕ → Type 0
    Alone i k = 0 < (slot_at xs i).state → 0 < (slot_at xs k).state → (slot_at xs i).low ≡ (slot_at xs k).low → ⊥

    alone-places : (i k : ℕ) → i < place_count → k < i → Alone i k
    unfolding Alone
    alone-places i k p less =
        rw (place-slot i p, place-slot k (omega arith))
        (λ f g same.
        let e = places i k p (omega arith) (number-used (place_at b i).used f) (number-used (place_at b k).used g) (inl same) in
        omega arith)

    alone-download : (i k : ℕ) → k < place_count → Alone (place_count + i) k
    unfolding Alone
    alone-download i k q f g same =
        let p = used-slot i f in
        let s = place-slot k q in
        apart k i q (number-used (place_at b k).used (rw s at g)) (v.used_download i p)
        (ap (λ (x : Slot). x.low) (sym s) ∙ sym same ∙ ap (λ (x : Slot). x.low) (open-slot i p))

    alone-downloads : (i k : ℕ) → k < i → Alone (place_count + i) (place_count + k)
    unfolding Alone
    alone-downloads i k less f g same =
        let p = used-slot i f in
        let q = used-slot k g in
        let e : (download_at b i).transaction.low ≡ (download_at b k).transaction.low =
        ap (λ (x : Slot). x.low) (sym (open-slot i p)) ∙ same ∙ ap (λ (x : Slot). x.low) (open-slot k q) in
        let up = rises k i less p in
        omega arith

    alone : (i k : ℕ) → k < i → Dec (i < place_count) → Dec (k < place_count) → Alone i k
    alone i k less (yes p) q = alone-places i k p less
    alone i k less (no p) (yes q) =
        let e : i ≡ place_count + (i - place_count) = omega arith in
        rw e (alone-download (i - place_count) k q)
    alone i k less (no p) (no q) =
        let e : i ≡ place_count + (i - place_count) = omega arith in
        let f : k ≡ place_count + (k - place_count) = omega arith in
        rw (e, f) (alone-downloads (i - place_count) (k - place_count) (omega arith))

    -- two places of one subscriber
    pub orders-distinct : orders_distinct xs ≡ true
    unfolding orders_distinct same_order
    orders-distinct =
        distinct_from (same_order xs) place_count
        (λ i k below less.
        not_so (same_order xs i k)
        (λ h.
        let t = rw (v.place i below, v.place k (omega arith)) at h in
        let p = and-true (ltb 0 (number_of_use (place_at b i).used)) _ t in
        let q = and-true (ltb 0 (number_of_use (place_at b k).used)) _ p.1 in
        let s = and-true (eqb (place_at b i).subscriber (place_at b k).subscriber) _ q.1 in
        let r = and-true (eqb (place_at b i).number (place_at b k).number) true s.1 in
        let e = places i k below (omega arith) (number-used (place_at b i).used (ltb-true _ _ p.0))
        (number-used (place_at b k).used (ltb-true _ _ q.0)) (inr (eqb-true _ _ s.0, eqb-true _ _ r.0)) in
        omega arith))

    pub numbers-distinct : numbers_distinct xs ≡ true
    unfolding numbers_distinct same_number Alone
    numbers-distinct =
        distinct_from (same_number xs) slot_count
        (λ i k below less.
        not_so (same_number xs i k)
        (λ h.
        let p = and-true (ltb 0 (slot_at xs i).state) _ h in
        let q = and-true (ltb 0 (slot_at xs k).state) _ p.1 in
        let r = and-true (eqb (slot_at xs i).low (slot_at xs k).low) true q.1 in
        alone i k less (dec_lt i place_count) (dec_lt k place_count) (ltb-true _ _ p.0) (ltb-true _ _ q.0)
        (eqb-true _ _ r.0)))

  -- ---- how many are open

  -- a test of what is open, by its subscriber
  module _ (f : Bool → ℕ → Bool) (closed : (s : ℕ) → f false s ≡ false) where
    abbrev slot_passes : ℕ → Bool
    slot_passes i = f (eqb (slot_at xs i).state open_state) (slot_at xs i).subscriber

    count-places : count slot_passes place_count ≡ count_of (λ (p : Place). f (is_open p.used) p.subscriber) b.places
    count-places =
        let passes : Place → Bool = λ (p : Place). f (is_open p.used) p.subscriber in
        count_same slot_passes (λ i. passes (place_at b i)) place_count
        (λ i h. rw (place-slot i h) (ap (λ (t : Bool). f t (place_at b i).subscriber) (open-number (place_at b i).used)))
        ∙ ap (count (λ i. passes (place_at b i))) (sym v.long_places) ∙ sym (count-row passes b.places no_place)

    download-passes : (i : ℕ) (t : Bool) → ltb i d ≡ t
        → slot_passes (place_count + i) ≡ f (download_at b i).used (download_at b i).subscriber
    download-passes i true e =
        let h = ltb-true i d e in
        rw (open-slot i h, v.used_download i h)
    download-passes i false e =
        let h = ltb-false i d e in
        rw (download-slot i, e, v.free_download i h) (closed (image.download_at xs i).subscriber ∙ sym (closed 0))

    count-slots : count slot_passes slot_count
        ≡ count_of (λ (p : Place). f (is_open p.used) p.subscriber) b.places
        + count_of (λ (e : Download). f e.used e.subscriber) b.downloads
    count-slots =
        let passes : Download → Bool = λ (e : Download). f e.used e.subscriber in
        let downloads : count (λ i. slot_passes (place_count + i)) place_count ≡ count_of passes b.downloads =
        count_same (λ i. slot_passes (place_count + i)) (λ i. passes (download_at b i)) place_count
        (λ i h. download-passes i (ltb i d) refl)
        ∙ ap (count (λ i. passes (download_at b i))) (sym v.long_downloads) ∙ sym (count-row passes b.downloads no_download) in
        count-two slot_passes place_count place_count ∙ rw (count-places, downloads)

  abbrev any : Bool → ℕ → Bool
  any t s = t

  abbrev of : ℕ → Bool → ℕ → Bool
  of s t r = t && eqb r s

  open-uploads : count (is_open_slot xs) place_count ≡ open_uploads b
  unfolding is_open_slot
  open-uploads = count-places any (λ s. refl)

  pub open-count : count (is_open_slot xs) slot_count ≡ open_count b
  unfolding is_open_slot open_count
  open-count = count-slots any (λ s. refl)

  open-count-of : (s : ℕ) → count (is_open_of xs s) slot_count ≡ open_count_of s b
  unfolding is_open_of open_count_of
  open-count-of s = count-slots (of s) (λ r. refl)

  pub open-all : open_in_all xs ≡ true → open_count b ≤ max_open
  unfolding open_in_all
  open-all h = omega (arith, leb-true (count (is_open_slot xs) slot_count) max_open h, open-count)

  pub open-in-all : open_count b ≤ max_open → open_in_all xs ≡ true
  unfolding open_in_all
  open-in-all h = le-leb (count (is_open_slot xs) slot_count) max_open (omega (arith, open-count))

  signers-all : signers_in_all xs ≡ signers_given b.places
  unfolding signers_in_all signers_at
  signers-all =
      total-same (signers_at xs) (λ i. signer_count (place_at b i).signers) place_count
      (λ i h. ap (λ (r : PlaceRecord). signer_count r.signers) (v.place i h))
      ∙ ap (total (λ i. signer_count (place_at b i).signers)) (sym v.long_places) ∙ given-row b.places

  pub events-bound : events_fit xs ≡ true → j.events + open_uploads b ≤ 2 * b.openings + signers_given b.places
  unfolding events_fit
  events-bound h =
      omega (
        arith,
        leb-true (image.events xs + count (is_open_slot xs) place_count) (2 * image.openings xs + signers_in_all xs) h,
        open-uploads,
        signers-all,
        v.events,
        v.openings,
      )

  pub events-fit : j.events + open_uploads b ≤ 2 * b.openings + signers_given b.places → events_fit xs ≡ true
  unfolding events_fit
  events-fit h =
      le-leb (image.events xs + count (is_open_slot xs) place_count) (2 * image.openings xs + signers_in_all xs)
      (omega (arith, open-uploads, signers-all, v.events, v.openings))

  -- what is open is of one of the eight
  module _ (place_known : (i : ℕ) → i < place_count → is_open (place_at b i).used ≡ true
      → (1 ≤ (place_at b i).subscriber) × ((place_at b i).subscriber ≤ subscribers))
      (download_known : (i : ℕ) → (download_at b i).used ≡ true
      → (1 ≤ (download_at b i).subscriber) × ((download_at b i).subscriber ≤ subscribers)) where
    no_one : (t : Bool) (r s : ℕ) → (1 ≤ s → subscribers < s) → (t ≡ true → (1 ≤ r) × (r ≤ subscribers)) → (t && eqb r s) ≡ false
    no_one false r s out known = refl
    no_one true r s out known =
        let k = known refl in
        ne_eqb r s (λ e. let z = out (omega (arith, k.0)) in omega (arith, k.1))

    none_open : (s : ℕ) → (1 ≤ s → subscribers < s) → open_count_of s b ≡ 0
    unfolding open_count_of
    none_open s out =
        let place : Place → Bool = λ (p : Place). is_open p.used && eqb p.subscriber s in
        let download : Download → Bool = λ (e : Download). e.used && eqb e.subscriber s in
        let p : count_of place b.places ≡ 0 =
        count-row place b.places no_place
        ∙ count-zero (λ i. place (place_at b i)) (length b.places)
        (λ i h. no_one (is_open (place_at b i).used) (place_at b i).subscriber s out (place_known i (omega (arith, v.long_places)))) in
        let q : count_of download b.downloads ≡ 0 =
        count-row download b.downloads no_download
        ∙ count-zero (λ i. download (download_at b i)) (length b.downloads)
        (λ i h. no_one (download_at b i).used (download_at b i).subscriber s out (download_known i)) in
        rw (p, q)

    pub open_of_lem : every_subscriber xs ≡ true → (s : ℕ) → open_count_of s b ≤ max_open_per_subscriber
    unfolding every_subscriber open_of_one
    open_of_lem h s = at (ltb 0 s) (leb s subscribers) refl refl
      where
        at : (t u : Bool) → ltb 0 s ≡ t → leb s subscribers ≡ u → open_count_of s b ≤ max_open_per_subscriber
        at true true e f =
            let p = ltb-true 0 s e in
            let q = leb-true s subscribers f in
            let k : s - 1 + 1 ≡ s = omega arith in
            let t = rw k at (every-at (open_of_one xs) subscribers (s - 1) h (omega arith)) in
            omega (arith, leb-true (count (is_open_of xs s) slot_count) max_open_per_subscriber t, open-count-of s)
        at true false e f = omega (arith, none_open s (λ _. leb-false s subscribers f))
        at false u e f = omega (arith, none_open s (λ p. absurd (let z = ltb-false 0 s e in omega arith)))

  pub every-subscriber : ((s : ℕ) → open_count_of s b ≤ max_open_per_subscriber) → every_subscriber xs ≡ true
  unfolding every_subscriber open_of_one
  every-subscriber f =
      every-from (open_of_one xs) subscribers
      (λ i h.
      le-leb (count (is_open_of xs (i + 1)) slot_count) max_open_per_subscriber
      (omega (arith, f (i + 1), open-count-of (i + 1))))
