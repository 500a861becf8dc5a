-- Places: the conditions on each place and its bytes are what a session's places may hold. Assumes nothing.
use Prim.Native.Nat.{ℕ, ◌+◌, ◌-◌, ◌*◌, ◌≤◌, ◌<◌}
use mathlib.Core.Bool.{true, false, ◌&&◌}
use mathlib.Core.List.{List, ◌++◌}
use mathlib.Core.Path.{◌≡◌, refl, sym, ap, ◌∙◌, subst}
use native.Mathlib.Omega.{arith}
use lib.Dec.{eqb, leb, ltb}
use lib.ListN.{length, take, replicate}
use borrow.Author.Tests.{leb-true, le-leb, eqb-true, eq-eqb, ltb-true, lt-ltb}
use Rattle.octets.proofs.Tests.{never, and-true}
use Rattle.message.specs.Limits.{subscribers, segment_bytes, max_segments, file_bytes, max_attempts}
use Rattle.journal.specs.Row.{Journal}
use Rattle.bank_state.specs.declared.state.Place.{Place}
use Rattle.bank_state.specs.declared.state.Use.{Use}
use Rattle.bank_state.specs.declared.state.Use.TheVariants.{Free, Open, Booked}
use Rattle.bank_state.specs.Limits.{place_count, store_bytes, idle_limit, series_limit, all_signers}
use Rattle.bank_state.specs.Search.{is_free, is_open}
use Rattle.bank_state.specs.State.{Bank, place_at}
use Rattle.bank_state.specs.Store.{part_at}
use Rattle.bank_admitted.specs.State.{UsedAs, FreePlace, OpenPlace, BookedPlace, PlaceHolds}
use Rattle.image_records.specs.Shapes.{all_zero}
use Rattle.image_records.specs.Records.{place_holds}
use Rattle.image_conditions.specs.Conditions.{bytes_behind, place_bytes, place_test, every_place}
use Rattle.image_records.proofs.Shapes.{every-at, every-from}
use Rattle.image_records.proofs.General.{and_both}
use Rattle.image_admitted.proofs.Shown.{place_parts, Shown}
use Rattle.image_admitted.proofs.Stores.{zeros-told, zeros-tested}

-- zeros in a place's bytes behind its length
abbrev Zeros : ℕ → List ℕ → Type 0
Zeros n bytes = bytes ≡ take n bytes ++ replicate (file_bytes - n) 0

-- "clock is at most last fit + idle limit", of an open upload
abbrev NotIdle : Use → ℕ → Place → Type 0
NotIdle u clock p = is_open u ≡ true → clock ≤ p.last + idle_limit

-- a place in use has a number of A000 to ZZZZ
abbrev Ordered : Use → Place → Type 0
Ordered u p = is_free u ≡ false → p.number < series_limit

-- a place in use has a subscriber
pub place-known : (u : Use) (clock openings : ℕ) (p : Place) (bytes : List ℕ) → PlaceHolds u clock openings p bytes
    → is_free u ≡ false → (1 ≤ p.subscriber) × (p.subscriber ≤ subscribers)
place-known Free clock openings p bytes h e = never (sym e)
place-known Open clock openings p bytes h e = (h.place.known, h.place.most)
place-known Booked clock openings p bytes h e = (h.place.known, h.place.most)

-- ---- what the test of a place tells, by its use

module _ (clock openings : ℕ) (p : Place) (bytes : List ℕ) where
  -- its length, what it may hold, that it is not idle, and its number
  abbrev Told : Use → Type 0
  Told u =
      (p.length ≤ file_bytes)
      × (p.used ≡ u → p.signers ≤ all_signers → Zeros p.length bytes → PlaceHolds u clock openings p bytes)
      × NotIdle u clock p × Ordered u p

  told_free : place_holds clock openings (place_parts Free p) ≡ true → Told Free
  told_free h =
      let a = and-true (eqb p.subscriber 0) _ (and-true _ true h).0 in
      let b = and-true (eqb p.transaction.high 0) _ a.1 in
      let c = and-true (eqb p.transaction.low 0) _ b.1 in
      let order = and-true (eqb p.number 0) _ c.1 in
      let d = and-true (eqb p.segments 0) _ order.1 in
      let e = and-true (eqb p.taken 0) _ d.1 in
      let f = and-true (eqb p.attempts 0) _ e.1 in
      let g = and-true (eqb p.last 0) _ f.1 in
      let k = and-true (eqb p.length 0) _ g.1 in
      let m = and-true (eqb p.signers 0) _ k.1 in
      let subscriber = eqb-true p.subscriber 0 a.0 in
      let high = eqb-true p.transaction.high 0 b.0 in
      let low = eqb-true p.transaction.low 0 c.0 in
      let number = eqb-true p.number 0 order.0 in
      let segments = eqb-true p.segments 0 d.0 in
      let taken = eqb-true p.taken 0 e.0 in
      let attempts = eqb-true p.attempts 0 f.0 in
      let last = eqb-true p.last 0 g.0 in
      let size = eqb-true p.length 0 k.0 in
      let signers = eqb-true p.signers 0 m.0 in (
        omega arith,
        λ used small zeros. record {
          empty = λ z. record {
            used = used z;
            transaction = record { high = high z; low = low z };
            subscriber = subscriber z;
            number = number z;
            segments = segments z;
            taken = taken z;
            attempts = attempts z;
            last = last z;
            length = size z;
            signers = signers z;
          };
          zeros = zeros ∙ ap (λ (m : ℕ). take m bytes ++ replicate (file_bytes - m) 0) size;
        },
        never,
        λ e. never (sym e),
      )

  -- the columns that a place in use keeps
  used-as : 1 ≤ p.subscriber → p.subscriber ≤ subscribers → p.transaction.low < openings → Zeros p.length bytes
      → UsedAs openings p bytes
  used-as first most counted zeros = record { counted = counted; known = first; most = most; zeros = zeros }

  told-open : place_holds clock openings (place_parts Open p) ≡ true → Told Open
  told-open h =
      let a = and-true (leb 1 p.subscriber && leb p.subscriber subscribers) _ h in
      let b = and-true (ltb p.transaction.low openings) _ a.1 in
      let order = and-true (ltb p.number series_limit) _ b.1 in
      let c = and-true (leb 1 p.segments && leb p.segments max_segments) _ order.1 in
      let d = and-true (ltb p.taken p.segments) _ c.1 in
      let e = and-true (leb p.attempts max_attempts) _ d.1 in
      let f = and-true (leb p.last clock && leb clock (p.last + idle_limit)) _ e.1 in
      let g = and-true (leb p.taken p.length && leb p.length (segment_bytes * p.taken)) _ f.1 in
      let none = and-true (eqb p.signers 0) _ g.1 in
      let known = and-true (leb 1 p.subscriber) _ a.0 in
      let first = leb-true 1 p.subscriber known.0 in
      let most = leb-true p.subscriber subscribers known.1 in
      let counted = ltb-true p.transaction.low openings b.0 in
      let segments = and-true (leb 1 p.segments) _ c.0 in
      let few = leb-true p.segments max_segments segments.1 in
      let below = ltb-true p.taken p.segments d.0 in
      let time = and-true (leb p.last clock) _ f.0 in
      let size = and-true (leb p.taken p.length) _ g.0 in
      let largest : p.length ≤ segment_bytes * p.taken = leb-true _ _ size.1 in (
        omega arith,
        λ used small zeros. record {
          place = used-as first most counted zeros;
          some = leb-true _ _ segments.0;
          few = few;
          below = below;
          tries = leb-true _ _ e.0;
          current = leb-true _ _ time.0;
          least = leb-true _ _ size.0;
          largest = omega arith;
          unsigned = eqb-true _ _ none.0;
        },
        λ _. leb-true _ _ time.1,
        λ _. ltb-true _ _ order.0,
      )

  told-booked : place_holds clock openings (place_parts Booked p) ≡ true → Told Booked
  told-booked h =
      let a = and-true (leb 1 p.subscriber && leb p.subscriber subscribers) _ h in
      let b = and-true (ltb p.transaction.low openings) _ a.1 in
      let order = and-true (ltb p.number series_limit) _ b.1 in
      let c = and-true (leb 1 p.length && leb p.length file_bytes) _ order.1 in
      let d = and-true (eqb p.segments 0) _ (and-true _ true c.1).0 in
      let e = and-true (eqb p.taken 0) _ d.1 in
      let f = and-true (eqb p.attempts 0) _ e.1 in
      let g = and-true (eqb p.last 0) _ f.1 in
      let known = and-true (leb 1 p.subscriber) _ a.0 in
      let first = leb-true 1 p.subscriber known.0 in
      let most = leb-true p.subscriber subscribers known.1 in
      let counted = ltb-true p.transaction.low openings b.0 in
      let size = and-true (leb 1 p.length) _ c.0 in
      let room : p.length ≤ file_bytes = leb-true _ _ size.1 in (
        room,
        λ used small zeros. record {
          place = used-as first most counted zeros;
          over = record {
            segments = eqb-true _ _ d.0;
            taken = eqb-true _ _ e.0;
            attempts = eqb-true _ _ f.0;
            last = eqb-true _ _ g.0;
          };
          some = leb-true _ _ size.0;
          room = room;
          signed = small;
        },
        never,
        λ _. ltb-true _ _ order.0,
      )

  told : (u : Use) → place_holds clock openings (place_parts u p) ≡ true → Told u
  told Free = told_free
  told Open = told-open
  told Booked = told-booked

  -- ---- and what passes it

  abbrev Tested : Use → Type 0
  Tested u = (place_holds clock openings (place_parts u p) ≡ true) × (p.length ≤ file_bytes) × Zeros p.length bytes

  tested-free : FreePlace p bytes → Tested Free
  tested-free f =
      let e = f.empty in
      subst (λ (q : Place). (place_holds clock openings (place_parts Free q) ≡ true) × (q.length ≤ file_bytes) × Zeros q.length bytes) (sym e)
      (refl, omega arith, f.zeros)

  tested-open : OpenPlace clock openings p bytes → NotIdle Open clock p → Ordered Open p → Tested Open
  tested-open o idle ordered =
      let u = o.place in (
        rw (
          le-leb 1 p.subscriber u.known,
          le-leb p.subscriber subscribers u.most,
          lt-ltb p.transaction.low openings u.counted,
          lt-ltb p.number series_limit (ordered refl),
          le-leb 1 p.segments o.some,
          le-leb p.segments max_segments o.few,
          lt-ltb p.taken p.segments o.below,
          le-leb p.attempts max_attempts o.tries,
          le-leb p.last clock o.current,
          le-leb clock (p.last + idle_limit) (idle refl),
          le-leb p.taken p.length o.least,
          le-leb p.length (segment_bytes * p.taken) (omega (arith, o.largest)),
          eq-eqb p.signers 0 o.unsigned,
        ),
        omega (arith, o.largest, o.below, o.few),
        u.zeros,
      )

  tested-booked : BookedPlace openings p bytes → Ordered Booked p → Tested Booked
  tested-booked o ordered =
      let u = o.place in (
        rw (
          le-leb 1 p.subscriber u.known,
          le-leb p.subscriber subscribers u.most,
          lt-ltb p.transaction.low openings u.counted,
          lt-ltb p.number series_limit (ordered refl),
          le-leb 1 p.length o.some,
          le-leb p.length file_bytes o.room,
          eq-eqb p.segments 0 o.over.segments,
          eq-eqb p.taken 0 o.over.taken,
          eq-eqb p.attempts 0 o.over.attempts,
          eq-eqb p.last 0 o.over.last,
        ),
        o.room,
        u.zeros,
      )

  tested : (u : Use) → PlaceHolds u clock openings p bytes → NotIdle u clock p → Ordered u p → Tested u
  tested Free f idle ordered = tested-free f
  tested Open o idle ordered = tested-open o idle ordered
  tested Booked o idle ordered = tested-booked o ordered

-- ---- every place

module _ {xs : List ℕ} {b : Bank} {j : Journal} {d n : ℕ} (v : Shown xs b j d n)
    (orders : List ℕ) (whole : length orders ≡ store_bytes) where
  module _ (h : every_place xs orders ≡ true) (i : ℕ) (k : i < place_count) where
    abbrev p : Place
    p = place_at b i

    place-tests : (place_holds b.clock b.openings (place_parts p.used p) ≡ true)
        × (all_zero (bytes_behind file_bytes orders i p.length) ≡ true)
    unfolding every_place place_test place_bytes
    place-tests =
        let t = rw (v.clock, v.openings, v.place i k) at (every-at (place_test xs orders) place_count i h k) in
        and-true (place_holds b.clock b.openings (place_parts p.used p)) _ t

    all_told : Told b.clock b.openings p (part_at orders i) p.used
    all_told = told b.clock b.openings p (part_at orders i) p.used place-tests.0

    -- where its signers are a byte
    pub place-holds : p.signers ≤ all_signers → PlaceHolds p.used b.clock b.openings p (part_at orders i)
    place-holds small = all_told.1 refl small (zeros-told orders whole i k p.length all_told.0 place-tests.1)

    pub place-not-idle : is_open p.used ≡ true → b.clock ≤ p.last + idle_limit
    place-not-idle = all_told.2

    -- "the order number is below" 1,213,056
    pub place-ordered : is_free p.used ≡ false → p.number < series_limit
    place-ordered = all_told.3

  pub every-place : ((i : ℕ) → i < place_count
      → PlaceHolds (place_at b i).used b.clock b.openings (place_at b i) (part_at orders i))
      → ((i : ℕ) → i < place_count → is_open (place_at b i).used ≡ true → b.clock ≤ (place_at b i).last + idle_limit)
      → ((i : ℕ) → i < place_count → is_free (place_at b i).used ≡ false → (place_at b i).number < series_limit)
      → every_place xs orders ≡ true
  unfolding every_place place_test place_bytes
  every-place f idle ordered =
      every-from (place_test xs orders) place_count
      (λ i k.
      let p = place_at b i in
      let t = tested b.clock b.openings p (part_at orders i) p.used (f i k) (idle i k) (ordered i k) in
      rw (v.clock, v.openings, v.place i k)
      (and_both t.0 (zeros-tested orders whole i k p.length t.1 t.2)))
