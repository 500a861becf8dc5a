-- The journal: the conditions on each used event, and that the other records are 0, are what a session's journal may
-- hold. Assumes nothing.
use Prim.Native.Nat.{ℕ, suc, ◌+◌, ◌-◌, ◌*◌, ◌^◌, ◌≤◌, ◌<◌}
use mathlib.Core.Bool.{Bool, true, false, cond, ◌&&◌}
use mathlib.Core.List.{List}
use mathlib.Core.Path.{◌≡◌, refl, sym, ap, ◌∙◌}
use native.Mathlib.Omega.{arith}
use lib.Dec.{eqb, leb, ltb}
use lib.ListN.{get_or, get_or-eq_default}
use borrow.Author.Tests.{eqb-true, eq-eqb, leb-true, le-leb, ltb-true, ltb-false, lt-ltb}
use Rattle.octets.proofs.Tests.{never, and-true}
use Rattle.message.specs.Limits.{subscribers, ful}
use Rattle.journal.specs.declared.event.Kind.{Kind}
use Rattle.journal.specs.declared.event.Kind.TheVariants.{Unused, Opened, Booked, Cancelled, Dropped, Signed}
use Rattle.journal.specs.Events.{record_count, no_event}
use Rattle.journal.specs.Places.{used_after}
use Rattle.journal.specs.Row.{Journal}
use Rattle.bank_state.specs.Limits.{series_limit}
use Rattle.bank_state.specs.State.{Bank}
use Rattle.bank_events.specs.Entries.{is_event}
use Rattle.bank_admitted.specs.Session.{record_at, JournalHolds}
use Rattle.image_records.specs.declared.layout.EventRecord.{EventRecord}
use Rattle.image_records.specs.Shapes.{up_to}
use Rattle.image_records.specs.Layout as image
use Rattle.image_records.specs.Records.{last_kind, event_holds}
use Rattle.image_conditions.specs.Conditions.{event_test, every_event, journal_unused}
use Rattle.image_records.proofs.Shapes.{every-at, every-from, up-to-le}
use Rattle.image_numbers.specs.Numbers.{number_of_kind}
use Rattle.image_numbers.proofs.Records.{event_in}
use Rattle.image_records.proofs.General.{unused-part, unused-parts}
use Rattle.image_admitted.proofs.Shown.{Shown, up-to-few}

-- ---- an event's kind

kind-told : (k : Kind) → 1 ≤ number_of_kind k → is_event k ≡ true
kind-told Unused h = absurd (omega arith)
kind-told Opened h = refl
kind-told Booked h = refl
kind-told Cancelled h = refl
kind-told Dropped h = refl
kind-told Signed h = refl

kind-number : (k : Kind) → is_event k ≡ true → (1 ≤ number_of_kind k) × (number_of_kind k ≤ last_kind)
kind-number Unused h = never h
kind-number Opened h = (omega arith, omega arith)
kind-number Booked h = (omega arith, omega arith)
kind-number Cancelled h = (omega arith, omega arith)
kind-number Dropped h = (omega arith, omega arith)
kind-number Signed h = (omega arith, omega arith)

kind-unused : (k : Kind) → number_of_kind k ≡ 0 → k ≡ Unused
kind-unused Unused e = refl
kind-unused Opened e = absurd (omega arith)
kind-unused Booked e = absurd (omega arith)
kind-unused Cancelled e = absurd (omega arith)
kind-unused Dropped e = absurd (omega arith)
kind-unused Signed e = absurd (omega arith)

-- ---- how many are used

pub used-events : (n : ℕ) → up_to record_count n ≡ used_after n
unfolding used_after
used-events n = at (ltb n record_count) refl
  where
    at : (t : Bool) → ltb n record_count ≡ t → up_to record_count n ≡ cond t n record_count
    at true e = let h = ltb-true n record_count e in up-to-few record_count n (omega arith)
    at false e = full (leb n record_count) refl (ltb-false n record_count e)
      where
        full : (u : Bool) → leb n record_count ≡ u → record_count ≤ n → cond u n record_count ≡ record_count
        full true f h = let k = leb-true n record_count f in omega arith
        full false f h = refl

pub used-few : (n : ℕ) → used_after n ≤ record_count
used-few n = omega (arith, (up-to-le record_count n).0, used-events n)

-- ---- the test of one event

module _ (now opened entered i : ℕ) (before e : EventRecord) where
  abbrev Facts : Type 0
  Facts =
      (e.number ≡ entered - up_to record_count entered + 1 + i) × (e.clock ≤ now) × (before.clock ≤ e.clock)
      × (1 ≤ e.subscriber) × (e.subscriber ≤ subscribers) × (e.order_type ≡ ful) × (e.order < series_limit)
      × (e.low < opened) × (1 ≤ e.kind) × (e.kind ≤ last_kind)

  told : event_holds now opened entered i before e ≡ true → Facts
  told h =
      let a = and-true (eqb e.number (entered - up_to record_count entered + 1 + i)) _ h in
      let b = and-true (leb e.clock now && leb before.clock e.clock) _ a.1 in
      let c = and-true (leb 1 e.subscriber && leb e.subscriber subscribers) _ b.1 in
      let type = and-true (eqb e.order_type ful) _ c.1 in
      let d = and-true (ltb e.order series_limit) _ type.1 in
      let low = and-true (ltb e.low opened) _ d.1 in
      let f = and-true (leb 1 e.kind && leb e.kind last_kind) _ low.1 in
      let time = and-true (leb e.clock now) _ b.0 in
      let known = and-true (leb 1 e.subscriber) _ c.0 in
      let kind = and-true (leb 1 e.kind) _ f.0 in (
        eqb-true _ _ a.0,
        leb-true _ _ time.0,
        leb-true _ _ time.1,
        leb-true _ _ known.0,
        leb-true _ _ known.1,
        eqb-true _ _ type.0,
        ltb-true _ _ d.0,
        ltb-true _ _ low.0,
        leb-true _ _ kind.0,
        leb-true _ _ kind.1,
      )

  tested : Facts → event_holds now opened entered i before e ≡ true
  tested f =
      rw (
        eq-eqb _ _ f.0,
        le-leb _ _ f.1,
        le-leb _ _ f.2,
        le-leb _ _ f.3,
        le-leb _ _ f.4,
        eq-eqb _ _ f.5,
        lt-ltb _ _ f.6,
        lt-ltb _ _ f.7,
        le-leb _ _ f.8,
        le-leb _ _ f.9,
      )

module _ {xs : List ℕ} {b : Bank} {j : Journal} {d n : ℕ} (v : Shown xs b j d n) where
  used-are : image.used_events xs ≡ used_after j.events
  used-are = ap (up_to record_count) v.events ∙ used-events j.events

  -- ---- from the tests

  module _ (words : (i : ℕ) → i < record_count → (record_at j i).high < 2 ^ 64) (h : every_event xs ≡ true) where
    facts : (i : ℕ) → i < used_after j.events
        → Facts b.clock b.openings j.events i (event_in (record_at j (i - 1)))
        (event_in (record_at j i))
    unfolding every_event event_test
    facts i k =
        let few = used-few j.events in
        let t = every-at (event_test xs) (image.used_events xs) i h (rw used-are k) in
        told b.clock b.openings j.events i (event_in (record_at j (i - 1)))
        (event_in (record_at j i)) (rw (v.clock, v.openings, v.events, v.event (i - 1) (omega arith), v.event i (omega arith)) at t)

    module _ (zero : journal_unused xs ≡ true) where
      part-zero : (i p q : ℕ) → used_after j.events ≤ i → i < record_count → p < image.event_width
          → q ≡ image.journal_at + (i * image.event_width + p) → get_or xs q 0 ≡ 0
      unfolding journal_unused
      part-zero i =
          unused-part xs image.journal_at image.event_width (used_after j.events) record_count (omega arith)
          (rw used-are at zero) i

      not-used : (i : ℕ) (t : Bool) → ltb i record_count ≡ t → used_after j.events ≤ i → record_at j i ≡ no_event
      unfolding image.event_at
      not-used i true e k =
          let l = ltb-true i record_count e in
          let r = v.event i l in
          let number = sym (ap (λ (x : EventRecord). x.number) r) ∙ part-zero i 0 _ k l (omega arith) (omega arith) in
          let clock = sym (ap (λ (x : EventRecord). x.clock) r) ∙ part-zero i 1 _ k l (omega arith) (omega arith) in
          let subscriber = sym (ap (λ (x : EventRecord). x.subscriber) r) ∙ part-zero i 2 _ k l (omega arith) (omega arith) in
          let type = sym (ap (λ (x : EventRecord). x.order_type) r) ∙ part-zero i 3 _ k l (omega arith) (omega arith) in
          let order = sym (ap (λ (x : EventRecord). x.order) r) ∙ part-zero i 4 _ k l (omega arith) (omega arith) in
          let high = sym (ap (λ (x : EventRecord). x.high) r) ∙ part-zero i 5 _ k l (omega arith) (omega arith) in
          let low = sym (ap (λ (x : EventRecord). x.low) r) ∙ part-zero i 6 _ k l (omega arith) (omega arith) in
          let kind = kind-unused (record_at j i).kind
          (sym (ap (λ (x : EventRecord). x.kind) r) ∙ part-zero i 7 _ k l (omega arith) (omega arith)) in
          λ z. record {
            number = number z;
            clock = clock z;
            subscriber = subscriber z;
            order_type = type z;
            order = order z;
            high = high z;
            low = low z;
            kind = kind z;
          }
      not-used i false e k =
          get_or-eq_default j.row no_event (omega (arith, ltb-false i record_count e, v.long_row))

      pub journal-holds : JournalHolds b.clock b.openings j
      journal-holds = record {
        long = v.long_row;
        each = λ i k.
            let f = facts i k in
            record {
              current = f.1;
              known = f.3;
              most = f.4;
              typed = f.5;
              ordered = f.6;
              lent = words i (omega (arith, k, used-few j.events));
              counted = f.7;
              happened = kind-told (record_at j i).kind f.8;
            };
        numbered = λ i k. rw (← used-events j.events) (facts i k).0;
        rising = λ i k.
            let e : suc i - 1 ≡ i = omega arith in
            rw e at (facts (suc i) k).2;
        unused = λ i k. not-used i (ltb i record_count) refl k;
      }

  -- ---- and to them

  module _ (o : JournalHolds b.clock b.openings j) where
    before-rises : (i : ℕ) → i < used_after j.events → (record_at j (i - 1)).clock ≤ (record_at j i).clock
    before-rises i k = at (ltb 0 i) refl
      where
        at : (t : Bool) → ltb 0 i ≡ t → (record_at j (i - 1)).clock ≤ (record_at j i).clock
        at true e =
            let h = ltb-true 0 i e in
            let f : suc (i - 1) ≡ i = omega arith in
            rw f at (o.rising (i - 1) (omega arith))
        at false e =
            let h = ltb-false 0 i e in
            let f : i - 1 ≡ i = omega arith in
            rw f (omega arith)

    pub every-event : every_event xs ≡ true
    unfolding every_event event_test
    every-event =
        every-from (event_test xs) (image.used_events xs)
        (λ i h.
        let k : i < used_after j.events = rw used-are at h in
        let few = used-few j.events in
        let e = o.each i k in
        let kind = kind-number (record_at j i).kind e.happened in
        rw (v.clock, v.openings, v.events, v.event (i - 1) (omega arith), v.event i (omega arith))
        (tested b.clock b.openings j.events i (event_in (record_at j (i - 1)))
        (event_in (record_at j i)) (
          rw (used-events j.events) (o.numbered i k),
          e.current,
          before-rises i k,
          e.known,
          e.most,
          e.typed,
          e.ordered,
          e.counted,
          kind.0,
          kind.1,
        )))

    pub journal-unused : journal_unused xs ≡ true
    unfolding journal_unused image.event_at
    journal-unused =
        rw used-are
        (unused-parts xs image.journal_at image.event_width (used_after j.events) record_count (omega arith)
        (λ i low high.
        let r = v.event i high ∙ ap event_in (o.unused i low) in
        let at : (p q : ℕ) → q ≡ image.journal_at + (i * image.event_width + p) → get_or xs q 0 ≡ 0
        → get_or xs (image.journal_at + (i * image.event_width + p)) 0 ≡ 0 =
        λ p q e z. ap (λ (k : ℕ). get_or xs k 0) (sym e) ∙ z in (
          (
            (
              (
                (
                  (
                    (
                      (tt, at 0 _ (omega arith) (ap (λ (x : EventRecord). x.number) r)),
                      at 1 _ (omega arith) (ap (λ (x : EventRecord). x.clock) r),
                    ),
                    at 2 _ (omega arith) (ap (λ (x : EventRecord). x.subscriber) r),
                  ),
                  at 3 _ (omega arith) (ap (λ (x : EventRecord). x.order_type) r),
                ),
                at 4 _ (omega arith) (ap (λ (x : EventRecord). x.order) r),
              ),
              at 5 _ (omega arith) (ap (λ (x : EventRecord). x.high) r),
            ),
            at 6 _ (omega arith) (ap (λ (x : EventRecord). x.low) r),
          ),
          at 7 _ (omega arith) (ap (λ (x : EventRecord). x.kind) r),
        )))
