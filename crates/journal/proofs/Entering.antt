-- Why `enter` is right: each place that it goes through is given what the row is to hold there, and the others hold it
-- already. Assumes nothing.
use Prim.Native.Nat.{ℕ, zero, suc, ◌+◌, ◌-◌, ◌<◌, ◌≤◌, ◌^◌}
use mathlib.Core.Path.{◌≡◌, refl, sym, ◌∙◌, ap, subst}
use mathlib.Core.Bool.{Bool, true, false, cond}
use mathlib.Core.List.{List}
use native.Mathlib.Omega.{arith}
use lib.Dec.{eqb, ltb, leb}
use lib.ListN.{length, get_or, set, drop, length-drop}
use lib.Seq.{paste, paste-zero, paste-suc, get_or-drop}
use borrow.Author.Tests.{eqb-true, ltb-true, ltb-false, leb-true, leb-false, le-leb, lt-leb}
use Rattle.octets.proofs.Tests.{and-true}
use Rattle.journal.specs.declared.event.Event.{Event}
use Rattle.journal.specs.declared.event.Batch.{Batch}
use Rattle.journal.specs.declared.places.Places.{Places}
use Rattle.journal.specs.Events.{record_count, max_entries, no_event, events_from, event_at, count_of, entries_in}
use Rattle.journal.specs.Row.{takes_events, entered_all, row_after}
use Rattle.journal.specs.Places.{used_after, entered_count, places_for, places_of}
use Rattle.journal.proofs.Bounds.{used-most, count_most}
use Rattle.journal.proofs.Events.{batch-length, batch-at}
use Rattle.std.specs.List.{copy_within}
use Rattle.journal.proofs.Mixed.{mixed, mixed-none, mixed-next, mixed-front, mixed-back}
use Rattle.journal.proofs.Rows.{entered-all-length, kept_at, new-at, behind-at}

-- what the loops of `enter` go by: xs is the row, and zs what it is to hold
pub record Entering (n clock : ℕ) (b : Batch) (p : Places) (xs zs : List Event) : Type 0 where
  pub same : length zs ≡ length xs
  pub begins : mixed p.first zs xs ≡ xs
  pub in_order : (p.first ≤ p.start) × (p.start ≤ p.end)
  -- a place that is given a record
  pub moves : (i : ℕ) → p.first ≤ i → i < p.start → (length xs ≡ record_count) × (i + p.by < record_count)
  pub moved : (i : ℕ) → p.first ≤ i → i < p.start → get_or xs (i + p.by) no_event ≡ get_or zs i no_event
  -- a place that is given an event
  pub takes : (i : ℕ) → p.start ≤ i → i < p.end → (length xs ≡ record_count) × (i < record_count) × (n + max_entries < 2 ^ 64) × (i - p.start < max_entries)
  pub taken : (i : ℕ) → p.start ≤ i → i < p.end → event_at n clock b (i - p.start) ≡ get_or zs i no_event
  pub ends : mixed p.end zs xs ≡ zs

module _ (u end : ℕ) where
  room : end ≤ record_count → places_for u end ≡ record { by = 0; first = u; start = u; end = end }
  unfolding places_for
  room h = rw (le-leb end record_count h)

  no_room : record_count < end → places_for u end ≡ record { by = end - record_count; first = 0; start = u - (end - record_count); end = record_count }
  unfolding places_for
  no_room h = rw (lt-leb end record_count h)

module _ (n clock : ℕ) (b : Batch) (xs : List Event) where
  abbrev u : ℕ
  u = used_after n

  abbrev es : List Event
  es = events_from n clock (entries_in b)

  -- no event is entered
  none : Entering n clock b (places_for u (u + 0)) xs xs
  none =
      subst (λ (p : Places). Entering n clock b p xs xs) (sym (room u (u + 0) (omega (arith, used-most n))))
      (record {
        same = refl;
        begins = mixed-front u xs xs no_event refl (λ j l. refl);
        in_order = (omega arith, omega arith);
        moves = λ i h l. absurd (omega (arith, h, l));
        moved = λ i h l. absurd (omega (arith, h, l));
        takes = λ i h l. absurd (omega (arith, h, l));
        taken = λ i h l. absurd (omega (arith, h, l));
        ends = mixed-back (u + 0) xs xs no_event refl (λ j l m. refl);
      })

  module _ (len : length xs ≡ record_count) (fits : n + max_entries < 2 ^ 64) (nine : length b.entries ≡ max_entries) where
    abbrev c : ℕ
    c = count_of b.count

    abbrev zs : List Event
    zs = entered_all n es xs

    same_length : length zs ≡ length xs
    same_length = entered-all-length n es xs len ∙ sym len

    counted : length es ≡ c
    counted = batch-length b nine n clock

    event-here : (i k s : ℕ) → s ≡ (u + c) - record_count → i + s ≡ u + k → k < c → event_at n clock b k ≡ get_or zs i no_event
    event-here i k s by e h =
        sym (batch-at b nine n clock k h) ∙ new-at n es xs len s (by ∙ ap (λ (m : ℕ). (u + m) - record_count) (sym counted)) i k e (omega (arith, h, counted))

    record-here : (i s : ℕ) → s ≡ (u + c) - record_count → i + s < u → get_or xs (i + s) no_event ≡ get_or zs i no_event
    record-here i s by h = kept_at n es xs len s (by ∙ ap (λ (m : ℕ). (u + m) - record_count) (sym counted)) i h

    some_at : (t : Bool) → leb (u + c) record_count ≡ t → Entering n clock b (places_for u (u + c)) xs zs
    some_at true e =
        subst (λ (p : Places). Entering n clock b p xs zs) (sym (room u (u + c) fit))
        (record {
          same = same_length;
          begins = mixed-front u zs xs no_event same_length (λ j l. sym (record-here j 0 (omega (arith, fit)) (omega (arith, l))) ∙ ap (λ (k : ℕ). get_or xs k no_event) (omega arith));
          in_order = (omega arith, omega arith);
          moves = λ i h l. absurd (omega (arith, h, l));
          moved = λ i h l. absurd (omega (arith, h, l));
          takes = λ i h l. (len, omega (arith, fit, l), fits, omega (arith, h, l, count_most b.count));
          taken = λ i h l. event-here i (i - u) 0 (omega (arith, fit)) (omega (arith, h)) (omega (arith, h, l));
          ends = mixed-back (u + c) zs xs no_event same_length (λ j l m. behind-at n es xs len j (omega (arith, l, counted)) (omega (arith, m, len)));
        })
      where
        fit : u + c ≤ record_count
        fit = leb-true (u + c) record_count e
    some_at false e =
        subst (λ (p : Places). Entering n clock b p xs zs) (sym (no_room u (u + c) over))
        (record {
          same = same_length;
          begins = mixed-none zs xs;
          in_order = (omega arith, omega (arith, used-most n));
          moves = λ i h l. (len, omega (arith, l, over, used-most n));
          moved = λ i h l. record-here i ((u + c) - record_count) refl (omega (arith, l));
          takes = λ i h l. (len, l, fits, omega (arith, h, l, over, used-most n, count_most b.count));
          taken = λ i h l. event-here i (i - (u - ((u + c) - record_count))) ((u + c) - record_count) refl (omega (arith, h, over, used-most n, count_most b.count)) (omega (arith, h, l, over, used-most n, count_most b.count));
          ends = mixed-back record_count zs xs no_event same_length (λ j l m. absurd (omega (arith, l, m, len)));
        })
      where
        over : record_count < u + c
        over = leb-false (u + c) record_count e

    some : Entering n clock b (places_for u (u + c)) xs zs
    some = some_at (leb (u + c) record_count) refl

pub entering : (n clock : ℕ) (b : Batch) (xs : List Event) → length b.entries ≡ max_entries → Entering n clock b (places_of (length xs) n b.count) xs (row_after n clock b xs)
unfolding places_of entered_count row_after
entering n clock b xs nine = at (takes_events (length xs) n) refl
  where
    at : (t : Bool) → takes_events (length xs) n ≡ t → Entering n clock b (places_for (used_after n) (used_after n + cond t (count_of b.count) 0)) xs (cond t (entered_all n (events_from n clock (entries_in b)) xs) xs)
    at false e = none n clock b xs
    at true e =
        let both = and-true (eqb (length xs) record_count) (ltb (n + max_entries) (2 ^ 64)) e in
        some n clock b xs (eqb-true (length xs) record_count both.0) (ltb-true (n + max_entries) (2 ^ 64) both.1) nine

-- ---- the records that move up

module _ (xs zs : List Event) (same : length zs ≡ length xs) (from by : ℕ) (begins : mixed from zs xs ≡ xs) where
  moved-mixed : (k : ℕ) → from + by + k ≤ length xs
      → ((i : ℕ) → from ≤ i → i < from + k → get_or xs (i + by) no_event ≡ get_or zs i no_event)
      → paste xs from (drop (from + by) xs) k ≡ mixed (from + k) zs xs
  moved-mixed zero h g =
      let e : from ≡ from + 0 = omega arith in
      sym (paste-zero xs from (drop (from + by) xs)) ∙ sym begins ∙ ap (λ (i : ℕ). mixed i zs xs) e
  moved-mixed (suc k) h g =
      let s : List Event = drop (from + by) xs in
      let n : length s ≡ length xs - (from + by) = length-drop (from + by) xs in
      let e : from + by + k ≡ from + k + by = omega arith in
      let f : suc (from + k) ≡ from + suc k = omega arith in
      sym (paste-suc xs from s k no_event (omega arith) (omega arith))
      ∙ ap (λ (r : List Event). set r (from + k) (get_or s k no_event)) (moved-mixed k (omega arith) (λ i l m. g i l (omega arith)))
      ∙ ap (set (mixed (from + k) zs xs) (from + k))
      (get_or-drop (from + by) xs k no_event ∙ ap (λ (j : ℕ). get_or xs j no_event) e ∙ g (from + k) (omega arith) (omega arith))
      ∙ mixed-next (from + k) zs xs no_event same
      ∙ ap (λ (i : ℕ). mixed i zs xs) f

module _ {n clock : ℕ} {b : Batch} {p : Places} {xs zs : List Event} (right : Entering n clock b p xs zs) where
  -- they stand within the row
  pub moves-within : p.first < p.start → p.start + p.by ≤ length xs
  moves-within h = let m = right.moves (p.start - 1) (omega arith) (omega arith) in omega (arith, m.0, m.1)

  pub moved-up : cond (ltb p.first p.start) (copy_within xs (p.first + p.by) (p.start + p.by) p.first) xs ≡ mixed p.start zs xs
  moved-up = at (ltb p.first p.start) refl
    where
      at : (t : Bool) → ltb p.first p.start ≡ t
          → cond t (copy_within xs (p.first + p.by) (p.start + p.by) p.first) xs ≡ mixed p.start zs xs
      at true e =
          let h : p.first < p.start = ltb-true p.first p.start e in
          let k : (p.start + p.by) - (p.first + p.by) ≡ p.start - p.first = omega arith in
          let s : p.first + (p.start - p.first) ≡ p.start = omega arith in
          ap (paste xs p.first (drop (p.first + p.by) xs)) k
          ∙ moved-mixed xs zs right.same p.first p.by right.begins (p.start - p.first) (omega (arith, moves-within h)) (λ i l m. right.moved i l (omega arith))
          ∙ ap (λ (i : ℕ). mixed i zs xs) s
      at false e =
          let h : p.first ≡ p.start = omega (arith, ltb-false p.first p.start e, right.in_order) in
          sym right.begins ∙ ap (λ (i : ℕ). mixed i zs xs) h
