-- What the row holds after events are entered, at once and place by place. Assumes nothing.
use Prim.Native.Nat.{ℕ, suc, ◌+◌, ◌-◌, ◌<◌, ◌≤◌}
use mathlib.Core.Path.{◌≡◌, refl, sym, ◌∙◌, ap}
use mathlib.Core.Bool.{Bool, true, false, cond}
use mathlib.Core.List.{List, [], ◌∷◌, ◌++◌, append_assoc, append-nil}
use native.Mathlib.Nat.{add-zero}
use native.Mathlib.Omega.{arith}
use lib.Dec.{ltb}
use lib.ListN.{
  length,
  get_or,
  set,
  take,
  drop,
  length-append,
  length-set,
  length-drop,
  take-append-drop,
  drop_of_length-le,
  get_or-append,
}
use lib.Seq.{length-take-le, take_all, take-suc-set, drop-set-lt, get_or-append-add, get_or-take, get_or-drop}
use borrow.Author.Tests.{ltb-true, ltb-false}
use Rattle.journal.specs.declared.event.Event.{Event}
use Rattle.journal.specs.Events.{record_count, no_event}
use Rattle.journal.specs.Row.{entered, entered_all, newest}
use Rattle.journal.specs.Places.{used_after}
use Rattle.journal.proofs.Bounds.{used-most, used-below, used-above}

-- `entered_all` at once: the newest 64 of the records in use and the events, and then the records after them
unfoldable pub at_once : ℕ → List Event → List Event → List Event
at_once n es row = newest (take (used_after n) row ++ es) ++ drop (used_after n + length es) row

newest-of : (l : List Event) (k : ℕ) → length l - record_count ≡ k → newest l ≡ drop k l
unfolding newest
newest-of l k e = rw e

-- ---- one event more, where there is room and where there is none

one_below : (n : ℕ) (e : Event) (es row : List Event) → n < record_count → length row ≡ record_count → at_once (suc n) es (set row n e) ≡ at_once n (e ∷ es) row
unfolding at_once
one_below n e es row h len =
    rw (
      used-below (suc n) h,
      used-below n (omega (arith, h)),
      take-suc-set row n e (omega (arith, h, len)),
      drop-set-lt (suc n + length es) row n e (omega arith),
      append_assoc (take n row) (e ∷ []) es,
    )
    (ap (λ (k : ℕ). newest (take n row ++ (e ∷ es)) ++ drop k row) further)
  where
    further : suc n + length es ≡ n + suc (length es)
    further = omega arith

full : (n : ℕ) (es row : List Event) → record_count ≤ n → length row ≡ record_count → at_once n es row ≡ drop (length es) (row ++ es)
unfolding at_once
full n es row h len =
    rw (
      used-above n h,
      take_all record_count row (omega (arith, len)),
      drop_of_length-le row {i = record_count + length es} (omega (arith, len)),
      newest-of (row ++ es) (length es) (omega (arith, len, length-append row es)),
    )
    (append-nil (drop (length es) (row ++ es)))

one-above : (n : ℕ) (e : Event) (es row : List Event) → record_count ≤ n → length row ≡ record_count → at_once (suc n) es (drop 1 row ++ (e ∷ [])) ≡ at_once n (e ∷ es) row
one-above n e es [] h len = absurd (omega (arith, len))
one-above n e es (x ∷ xs) h len =
    full (suc n) es (xs ++ (e ∷ [])) (omega (arith, h)) (length-append xs (e ∷ []) ∙ omega (arith, len))
    ∙ ap (drop (length es)) (append_assoc xs (e ∷ []) es)
    ∙ sym (full n (e ∷ es) (x ∷ xs) h len)

-- one event more
one_more : (n : ℕ) (e : Event) (es row : List Event) → length row ≡ record_count → at_once (suc n) es (entered n e row) ≡ at_once n (e ∷ es) row
unfolding entered
one_more n e es row len = at (ltb n record_count) refl
  where
    at : (t : Bool) → ltb n record_count ≡ t → at_once (suc n) es (entered n e row) ≡ at_once n (e ∷ es) row
    at true f = rw f (one_below n e es row (ltb-true n record_count f) len)
    at false f = rw f (one-above n e es row (ltb-false n record_count f) len)

entered-length : (n : ℕ) (e : Event) (row : List Event) → length row ≡ record_count → length (entered n e row) ≡ record_count
unfolding entered
entered-length n e row len = at (ltb n record_count)
  where
    at : (t : Bool) → length (cond t (set row n e) (drop 1 row ++ (e ∷ []))) ≡ record_count
    at true = length-set row n e ∙ len
    at false = length-append (drop 1 row) (e ∷ []) ∙ omega (arith, len, length-drop 1 row)

-- a row keeps its length
pub entered-all-length : (n : ℕ) (es row : List Event) → length row ≡ record_count → length (entered_all n es row) ≡ record_count
unfolding entered_all
entered-all-length n [] row len = len
entered-all-length n (e ∷ es) row len = entered-all-length (suc n) es (entered n e row) (entered-length n e row len)

-- one event after the other, or all at once
pub entered-at-once : (n : ℕ) (es row : List Event) → length row ≡ record_count → entered_all n es row ≡ at_once n es row
unfolding entered_all at_once
entered-at-once n [] row len =
    let used = used-most n in
    rw (
      newest-of (take (used_after n) row ++ []) 0
          (omega (arith, length-append (take (used_after n) row) [], length-take-le (used_after n) row (omega (arith, used, len)), used)),
      append-nil (take (used_after n) row),
    )
    (rw (add-zero (used_after n)) (sym (take-append-drop (used_after n) row)))
entered-at-once n (e ∷ es) row len =
    entered-at-once (suc n) es (entered n e row) (entered-length n e row len) ∙ one_more n e es row len

-- ---- place by place: u records in use, c events, and s places that the records move up

module _ (n : ℕ) (es row : List Event) (len : length row ≡ record_count) where
  abbrev u : ℕ
  u = used_after n

  abbrev both : List Event
  both = take u row ++ es

  front_length : length (take u row) ≡ u
  front_length = length-take-le u row (omega (arith, len, used-most n))

  both-length : length both ≡ u + length es
  both-length = length-append (take u row) es ∙ omega (arith, front_length)

  module _ (s : ℕ) (by : s ≡ (u + length es) - record_count) where
    of-both : (i : ℕ) → i + s < u + length es → get_or (entered_all n es row) i no_event ≡ get_or both (s + i) no_event
    unfolding at_once
    of-both i h =
        rw (entered-at-once n es row len, newest-of both s (omega (arith, both-length, by)))
        (get_or-append (drop s both) (drop (u + length es) row) no_event i (omega (arith, h, length-drop s both, both-length)) ∙ get_or-drop s both i no_event)

    -- a record that was in use
    pub kept_at : (i : ℕ) → i + s < u → get_or row (i + s) no_event ≡ get_or (entered_all n es row) i no_event
    kept_at i h =
        sym
        (of-both i (omega (arith, h))
        ∙ get_or-append (take u row) es no_event (s + i) (omega (arith, front_length, h))
        ∙ get_or-take u row (s + i) no_event (omega (arith, h))
        ∙ ap (λ (k : ℕ). get_or row k no_event) (omega arith))

    -- an event
    pub new-at : (i k : ℕ) → i + s ≡ u + k → k < length es → get_or es k no_event ≡ get_or (entered_all n es row) i no_event
    new-at i k e h =
        sym
        (of-both i (omega (arith, e, h))
        ∙ ap (λ (j : ℕ). get_or both j no_event) (omega (arith, front_length, e))
        ∙ get_or-append-add (take u row) es k no_event)

  -- a record after the events, where there is room for all
  pub behind-at : (i : ℕ) → u + length es ≤ i → i < record_count → get_or (entered_all n es row) i no_event ≡ get_or row i no_event
  unfolding at_once
  behind-at i h l =
      rw (entered-at-once n es row len, newest-of both 0 (omega (arith, both-length, h, l)))
      (ap (λ (k : ℕ). get_or (both ++ drop (u + length es) row) k no_event) (omega (arith, both-length, h))
      ∙ get_or-append-add both (drop (u + length es) row) (i - (u + length es)) no_event
      ∙ get_or-drop (u + length es) row (i - (u + length es)) no_event
      ∙ ap (λ (k : ℕ). get_or row k no_event) (omega (arith, h)))
