-- The row after any events from the empty row: the newest 64, oldest first, and then records not in use; a call's events
-- continue it; event numbers run on without a gap. Assumes nothing.
use Prim.Native.Nat.{ℕ, zero, suc, ◌+◌, ◌-◌, ◌<◌, ◌^◌}
use mathlib.Core.Path.{◌≡◌, refl, sym, ◌∙◌, ap, subst}
use mathlib.Core.List.{List, [], ◌∷◌, ◌++◌}
use native.Mathlib.Nat.{sub-zero, zero-sub, zero-add}
use native.Mathlib.Omega.{arith}
use lib.ListN.{length, get_or, drop, replicate, length-replicate}
use borrow.Author.Tests.{eq-eqb, lt-ltb}
use Rattle.journal.specs.declared.event.Event.{Event}
use Rattle.journal.specs.declared.event.Entry.{Entry}
use Rattle.journal.specs.declared.event.Batch.{Batch}
use Rattle.journal.specs.Events.{record_count, max_entries, no_event, events_from, entries_in}
use Rattle.journal.specs.Row.{empty_row, entered, entered_all, row_after, newest, row_of}
use Rattle.journal.specs.Records.{Numbered, none, more}
use Rattle.journal.proofs.Bounds.{used-below}
use Rattle.journal.proofs.Rows.{at_once, entered-at-once, entered-all-length}

-- ---- the row

drop-replicate : (k n : ℕ) (e : Event) → drop k (replicate n e) ≡ replicate (n - k) e
drop-replicate zero n e = rw (sub-zero n)
drop-replicate (suc k) zero e = rw (zero-sub (suc k))
drop-replicate (suc k) (suc n) e = drop-replicate k n e ∙ ap (λ (m : ℕ). replicate m e) less
  where
    less : n - k ≡ suc n - suc k
    less = omega arith

-- "The newest 64 remain, oldest first"
pub after-empty : (es : List Event) → entered_all 0 es empty_row ≡ row_of es
unfolding empty_row at_once row_of
after-empty es =
    entered-at-once 0 es empty_row (length-replicate record_count no_event)
    ∙ rw (used-below 0 (omega arith)) (ap (λ (l : List Event). newest es ++ l) (at-start ∙ drop-replicate (length es) record_count no_event))
  where
    at-start : drop (0 + length es) empty_row ≡ drop (length es) (replicate record_count no_event)
    at-start = rw (zero-add (length es))

pub row-of-length : (l : List Event) → length (row_of l) ≡ record_count
unfolding empty_row
row-of-length l = ap length (sym (after-empty l)) ∙ entered-all-length 0 l empty_row (length-replicate record_count no_event)

pub row-of-none : row_of [] ≡ empty_row
unfolding entered_all
row-of-none = sym (after-empty [])

-- some events, and then others
pub one-after-other : (n : ℕ) (es fs row : List Event) → entered_all n (es ++ fs) row ≡ entered_all (n + length es) fs (entered_all n es row)
unfolding entered_all
one-after-other n [] fs row = ap (λ (k : ℕ). entered_all k fs row) (omega arith)
one-after-other n (e ∷ es) fs row =
    one-after-other (suc n) es fs (entered n e row)
    ∙ ap (λ (k : ℕ). entered_all k fs (entered_all (suc n) es (entered n e row))) further
  where
    further : suc n + length es ≡ n + suc (length es)
    further = omega arith

-- further events continue the row
pub row-continues : (l es : List Event) → entered_all (length l) es (row_of l) ≡ row_of (l ++ es)
row-continues l es =
    ap (entered_all (length l) es) (sym (after-empty l))
    ∙ ap (λ (k : ℕ). entered_all k es (entered_all 0 l empty_row)) (sym (zero-add (length l)))
    ∙ sym (one-after-other 0 l es empty_row)
    ∙ after-empty (l ++ es)

-- the row after one call, where its events are entered
pub row-after : (n clock : ℕ) (b : Batch) (row : List Event) → length row ≡ record_count → n + max_entries < 2 ^ 64 →
    row_after n clock b row ≡ entered_all n (events_from n clock (entries_in b)) row
unfolding row_after
row-after n clock b row len fits = rw (eq-eqb (length row) record_count len, lt-ltb (n + max_entries) (2 ^ 64) fits)

-- ---- the numbers

pub events-numbered : (n clock : ℕ) (l : List Entry) → Numbered n (events_from n clock l)
unfolding events_from
events-numbered n clock [] = none
events-numbered n clock (e ∷ es) = more refl (events-numbered (suc n) clock es)

pub numbered-on : {n : ℕ} {es fs : List Event} → Numbered n es → Numbered (n + length es) fs → Numbered n (es ++ fs)
numbered-on {n} {fs = fs} none h = subst (λ (k : ℕ). Numbered k fs) (omega arith) h
numbered-on {n} {es = e ∷ es} {fs = fs} (more a g) h = more a (numbered-on g (subst (λ (k : ℕ). Numbered k fs) further h))
  where
    further : n + suc (length es) ≡ suc n + length es
    further = omega arith

numbered-drop : (s n : ℕ) (es : List Event) → Numbered n es → Numbered (n + s) (drop s es)
numbered-drop zero n es h = subst (λ (k : ℕ). Numbered k es) (omega arith) h
numbered-drop (suc s) n [] h = none
numbered-drop (suc s) n (e ∷ es) (more a h) = subst (λ (k : ℕ). Numbered k (drop s es)) further (numbered-drop s (suc n) es h)
  where
    further : suc n + s ≡ n + suc s
    further = omega arith

-- the numbers of the newest 64 run on
pub newest-numbered : (es : List Event) → Numbered 0 es → Numbered (length es - record_count) (newest es)
unfolding newest
newest-numbered es h =
    subst (λ (k : ℕ). Numbered k (drop (length es - record_count) es)) (omega arith) (numbered-drop (length es - record_count) 0 es h)

-- the number of the event at each index: no two are the same
pub number_at : {n : ℕ} {es : List Event} → Numbered n es → (k : ℕ) → k < length es → (get_or es k no_event).number ≡ suc (n + k)
number_at {n} {es = []} h k l = absurd (omega (arith, l))
number_at {n} {es = e ∷ es} (more a h) zero l = omega (arith, a)
number_at {n} {es = e ∷ es} (more a h) (suc k) l = number_at h k (omega (arith, l)) ∙ omega arith
