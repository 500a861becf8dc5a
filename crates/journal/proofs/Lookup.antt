-- What `lookup` says of an upload, by the records with its transaction ID: Booked where one is a booking, Ended where none is and one is a
-- cancellation or drop, Nothing where none is either; a signing is looked past; and what it says of the row is true of all
-- events. Assumes nothing.
use Prim.Native.Nat.{ℕ, zero, suc, ◌-◌}
use mathlib.Core.Path.{◌≡◌, refl, sym, ◌∙◌, ap}
use mathlib.Core.Bool.{Bool, true, false, cond}
use mathlib.Core.Logic.{◌⊎◌, inl, inr}
use mathlib.Core.List.{List, [], ◌∷◌, ◌++◌}
use native.Mathlib.Omega.{arith}
use lib.Dec.{eqb}
use lib.ListN.{length, drop, replicate}
use borrow.Author.Tests.{eqb-true, eq-eqb}
use Rattle.octets.proofs.Tests.{and-true}
use Rattle.frame_table.specs.declared.fields.Bits128.{Bits128}
use Rattle.journal.specs.declared.event.Kind.{Kind}
use Rattle.journal.specs.declared.event.Kind.TheVariants.{Unused, Opened, Booked, Cancelled, Dropped, Signed}
use Rattle.journal.specs.declared.event.Event.{Event}
use Rattle.journal.specs.declared.event.OrderName.{OrderName}
use Rattle.journal.specs.declared.event.Found.{Found}
use Rattle.journal.specs.declared.event.Found.TheVariants as found
use Rattle.journal.specs.Events.{record_count, no_event}
use Rattle.journal.specs.Row.{transaction_of, is_of, or_ended, with_kind, with_record, lookup, newest, row_of}
use Rattle.journal.specs.Records.{Recorded, here, there, RecordedEnd}

-- the three words differ
not-ended : found.Nothing ≡ found.Ended → ⊥
not-ended h = let z : ◌≡◌ {A = ℕ} 0 1 = cc in omega arith

not-booked : found.Nothing ≡ found.Booked → ⊥
not-booked h = let z : ◌≡◌ {A = ℕ} 0 1 = cc in omega arith

not-both : found.Ended ≡ found.Booked → ⊥
not-both h = let z : ◌≡◌ {A = ℕ} 0 1 = cc in omega arith

-- ---- one record

kind-ended : (k : Kind) (f : Found) → with_kind k f ≡ found.Ended → ((k ≡ Cancelled) ⊎ (k ≡ Dropped)) ⊎ (f ≡ found.Ended)
kind-ended Unused f h = inr h
kind-ended Opened f h = inr h
kind-ended Booked f h = absurd (not-both (sym h))
kind-ended Cancelled f h = inl (inl refl)
kind-ended Dropped f h = inl (inr refl)
kind-ended Signed f h = inr h

or-ended-booked : (f : Found) → or_ended f ≡ found.Booked → f ≡ found.Booked
or-ended-booked found.Nothing h = absurd (not-both h)
or-ended-booked found.Ended h = h
or-ended-booked found.Booked h = refl

kind-booked : (k : Kind) (f : Found) → with_kind k f ≡ found.Booked → (k ≡ Booked) ⊎ (f ≡ found.Booked)
kind-booked Unused f h = inr h
kind-booked Opened f h = inr h
kind-booked Booked f h = inl refl
kind-booked Cancelled f h = inr (or-ended-booked f h)
kind-booked Dropped f h = inr (or-ended-booked f h)
kind-booked Signed f h = inr h

-- a booking is not taken back, and an end not but for a booking
kind-keeps : (k : Kind) (f : Found) → f ≡ found.Booked → with_kind k f ≡ found.Booked
kind-keeps Unused f h = h
kind-keeps Opened f h = h
kind-keeps Booked f h = refl
kind-keeps Cancelled f h = ap or_ended h
kind-keeps Dropped f h = ap or_ended h
kind-keeps Signed f h = h

kind-keeps-end : (k : Kind) (f : Found) → f ≡ found.Ended → (with_kind k f ≡ found.Booked → ⊥) → with_kind k f ≡ found.Ended
kind-keeps-end Unused f h n = h
kind-keeps-end Opened f h n = h
kind-keeps-end Booked f h n = absurd (n refl)
kind-keeps-end Cancelled f h n = ap or_ended h
kind-keeps-end Dropped f h n = ap or_ended h
kind-keeps-end Signed f h n = h

or-ended : (f : Found) → (f ≡ found.Booked → ⊥) → or_ended f ≡ found.Ended
or-ended found.Nothing n = refl
or-ended found.Ended n = refl
or-ended found.Booked n = absurd (n refl)

kind-ends : (k : Kind) (f : Found) → (k ≡ Cancelled) ⊎ (k ≡ Dropped) → (f ≡ found.Booked → ⊥) → with_kind k f ≡ found.Ended
kind-ends k f (inl e) n = ap (λ (j : Kind). with_kind j f) e ∙ or-ended f n
kind-ends k f (inr e) n = ap (λ (j : Kind). with_kind j f) e ∙ or-ended f n

-- names are the same where all three parts are
pub same-name : {s t n s' t' n' : ℕ} → s ≡ s' → t ≡ t' → n ≡ n' → ◌≡◌ {A = OrderName} (record { subscriber = s; order_type = t; number = n }) (record { subscriber = s'; order_type = t'; number = n' })
same-name p q r = rw (p, q, r)

-- a record is of an upload exactly where it has its transaction ID
pub is-of-true : (t : Bits128) (e : Event) → is_of t e ≡ true → transaction_of e ≡ t
unfolding is_of
is-of-true t e h =
    let b = and-true (eqb e.high t.high) (eqb e.low t.low) h in
    rw (eqb-true e.high t.high b.0, eqb-true e.low t.low b.1)

pub is-of : (t : Bits128) (e : Event) → transaction_of e ≡ t → is_of t e ≡ true
unfolding is_of
is-of t e h =
    rw (
      eq-eqb e.high t.high (ap (λ (n : Bits128). n.high) h),
      eq-eqb e.low t.low (ap (λ (n : Bits128). n.low) h),
    )

module _ (id : Bits128) (e : Event) (f : Found) where
  -- a record says something new only where it has the ID
  record-booked : with_record id e f ≡ found.Booked → ((transaction_of e ≡ id) × (e.kind ≡ Booked)) ⊎ (f ≡ found.Booked)
  unfolding with_record
  record-booked = at (is_of id e) refl
    where
      at : (t : Bool) → is_of id e ≡ t → cond t (with_kind e.kind f) f ≡ found.Booked → ((transaction_of e ≡ id) × (e.kind ≡ Booked)) ⊎ (f ≡ found.Booked)
      at true q h = elim (kind-booked e.kind f h) [ inl b ↦ inl (is-of-true id e q, b) | inr b ↦ inr b ]
      at false q h = inr h

  record-ended : with_record id e f ≡ found.Ended → ((transaction_of e ≡ id) × ((e.kind ≡ Cancelled) ⊎ (e.kind ≡ Dropped))) ⊎ (f ≡ found.Ended)
  unfolding with_record
  record-ended = at (is_of id e) refl
    where
      at : (t : Bool) → is_of id e ≡ t → cond t (with_kind e.kind f) f ≡ found.Ended → ((transaction_of e ≡ id) × ((e.kind ≡ Cancelled) ⊎ (e.kind ≡ Dropped))) ⊎ (f ≡ found.Ended)
      at true q h = elim (kind-ended e.kind f h) [ inl b ↦ inl (is-of-true id e q, b) | inr b ↦ inr b ]
      at false q h = inr h

  books : transaction_of e ≡ id → e.kind ≡ Booked → with_record id e f ≡ found.Booked
  unfolding with_record
  books n k = rw (is-of id e n, k)

  keeps : f ≡ found.Booked → with_record id e f ≡ found.Booked
  unfolding with_record
  keeps h = at (is_of id e)
    where
      at : (t : Bool) → cond t (with_kind e.kind f) f ≡ found.Booked
      at true = kind-keeps e.kind f h
      at false = h

  ends_it : transaction_of e ≡ id → (e.kind ≡ Cancelled) ⊎ (e.kind ≡ Dropped) → (f ≡ found.Booked → ⊥) → with_record id e f ≡ found.Ended
  unfolding with_record
  ends_it n k b = rw (is-of id e n) (kind-ends e.kind f k b)

  keeps-end : f ≡ found.Ended → (with_record id e f ≡ found.Booked → ⊥) → with_record id e f ≡ found.Ended
  unfolding with_record
  keeps-end h = at (is_of id e)
    where
      at : (t : Bool) → (cond t (with_kind e.kind f) f ≡ found.Booked → ⊥) → cond t (with_kind e.kind f) f ≡ found.Ended
      at true n = kind-keeps-end e.kind f h n
      at false n = h

  -- a signed event ends nothing: it is looked past, whatever its ID
  signs-only : e.kind ≡ Signed → with_record id e f ≡ f
  unfolding with_record
  signs-only k = at (is_of id e)
    where
      at : (t : Bool) → cond t (with_kind e.kind f) f ≡ f
      at true = ap (λ (j : Kind). with_kind j f) k
      at false = refl

-- ---- a list of records

module _ (id : Bits128) where
  -- card 8: an unclear run looks past the signings, so they make no upload lodged and none not lodged
  pub signed-past : (e : Event) (l : List Event) → e.kind ≡ Signed → lookup id (e ∷ l) ≡ lookup id l
  unfolding lookup
  signed-past e l k = signs-only id e (lookup id l) k

  end-here : (e : Event) (es : List Event) → transaction_of e ≡ id → (e.kind ≡ Cancelled) ⊎ (e.kind ≡ Dropped) → RecordedEnd id (e ∷ es)
  end-here e es o (inl k) = inl (here o k)
  end-here e es o (inr k) = inr (here o k)

  end-there : (e : Event) (es : List Event) → RecordedEnd id es → RecordedEnd id (e ∷ es)
  end-there e es (inl h) = inl (there h)
  end-there e es (inr h) = inr (there h)

  -- Ended is found exactly where one of the records with the ID is a cancellation or drop, and none a booking
  pub ended-recorded : (l : List Event) → lookup id l ≡ found.Ended → RecordedEnd id l
  unfolding lookup
  ended-recorded [] h = absurd (not-ended h)
  ended-recorded (e ∷ es) h = elim (record-ended id e (lookup id es) h) [ inl b ↦ end-here e es b.0 b.1 | inr g ↦ end-there e es (ended-recorded es g) ]

  -- Booked is found exactly where one of the records with the ID is a booking
  pub booked-recorded : (l : List Event) → lookup id l ≡ found.Booked → Recorded Booked id l
  unfolding lookup
  booked-recorded [] h = absurd (not-booked h)
  booked-recorded (e ∷ es) h = elim (record-booked id e (lookup id es) h) [ inl b ↦ here b.0 b.1 | inr g ↦ there (booked-recorded es g) ]

  pub booked-found : (l : List Event) → Recorded Booked id l → lookup id l ≡ found.Booked
  unfolding lookup
  booked-found [] b = elim b [ ]
  booked-found (e ∷ es) (here o k) = books id e (lookup id es) o k
  booked-found (e ∷ es) (there h) = keeps id e (lookup id es) (booked-found es h)

  none-recorded : (kind : Kind) → Recorded kind id [] → ⊥
  none-recorded kind = elim [ ]

  pub ended-not-booked : (l : List Event) → lookup id l ≡ found.Ended → Recorded Booked id l → ⊥
  ended-not-booked l h b = not-both (sym h ∙ booked-found l b)

  pub ended-found : (l : List Event) → RecordedEnd id l → (Recorded Booked id l → ⊥) → lookup id l ≡ found.Ended
  unfolding lookup
  ended-found [] (inl h) n = absurd (none-recorded Cancelled h)
  ended-found [] (inr h) n = absurd (none-recorded Dropped h)
  ended-found (e ∷ es) (inl (here o k)) n = ends_it id e (lookup id es) o (inl k) (λ f. n (there (booked-recorded es f)))
  ended-found (e ∷ es) (inr (here o k)) n = ends_it id e (lookup id es) o (inr k) (λ f. n (there (booked-recorded es f)))
  ended-found (e ∷ es) (inl (there h)) n = keeps-end id e (lookup id es) (ended-found es (inl h) (λ b. n (there b))) (λ f. n (booked-recorded (e ∷ es) f))
  ended-found (e ∷ es) (inr (there h)) n = keeps-end id e (lookup id es) (ended-found es (inr h) (λ b. n (there b))) (λ f. n (booked-recorded (e ∷ es) f))

  -- Nothing is found only where none is a booking, a cancellation or a drop
  pub nothing-not-booked : (l : List Event) → lookup id l ≡ found.Nothing → Recorded Booked id l → ⊥
  nothing-not-booked l h b = not-booked (sym h ∙ booked-found l b)

  pub nothing-not-ended : (l : List Event) → lookup id l ≡ found.Nothing → RecordedEnd id l → ⊥
  nothing-not-ended l h g = not-ended (sym h ∙ ended-found l g (nothing-not-booked l h))

  -- ---- the row after these events

  unused-none : (m : ℕ) → lookup id (replicate m no_event) ≡ found.Nothing
  unfolding lookup with_record
  unused-none zero = refl
  unused-none (suc m) = at (is_of id no_event) (unused-none m)
    where
      at : (t : Bool) → lookup id (replicate m no_event) ≡ found.Nothing → cond t (lookup id (replicate m no_event)) (lookup id (replicate m no_event)) ≡ found.Nothing
      at true h = h
      at false h = h

  unused-behind : (m : ℕ) (l : List Event) → lookup id (l ++ replicate m no_event) ≡ lookup id l
  unfolding lookup
  unused-behind m [] = unused-none m
  unused-behind m (e ∷ es) = ap (with_record id e) (unused-behind m es)

  -- what the row says is what the newest 64 events say
  pub found-newest : (l : List Event) → lookup id (row_of l) ≡ lookup id (newest l)
  unfolding row_of
  found-newest l = unused-behind (record_count - length l) (newest l)

  recorded-drop : (kind : Kind) (s : ℕ) (l : List Event) → Recorded kind id (drop s l) → Recorded kind id l
  recorded-drop kind zero l h = h
  recorded-drop kind (suc s) [] h = elim h [ ]
  recorded-drop kind (suc s) (e ∷ es) h = there (recorded-drop kind s es h)

  recorded-newest : (kind : Kind) (l : List Event) → Recorded kind id (newest l) → Recorded kind id l
  unfolding newest
  recorded-newest kind l h = recorded-drop kind (length l - record_count) l h

  -- what the row says of an upload is true of the events
  pub row-booked : (l : List Event) → lookup id (row_of l) ≡ found.Booked → Recorded Booked id l
  row-booked l h = recorded-newest Booked l (booked-recorded (newest l) (sym (found-newest l) ∙ h))

  pub row-ended : (l : List Event) → lookup id (row_of l) ≡ found.Ended → RecordedEnd id l
  row-ended l h = elim (ended-recorded (newest l) (sym (found-newest l) ∙ h)) [ inl g ↦ inl (recorded-newest Cancelled l g) | inr g ↦ inr (recorded-newest Dropped l g) ]
