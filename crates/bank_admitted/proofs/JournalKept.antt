-- The journal stays one that a session may hold: at a later clock and after more openings, and with a call's events entered.
use Prim.Native.Nat.{ℕ, suc, ◌+◌, ◌-◌, ◌^◌, ◌≤◌, ◌<◌}
use mathlib.Core.Bool.{true}
use mathlib.Core.List.{List, Memᴰ as In}
use mathlib.Core.Logic.{◌⊎◌, inl, inr}
use mathlib.Core.Path.{◌≡◌, sym, ap, ◌∙◌, subst}
use native.Mathlib.Decide.{dec_lt}
use native.Mathlib.Omega.{arith}
use lib.ListN.{length, get_or, get_or-eq_default}
use Rattle.message.specs.Limits.{subscribers, ful}
use Rattle.bank_state.specs.Limits.{series_limit}
use Rattle.journal.specs.declared.event.Entry.{Entry}
use Rattle.journal.specs.declared.event.Event.{Event}
use Rattle.journal.specs.Events.{record_count, no_event, no_entry, event_of, events_from}
use Rattle.journal.specs.Places.{used_after}
use Rattle.journal.specs.Row.{Journal}
use Rattle.journal.proofs.Bounds.{used-below, used-above}
use Rattle.journal.proofs.Events.{events-length, numbered-at}
use Rattle.journal.proofs.Rows.{entered-all-length, kept_at, new-at, behind-at}
use Rattle.bank_events.specs.Entries.{is_event}
use Rattle.bank_events.proofs.Rising.{in-at}
use Rattle.bank.specs.Journal.{with_entries}
use Rattle.bank_admitted.specs.Session.{EventHolds, JournalHolds, record_at}

-- what a call enters, after so many openings
pub record EntryHolds (openings : ℕ) (e : Entry) : Type 0 where
  pub known : 1 ≤ e.subscriber
  pub most : e.subscriber ≤ subscribers
  pub typed : e.order_type ≡ ful
  pub ordered : e.order < series_limit
  pub lent : e.high < 2 ^ 64
  pub counted : e.low < openings
  pub happened : is_event e.kind ≡ true

pub entry-later : {o o' : ℕ} {e : Entry} → o ≤ o' → EntryHolds o e → EntryHolds o' e
entry-later k h = record {
  known = h.known;
  most = h.most;
  typed = h.typed;
  ordered = h.ordered;
  lent = h.lent;
  counted = omega (arith, h.counted);
  happened = h.happened;
}

pub journal-later : {c c' o o' : ℕ} {j : Journal} → c ≤ c' → o ≤ o' → JournalHolds c o j → JournalHolds c' o' j
journal-later {c} {c'} {o} {o'} {j} h k v = record {
  long = v.long;
  each = λ i m. later (v.each i m);
  numbered = v.numbered;
  rising = v.rising;
  unused = v.unused;
}
  where
    later : {e : Event} → EventHolds c o e → EventHolds c' o' e
    later x = record {
      current = omega (arith, x.current);
      known = x.known;
      most = x.most;
      typed = x.typed;
      ordered = x.ordered;
      lent = x.lent;
      counted = omega (arith, x.counted);
      happened = x.happened;
    }

-- as many records are in use as there were events, or all
abbrev Used : ℕ → Type 0
Used n = ((n ≤ record_count) × (used_after n ≡ n)) ⊎ ((record_count ≤ n) × (used_after n ≡ record_count))

used-is : (n : ℕ) → Used n
used-is n = at (dec_lt n record_count)
  where
    at : Dec (n < record_count) → Used n
    at (yes h) = inl (omega arith, used-below n (omega arith))
    at (no h) = inr (omega arith, used-above n (omega arith))

module _ (clock openings : ℕ) (es : List Entry) (j : Journal) (v : JournalHolds clock openings j)
    (new : (e : Entry) → In e es → EntryHolds openings e) where
  abbrev n : ℕ
  n = j.events

  abbrev u : ℕ
  u = used_after n

  abbrev c : ℕ
  c = length es

  -- the records move up by this
  abbrev s : ℕ
  s = (u + c) - record_count

  abbrev events : List Event
  events = events_from n clock es

  abbrev after : Journal
  after = with_entries clock es j

  used-before : (u ≤ n) × (u ≤ record_count)
  used-before = at (used-is n)
    where
      at : Used n → (used_after n ≤ n) × (used_after n ≤ record_count)
      at (inl (h, e)) = (omega arith, omega arith)
      at (inr (h, e)) = (omega arith, omega arith)

  used-now : used_after (n + c) ≡ (u + c) - s
  used-now = at (used-is n) (used-is (n + c))
    where
      at : Used n → Used (n + c) →
          used_after (n + c) ≡ (used_after n + c) - ((used_after n + c) - record_count)
      at (inl (h, e)) (inl (k, f)) = omega arith
      at (inl (h, e)) (inr (k, f)) = omega arith
      at (inr (h, e)) (inl (k, f)) = omega arith
      at (inr (h, e)) (inr (k, f)) = omega arith

  moved : s ≡ (u + length events) - record_count
  moved = ap (λ (m : ℕ). (u + m) - record_count) (sym (events-length n clock es))

  -- a record in use is one that was, or an event
  in_use_lem : (P : Event → Type 0) (i : ℕ) → i < used_after (n + c) → (i + s < u → P (record_at j (i + s))) →
      ((k : ℕ) → i + s ≡ u + k → k < c → P (event_of (suc (n + k)) clock (get_or es k no_entry))) → P (record_at after i)
  in_use_lem P i h old fresh = at (dec_lt (i + s) u)
    where
      at : Dec (i + s < u) → P (record_at after i)
      at (yes l) = subst P (kept_at n events j.row v.long s moved i l) (old l)
      at (no l) =
          let k : ℕ = (i + s) - u in
          let e : i + s ≡ u + k = omega arith in
          let m : k < c = omega (arith, used-now) in
          subst P
          (sym (numbered-at n clock es k m)
          ∙ new-at n events j.row v.long s moved i k e (omega (arith, events-length n clock es)))
          (fresh k e m)

  entered-each : (i : ℕ) → i < used_after (n + c) → EventHolds clock openings (record_at after i)
  entered-each i h = in_use_lem (EventHolds clock openings) i h (v.each (i + s))
      (λ k e l. let x = new (get_or es k no_entry) (in-at es no_entry k l) in record {
        current = omega arith;
        known = x.known;
        most = x.most;
        typed = x.typed;
        ordered = x.ordered;
        lent = x.lent;
        counted = x.counted;
        happened = x.happened;
      })

  entered-numbered : (i : ℕ) → i < used_after (n + c) → (record_at after i).number ≡ n + c - used_after (n + c) + 1 + i
  entered-numbered i h =
      let a = used-before in
      let b = used-now in
      in_use_lem (λ (e : Event). e.number ≡ n + c - used_after (n + c) + 1 + i) i h
      (λ l. v.numbered (i + s) l ∙ omega arith) (λ k e l. omega arith)

  entered-rising : (i : ℕ) → suc i < used_after (n + c) → (record_at after i).clock ≤ (record_at after (suc i)).clock
  entered-rising i h =
      in_use_lem (λ (e : Event). e.clock ≤ (record_at after (suc i)).clock) i (omega arith)
      (λ l. in_use_lem (λ (e : Event). (record_at j (i + s)).clock ≤ e.clock) (suc i) h
      (λ m. subst (λ (k : ℕ). (record_at j (i + s)).clock ≤ (record_at j k).clock) (omega arith) (v.rising (i + s) (omega arith)))
      (λ k e m. (v.each (i + s) l).current))
      (λ k e l. in_use_lem (λ (e : Event). clock ≤ e.clock) (suc i) h (λ m. absurd (omega arith)) (λ k e m. omega arith))

  entered-unused : (i : ℕ) → used_after (n + c) ≤ i → record_at after i ≡ no_event
  entered-unused i h = at (dec_lt i record_count)
    where
      at : Dec (i < record_count) → record_at after i ≡ no_event
      at (yes l) =
          behind-at n events j.row v.long i (omega (arith, used-now, events-length n clock es)) l
          ∙ v.unused i (omega (arith, used-now))
      at (no l) =
          get_or-eq_default after.row no_event {n = i} (omega (arith, entered-all-length n events j.row v.long))

  -- with the events of a call entered
  pub journal-entered : JournalHolds clock openings (with_entries clock es j)
  journal-entered = record {
    long = entered-all-length n events j.row v.long;
    each = entered-each;
    numbered = entered-numbered;
    rising = entered-rising;
    unused = entered-unused;
  }
