-- "The journal gains the type": each event of a call is of type FUL. Assumes nothing.
use Prim.Native.Nat.{ℕ}
use mathlib.Core.Bool.{Bool, true, false, cond}
use mathlib.Core.List.Memᴰ.{head as here}
use mathlib.Core.List.Memᴰ.{not-nil as in-none}
use mathlib.Core.List.Memᴰ.{tail as there}
use mathlib.Core.List.{
  List,
  [],
  ◌∷◌,
  ◌++◌,
  map,
  Memᴰ as In,
}
use mathlib.Core.Path.{◌≡◌, ap}
use Rattle.frame_table.specs.declared.fields.Fields.{Fields}
use Rattle.message.specs.Limits.{ful}
use Rattle.bank_state.specs.declared.state.Place.{Place}
use Rattle.bank_state.specs.State.{Bank}
use Rattle.bank_verdicts.specs.declared.verdict.Verdict.{Verdict}
use Rattle.journal.specs.declared.event.Entry.{Entry}
use Rattle.bank_events.specs.Entries.{entry, is_event, verdict_kind, verdict_subscriber, verdict_id, dropped_uploads, drop_entry, action_entries, call_entries}

pub action-typed : (v : Verdict) (order : ℕ) (q : Fields) {e : Entry} → In e (action_entries v order q) → e.order_type ≡ ful
unfolding action_entries
action-typed v order q {e} m = at (is_event (verdict_kind v)) m
  where
    at : (t : Bool) → In e (cond t (entry (verdict_kind v) (verdict_subscriber v q) order (verdict_id v) ∷ []) []) → e.order_type ≡ ful
    at true (here x) = ap (λ (d : Entry). d.order_type) x
    at true (there i) = absurd (in-none i)
    at false i = absurd (in-none i)

drops_then : (l : List Place) (r : List Entry) {e : Entry} → (In e r → e.order_type ≡ ful) → In e (map drop_entry l ++ r)
    → e.order_type ≡ ful
drops_then [] r other m = other m
drops_then (p ∷ l) r other (here x) = ap (λ (d : Entry). d.order_type) x
drops_then (p ∷ l) r other (there m) = drops_then l r other m

pub call-typed : (clock : ℕ) (b : Bank) (v : Verdict) (order : ℕ) (q : Fields) {e : Entry} → In e (call_entries clock b v order q)
    → e.order_type ≡ ful
unfolding call_entries
call-typed clock b v order q m = drops_then (dropped_uploads clock b) (action_entries v order q) (action-typed v order q) m
