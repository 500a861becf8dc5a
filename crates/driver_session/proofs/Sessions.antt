-- Laws of the calls of records, and of the session that they make. Assumes nothing.
use Prim.Native.Nat.{ℕ}
use mathlib.Core.Path.{◌≡◌, refl, sym, ap, subst, ◌∙◌}
use mathlib.Core.Bool.{Bool, true, false, not, ◌&&◌}
use mathlib.Core.List.{List, [], ◌∷◌, ◌++◌}
use lib.ListN.{replicate}
use borrow.Author.Tests.{not-false}
use Rattle.octets.proofs.Tests.{never}
use Rattle.bank_state.specs.State as bank
use Rattle.bank_rows.specs.State.{bank_of}
use Rattle.bank_rows.proofs.State.{fresh-rows}
use Rattle.bank_session.specs.Session.{bank_rows}
use Rattle.unit_state.specs.declared.record.Kind.{Kind}
use Rattle.unit_state.specs.declared.state.UnitState.{UnitState}
use Rattle.unit_state.specs.Records.{call_of, is_call}
use Rattle.unit_state.specs.State.{fresh}
use Rattle.unit_rows.specs.Rows.{runs_size, nonces_size, row_size, unit_from}
use Rattle.unit_rows.proofs.Rows.{fresh-unit}
use Rattle.unit.specs.State.{Memory, State, state_of}
use Rattle.unit.specs.Call.{UnitCall, unit_call}
use Rattle.driver_session.specs.Session.{unit_after, all_calls, Calls, start, Session}

-- no call changes nothing
pub no-calls : (s : State) → Calls s s
unfolding unit_after all_calls
no-calls s = record { records = []; each = refl; left = refl }

-- zeros are a fresh unit
pub zeros-calls : (m : Memory) (after : State)
    → Calls (state_of (unit_from (replicate runs_size 0) (replicate nonces_size 0) (replicate row_size 0)) m) after
    → Calls (state_of fresh m) after
zeros-calls m after h = subst (λ (u : UnitState). Calls (state_of u m) after) fresh-unit h

-- the call of the record r, which was tested as t
pub one-call : (s : State) (r t : List ℕ) (k : Kind) (b : Bool) (o : UnitCall)
    → k ≡ call_of t → b ≡ is_call k → not b ≡ false → r ≡ t → o ≡ unit_call s r → Calls s o.state
unfolding unit_after all_calls
one-call s r t k b o ek eb h e eo = record {
  records = r ∷ [];
  each = rw (e, ← ek, ← eb, not-false b h);
  left = ap (λ (x : UnitCall). x.state) eo;
}

after-append : (s : State) (a b : List (List ℕ)) → unit_after s (a ++ b) ≡ unit_after (unit_after s a) b
unfolding unit_after
after-append s [] b = refl
after-append s (r ∷ a) b = after-append (unit_call s r).state a b

and_both : (x y z : Bool) → x && y ≡ true → (y ≡ true → z ≡ true) → x && z ≡ true
and_both true y z h f = f h
and_both false y z h f = never h

all_append : (a b : List (List ℕ)) → all_calls a ≡ true → all_calls b ≡ true → all_calls (a ++ b) ≡ true
unfolding all_calls
all_append [] b h k = k
all_append (r ∷ a) b h k = and_both (is_call (call_of r)) (all_calls a) (all_calls (a ++ b)) h (λ g. all_append a b g k)

-- calls, and further calls
pub calls-on : (s t u : State) → Calls s t → Calls t u → Calls s u
calls-on s t u a b = record {
  records = a.records ++ b.records;
  each = all_append a.records b.records a.each b.each;
  left = b.left ∙ ap (λ (x : State). unit_after x b.records) a.left ∙ sym (after-append s a.records b.records);
}

-- what is lent to the calls is the session's own
pub session-of : (u v : UnitState) (m : Memory) → u ≡ v → Calls start (state_of v m) → Session u m.bank.rows
session-of u v m e h = record { last = state_of v m; calls = h; unit = e; bank = refl }

-- the bank that a session starts with is fresh
pub start-fresh : bank_of (bank_rows start.memory.bank.rows) ≡ bank.fresh
unfolding start
start-fresh = fresh-rows
