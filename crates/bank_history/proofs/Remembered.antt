-- The nonce of an accepted opening is found while its timestamp is at most the window behind the clock.
use Prim.Native.Nat.{suc, ◌+◌, ◌-◌, ◌≤◌, ◌<◌}
use mathlib.Core.Bool.{Bool, true, false, cond, ◌&&◌}
use mathlib.Core.List.{List, [], ◌∷◌, ◌++◌}
use mathlib.Core.Path.{◌≡◌, sym, subst}
use native.Mathlib.Omega.{arith}
use lib.Dec.{leb}
use lib.ListN.{length, replicate}
use borrow.Author.Tests.{lt-ltb, le-leb}
use Rattle.frame_table.specs.Names.{nonce, timestamp, same_bits}
use Rattle.bank_state.specs.State.{Nonce}
use Rattle.bank_state.specs.Limits.{nonce_count, window}
use Rattle.bank_state.specs.Rows.{first_of, keep}
use Rattle.bank_state.specs.Search.{is_remembered}
use Rattle.bank_state.specs.State.{BankState, no_nonce}
use Rattle.bank_history.specs.History.{Exchange, Stands, newest, older, remembers, nonce_of, opening_nonces, remembered}
use Rattle.bank_history.specs.Invariant.{Invariant}
use Rattle.bank_history.proofs.Entries.{same_bits_lem}

-- x stands in a list
data In (x : Nonce) : List Nonce → Type 0 where
  here : {l : List Nonce} → In x (x ∷ l)
  later : {y : Nonce} {l : List Nonce} → In x l → In x (y ∷ l)

in_left : {x : Nonce} {l : List Nonce} (m : List Nonce) → In x l → In x (l ++ m)
in_left m here = here
in_left m (later i) = later (in_left m i)

in_right : {x : Nonce} (l : List Nonce) {m : List Nonce} → In x m → In x (l ++ m)
in_right [] i = i
in_right (y ∷ l) i = later (in_right l i)

in-keep : (p : Nonce → Bool) {x : Nonce} {l : List Nonce} → p x ≡ true → In x l → In x (keep p l)
unfolding keep
in-keep p h here = rw h here
in-keep p {x} h (later {y = y} {l = l} i) = at (p y) (in-keep p h i)
  where
    at : (t : Bool) → In x (keep p l) → In x (cond t (y ∷ keep p l) (keep p l))
    at true j = later j
    at false j = j

-- the first that passes is no later
first-in : (p : Nonce → Bool) {x : Nonce} {l : List Nonce} → p x ≡ true → In x l → first_of p l < length l
unfolding first_of
first-in p h here = rw h (omega arith)
first-in p h (later {y = y} {l = l} i) = at (p y) (first-in p h i)
  where
    at : (t : Bool) → first_of p l < length l → cond t 0 (suc (first_of p l)) < suc (length l)
    at true j = omega arith
    at false j = omega arith

in-openings : {f : Exchange} {g h : List Exchange} → remembers f.verdict ≡ true → Stands f g h → In (nonce_of f) (opening_nonces h)
unfolding opening_nonces
in-openings {f} {g} o newest = rw o (in_right (opening_nonces g) here)
in-openings {f} o (older {x = x} {h = h} s) = at (remembers x.verdict) (in-openings o s)
  where
    at : (t : Bool) → In (nonce_of f) (opening_nonces h) →
        In (nonce_of f) (cond t (opening_nonces h ++ (nonce_of x ∷ [])) (opening_nonces h))
    at true i = in_left (nonce_of x ∷ []) i
    at false i = i

-- the nonce of an accepted opening or signing is remembered
pub nonce-remembered : {w : BankState} {f : Exchange} {g h : List Exchange} → Invariant w h → Stands f g h → remembers f.verdict ≡ true →
    w.bank.clock ≤ timestamp f.request + window → is_remembered (nonce f.request) w.bank ≡ true
unfolding is_remembered remembered
nonce-remembered {w} {f} {g} {h} v s o recent =
    let kept : In (nonce_of f) (remembered w.bank.clock h) =
    in-keep (λ (e : Nonce). leb w.bank.clock (e.timestamp + window)) (le-leb _ _ recent) (in-openings o s) in
    let held : In (nonce_of f) w.bank.nonces =
    subst (In (nonce_of f)) (sym v.memory.held) (in_left (replicate (nonce_count - length (remembered w.bank.clock h)) no_nonce) kept) in
    let value : Nonce → Bool = λ (e : Nonce). e.used && same_bits e.value (nonce f.request) in
    let k : first_of value w.bank.nonces < length w.bank.nonces = first-in value (same_bits_lem (nonce f.request)) held in
    let l = v.state.sizes.nonces in
    lt-ltb (first_of value w.bank.nonces) nonce_count (omega arith)
