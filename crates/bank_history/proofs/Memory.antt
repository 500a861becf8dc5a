-- The nonces remembered: what a request, a later clock and an accepted opening leave of them.
use Prim.Native.Nat.{ℕ, ◌+◌, ◌-◌, ◌≤◌, ◌<◌}
use mathlib.Core.Bool.{Bool, true, false, not, cond, ◌&&◌}
use mathlib.Core.List.{List, [], ◌∷◌, ◌++◌}
use mathlib.Core.Path.{◌≡◌, refl, sym, ap, ◌∙◌}
use native.Mathlib.Omega.{arith}
use lib.Dec.{leb}
use lib.ListN.{length, set, replicate}
use borrow.Author.Tests.{leb-false, lt-leb}
use Rattle.octets.proofs.Tests.{never}
use Rattle.bank_state.specs.State.{Nonce}
use Rattle.bank_state.specs.Clock.{forget}
use Rattle.bank_state.specs.Limits.{nonce_count, window}
use Rattle.bank_state.specs.Rows.{first_of, keep, keep_only}
use Rattle.bank_state.specs.State.{no_nonce}
use Rattle.bank_state.proofs.Rows.{keep_append}
use Rattle.bank_history.specs.History.{Exchange, remembers, nonce_of, opening_nonces, remembered}
use Rattle.bank_admitted.specs.State.{AllRemembered, end, next}
use Rattle.bank_admitted.proofs.Nonces.{keep-front, row-added}
use Rattle.bank_history.specs.Invariant.{Memory}

-- a request that neither opens nor signs
pub memory-unchanged : (c : ℕ) (nonces : List Nonce) (x : Exchange) (h : List Exchange) → remembers x.verdict ≡ false → Memory c nonces h →
    Memory c nonces (x ∷ h)
unfolding remembered opening_nonces
memory-unchanged c nonces x h no_opening m = record { held = rw no_opening m.held }

-- ---- those of the openings

-- every nonce of a list is used
data AllUsed : List Nonce → Type 0 where
  none : AllUsed []
  more : {x : Nonce} {l : List Nonce} → x.used ≡ true → AllUsed l → AllUsed (x ∷ l)

used-append : {a b : List Nonce} → AllUsed a → AllUsed b → AllUsed (a ++ b)
used-append none g = g
used-append (more e f) g = more e (used-append f g)

used-openings : (h : List Exchange) → AllUsed (opening_nonces h)
unfolding opening_nonces
used-openings [] = none
used-openings (x ∷ h) = at (remembers x.verdict) (used-openings h)
  where
    at : (b : Bool) → AllUsed (opening_nonces h) → AllUsed (cond b (opening_nonces h ++ (nonce_of x ∷ [])) (opening_nonces h))
    at true g = used-append g (more refl none)
    at false g = g

-- ---- a later clock

abbrev recent : ℕ → Nonce → Bool
recent c e = leb c (e.timestamp + window)

-- what is forgotten at a clock is forgotten at a later one
forgotten : (c c' : ℕ) → c ≤ c' → (l : List Nonce) → AllUsed l →
    keep (λ (e : Nonce). e.used && recent c' e) (keep (recent c) l) ≡ keep (recent c') l
unfolding keep
forgotten c c' later [] none = refl
forgotten c c' later (x ∷ l) (more used rest) = at (recent c x) refl (recent c' x) refl (forgotten c c' later l rest)
  where
    at : (s : Bool) → recent c x ≡ s → (t : Bool) → recent c' x ≡ t →
        keep (λ (e : Nonce). e.used && recent c' e) (keep (recent c) l) ≡ keep (recent c') l →
        keep (λ (e : Nonce). e.used && recent c' e) (cond s (x ∷ keep (recent c) l) (keep (recent c) l)) ≡ cond t
        (x ∷ keep (recent c') l) (keep (recent c') l)
    at true a true b e = let z : x.used && recent c' x ≡ true = ap (λ (u : Bool). u && recent c' x) used
        ∙ b in rw z (ap (λ (m : List Nonce). x ∷ m) e)
    at true a false b e = let z : x.used && recent c' x ≡ false = ap (λ (u : Bool). u && recent c' x) used ∙ b in rw z e
    at false a true b e =
        let k = leb-false c (x.timestamp + window) a in
        never (sym (lt-leb c' (x.timestamp + window) (omega arith)) ∙ b)
    at false a false b e = e

pub memory-later : (c c' : ℕ) (h : List Exchange) → c ≤ c' → (nonces : List Nonce) → length nonces ≡ nonce_count → Memory c nonces h →
    Memory c' (forget c' nonces) h
unfolding forget keep_only remembered
memory-later c c' h later nonces long m = record {
  held =
      rw long
      (ap (λ (l : List Nonce). l ++ replicate (nonce_count - length l) no_nonce)
      (ap (keep test) m.held
      ∙ (keep-front test no_nonce refl (keep (recent c) (opening_nonces h)) free
      ∙ forgotten c c' later (opening_nonces h) (used-openings h))));
}
  where
    test : Nonce → Bool
    test e = e.used && recent c' e

    free : ℕ
    free = nonce_count - length (remembered c h)

-- ---- an accepted opening

remembered-more : (c : ℕ) (h : List Exchange) (x : Exchange) → remembers x.verdict ≡ true → leb c ((nonce_of x).timestamp + window) ≡ true →
    remembered c (x ∷ h) ≡ remembered c h ++ (nonce_of x ∷ [])
unfolding remembered opening_nonces keep
remembered-more c h x opened timely = rw opened (keep_append (recent c) (opening_nonces h) (nonce_of x ∷ []) ∙ rw timely refl)

keep-recent : (c : ℕ) {l : List Nonce} → AllUsed l → AllRemembered c (keep (recent c) l)
unfolding keep
keep-recent c none = end
keep-recent c (more {x = x} {l = l} e f) = at (recent c x) refl (keep-recent c f)
  where
    at : (t : Bool) → recent c x ≡ t → AllRemembered c (keep (recent c) l) →
        AllRemembered c (cond t (x ∷ keep (recent c) l) (keep (recent c) l))
    at true r g = next e r g
    at false r g = g

all-remembered : (c : ℕ) (h : List Exchange) → AllRemembered c (remembered c h)
unfolding remembered
all-remembered c h = keep-recent c (used-openings h)

-- the nonce of an opening in time stands behind the others
pub memory-added : (c : ℕ) (h : List Exchange) (x : Exchange) → remembers x.verdict ≡ true → leb c ((nonce_of x).timestamp + window) ≡ true →
    (nonces : List Nonce) → Memory c nonces h →
    first_of (λ (e : Nonce). not e.used) nonces < nonce_count →
    Memory c (set nonces (first_of (λ (e : Nonce). not e.used) nonces) (nonce_of x)) (x ∷ h)
memory-added c h x opened timely nonces m free = record {
  held = row-added c (remembered c h) nonces (all-remembered c h) m.held (nonce_of x) free
      ∙ ap (λ (k : List Nonce). k ++ replicate (nonce_count - length k) no_nonce) (sym (remembered-more c h x opened timely));
}
