-- The nonces remembered: what a later clock and an accepted opening leave of them.
use Prim.Native.Nat.{ℕ, zero, suc, ◌+◌, ◌-◌, ◌<◌}
use mathlib.Core.Bool.{Bool, true, false, not, cond, ◌&&◌}
use mathlib.Core.List.{List, [], ◌∷◌, ◌++◌, append_assoc, append-nil}
use mathlib.Core.Path.{◌≡◌, refl, sym, ap, ◌∙◌}
use native.Mathlib.Omega.{arith}
use lib.Dec.{leb}
use lib.ListN.{length, set, replicate, length-append}
use lib.Seq.{set_at}
use Rattle.octets.proofs.Tests.{and-true}
use Rattle.bank_state.specs.Clock.{forget}
use Rattle.bank_state.specs.Limits.{nonce_count, window}
use Rattle.bank_state.specs.Rows.{first_of, keep, keep_only}
use Rattle.bank_state.specs.State.{Nonce, no_nonce}
use Rattle.bank_state.proofs.Rows.{keep_append}
use Rattle.bank_admitted.specs.State.{AllRemembered, end, next, NoncesHold}

-- ---- a later clock

keep-none : {A : Type 0} (p : A → Bool) (a : A) → p a ≡ false → (n : ℕ) → keep p (replicate n a) ≡ []
unfolding keep
keep-none p a e zero = refl
keep-none p a e (suc n) = rw e (keep-none p a e n)

-- free records behind a row pass no test
pub keep-front : {A : Type 0} (p : A → Bool) (a : A) → p a ≡ false → (l : List A) (n : ℕ) → keep p (l ++ replicate n a) ≡ keep p l
keep-front {A} p a e l n =
    keep_append p l (replicate n a) ∙ (ap (λ (m : List A). keep p l ++ m) (keep-none p a e n) ∙ append-nil (keep p l))

abbrev stays : ℕ → Nonce → Bool
stays c e = e.used && leb c (e.timestamp + window)

-- those that pass the test of a clock are remembered at it
all-remembered : (c : ℕ) (l : List Nonce) → AllRemembered c (keep (λ (e : Nonce). e.used && leb c (e.timestamp + window)) l)
unfolding keep
all-remembered c [] = end
all-remembered c (x ∷ l) = at (stays c x) refl (all-remembered c l)
  where
    at : (t : Bool) → stays c x ≡ t → AllRemembered c (keep (stays c) l) →
        AllRemembered c (cond t (x ∷ keep (stays c) l) (keep (stays c) l))
    at true e g = let a = and-true x.used (leb c (x.timestamp + window)) e in next a.0 a.1 g
    at false e g = g

pub nonces-later : (c c' : ℕ) (nonces : List Nonce) → length nonces ≡ nonce_count → NoncesHold c nonces →
    NoncesHold c' (forget c' nonces)
unfolding forget keep_only
nonces-later c c' nonces long m = record {
  first = keep (stays c') m.first;
  used = all-remembered c' m.first;
  rows =
      rw long
      (ap (λ (l : List Nonce). l ++ replicate (nonce_count - length l) no_nonce)
      (ap (keep (stays c')) m.rows ∙ keep-front (stays c') no_nonce refl m.first (nonce_count - length m.first)));
}

-- ---- an accepted opening

first-free : {c : ℕ} {l : List Nonce} → AllRemembered c l → (m : List Nonce) →
    first_of (λ (e : Nonce). not e.used) (l ++ m) ≡ length l + first_of (λ (e : Nonce). not e.used) m
unfolding first_of
first-free end m = omega arith
first-free (next used recent rest) m = rw used (let e = first-free rest m in omega arith)

-- a new element in the first free record
added : (l : List Nonce) (y : Nonce) (n r : ℕ) → n - length l ≡ r →
    length l + first_of (λ (e : Nonce). not e.used) (replicate r no_nonce) < n →
    set (l ++ replicate r no_nonce) (length l + first_of (λ (e : Nonce). not e.used) (replicate r no_nonce)) y ≡ (l ++ (y ∷ []))
    ++ replicate (n - length (l ++ (y ∷ []))) no_nonce
unfolding first_of
added l y n zero e free = absurd (omega arith)
added l y n (suc r) e free =
    let k : n - length (l ++ (y ∷ [])) ≡ r = simp length-append (omega arith) in
    set_at l no_nonce (replicate r no_nonce) y (length l + 0) (omega arith)
    ∙ (sym (append_assoc l (y ∷ []) (replicate r no_nonce)) ∙ ap (λ (m : ℕ). (l ++ (y ∷ [])) ++ replicate m no_nonce) (sym k))

-- a nonce in the first free record stands behind those remembered
pub row-added : (c : ℕ) (l nonces : List Nonce) → AllRemembered c l → nonces ≡ l ++ replicate (nonce_count - length l) no_nonce →
    (y : Nonce) → first_of (λ (e : Nonce). not e.used) nonces < nonce_count →
    set nonces (first_of (λ (e : Nonce). not e.used) nonces) y ≡ (l ++ (y ∷ []))
    ++ replicate (nonce_count - length (l ++ (y ∷ []))) no_nonce
row-added c l nonces used rows y free =
    let r : ℕ = nonce_count - length l in
    let f : first_of (λ (e : Nonce). not e.used) nonces ≡ length l + first_of (λ (e : Nonce). not e.used) (replicate r no_nonce) =
    ap (first_of (λ (e : Nonce). not e.used)) rows ∙ first-free used (replicate r no_nonce) in
    ap (λ (n : ℕ). set nonces n y) f
    ∙ (ap (λ (k : List Nonce). set k (length l + first_of (λ (e : Nonce). not e.used) (replicate r no_nonce)) y) rows
    ∙ added l y nonce_count r refl (omega arith))

remembered-append : {c : ℕ} {a b : List Nonce} → AllRemembered c a → AllRemembered c b → AllRemembered c (a ++ b)
remembered-append end g = g
remembered-append (next u r f) g = next u r (remembered-append f g)

pub nonces-added : (c : ℕ) (nonces : List Nonce) → NoncesHold c nonces → (y : Nonce) → y.used ≡ true →
    leb c (y.timestamp + window) ≡ true → first_of (λ (e : Nonce). not e.used) nonces < nonce_count →
    NoncesHold c (set nonces (first_of (λ (e : Nonce). not e.used) nonces) y)
nonces-added c nonces m y used timely free = record {
  first = m.first ++ (y ∷ []);
  used = remembered-append m.used (next used timely end);
  rows = row-added c m.first nonces m.used m.rows y free;
}
