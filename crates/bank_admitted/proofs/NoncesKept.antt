-- The nonces in use stay apart: at a later clock, which forgets some, and with that of an accepted opening.
use Prim.Native.Nat.{ℕ, zero, suc, ◌+◌, ◌-◌, ◌≤◌, ◌<◌}
use mathlib.Core.Bool.{Bool, true, false, cond, ◌&&◌}
use mathlib.Core.List.{List, [], ◌∷◌, ◌++◌}
use mathlib.Core.Path.{◌≡◌, refl, sym, ap, ◌∙◌}
use native.Mathlib.Decide.{ℕ_discrete}
use native.Mathlib.Omega.{arith}
use lib.Dec.{leb}
use lib.ListN.{length, get_or, set, replicate}
use lib.Seq.{get_or-set_same, get_or-set_other}
use borrow.Author.Tests.{ltb-false, eq-eqb}
use Rattle.frame_table.specs.declared.fields.Bits128.{Bits128}
use Rattle.frame_table.specs.declared.fields.Fields.{Fields}
use Rattle.frame_table.specs.Names.{nonce, timestamp, same_bits}
use Rattle.octets.proofs.Tests.{never}
use Rattle.bank_state.specs.Clock.{forget}
use Rattle.bank_state.specs.Limits.{nonce_count, window}
use Rattle.bank_state.specs.Rows.{first_of, keep, keep_only}
use Rattle.bank_state.specs.Search.{free_nonce, is_remembered}
use Rattle.bank_state.specs.State.{Bank, Nonce, no_nonce}
use Rattle.bank_state.proofs.Rows.{first-before, each-keep_only}
use Rattle.bank_events.proofs.Rising.{in-at, at_in, in-keep}
use Rattle.bank_openings.specs.Openings.{counted}
use Rattle.bank_admitted.specs.Session.{NonceHolds, NoncesApart}
use Rattle.bank_admitted.proofs.Rows.{get_d-free, each-set-all}

abbrev nonce_at : List Nonce → ℕ → Nonce
nonce_at l i = get_or l i no_nonce

abbrev is_used : Nonce → Bool
is_used e = e.used

abbrev value_of : Nonce → Bits128
value_of e = e.value

abbrev Apart : List Nonce → Type 0
Apart l = (i j : ℕ) → is_used (nonce_at l i) ≡ true → is_used (nonce_at l j) ≡ true →
    value_of (nonce_at l i) ≡ value_of (nonce_at l j) → i ≡ j

-- a nonce in use stands in the row
used-inside : (l : List Nonce) (i : ℕ) → is_used (nonce_at l i) ≡ true → i < length l
used-inside [] i u = never u
used-inside (x ∷ l) zero u = omega arith
used-inside (x ∷ l) (suc i) u = let h = used-inside l i u in omega arith

-- ---- a later clock

module _ (p : Nonce → Bool) where
  apart-keep : (l : List Nonce) → Apart l → Apart (keep p l)
  unfolding keep
  apart-keep [] one = one
  apart-keep (x ∷ l) one = at (p x) (apart-keep l (λ i j u v e. let z = one (suc i) (suc j) u v e in omega arith))
    where
      clash : (j : ℕ) → is_used x ≡ true → is_used (nonce_at (keep p l) j) ≡ true →
          value_of x ≡ value_of (nonce_at (keep p l) j) → ⊥
      clash j u v e =
          let m = in-keep p l (in-at (keep p l) no_nonce j (used-inside (keep p l) j v)) in
          let k = at_in l no_nonce m.0 in
          let same : nonce_at l k.0 ≡ nonce_at (keep p l) j = k.1.1 in
          let z : 0 ≡ suc k.0 = one 0 (suc k.0) u (ap is_used same ∙ v) (e ∙ ap value_of (sym same)) in
          omega arith

      at : (t : Bool) → Apart (keep p l) → Apart (cond t (x ∷ keep p l) (keep p l))
      at true k zero zero u v e = refl
      at true k zero (suc j) u v e = absurd (clash j u v e)
      at true k (suc i) zero u v e = absurd (clash i v u (sym e))
      at true k (suc i) (suc j) u v e = ap suc (k i j u v e)
      at false k i j u v e = k i j u v e

  -- free records behind the row change nothing
  used-front : (l : List Nonce) (n i : ℕ) → is_used (nonce_at (l ++ replicate n no_nonce) i) ≡ true →
      nonce_at (l ++ replicate n no_nonce) i ≡ nonce_at l i
  used-front [] n i u = never (sym (ap is_used (get_d-free no_nonce n i)) ∙ u)
  used-front (x ∷ l) n zero u = refl
  used-front (x ∷ l) n (suc i) u = used-front l n i u

  apart-keep_only : (l : List Nonce) → Apart l → Apart (keep_only p no_nonce l)
  unfolding keep_only
  apart-keep_only l one i j u v e =
      let n = length l - length (keep p l) in
      let a = used-front (keep p l) n i u in
      let b = used-front (keep p l) n j v in
      apart-keep l one i j (ap is_used (sym a) ∙ u) (ap is_used (sym b) ∙ v)
      (ap value_of (sym a) ∙ (e ∙ ap value_of b))

pub nonces-later : (c c' : ℕ) → c ≤ c' → (l : List Nonce) → NoncesApart c l → NoncesApart c' (forget c' l)
unfolding forget
nonces-later c c' later l v = record {
  each = each-keep_only recent no_nonce (λ (e : Nonce). is_used e ≡ true → NonceHolds c' e) (λ u. never u) l
      (λ i _ _ u. let h = v.each i u in record { words = h.words; ahead = omega (arith, h.ahead); last = h.last });
  apart = apart-keep_only recent l v.apart;
}
  where
    recent : Nonce → Bool
    recent e = e.used && leb c' (e.timestamp + window)

-- ---- an accepted opening

apart-set : (l : List Nonce) (k : ℕ) (x : Nonce) → k < length l → Apart l →
    ((i : ℕ) → is_used (nonce_at l i) ≡ true → value_of (nonce_at l i) ≡ value_of x → ⊥) → Apart (set l k x)
apart-set l k x inside one new i j u v e = at (ℕ_discrete i k) (ℕ_discrete j k)
  where
    here : {m : ℕ} → m ≡ k → nonce_at (set l k x) m ≡ x
    here z = ap (nonce_at (set l k x)) z ∙ get_or-set_same l k x no_nonce inside

    there : {m : ℕ} → (m ≡ k → ⊥) → nonce_at (set l k x) m ≡ nonce_at l m
    there {m} z = get_or-set_other l k m x no_nonce z

    at : Dec (i ≡ k) → Dec (j ≡ k) → i ≡ j
    at (yes a) (yes b) = a ∙ sym b
    at (yes a) (no b) =
        absurd (new j (ap is_used (sym (there b)) ∙ v)
        (ap value_of (sym (there b)) ∙ (sym e ∙ ap value_of (here a))))
    at (no a) (yes b) =
        absurd (new i (ap is_used (sym (there a)) ∙ u)
        (ap value_of (sym (there a)) ∙ (e ∙ ap value_of (here b))))
    at (no a) (no b) =
        one i j (ap is_used (sym (there a)) ∙ u) (ap is_used (sym (there b)) ∙ v)
        (ap value_of (sym (there a)) ∙ (e ∙ ap value_of (there b)))

module _ (b : Bank) (q : Fields) (long : length b.nonces ≡ nonce_count) where
  -- a nonce that is not remembered is not in use
  unseen-apart : is_remembered (nonce q) b ≡ false → (i : ℕ) → is_used (nonce_at b.nonces i) ≡ true →
      value_of (nonce_at b.nonces i) ≡ nonce q → ⊥
  unfolding is_remembered
  unseen-apart unseen i u e =
      let test : Nonce → Bool = λ (x : Nonce). x.used && same_bits x.value (nonce q) in
      let h = ltb-false (first_of test b.nonces) nonce_count unseen in
      let k = used-inside b.nonces i u in
      let f : test (nonce_at b.nonces i) ≡ false = first-before test b.nonces no_nonce i (omega arith) in
      let same : same_bits (value_of (nonce_at b.nonces i)) (nonce q) ≡ true =
      ap (λ (v : Bits128). same_bits v (nonce q)) e ∙ same_bits_lem (nonce q) in
      never (sym f ∙ (ap (λ (t : Bool). t && same_bits (value_of (nonce_at b.nonces i)) (nonce q)) u ∙ same))
    where
      same_bits_lem : (v : Bits128) → same_bits v v ≡ true
      same_bits_lem v = rw (eq-eqb v.high v.high refl, eq-eqb v.low v.low refl)

  pub nonces-counted : is_remembered (nonce q) b ≡ false → free_nonce b < nonce_count →
      NonceHolds b.clock (record { used = true; value = nonce q; timestamp = timestamp q }) →
      NoncesApart b.clock b.nonces → NoncesApart b.clock (counted q b).nonces
  unfolding counted
  nonces-counted unseen room new v = record {
    each = each-set-all (λ (e : Nonce). is_used e ≡ true → NonceHolds b.clock e) b.nonces (free_nonce b)
        (record { used = true; value = nonce q; timestamp = timestamp q }) no_nonce (λ _. new) v.each;
    apart = apart-set b.nonces (free_nonce b) (record { used = true; value = nonce q; timestamp = timestamp q })
        (omega arith) v.apart (unseen-apart unseen);
  }
