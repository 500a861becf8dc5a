-- Nonces: the conditions "nonce time" and "nonces distinct" are what a session's nonces may hold. Assumes nothing.
use Prim.Native.Nat.{ℕ, zero, suc, ◌+◌, ◌-◌, ◌≤◌, ◌<◌}
use mathlib.Core.Bool.{Bool, true, false, ◌&&◌}
use mathlib.Core.List.{List, [], ◌∷◌, ◌++◌}
use mathlib.Core.Path.{◌≡◌, refl, sym, ap, ◌∙◌, subst}
use native.Mathlib.Decide.{dec_lt}
use native.Mathlib.Omega.{arith}
use lib.Dec.{eqb, leb, ltb}
use lib.ListN.{length, get_or, take, drop, replicate, length-drop, length-replicate, take-append-drop, get_or-append}
use lib.Seq.{get_or-take, get_or-drop, get_or-append-add, length-take-le, ext_get_or}
use borrow.Author.Tests.{leb-true, le-leb, eqb-true, eq-eqb, ltb-true, ltb-false}
use Rattle.octets.proofs.Tests.{never, and-true}
use Rattle.frame_table.specs.declared.fields.Bits128.{Bits128}
use Rattle.frame_table.specs.Table.{last_time}
use Rattle.journal.specs.Row.{Journal}
use Rattle.bank_state.specs.Limits.{nonce_count, window}
use Rattle.bank_state.specs.State.{Bank, Nonce, no_nonce}
use Rattle.bank_rows.specs.State.{nonce_at}
use Rattle.bank_admitted.specs.Session.{Words, NoncesApart}
use Rattle.bank_admitted.specs.State.{AllRemembered, end, next, NoncesHold}
use Rattle.bank_admitted.proofs.Rows.{get_d-free}
use Rattle.image_records.specs.declared.layout.NonceRecord.{NonceRecord}
use Rattle.image_records.specs.Layout as image
use Rattle.image_records.specs.Records.{nonce_time}
use Rattle.image_conditions.specs.Conditions.{same_nonce, nonces_distinct, nonce_test, every_nonce}
use Rattle.image_records.proofs.Shapes.{every-at, every-from}
use Rattle.image_records.proofs.General.{distinct-at, distinct_from}
use Rattle.image_admitted.proofs.Shown.{nonce_parts, Shown, nonces-are, nonce-used}

-- ---- the test of one nonce

abbrev Timely : ℕ → ℕ → Type 0
Timely now t = (now ≤ t + window) × (t ≤ now + window) × (t ≤ last_time)

told : (now : ℕ) (r : NonceRecord) → nonce_time now r ≡ true → Timely now r.timestamp
told now r h =
    let a = and-true (leb now (r.timestamp + window)) _ h in
    let b = and-true (leb r.timestamp (now + window)) _ a.1 in
    let c = and-true (leb r.timestamp last_time) _ b.1 in
    (leb-true _ _ a.0, leb-true _ _ b.0, leb-true _ _ c.0)

tested : (now : ℕ) (r : NonceRecord) → Timely now r.timestamp → nonce_time now r ≡ true
tested now r h = rw (le-leb _ _ h.0, le-leb _ _ h.1, le-leb _ _ h.2)

-- ---- those remembered stand first

remembered-from : (clock : ℕ) (l : List Nonce)
    → ((i : ℕ) → i < length l → ((get_or l i no_nonce).used ≡ true) × (clock ≤ (get_or l i no_nonce).timestamp + window))
    → AllRemembered clock l
remembered-from clock [] f = end
remembered-from clock (e ∷ l) f =
    next (f 0 (omega arith)).0 (le-leb clock (e.timestamp + window) (f 0 (omega arith)).1)
    (remembered-from clock l (λ i h. f (suc i) (omega arith)))

remembered-at : {clock : ℕ} {l : List Nonce} → AllRemembered clock l → (i : ℕ) → i < length l
    → clock ≤ (get_or l i no_nonce).timestamp + window
remembered-at end i h = absurd (omega arith)
remembered-at {clock} (next {e = e} u t r) zero h = leb-true clock (e.timestamp + window) t
remembered-at (next u t r) (suc i) h = remembered-at r i (omega arith)

-- the free element from n on
free-from : (l : List Nonce) (n : ℕ) → n ≤ length l → ((i : ℕ) → n ≤ i → get_or l i no_nonce ≡ no_nonce)
    → l ≡ take n l ++ replicate (length l - n) no_nonce
free-from l n h f =
    sym (take-append-drop n l)
    ∙ ap (λ (r : List Nonce). take n l ++ r)
    (ext_get_or no_nonce (drop n l) (replicate (length l - n) no_nonce)
    (length-drop n l ∙ sym (length-replicate (length l - n) no_nonce))
    (λ i k. get_or-drop n l i no_nonce ∙ f (n + i) (omega arith) ∙ sym (get_d-free no_nonce (length l - n) i)))

module _ {xs : List ℕ} {b : Bank} {j : Journal} {d n : ℕ} (v : Shown xs b j d n) where
  -- ---- from the tests

  module _ (h : every_nonce xs ≡ true) where
    timely : (i : ℕ) → i < n → Timely b.clock (nonce_at b i).timestamp
    unfolding every_nonce nonce_test
    timely i k =
        let t = every-at (nonce_test xs) (image.nonces xs) i h (rw (nonces-are v) k) in
        told b.clock (nonce_parts (nonce_at b i)) (rw (v.clock, v.nonce i k) at t)

    pub nonces-hold : NoncesHold b.clock b.nonces
    nonces-hold =
        let l : List Nonce = b.nonces in
        let long = length-take-le n l (omega (arith, v.long_nonces, v.few_nonces)) in
        record {
          first = take n l;
          used = remembered-from b.clock (take n l)
              (λ i k.
              let at = get_or-take n l i no_nonce (omega arith) in
              rw at (v.used_nonce i (omega arith), (timely i (omega arith)).0));
          rows = rw (long, ← v.long_nonces) (free-from l n (omega (arith, v.long_nonces, v.few_nonces)) v.free_nonce);
        }

    module _ (apart : nonces_distinct xs ≡ true) (words : (i : ℕ) → i < n → Words (nonce_at b i).value) where
      two-apart : (i k : ℕ) → i < n → k < i → (nonce_at b i).value ≡ (nonce_at b k).value → ⊥
      unfolding nonces_distinct same_nonce
      two-apart i k below less e =
          let f = distinct-at (same_nonce xs) (image.nonces xs) apart i k (rw (nonces-are v) below) less in
          let high = ap (λ (x : Bits128). x.high) e in
          let low = ap (λ (x : Bits128). x.low) e in
          never (sym (rw (v.nonce i below, v.nonce k (omega arith)) at f)
          ∙ rw (eq-eqb _ _ high, eq-eqb _ _ low))

      pub nonces-apart : NoncesApart b.clock b.nonces
      nonces-apart = record {
        each = λ i u.
            let k = nonce-used v i u in
            record { words = words i k; ahead = (timely i k).1; last = (timely i k).2 };
        apart = λ i k u w e. order i k (nonce-used v i u) (nonce-used v k w) e (dec_lt i k) (dec_lt k i);
      }
        where
          order : (i k : ℕ) → i < n → k < n → (nonce_at b i).value ≡ (nonce_at b k).value → Dec (i < k) → Dec (k < i) → i ≡ k
          order i k p q e (yes r) t = absurd (two-apart k i q r (sym e))
          order i k p q e (no r) (yes t) = absurd (two-apart i k p t e)
          order i k p q e (no r) (no t) = omega arith

  -- ---- and to them

  module _ (a : NoncesApart b.clock b.nonces) (r : NoncesHold b.clock b.nonces) where
    in-first : (i : ℕ) → (nonce_at b i).used ≡ true → (t : Bool) → ltb i (length r.first) ≡ t → i < length r.first
    in-first i u true e = ltb-true i (length r.first) e
    in-first i u false e =
        let k = ltb-false i (length r.first) e in
        let m : ℕ = nonce_count - length r.first in
        let at : i ≡ length r.first + (i - length r.first) = omega arith in
        let free : nonce_at b i ≡ no_nonce =
        ap (λ (l : List Nonce). get_or l i no_nonce) r.rows
        ∙ ap (λ (q : ℕ). get_or (r.first ++ replicate m no_nonce) q no_nonce) at
        ∙ get_or-append-add r.first (replicate m no_nonce) (i - length r.first) no_nonce
        ∙ get_d-free no_nonce m (i - length r.first) in
        never (sym (ap (λ (x : Nonce). x.used) free) ∙ u)

    still : (i : ℕ) → i < n → b.clock ≤ (nonce_at b i).timestamp + window
    still i k =
        let h = in-first i (v.used_nonce i k) (ltb i (length r.first)) refl in
        let e : nonce_at b i ≡ get_or r.first i no_nonce =
        ap (λ (l : List Nonce). get_or l i no_nonce) r.rows ∙ get_or-append r.first _ no_nonce i h in
        subst (λ (x : Nonce). b.clock ≤ x.timestamp + window) (sym e) (remembered-at r.used i h)

    pub every-nonce : every_nonce xs ≡ true
    unfolding every_nonce nonce_test
    every-nonce =
        every-from (nonce_test xs) (image.nonces xs)
        (λ i h.
        let k : i < n = rw (nonces-are v) at h in
        let e = a.each i (v.used_nonce i k) in
        rw (v.clock, v.nonce i k) (tested b.clock (nonce_parts (nonce_at b i)) (still i k, e.ahead, e.last)))

    pub nonces-distinct : nonces_distinct xs ≡ true
    unfolding nonces_distinct same_nonce
    nonces-distinct =
        distinct_from (same_nonce xs) (image.nonces xs)
        (λ i k h less.
        let p : i < n = rw (nonces-are v) at h in
        let q : k < n = omega arith in
        rw (v.nonce i p, v.nonce k q) (differ i k p q less _ refl _ refl))
      where
        differ : (i k : ℕ) → i < n → k < n → k < i
            → (s : Bool) → eqb (nonce_at b i).value.high (nonce_at b k).value.high ≡ s
            → (t : Bool) → eqb (nonce_at b i).value.low (nonce_at b k).value.low ≡ t → (s && t) ≡ false
        differ i k p q less false e t f = refl
        differ i k p q less true e false f = refl
        differ i k p q less true e true f =
            let high = eqb-true _ _ e in
            let low = eqb-true _ _ f in
            let same : (nonce_at b i).value ≡ (nonce_at b k).value = λ z. record { high = high z; low = low z } in
            absurd (let z = a.apart i k (v.used_nonce i p) (v.used_nonce k q) same in omega arith)
