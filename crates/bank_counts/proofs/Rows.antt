-- The transactions of the rows in use, for any rows: as many as such rows, each with its row, and apart where the rows
-- are.
use Prim.Native.Nat.{ℕ, zero, suc, ◌<◌}
use mathlib.Core.Bool.{Bool, true, false, cond}
use mathlib.Core.List.Memᴰ.{head as here}
use mathlib.Core.List.Memᴰ.{not-nil as in-none}
use mathlib.Core.List.Memᴰ.{tail as there}
use mathlib.Core.List.{
  List,
  [],
  ◌∷◌,
  map,
  Memᴰ as In,
}
use mathlib.Core.Path.{◌≡◌, refl, sym, ap, ◌∙◌}
use native.Mathlib.Omega.{arith}
use lib.ListN.{length, get_or, length-map}
use Rattle.frame_table.specs.declared.fields.Bits128.{Bits128}
use Rattle.bank_state.specs.Rows.{count_of, keep}
use Rattle.bank_counts.proofs.Laws.{length-keep, Apart, end, more}

module _ {A : Type 0} (is_used : A → Bool) (id : A → Bits128) (free : A) where
  abbrev pub ids : List A → List Bits128
  ids l = map id (keep is_used l)

  pub length_ids : (l : List A) → length (ids l) ≡ count_of is_used l
  length_ids l = length-map (keep is_used l) id ∙ length-keep is_used l

  -- a row in use has this transaction
  pub record HasRow (t : Bits128) (l : List A) : Type 0 where
    pub row : ℕ
    pub inside : row < length l
    pub used : is_used (get_or l row free) ≡ true
    pub same : id (get_or l row free) ≡ t

  later : {t : Bits128} {x : A} {l : List A} → HasRow t l → HasRow t (x ∷ l)
  later r = record { row = suc r.row; inside = omega arith; used = r.used; same = r.same }

  -- the row of such a transaction, and the transaction of such a row
  pub in_ids : {t : Bits128} (l : List A) → In t (ids l) → HasRow t l
  unfolding keep
  in_ids [] i = absurd (in-none i)
  in_ids {t} (x ∷ l) i = at (is_used x) refl i (in_ids l)
    where
      at : (b : Bool) → is_used x ≡ b → In t (map id (cond b (x ∷ keep is_used l) (keep is_used l))) →
          (In t (ids l) → HasRow t l) → HasRow t (x ∷ l)
      at true z (here e) f = record { row = 0; inside = omega arith; used = z; same = sym e }
      at true z (there j) f = later (f j)
      at false z j f = later (f j)

  pub ids-in : (l : List A) (i : ℕ) → i < length l → is_used (get_or l i free) ≡ true → In (id (get_or l i free)) (ids l)
  unfolding keep
  ids-in [] i b z = absurd (omega arith)
  ids-in (x ∷ l) zero b z = rw z (here refl)
  ids-in (x ∷ l) (suc i) b z = at (is_used x) (ids-in l i (omega arith) z)
    where
      at : (b : Bool) → In (id (get_or l i free)) (ids l) →
          In (id (get_or l i free)) (map id (cond b (x ∷ keep is_used l) (keep is_used l)))
      at true j = there j
      at false j = j

  pub ids-apart : (l : List A) →
      ((i j : ℕ) → i < length l → j < length l → is_used (get_or l i free) ≡ true → is_used (get_or l j free) ≡ true →
      (id (get_or l i free)).low ≡ (id (get_or l j free)).low → i ≡ j) →
      Apart (ids l)
  unfolding keep
  ids-apart [] one = end
  ids-apart (x ∷ l) one =
      at (is_used x) refl
      (ids-apart l (λ i j a b f g z. let y = one (suc i) (suc j) (omega arith) (omega arith) f g z in omega arith))
    where
      at : (b : Bool) → is_used x ≡ b → Apart (ids l) → Apart (map id (cond b (x ∷ keep is_used l) (keep is_used l)))
      at true z r = more clash r
        where
          clash : (u : Bits128) → In u (ids l) → u.low ≡ (id x).low → ⊥
          clash u i e =
              let k = in_ids l i in
              let y = one (suc k.row) zero (omega arith) (omega arith) k.used z
              (ap (λ (t : Bits128). t.low) k.same ∙ e) in
              omega arith
      at false z r = r
