-- Laws of a content, and of the field at the front of some bytes. Assumes nothing.
use Prim.Native.Nat.{ℕ, zero, suc, ◌+◌, ◌-◌, ◌*◌, ◌^◌, ◌≤◌, ◌<◌}
use mathlib.Core.List.{List, [], ◌∷◌, ◌++◌}
use mathlib.Core.Bool.{Bool, true, false, cond, ◌&&◌}
use mathlib.Core.Logic.{◌⊎◌, inl, inr, ⊎_elim}
use mathlib.Core.Path.{◌≡◌, refl, sym, ap, ◌∙◌}
use native.Mathlib.Nat.{add-zero, add-suc, suc-add, mul_assoc, pow-suc}
use native.Mathlib.Numerals.{add-one}
use native.Mathlib.Omega.{arith}
use lib.ListN.{length, get_or, take, drop, length-drop}
use borrow.Author.Tests.{leb-true, eqb-true, eqb-false, ne_eqb, eq-eqb, not-true}
use lib.Seq.{length-take-le}
use lib.Dec.{leb, eqb}
use Rattle.std.specs.List.{list_all}
use Rattle.octets.specs.Bytes.{field_bytes}
use Rattle.frame_table.specs.declared.table.Characters.{Characters}
use Rattle.frame_table.specs.declared.table.Values.{Values}
use Rattle.frame_table.specs.Table.{frame_limit, data_tag, width, values_of, allowed}
use Rattle.frame_row.specs.Row.{
  spelled,
  is_value,
  listed,
  well_formed,
  announced,
  stands,
  field_size,
  content,
  contents,
  behind,
  present,
  present_tags,
  high_of,
  low_of,
  each_from,
  piece,
}
use Rattle.octets.proofs.Tests.{and-true, or-true}
use Rattle.octets.proofs.Numbers.{number-nil, length-field_bytes}

-- ---- a content

pub spelled-all : (x : Characters) (c : List ℕ) → spelled x c ≡ list_all (allowed x) c
unfolding spelled
spelled-all x [] = refl
spelled-all x (b ∷ c) = ap (λ (r : Bool). allowed x b && r) (spelled-all x c)

-- in a list of any bytes is every content, in a range or a text those that are
pub listed-as : (t : ℕ) (c : List ℕ) (v : Values) → values_of t ≡ v → listed t c ≡ is_value v c
unfolding listed
listed-as t c v e = rw e

pub record WellFormed (t : ℕ) (c : List ℕ) : Type 0 where
  pub most : length c ≤ frame_limit
  pub some : 0 < length c
  pub fit : (width t ≡ 0 → ⊥) → length c ≡ width t
  pub bytes : listed t c ≡ true

pub well-formed : (t : ℕ) (c : List ℕ) → well_formed t c ≡ true → WellFormed t c
unfolding well_formed
well-formed t c h =
    let a = and-true _ _ h in
    let b = and-true _ _ a.0 in
    let e = and-true _ _ b.0 in
    record {
      most = leb-true (length c) frame_limit e.0;
      some = let n = eqb-false (length c) 0 (not-true _ e.1) in omega arith;
      fit = λ n. eqb-true (length c) (width t) (or-true _ _ (ne_eqb (width t) 0 n) b.1);
      bytes = a.1;
    }

-- ---- the number of no bytes

pub high_of-nil : (t : ℕ) (b : Bool) → eqb t data_tag ≡ b → high_of t [] ≡ 0
unfolding high_of
high_of-nil t true e = rw e
high_of-nil t false e = rw (e, number-nil)

pub low_of-nil : (t : ℕ) (b : Bool) → eqb t data_tag ≡ b → low_of t [] ≡ 0
unfolding low_of
low_of-nil t true e = rw e
low_of-nil t false e = rw (e, number-nil)

-- ---- the field at the front

pub record Stands (t : ℕ) (s : List ℕ) : Type 0 where
  pub room : announced s ≤ length s
  pub tag : get_or s 0 0 ≡ t
  pub fit : well_formed t (take (announced s - 3) (drop 3 s)) ≡ true
  pub is : field_size t s ≡ announced s

module _ (t : ℕ) (s : List ℕ) where
  size-at : (b : Bool) → stands t s ≡ b → (field_size t s ≡ 0) ⊎ Stands t s
  unfolding stands field_size
  size-at false e = inl (rw e)
  size-at true e =
      let tag : Bool = leb 3 (length s) && eqb (get_or s 0 0) t in
      let room : Bool = leb (announced s) (length s) in
      let a = and-true (tag && room) (well_formed t (take (announced s - 3) (drop 3 s))) e in
      let b = and-true tag room a.0 in
      let g = and-true (leb 3 (length s)) (eqb (get_or s 0 0) t) b.0 in
      inr (record { room = leb-true _ _ b.1; tag = eqb-true _ _ g.1; fit = a.1; is = rw e })

  -- no field t is at the front, or it stands there whole
  pub size-cases : (field_size t s ≡ 0) ⊎ Stands t s
  size-cases = size-at (stands t s) refl

  pub stood : (field_size t s ≡ 0 → ⊥) → Stands t s
  stood n = ⊎_elim (λ e. absurd (n e)) (λ e. e) size-cases

  pub size-le : field_size t s ≤ length s
  size-le = ⊎_elim (λ e. omega arith) (λ (e : Stands t s). omega (arith, e.is, e.room)) size-cases

  -- a field that stands has its three bytes in front
  pub size-three : (field_size t s ≡ 0) ⊎ (3 ≤ field_size t s)
  size-three = ⊎_elim (λ e. inl e) (λ (e : Stands t s). inr (omega (arith, e.is))) size-cases

  pub content-none : field_size t s ≡ 0 → content t s ≡ []
  unfolding content
  content-none e = rw e

  pub content-is : Stands t s → content t s ≡ take (announced s - 3) (drop 3 s)
  unfolding content
  content-is e = rw e.is

  pub content-fit : Stands t s → well_formed t (content t s) ≡ true
  content-fit e = rw (content-is e) e.fit

  pub content-some : Stands t s → length (content t s) ≡ 0 → ⊥
  content-some e z = let k = (well-formed t (content t s) (content-fit e)).some in omega arith

  pub content-long : Stands t s → length (content t s) ≡ announced s - 3
  content-long e =
      ap length (content-is e) ∙ length-take-le (announced s - 3) (drop 3 s) (simp length-drop (omega (arith, e.room)))

  -- a field that stands is as long as the table says
  pub content-fits : Stands t s → (width t ≡ 0 → ⊥) → length (content t s) ≡ width t
  content-fits e = (well-formed t (content t s) (content-fit e)).fit

  room_at : Stands t s → (b : Bool) → eqb (width t) 0 ≡ b → 3 + width t ≤ length s
  room_at e true q = let z = eqb-true (width t) 0 q in omega (arith, e.room)
  room_at e false q = omega (arith, e.room, content-long e, content-fits e (eqb-false (width t) 0 q))

  -- where another tag is at the front, or too few bytes, no field t stands
  pub none_other : (get_or s 0 0 ≡ t → ⊥) → field_size t s ≡ 0
  none_other n = ⊎_elim (λ e. e) (λ (e : Stands t s). absurd (n e.tag)) size-cases

  pub none-short : length s < 3 + width t → field_size t s ≡ 0
  none-short h =
      ⊎_elim (λ e. e) (λ (e : Stands t s). let k = room_at e (eqb (width t) 0) refl in absurd (omega arith)) size-cases

  pub present-content : present (length (content t s)) ≡ present (field_size t s)
  present-content =
      ⊎_elim (λ e. rw (content-none e, e))
      (λ (e : Stands t s). rw (ne_eqb (length (content t s)) 0 (content-some e), e.is, ne_eqb (announced s) 0 (λ z. omega arith)))
      size-cases

-- ---- the tags in turn

module _ (n t : ℕ) where
  pub turn : t < n → n - t ≡ suc (n - (t + 1))
  turn h = omega arith

  pub turn_end : n ≤ t → n - t ≡ 0
  turn_end h = omega arith

-- the tag after k of them is looked for behind them
pub behind-next : (k t : ℕ) (s : List ℕ) → behind (suc k) t s ≡ drop (field_size (t + k) (behind k t s)) (behind k t s)
unfolding behind
behind-next zero t s = rw (add-zero t)
behind-next (suc k) t s = rw (add-suc t k, ← suc-add t k, ← add-one t) (behind-next k (t + 1) (drop (field_size t s) s))

pub contents-next : (k t : ℕ) (s : List ℕ) → contents (suc k) t s ≡ contents k t s ++ (content (t + k) (behind k t s) ∷ [])
unfolding contents behind
contents-next zero t s = rw (add-zero t)
contents-next (suc k) t s =
    rw (add-suc t k, ← suc-add t k, ← add-one t)
    (ap (λ (r : List (List ℕ)). content t s ∷ r) (contents-next k (t + 1) (drop (field_size t s) s)))

pub length-contents : (k t : ℕ) (s : List ℕ) → length (contents k t s) ≡ k
unfolding contents
length-contents zero t s = refl
length-contents (suc k) t s = ap suc (length-contents k (t + 1) (drop (field_size t s) s))

pub each_next : (g : ℕ → List ℕ → ℕ) (t : ℕ) (r : List (List ℕ)) (c : List ℕ)
    → each_from g t (r ++ (c ∷ [])) ≡ each_from g t r ++ (g (t + length r) c ∷ [])
unfolding each_from
each_next g t [] c = rw (add-zero t)
each_next g t (x ∷ r) c =
    rw (add-suc t (length r), ← suc-add t (length r), ← add-one t) (ap (λ (l : List ℕ). g t x ∷ l) (each_next g (t + 1) r c))

pub length-each_from : (g : ℕ → List ℕ → ℕ) (t : ℕ) (r : List (List ℕ)) → length (each_from g t r) ≡ length r
unfolding each_from
length-each_from g t [] = refl
length-each_from g t (c ∷ r) = ap suc (length-each_from g (t + 1) r)

pub present-next : (r : List (List ℕ)) (c : List ℕ)
    → present_tags (r ++ (c ∷ [])) ≡ present_tags r + present (length c) * 2 ^ length r
unfolding present_tags
present-next [] c = omega arith
present-next (x ∷ r) c =
    let p : ℕ = present (length c) in
    let e : p * 2 ^ suc (length r) ≡ p * 2 ^ length r * 2 =
    ap (λ (n : ℕ). p * n) (pow-suc 2 (length r)) ∙ sym (mul_assoc p (2 ^ length r) 2) in
    omega (arith, present-next r c)

-- ---- a field's bytes

module _ (t : ℕ) (c : List ℕ) where
  pub piece-none : length c ≡ 0 → piece t c ≡ []
  unfolding piece
  piece-none e = rw (eq-eqb (length c) 0 e)

  pub piece-some : (length c ≡ 0 → ⊥) → piece t c ≡ field_bytes t c
  unfolding piece
  piece-some e = rw (ne_eqb (length c) 0 e)

  piece-at : (b : Bool) → length (cond b [] (field_bytes t c)) ≡ cond b 0 (3 + length c)
  piece-at true = refl
  piece-at false = length-field_bytes t c

  pub piece-length : length (piece t c) ≡ cond (eqb (length c) 0) 0 (3 + length c)
  unfolding piece
  piece-length = piece-at (eqb (length c) 0)

  bound_at : (b : Bool) → eqb (length c) 0 ≡ b → (length c ≤ cond b 0 (3 + length c)) × (cond b 0 (3 + length c) ≤ 3 + length c)
  bound_at true e = let z = eqb-true (length c) 0 e in (omega arith, omega arith)
  bound_at false e = (omega arith, omega arith)

  -- a piece is as long as its content, or three bytes longer at most
  pub piece-bound : (length c ≤ length (piece t c)) × (length (piece t c) ≤ 3 + length c)
  piece-bound = rw piece-length (bound_at (eqb (length c) 0) refl)
