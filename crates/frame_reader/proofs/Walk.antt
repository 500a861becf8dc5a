-- The walk over the tags: each is looked for behind those before it, so that one law of one tag more gives them all; and
-- where in the frame the data stand. Assumes nothing.
use Prim.Native.Nat.{ℕ, zero, suc, ◌+◌, ◌-◌, ◌*◌, ◌^◌, ◌≤◌, ◌<◌}
use mathlib.Core.List.{List, [], ◌∷◌, ◌++◌, append-nil}
use mathlib.Core.Bool.{Bool, true, false, cond}
use mathlib.Core.Logic.{◌⊎◌, inl, inr, ⊎_elim}
use mathlib.Core.Path.{◌≡◌, refl, sym, ap, ◌∙◌}
use native.Mathlib.Nat.{zero-add}
use native.Mathlib.Numerals.{add-one}
use native.Mathlib.Omega.{arith}
use lib.ListN.{length, take, drop, set, length-drop, replicate}
use lib.Seq.{set_at, append_snoc, drop-drop}
use lib.Dec.{eqb, leb}
use borrow.Author.Tests.{eqb-true, ne_eqb, leb-true}
use Rattle.octets.specs.Bytes.{number}
use Rattle.frame_table.specs.declared.fields.Fields.{Fields}
use Rattle.frame_table.specs.Table.{tag_count, data_tag, values_of, in_range}
use Rattle.frame_table.specs.Names.{no_fields}
use Rattle.frame_row.specs.Row.{
  listed,
  field_size,
  content,
  contents,
  behind,
  data_of,
  DataAt,
  present,
  present_tags,
  high_of,
  low_of,
  each_from,
}
use Rattle.frame_reader.specs.Reader.{said, with_field, FieldRead, fields_of}
use Rattle.octets.proofs.Tests.{and-true}
use Rattle.frame_table.proofs.Tags.{twice}
use Rattle.frame_row.proofs.Contents.{
  well-formed,
  Stands,
  size-cases,
  size-le,
  size-three,
  content-none,
  content-fit,
  present-content,
  turn,
  behind-next,
  contents-next,
  each_next,
  present-next,
  length-contents,
  length-each_from,
  high_of-nil,
  low_of-nil,
}

-- ---- one tag more

-- the numbers of the first t tags of s, and 0 for each of the others
abbrev numbers_to : (ℕ → List ℕ → ℕ) → ℕ → List ℕ → List ℕ
numbers_to g t s = each_from g 0 (contents t 0 s) ++ replicate (tag_count - t) 0

-- what the first t tags of s say
abbrev read_to : ℕ → List ℕ → Fields
read_to t s = said (present_tags (contents t 0 s)) (numbers_to high_of t s) (numbers_to low_of t s)

module _ (t : ℕ) (s : List ℕ) where
  abbrev rest : List ℕ
  rest = behind t 0 s

  behind_more : behind (t + 1) 0 s ≡ drop (field_size t rest) rest
  behind_more = rw (add-one t) (behind-next t 0 s ∙ ap (λ (n : ℕ). drop (field_size n rest) rest) (zero-add t))

  contents-more : contents (t + 1) 0 s ≡ contents t 0 s ++ (content t rest ∷ [])
  contents-more =
      rw (add-one t) (contents-next t 0 s ∙ ap (λ (n : ℕ). contents t 0 s ++ (content n rest ∷ [])) (zero-add t))

  tags-more : present_tags (contents (t + 1) 0 s) ≡ present_tags (contents t 0 s) + present (field_size t rest) * 2 ^ t
  tags-more =
      ap present_tags contents-more ∙ present-next (contents t 0 s) (content t rest)
      ∙ rw (length-contents t 0 s, present-content t rest)

  module _ (h : t < tag_count) (g : ℕ → List ℕ → ℕ) where
    abbrev zeros : List ℕ
    zeros = replicate (tag_count - (t + 1)) 0

    numbers_more : numbers_to g (t + 1) s ≡ each_from g 0 (contents t 0 s) ++ (g t (content t rest) ∷ zeros)
    numbers_more =
        ap (λ (r : List (List ℕ)). each_from g 0 r ++ zeros) contents-more
        ∙ rw (each_next g 0 (contents t 0 s) (content t rest), zero-add (length (contents t 0 s)), length-contents t 0 s)
        (append_snoc (each_from g 0 (contents t 0 s)) (g t (content t rest)) zeros)

    numbers-so-far : numbers_to g t s ≡ each_from g 0 (contents t 0 s) ++ (0 ∷ zeros)
    numbers-so-far = ap (λ (n : ℕ). each_from g 0 (contents t 0 s) ++ replicate n 0) (turn tag_count t h)

    numbers-set : set (numbers_to g t s) t (g t (content t rest)) ≡ numbers_to g (t + 1) s
    numbers-set =
        ap (λ (l : List ℕ). set l t (g t (content t rest))) numbers-so-far
        ∙ set_at (each_from g 0 (contents t 0 s)) 0 zeros (g t (content t rest)) t
        (length-each_from g 0 (contents t 0 s) ∙ length-contents t 0 s)
        ∙ sym numbers_more

    numbers-same : g t (content t rest) ≡ 0 → numbers_to g (t + 1) s ≡ numbers_to g t s
    numbers-same e = numbers_more ∙ rw e (sym numbers-so-far)

  module _ (h : t < tag_count) where
    more-at : (b : Bool) → eqb (field_size t rest) 0 ≡ b
        → cond b (read_to t s)
        (said (present_tags (contents t 0 s) + 2 ^ t) (set (numbers_to high_of t s) t (high_of t (content t rest)))
        (set (numbers_to low_of t s) t (low_of t (content t rest))))
        ≡ read_to (t + 1) s
    more-at true e =
        let z = content-none t rest (eqb-true (field_size t rest) 0 e) in
        let tags : present_tags (contents (t + 1) 0 s) ≡ present_tags (contents t 0 s) = tags-more ∙ rw e (omega arith) in
        let high = numbers-same h high_of (rw z (high_of-nil t (eqb t data_tag) refl)) in
        let low = numbers-same h low_of (rw z (low_of-nil t (eqb t data_tag) refl)) in
        rw (tags, high, low)
    more-at false e =
        let tags : present_tags (contents (t + 1) 0 s) ≡ present_tags (contents t 0 s) + 2 ^ t = tags-more ∙ rw e (omega arith) in
        rw (numbers-set h high_of, numbers-set h low_of, tags)

    read_more : with_field t rest (read_to t s) ≡ read_to (t + 1) s
    unfolding with_field
    read_more = more-at (eqb (field_size t rest) 0) refl

-- ---- one field

module _ (t : ℕ) (s : List ℕ) (tags : ℕ) (high low : List ℕ) (small : tags < 2 ^ t) where
  pub field-absent : field_size t s ≡ 0 → FieldRead t s (said tags high low) (said tags high low) s
  unfolding with_field
  field-absent e = record { fields = rw e; small = omega (arith, twice t); left = rw e }

  -- from what the calls on the field's n bytes promise
  pub field-present : (n b v w : ℕ) (more : List ℕ) → n ≡ field_size t s → (n ≡ 0 → ⊥) → b ≡ 2 ^ t
      → v ≡ high_of t (take (n - 3) (drop 3 s)) → w ≡ low_of t (take (n - 3) (drop 3 s)) → more ≡ drop n s
      → FieldRead t s (said tags high low) (said (tags + b) (set high t v) (set low t w)) more
  unfolding with_field content
  field-present n b v w more e z eb ev ew em =
      record {
        fields = rw (← e, ne_eqb n 0 z, eb, ev, ew);
        small = omega (arith, twice t);
        left = em ∙ ap (λ (i : ℕ). drop i s) e;
      }

-- ---- the walk

-- f is what the first t tags of s say, and rest what stands behind them
pub record Read (s : List ℕ) (t : ℕ) (f : Fields) (rest : List ℕ) : Type 0 where
  pub fields : f ≡ read_to t s
  pub left : rest ≡ behind t 0 s

pub read_next : {s : List ℕ} {t : ℕ} {f g : Fields} {rest more : List ℕ} → Read s t f rest → t < tag_count
    → FieldRead t rest f g more → Read s (t + 1) g more
read_next {s} {t} r h n =
    record {
      fields = n.fields ∙ rw (r.fields, r.left) (read_more t s h);
      left = n.left ∙ rw r.left (sym (behind_more t s));
    }

-- no field has tag 0, for which the table has no value
zero-absent : (s : List ℕ) → field_size 0 s ≡ 0
unfolding listed values_of in_range
zero-absent s =
    ⊎_elim (λ e. e)
    (λ (e : Stands 0 s).
    let a = and-true (leb 1 (number (content 0 s))) (leb (number (content 0 s)) 0)
    (well-formed 0 (content 0 s) (content-fit 0 s e)).bytes in
    absurd (omega (arith, leb-true 1 (number (content 0 s)) a.0, leb-true (number (content 0 s)) 0 a.1)))
    (size-cases 0 s)

pub read-start : (s : List ℕ) → Read s 1 no_fields s
unfolding contents behind present_tags each_from with_field
read-start s =
    let none : Read s 0 no_fields s = record { fields = refl; left = refl } in
    let zeros : List ℕ = replicate tag_count 0 in
    read_next none (omega arith) (field-absent 0 s 0 zeros zeros (omega arith) (zero-absent s))

read-first : {s : List ℕ} {f : Fields} → f ≡ no_fields → Read s 1 f s
read-first {s} e = let r = read-start s in record { fields = e ∙ r.fields; left = r.left }

-- the ten tags before the data, read one behind the other
pub read_to_data : {s : List ℕ} {f0 f1 f2 f3 f4 f5 f6 f7 f8 f9 f10 : Fields}
    {r1 r2 r3 r4 r5 r6 r7 r8 r9 r10 : List ℕ} → f0 ≡ no_fields
    → FieldRead 1 s f0 f1 r1
    → FieldRead 2 r1 f1 f2 r2
    → FieldRead 3 r2 f2 f3 r3
    → FieldRead 4 r3 f3 f4 r4
    → FieldRead 5 r4 f4 f5 r5
    → FieldRead 6 r5 f5 f6 r6
    → FieldRead 7 r6 f6 f7 r7
    → FieldRead 8 r7 f7 f8 r8
    → FieldRead 9 r8 f8 f9 r9
    → FieldRead 10 r9 f9 f10 r10
    → Read s data_tag f10 r10
read_to_data {s} e q1 q2 q3 q4 q5 q6 q7 q8 q9 q10 =
    let n1 = read-first e in
    let n2 = read_next n1 (omega arith) q1 in
    let n3 = read_next n2 (omega arith) q2 in
    let n4 = read_next n3 (omega arith) q3 in
    let n5 = read_next n4 (omega arith) q4 in
    let n6 = read_next n5 (omega arith) q5 in
    let n7 = read_next n6 (omega arith) q6 in
    let n8 = read_next n7 (omega arith) q7 in
    let n9 = read_next n8 (omega arith) q8 in
    let n10 = read_next n9 (omega arith) q9 in
    read_next n10 (omega arith) q10

pub read-end : {s : List ℕ} {f : Fields} {rest : List ℕ} → Read s tag_count f rest → f ≡ fields_of (contents tag_count 0 s)
unfolding fields_of
read-end {s} r =
    r.fields
    ∙ rw (append-nil (each_from high_of 0 (contents tag_count 0 s)), append-nil (each_from low_of 0 (contents tag_count 0 s)))

-- ---- the place of the data

-- r is what stands in s from a place on
abbrev Tail : List ℕ → List ℕ → Type 0
Tail s r = (length r ≤ length s) × (r ≡ drop (length s - length r) s)

tail-drop : (s r : List ℕ) (n : ℕ) → n ≤ length r → Tail s r → Tail s (drop n r)
tail-drop s r n h p =
    let m = length-drop n r in
    let k : length s - length r + n ≡ length s - length (drop n r) = omega (arith, p.0) in
    (omega (arith, p.0), ap (drop n) p.1 ∙ drop-drop n (length s - length r) s ∙ ap (λ (i : ℕ). drop i s) k)

tail-behind : (t : ℕ) (s : List ℕ) → Tail s (behind t 0 s)
unfolding behind
tail-behind zero s =
    let z : length s - length s ≡ 0 = omega arith in
    (omega arith, sym (ap (λ (n : ℕ). drop n s) z))
tail-behind (suc t) s =
    rw (behind-next t 0 s) (tail-drop s (behind t 0 s) _ (size-le (0 + t) (behind t 0 s)) (tail-behind t s))

-- a field of n bytes in s, or none, and where its content begins
module _ (s : List ℕ) (at n from : ℕ) (room : at + n ≤ length s) (begins : from ≡ at + n - (at + n - at - 3)) where
  abbrev Within : Type 0
  Within = (from ≤ at + n) × (at + n ≤ length s) × (take (at + n - from) (drop from s) ≡ take (n - 3) (drop 3 (drop at s)))

  within_none : n ≡ 0 → Within
  within_none z =
      let f : from ≡ at + n = omega arith in
      let k : at + n - from ≡ 0 = omega arith in
      let m : n - 3 ≡ 0 = omega arith in
      (omega arith, room, rw (k, m))

  within-some : 3 ≤ n → Within
  within-some h =
      let f : from ≡ at + 3 = omega arith in
      let k : at + n - from ≡ n - 3 = omega arith in
      (omega arith, room, rw (k, f, drop-drop 3 at s))

module _ {s : List ℕ} {f : Fields} {r : List ℕ} (p : Read s data_tag f r) where
  pub data-tail : Tail s r
  data-tail = rw p.left (tail-behind data_tag s)

  module _ {g : Fields} {more : List ℕ} (q : FieldRead data_tag r f g more) where
    abbrev at : ℕ
    at = length s - length r

    abbrev size : ℕ
    size = field_size data_tag r

    field_end : length s - length more ≡ at + size
    field_end = omega (arith, ap length q.left ∙ length-drop size r, size-le data_tag r, data-tail.0)

    pub end-within : length more ≤ length s
    end-within = omega (arith, ap length q.left ∙ length-drop size r, data-tail.0)

    pub end_after : (at ≡ length s - length more) ⊎ (at + 3 ≤ length s - length more)
    end_after =
        ⊎_elim (λ e. inl (omega (arith, field_end))) (λ e. inr (omega (arith, field_end))) (size-three data_tag r)

    -- the data stand behind the three bytes in front of the field's content
    pub data-stand : (from end : ℕ) → end ≡ length s - length more → from ≡ end - (end - at - 3) → DataAt s from end
    unfolding data_of content
    data-stand from end e b =
        let k : end ≡ at + size = e ∙ field_end in
        let room : at + size ≤ length s = omega (arith, size-le data_tag r, data-tail.0) in
        let begins : from ≡ at + size - (at + size - at - 3) = b ∙ ap (λ (x : ℕ). x - (x - at - 3)) k in
        let w = ⊎_elim (λ z. within_none s at size from room begins z) (λ z. within-some s at size from room begins z)
        (size-three data_tag r) in
        let d : take (size - 3) (drop 3 (drop at s)) ≡ data_of s =
        ap (λ (l : List ℕ). take (size - 3) (drop 3 l)) (sym data-tail.1) ∙ ap (content data_tag) p.left in
        rw k (w.0, w.1, w.2 ∙ d)
