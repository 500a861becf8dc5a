-- What the one test of a row tells; that a row is its line's; and the row and the store after a message is held, and
-- after one comes out. Assumes nothing.
use Prim.Native.Nat.{ℕ, zero, suc, ◌+◌, ◌-◌, ◌*◌, ◌≤◌, ◌<◌}
use mathlib.Core.Bool.{Bool, true, false, cond}
use mathlib.Core.List.{List, [], ◌∷◌, ◌++◌, map, map-append, append_assoc}
use mathlib.Core.Path.{◌≡◌, refl, sym, ap, ◌∙◌}
use native.Mathlib.Nat.{zero-add}
use native.Mathlib.Omega.{arith}
use lib.Dec.{eqb, ltb}
use lib.ListN.{length, get_or, take, drop, set, replicate, length-append, length-drop, take-append-drop, replicate-append-replicate}
use lib.Seq.{set_at, get_or-drop, get_or-take, length-take-le}
use borrow.Author.Tests.{eqb-true, eqb-false, ltb-true, leb-true, not-true, le-ltb}
use Rattle.octets.specs.Bytes.{overwrite}
use Rattle.octets.proofs.Tests.{and-true}
use Rattle.octets.proofs.Numbers.{overwrite-overwrite}
use Rattle.line.specs.Line.{Message, most_held, message_bytes, oldest, with_newest, without_oldest}
use Rattle.line.specs.Memory.{value_at, lengths_at, row_size, store_bytes, cut, total, count_of, line_of, row_of, store_of, length_limit, is_length, is_line, Laid}
use Rattle.line.proofs.Tests.{all-holds}
use Rattle.line.proofs.Lists.{
  total-append,
  total-zeros,
  total-most,
  zeros,
  joined-append,
  joined-one,
  length_cut,
  lengths-cut,
  joined-cut,
  overwrite-own,
}

-- ---- the test

above : (v : ℕ) → eqb v 0 ≡ false → 0 < v
above v e = let n = eqb-false v 0 e in omega arith

pub laid : (row : List ℕ) → is_line row ≡ true → Laid row
unfolding is_line
laid row h =
    let a = and-true _ _ h in
    let b = and-true _ _ a.1 in
    let d = and-true _ _ b.1 in
    let e = and-true _ _ d.1 in
    record {
      long = eqb-true _ _ a.0;
      live = above _ (not-true _ b.0);
      word = ltb-true _ _ d.0;
      most = leb-true _ _ e.0;
      lengths = λ i k. leb-true _ _ (all-holds (is_length row) most_held e.1 i k);
    }

limit-at : (t : Bool) → cond t message_bytes 0 ≤ message_bytes
limit-at true = omega arith
limit-at false = omega arith

limit-most : (n i : ℕ) → length_limit n i ≤ message_bytes
unfolding length_limit
limit-most n i = limit-at (ltb i n)

limit-none : (n i : ℕ) → n ≤ i → length_limit n i ≡ 0
unfolding length_limit
limit-none n i h = rw (le-ltb i n h)

pub length_most : (row : List ℕ) → Laid row → (i : ℕ) → i < most_held → get_or row (lengths_at + i) 0 ≤ message_bytes
length_most row l i h = omega (arith, l.lengths i h, limit-most (count_of row) i)

-- ---- a row of two numbers and eight lengths

module _ (v n : ℕ) (ks : List ℕ) (l : Laid (v ∷ n ∷ ks)) where
  abbrev row : List ℕ
  row = v ∷ n ∷ ks

  eight : length ks ≡ 8
  eight = omega (arith, l.long)

  few : n ≤ 8
  few = l.most

  at_length : (i : ℕ) → get_or ks i 0 ≡ get_or row (lengths_at + i) 0
  at_length i = get_or-drop lengths_at row i 0

  taken : length (take n ks) ≡ n
  taken = length-take-le n ks (omega (arith, eight, few))

  -- the lengths that are not in use are 0
  none_after : drop n ks ≡ replicate (8 - n) 0
  none_after =
      let d = length-drop n ks in
      zeros (drop n ks) (8 - n) (omega (arith, eight))
      (λ i h.
      let e = get_or-drop n ks i 0 in
      let f = at_length (n + i) in
      let g = l.lengths (n + i) (omega arith) in
      let o = limit-none n (n + i) (omega arith) in
      omega arith)

  pub all-total : total (take n ks) ≡ total ks
  all-total =
      let e : total ks ≡ total (take n ks) + total (drop n ks) =
      ap total (sym (take-append-drop n ks)) ∙ total-append (take n ks) (drop n ks) in
      let z : total (drop n ks) ≡ 0 = ap total none_after ∙ total-zeros (8 - n) in
      omega arith

  taken-most : total (take n ks) ≤ message_bytes * n
  taken-most =
      let m =
      total-most message_bytes (take n ks)
      (λ i h.
      let t = taken in
      let e = get_or-take n ks i 0 (omega arith) in
      let f = at_length i in
      let g = length_most row l i (omega (arith, few)) in
      omega arith) in
      omega (arith, taken)

  pub total-fits : n < most_held → total ks ≤ store_bytes - message_bytes
  total-fits h = omega (arith, all-total, taken-most)

  pub total-within : total ks ≤ store_bytes
  total-within = omega (arith, all-total, taken-most, few)

  module _ (s : List ℕ) (h : length s ≡ store_bytes) where
    enough : total (take n ks) ≤ length s
    enough = omega (arith, taken-most, few)

    count : length (cut (take n ks) s) ≡ n
    count = length_cut (take n ks) s ∙ taken

    lengths : map (λ (m : Message). length m) (cut (take n ks) s) ≡ take n ks
    lengths = lengths-cut (take n ks) s enough

    row_is : row_of (line_of row s) ≡ row
    unfolding row_of line_of
    row_is = rw (count, lengths, ← none_after, take-append-drop n ks)

    store_is : store_of (line_of row s) s ≡ s
    unfolding store_of line_of
    store_is = rw (joined-cut (take n ks) s) (overwrite-own s (total (take n ks)))

    -- a message is held
    module _ (m : Message) (k : n < most_held) where
      count-newest : length (cut (take n ks) s ++ (m ∷ [])) ≡ n + 1
      count-newest = length-append (cut (take n ks) s) (m ∷ []) ∙ ap (λ (i : ℕ). i + 1) count

      lengths-newest : map (λ (x : Message). length x) (cut (take n ks) s ++ (m ∷ [])) ≡ take n ks ++ (length m ∷ [])
      lengths-newest =
          map-append (λ (x : Message). length x) (cut (take n ks) s) (m ∷ [])
          ∙ ap (λ (l : List ℕ). l ++ (length m ∷ [])) lengths

      split : ks ≡ take n ks ++ (0 ∷ replicate (8 - (n + 1)) 0)
      split =
          let e : 8 - n ≡ suc (8 - (n + 1)) = omega arith in
          sym (take-append-drop n ks) ∙ ap (λ (r : List ℕ). take n ks ++ r) (none_after ∙ ap (λ (i : ℕ). replicate i 0) e)

      held-row : set (set row (lengths_at + n) (length m)) 1 (n + 1) ≡ row_of (with_newest m (line_of row s))
      unfolding row_of line_of
      held-row =
          let z : List ℕ = replicate (8 - (n + 1)) 0 in
          let e : length (v ∷ n ∷ take n ks) ≡ lengths_at + n = omega (arith, taken) in
          ap (λ (r : List ℕ). set (set (v ∷ n ∷ r) (lengths_at + n) (length m)) 1 (n + 1)) split
          ∙ ap (λ (r : List ℕ). set r 1 (n + 1)) (set_at (v ∷ n ∷ take n ks) 0 z (length m) (lengths_at + n) e)
          ∙ rw (count-newest, lengths-newest) (ap (λ (r : List ℕ). v ∷ (n + 1) ∷ r) (sym (append_assoc (take n ks) (length m ∷ []) z)))

      held-store : length m ≤ message_bytes → overwrite s (total ks) m ≡ store_of (with_newest m (line_of row s)) s
      unfolding store_of line_of
      held-store j =
          let t : ℕ = total (take n ks) in
          let f = total-fits k in
          let g = length-take-le t s enough in
          rw (joined-append (cut (take n ks) s) (m ∷ []), joined-one m, joined-cut (take n ks) s)
          (ap (λ (i : ℕ). overwrite s i m) (sym all-total ∙ sym (zero-add t))
          ∙ ap (λ (r : List ℕ). overwrite r (0 + t) m) (sym (overwrite-own s t))
          ∙ overwrite-overwrite s 0 t (take t s) m g (omega (arith, all-total)))

-- the message held longest comes out
module _ (v p k : ℕ) (ks s : List ℕ) (l : Laid (v ∷ suc p ∷ k ∷ ks)) (h : length s ≡ store_bytes) where
  seven : length ks ≡ 7
  seven = omega (arith, l.long)

  within : k + total ks ≤ store_bytes
  unfolding total
  within = total-within v (suc p) (k ∷ ks) l

  rest-total : total (take p ks) ≡ total ks
  unfolding total
  rest-total = omega (arith, all-total v (suc p) (k ∷ ks) l)

  rest-enough : total (take p ks) ≤ length (drop k s)
  rest-enough = omega (arith, rest-total, within, length-drop k s)

  rest-count : length (cut (take p ks) (drop k s)) ≡ p
  rest-count =
      length_cut (take p ks) (drop k s) ∙ length-take-le p ks (omega (arith, seven, l.most))

  released-row : v ∷ p ∷ (ks ++ (0 ∷ [])) ≡ row_of (without_oldest (line_of (v ∷ suc p ∷ k ∷ ks) s))
  unfolding row_of line_of cut
  released-row =
      let z : drop p ks ≡ replicate (8 - suc p) 0 = none_after v (suc p) (k ∷ ks) l in
      let n = l.most in
      let e : 8 - suc p + 1 ≡ 8 - p = omega arith in
      rw (rest-count, lengths-cut (take p ks) (drop k s) rest-enough)
      (ap (λ (r : List ℕ). v ∷ p ∷ r)
      (ap (λ (r : List ℕ). r ++ (0 ∷ [])) (sym (take-append-drop p ks) ∙ ap (λ (r : List ℕ). take p ks ++ r) z)
      ∙ append_assoc (take p ks) (replicate (8 - suc p) 0) (0 ∷ [])
      ∙ ap (λ (r : List ℕ). take p ks ++ r)
      (replicate-append-replicate (8 - suc p) 1 0 ∙ ap (λ (i : ℕ). replicate i 0) e)))

  released-store : overwrite s 0 (take (k + total ks - k) (drop k s)) ≡ store_of (without_oldest (line_of (v ∷ suc p ∷ k ∷ ks) s)) s
  unfolding store_of line_of cut
  released-store =
      let e : k + total ks - k ≡ total (take p ks) = omega (arith, rest-total) in
      rw (e, joined-cut (take p ks) (drop k s))

  first_fits : k ≤ message_bytes
  first_fits = length_most (v ∷ suc p ∷ k ∷ ks) l 0 (omega arith)

-- ---- the same of any row

pub two-first : (P : List ℕ → Type 0) → ((v n : ℕ) (ks : List ℕ) → P (v ∷ n ∷ ks)) → (row : List ℕ) → length row ≡ row_size → P row
two-first P f [] e = absurd (omega arith)
two-first P f (v ∷ []) e = absurd (omega arith)
two-first P f (v ∷ n ∷ ks) e = f v n ks

pub some-held : (P : List ℕ → Type 0) → ((v p k : ℕ) (ks : List ℕ) → P (v ∷ suc p ∷ k ∷ ks)) → (row : List ℕ)
    → length row ≡ row_size → 0 < count_of row → P row
some-held P f [] e h = absurd (omega arith)
some-held P f (v ∷ []) e h = absurd (omega arith)
some-held P f (v ∷ n ∷ []) e h = absurd (omega arith)
some-held P f (v ∷ zero ∷ k ∷ ks) e h = absurd (omega arith)
some-held P f (v ∷ suc p ∷ k ∷ ks) e h = f v p k ks

pub value-own : (row s : List ℕ) → (line_of row s).value ≡ get_or row value_at 0
unfolding line_of
value-own row s = refl

module _ (row : List ℕ) (l : Laid row) where
  pub held-within : total (drop lengths_at row) ≤ store_bytes
  held-within =
      two-first (λ (r : List ℕ). Laid r → total (drop lengths_at r) ≤ store_bytes) (λ v n ks. total-within v n ks) row l.long l

  pub held_fits : count_of row < most_held → total (drop lengths_at row) ≤ store_bytes - message_bytes
  held_fits =
      two-first (λ (r : List ℕ). Laid r → count_of r < most_held → total (drop lengths_at r) ≤ store_bytes - message_bytes)
      (λ v n ks. total-fits v n ks) row l.long l

  -- what stands first of the bytes held
  pub first-within : 0 < count_of row → (get_or row lengths_at 0 ≤ message_bytes) × (get_or row lengths_at 0 ≤ total (drop lengths_at row))
  unfolding total
  first-within k =
      some-held (λ (r : List ℕ). Laid r → (get_or r lengths_at 0 ≤ message_bytes) × (get_or r lengths_at 0 ≤ total (drop lengths_at r)))
      (λ v p n ks q. (length_most (v ∷ suc p ∷ n ∷ ks) q 0 (omega arith), omega arith)) row l.long k l

  module _ (s : List ℕ) (h : length s ≡ store_bytes) where
    pub row-own : row_of (line_of row s) ≡ row
    row-own = two-first (λ (r : List ℕ). Laid r → row_of (line_of r s) ≡ r) (λ v n ks q. row_is v n ks q s h) row l.long l

    pub store-own : store_of (line_of row s) s ≡ s
    store-own =
        two-first (λ (r : List ℕ). Laid r → store_of (line_of r s) s ≡ s) (λ v n ks q. store_is v n ks q s h) row l.long l

    pub count-own : length (line_of row s).held ≡ count_of row
    unfolding line_of
    count-own =
        two-first (λ (r : List ℕ). Laid r → length (line_of r s).held ≡ count_of r) (λ v n ks q. count v n ks q s h) row l.long l

    pub row-hold : (m : Message) → count_of row < most_held
        → set (set row (lengths_at + count_of row) (length m)) 1 (count_of row + 1) ≡ row_of (with_newest m (line_of row s))
    row-hold m k =
        two-first
        (λ (r : List ℕ). Laid r → count_of r < most_held
        → set (set r (lengths_at + count_of r) (length m)) 1 (count_of r + 1) ≡ row_of (with_newest m (line_of r s)))
        (λ v n ks q j. held-row v n ks q s h m j) row l.long l k

    pub store-hold : (m : Message) → count_of row < most_held → length m ≤ message_bytes
        → overwrite s (total (drop lengths_at row)) m ≡ store_of (with_newest m (line_of row s)) s
    store-hold m k =
        two-first
        (λ (r : List ℕ). Laid r → count_of r < most_held → length m ≤ message_bytes
        → overwrite s (total (drop lengths_at r)) m ≡ store_of (with_newest m (line_of r s)) s)
        (λ v n ks q j. held-store v n ks q s h m j) row l.long l k

    module _ (k : 0 < count_of row) where
      pub oldest-is : oldest (line_of row s) ≡ take (get_or row lengths_at 0) s
      unfolding line_of cut
      oldest-is =
          some-held (λ (r : List ℕ). oldest (line_of r s) ≡ take (get_or r lengths_at 0) s) (λ v p n ks. refl) row l.long k

      pub row-release : set (take lengths_at row ++ (drop (lengths_at + 1) row ++ (0 ∷ []))) 1 (count_of row - 1)
          ≡ row_of (without_oldest (line_of row s))
      row-release =
          some-held
          (λ (r : List ℕ). Laid r → set (take lengths_at r ++ (drop (lengths_at + 1) r ++ (0 ∷ []))) 1 (count_of r - 1)
          ≡ row_of (without_oldest (line_of r s)))
          (λ v p n ks q.
          let e : suc p - 1 ≡ p = omega arith in
          ap (λ (i : ℕ). v ∷ i ∷ (ks ++ (0 ∷ []))) e ∙ released-row v p n ks s q h)
          row l.long k l

      pub store-release : overwrite s 0 (take (total (drop lengths_at row) - get_or row lengths_at 0) (drop (get_or row lengths_at 0) s))
          ≡ store_of (without_oldest (line_of row s)) s
      unfolding total
      store-release =
          some-held
          (λ (r : List ℕ). Laid r
          → overwrite s 0 (take (total (drop lengths_at r) - get_or r lengths_at 0) (drop (get_or r lengths_at 0) s))
          ≡ store_of (without_oldest (line_of r s)) s)
          (λ v p n ks q. released-store v p n ks s q h) row l.long k l
