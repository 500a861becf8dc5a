-- Laws of rows of numbers, for any width and any reading of a row. Assumes nothing.
use Prim.Native.Nat.{ℕ, zero, suc, ◌+◌, ◌-◌, ◌*◌, max, ◌≤◌, ◌<◌}
use mathlib.Core.Bool.{Bool, true, false, cond}
use mathlib.Core.List.{List, [], ◌∷◌, ◌++◌, append_assoc, append-nil}
use mathlib.Core.Path.{◌≡◌, refl, sym, ap, ◌∙◌}
use native.Mathlib.Nat.{zero-add, mul-zero, mul-suc, add_comm}
use native.Mathlib.Omega.{arith}
use lib.Dec.{ltb}
use borrow.Author.Tests.{ltb-true, ltb-false}
use lib.ListN.{length, get_or, take, drop, set, replicate, length-append, length-take, length-drop, length-replicate, get_or-replicate, take-append-drop, get_or-append}
use lib.Seq.{get_or-drop, drop-drop, drop-cons, drop_at, take-add, take-append-le, drop-append-le, take-append-add, drop-append-add, get_or-append-add, ext_get_or}
use Rattle.octets.specs.Bytes.{overwrite}
use Rattle.bank_state.specs.Rows.{keep}
use Rattle.bank_rows.specs.Rows.{rows_of, numbers_of, written}

-- ---- numbers written over others

pub set_after : (a b : List ℕ) (i x : ℕ) → set (a ++ b) (length a + i) x ≡ a ++ set b i x
set_after [] b i x = rw (zero-add i)
set_after (y ∷ a) b i x =
    let e : length (y ∷ a) + i ≡ suc (length a + i) = omega arith in
    ap (λ (k : ℕ). set (y ∷ (a ++ b)) k x) e ∙ ap (λ (r : List ℕ). y ∷ r) (set_after a b i x)

pub overwrite-after : (a b : List ℕ) (n k : ℕ) (xs : List ℕ) → length a ≡ n → overwrite (a ++ b) (n + k) xs ≡ a ++ overwrite b k xs
unfolding overwrite
overwrite-after a b n k xs e =
    let t : take (n + k) (a ++ b) ≡ a ++ take k b = ap (λ (m : ℕ). take (m + k) (a ++ b)) (sym e) ∙ take-append-add a b k in
    let i : n + k + length xs ≡ length a + (k + length xs) = omega arith in
    let d : drop (n + k + length xs) (a ++ b) ≡ drop (k + length xs) b =
    ap (λ (m : ℕ). drop m (a ++ b)) i ∙ drop-append-add a b (k + length xs) in
    rw (t, d) (append_assoc a (take k b) (xs ++ drop (k + length xs) b))

pub overwrite-within : (a b : List ℕ) (k : ℕ) (xs : List ℕ) → k + length xs ≤ length a → overwrite (a ++ b) k xs ≡ overwrite a k xs ++ b
unfolding overwrite
overwrite-within a b k xs h =
    let k≤ : k ≤ length a = omega arith in
    rw (take-append-le k a b k≤, drop-append-le (k + length xs) a b h) (simp append_assoc)

pub overwrite-front : (a b xs : List ℕ) → length xs ≡ length a → overwrite (a ++ b) 0 xs ≡ xs ++ b
unfolding overwrite
overwrite-front a b xs e = rw (zero-add (length xs), e, drop_at a b (length a) refl)

-- ---- the numbers of a row, listed

abbrev pub listed : ℕ → ℕ → List ℕ → List ℕ
listed zero k s = []
listed (suc n) k s = get_or s k 0 ∷ listed n (suc k) s

pub listed-take : (n k : ℕ) (s : List ℕ) → k + n ≤ length s → take n (drop k s) ≡ listed n k s
listed-take zero k s h = refl
listed-take (suc n) k s h =
    let e = listed-take n (suc k) s (omega arith) in
    rw (drop-cons s k 0 (omega arith), e)

pub take-listed : (n : ℕ) (s : List ℕ) → n ≤ length s → take n s ≡ listed n 0 s
take-listed n s h = listed-take n 0 s (omega arith)

-- ---- the numbers of some elements

module _ {A : Type 0} (g : A → List ℕ) where
  pub numbers-append : (a b : List A) → numbers_of g (a ++ b) ≡ numbers_of g a ++ numbers_of g b
  unfolding numbers_of
  numbers-append [] b = refl
  numbers-append (x ∷ a) b = rw (numbers-append a b) (sym (append_assoc (g x) (numbers_of g a) (numbers_of g b)))

  pub numbers-one : (x : A) → numbers_of g (x ∷ []) ≡ g x
  unfolding numbers_of
  numbers-one x = append-nil (g x)

  module _ (w : ℕ) (wide : (x : A) → length (g x) ≡ w) where
    pub length-numbers : (l : List A) → length (numbers_of g l) ≡ w * length l
    unfolding numbers_of
    length-numbers [] = sym (mul-zero w)
    length-numbers (x ∷ l) = simp length-append (omega (arith, length-numbers l, wide x, mul-suc w (length l)))

    -- an element set is its numbers written over
    pub numbers-set : (l : List A) (i : ℕ) (x : A) → i < length l → numbers_of g (set l i x) ≡ overwrite (numbers_of g l) (w * i) (g x)
    unfolding numbers_of
    numbers-set [] i x h = absurd (omega arith)
    numbers-set (y ∷ l) zero x h =
        let e : length (g x) ≡ length (g y) = wide x ∙ sym (wide y) in
        rw (mul-zero w) (sym (overwrite-front (g y) (numbers_of g l) (g x) e))
    numbers-set (y ∷ l) (suc i) x h =
        let m : w * suc i ≡ w + w * i = mul-suc w i ∙ add_comm (w * i) w in
        rw (m, overwrite-after (g y) (numbers_of g l) w (w * i) (g x) (wide y)) (ap (λ (r : List ℕ). g y ++ r) (numbers-set l i x (omega arith)))

-- ---- rows

module _ {A : Type 0} (w : ℕ) (f : List ℕ → A) where
  pub length-rows : (n : ℕ) (s : List ℕ) → length (rows_of w f n s) ≡ n
  unfolding rows_of
  length-rows zero s = refl
  length-rows (suc n) s = ap suc (length-rows n (drop w s))

  -- how far the rows after the first are from the front
  one_on : (i : ℕ) (s : List ℕ) → drop (w * i) (drop w s) ≡ drop (w * suc i) s
  one_on i s = drop-drop (w * i) w s ∙ ap (λ (k : ℕ). drop k s) (add_comm w (w * i) ∙ sym (mul-suc w i))

  -- row i
  pub rows_at : (n i : ℕ) (s : List ℕ) (d : A) → i < n → get_or (rows_of w f n s) i d ≡ f (drop (w * i) s)
  unfolding rows_of
  rows_at zero i s d h = absurd (omega arith)
  rows_at (suc n) zero s d h = rw (mul-zero w)
  rows_at (suc n) (suc i) s d h = rows_at n i (drop w s) d (omega arith) ∙ ap f (one_on i s)

  -- one row more
  pub rows_next : (n : ℕ) (s : List ℕ) → rows_of w f (suc n) s ≡ rows_of w f n s ++ (f (drop (w * n) s) ∷ [])
  unfolding rows_of
  rows_next zero s = rw (mul-zero w)
  rows_next (suc n) s =
      ap (λ (l : List A). f s ∷ l)
      (rows_next n (drop w s) ∙ ap (λ (t : List ℕ). rows_of w f n (drop w s) ++ (f t ∷ [])) (one_on n s))

  module _ (g : A → List ℕ) where
    -- rows that say what g says of them are its numbers
    pub numbers-rows : (n : ℕ) (s : List ℕ) → ((i : ℕ) → i < n → g (f (drop (w * i) s)) ≡ take w (drop (w * i) s))
        → numbers_of g (rows_of w f n s) ≡ take (w * n) s
    unfolding rows_of numbers_of
    numbers-rows zero s h = rw (mul-zero w)
    numbers-rows (suc n) s h =
        let e : g (f s) ≡ take w s = rw (mul-zero w) at (h 0 (omega arith)) in
        let r = numbers-rows n (drop w s) (λ i k. rw (one_on i s) (h (suc i) (omega arith))) in
        let m : w * suc n ≡ w + w * n = mul-suc w n ∙ add_comm (w * n) w in
        rw (e, r, m) (sym (take-add w (w * n) s))

    module _ (ok : A → Bool) (wide : (x : A) → length (g x) ≡ w) (back : (x : A) → ok x ≡ true → (r : List ℕ) → f (g x ++ r) ≡ x) where
      -- and the rows of its numbers are the elements
      pub rows-numbers : (l : List A) (r : List ℕ) → rows_of w f (length (keep ok l)) (numbers_of g (keep ok l) ++ r) ≡ keep ok l
      unfolding rows_of numbers_of keep
      rows-numbers [] r = refl
      rows-numbers (x ∷ l) r = at (ok x) refl (rows-numbers l r)
        where
          at : (t : Bool) → ok x ≡ t → rows_of w f (length (keep ok l)) (numbers_of g (keep ok l) ++ r) ≡ keep ok l
              → rows_of w f (length (cond t (x ∷ keep ok l) (keep ok l))) (numbers_of g (cond t (x ∷ keep ok l) (keep ok l)) ++ r)
              ≡ cond t (x ∷ keep ok l) (keep ok l)
          at true e later =
              let s : List ℕ = numbers_of g (keep ok l) ++ r in
              rw (append_assoc (g x) (numbers_of g (keep ok l)) r, back x e s, drop_at (g x) s w (wide x), later)
          at false e later = later

-- ---- what is freed is wiped

in-zeros : (m j : ℕ) (t : List ℕ) → j < m → get_or (replicate m 0 ++ t) j 0 ≡ 0
in-zeros m j t h =
    get_or-append (replicate m 0) t 0 j (simp length-replicate h) ∙ get_or-replicate m j 0 0 h

after-zeros : (m j : ℕ) (t : List ℕ) → get_or (replicate m 0 ++ t) (m + j) 0 ≡ get_or t j 0
after-zeros m j t =
    ap (λ (q : ℕ). get_or (replicate m 0 ++ t) (q + j) 0) (sym (length-replicate {A = ℕ} m 0)) ∙ get_or-append-add (replicate m 0) t j 0

module _ (n : ℕ) (ns area : List ℕ) where
  pub written-front : (i : ℕ) → i < length ns → get_or (written n ns area) i 0 ≡ get_or ns i 0
  unfolding written
  written-front i h = get_or-append ns _ 0 i h

  -- what stands after the numbers written
  after : ℕ → ℕ
  after j = get_or (replicate (n - length ns) 0 ++ drop (max n (length ns)) area) j 0

  written_after : (i : ℕ) → length ns ≤ i → get_or (written n ns area) i 0 ≡ after (i - length ns)
  unfolding written after
  written_after i h =
      let e : i ≡ length ns + (i - length ns) = omega arith in
      let r : List ℕ = replicate (n - length ns) 0 ++ drop (max n (length ns)) area in
      ap (λ (k : ℕ). get_or (ns ++ r) k 0) e ∙ get_or-append-add ns r (i - length ns) 0

  pub written-freed : (i : ℕ) → length ns ≤ i → i < n → get_or (written n ns area) i 0 ≡ 0
  unfolding after
  written-freed i h k =
      written_after i h ∙ in-zeros (n - length ns) (i - length ns) (drop (max n (length ns)) area) (omega arith)

  pub written-rest : (i : ℕ) → length ns ≤ i → n ≤ i → get_or (written n ns area) i 0 ≡ get_or area i 0
  unfolding after
  written-rest i h k =
      let e : i - length ns ≡ n - length ns + (i - max n (length ns)) = omega arith in
      let o : max n (length ns) + (i - max n (length ns)) ≡ i = omega arith in
      written_after i h ∙ ap after e ∙ after-zeros (n - length ns) (i - max n (length ns)) (drop (max n (length ns)) area)
      ∙ get_or-drop (max n (length ns)) area (i - max n (length ns)) 0 ∙ ap (λ (q : ℕ). get_or area q 0) o

  pub length-written : n ≤ length area → length ns ≤ length area → length (written n ns area) ≡ length area
  unfolding written
  length-written h k = simp (length-append, length-replicate, length-drop) (omega arith)

-- numbers that are there stay
pub written-own : (n : ℕ) (area : List ℕ) → n ≤ length area → written n (take n area) area ≡ area
unfolding written
written-own n area h =
    let e : length (take n area) ≡ n = simp length-take (omega arith) in
    let z : n - n ≡ 0 = omega arith in
    let m : max n n ≡ n = omega arith in
    rw (e, z, m) (take-append-drop n area)

-- what is written in full is written over
pub written_over : (n m : ℕ) (xs area : List ℕ) → n ≤ m + length xs → m + length xs ≤ length area → m ≤ n
    → written n (take m area ++ xs) area ≡ overwrite area m xs
unfolding written overwrite
written_over n m xs area h k l =
    let e : length (take m area ++ xs) ≡ m + length xs = simp (length-append, length-take) (omega arith) in
    let z : n - (m + length xs) ≡ 0 = omega arith in
    let q : max n (m + length xs) ≡ m + length xs = omega arith in
    rw (e, z, q) (append_assoc (take m area) xs (drop (m + length xs) area))

-- two writes are one: the first leaves no more than was in use, or the second no less than the first
module _ (n : ℕ) (ns ms area : List ℕ)
    (a : n ≤ length area) (b : length ns ≤ length area) (c : length ms ≤ length area) (d : length ns ≤ max n (length ms)) where
  abbrev first : List ℕ
  first = written n ns area

  twice-rest : (i : ℕ) (t : Bool) → ltb i n ≡ t → length ms ≤ i → length ns ≤ i → get_or first i 0 ≡ get_or (written n ms area) i 0
  twice-rest i true e h k =
      let l = ltb-true i n e in
      written-freed n ns area i k l ∙ sym (written-freed n ms area i h l)
  twice-rest i false e h k =
      let l = ltb-false i n e in
      written-rest n ns area i k l ∙ sym (written-rest n ms area i h l)

  twice-after : (i : ℕ) (t : Bool) → ltb i (length ns) ≡ t → length ms ≤ i
      → get_or (written (length ns) ms first) i 0 ≡ get_or (written n ms area) i 0
  twice-after i true e h =
      let l = ltb-true i (length ns) e in
      let k : i < n = omega arith in
      written-freed (length ns) ms first i h l ∙ sym (written-freed n ms area i h k)
  twice-after i false e h =
      let l = ltb-false i (length ns) e in
      written-rest (length ns) ms first i h l ∙ twice-rest i (ltb i n) refl h l

  twice-at : (i : ℕ) (t : Bool) → ltb i (length ms) ≡ t → get_or (written (length ns) ms first) i 0 ≡ get_or (written n ms area) i 0
  twice-at i true e =
      let l = ltb-true i (length ms) e in
      written-front (length ns) ms first i l ∙ sym (written-front n ms area i l)
  twice-at i false e = twice-after i (ltb i (length ns)) refl (ltb-false i (length ms) e)

  pub written_twice : written (length ns) ms first ≡ written n ms area
  written_twice =
      let l = length-written n ns area a b in
      ext_get_or 0 (written (length ns) ms first) (written n ms area)
      (length-written (length ns) ms first (omega arith) (omega arith) ∙ l ∙ sym (length-written n ms area a c))
      (λ i h. twice-at i (ltb i (length ms)) refl)
