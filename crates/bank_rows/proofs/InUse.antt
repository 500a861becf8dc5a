-- Laws of rows in use at the front of an area: which are kept, and what is found among them. Assumes nothing.
use Prim.Native.Nat.{ℕ, zero, suc, ◌+◌, ◌-◌, ◌*◌, max, ◌≤◌, ◌<◌}
use mathlib.Core.Bool.{Bool, true, false, cond}
use mathlib.Core.List.{List, [], ◌∷◌, ◌++◌, append_assoc, append-nil}
use mathlib.Core.Path.{◌≡◌, refl, sym, ap, ◌∙◌}
use native.Mathlib.Nat.{zero-add, add-zero, suc-add}
use native.Mathlib.Omega.{arith}
use lib.ListN.{length, get_or, drop, set, replicate, length-append, length-set, length-replicate, get_or-append}
use lib.Seq.{drop_at, set_at, set-append_left, get_or-append-add}
use Rattle.bank_state.specs.Rows.{first_of, count_of, keep, keep_only}
use Rattle.bank_state.proofs.Rows.{keep_append, length-keep_only}
use Rattle.bank_state.proofs.Loops.{Searched, Counted}
use Rattle.bank_rows.specs.Rows.{rows_of, rows_in_use, numbers_of, written}
use Rattle.bank_rows.proofs.General.{length-rows, rows_at, length-numbers, rows-numbers, written_twice}

-- ---- the free element

module _ {A : Type 0} (p : A → Bool) (free : A) (no : p free ≡ false) where
  pub keep-free : (m : ℕ) → keep p (replicate m free) ≡ []
  unfolding keep
  keep-free zero = refl
  keep-free (suc m) = rw no (keep-free m)

  pub keep-then-free : (l : List A) (m : ℕ) → keep p (l ++ replicate m free) ≡ keep p l
  keep-then-free l m =
      keep_append p l (replicate m free) ∙ ap (λ (r : List A). keep p l ++ r) (keep-free m) ∙ append-nil (keep p l)

  first-free : (m : ℕ) → first_of p (replicate m free) ≡ m
  unfolding first_of
  first-free zero = refl
  first-free (suc m) = rw no (ap suc (first-free m))

  -- a search that passes all but free elements finds none
  pub searched-free : (l : List A) (m : ℕ) → Searched p (l ++ replicate m free) (length l) → first_of p (l ++ replicate m free) ≡ length l + m
  searched-free l m s =
      s.rest ∙ ap (λ (r : List A). length l + first_of p r) (drop_at l (replicate m free) (length l) refl)
      ∙ ap (λ (k : ℕ). length l + k) (first-free m)

  pub count-free : (m : ℕ) → count_of p (replicate m free) ≡ 0
  unfolding count_of
  count-free zero = refl
  count-free (suc m) = rw (no, count-free m)

  -- and a count that passes all but free elements is done
  pub counted-free : (l : List A) (m n : ℕ) → Counted p (l ++ replicate m free) n (length l) → n ≡ count_of p (l ++ replicate m free)
  counted-free l m n s =
      sym (s.rest ∙ ap (λ (r : List A). n + count_of p r) (drop_at l (replicate m free) (length l) refl)
      ∙ ap (λ (k : ℕ). n + k) (count-free m) ∙ add-zero n)

-- ---- what passes a stronger test

module _ {A : Type 0} (used p : A → Bool) (strong : (x : A) → p x ≡ true → used x ≡ true) where
  pub keep-keep : (l : List A) → keep used (keep p l) ≡ keep p l
  unfolding keep
  keep-keep [] = refl
  keep-keep (x ∷ l) = at (p x) refl (keep-keep l)
    where
      at : (t : Bool) → p x ≡ t → keep used (keep p l) ≡ keep p l → keep used (cond t (x ∷ keep p l) (keep p l)) ≡ cond t (x ∷ keep p l) (keep p l)
      at true e later = rw (strong x e, later)
      at false e later = later

  module _ (free : A) (no : used free ≡ false) where
    pub keep-keep_only : (l : List A) → keep used (keep_only p free l) ≡ keep p l
    unfolding keep_only
    keep-keep_only l = keep-then-free used free no (keep p l) (length l - length (keep p l)) ∙ keep-keep l

    -- the elements kept stand first
    pub keep_only-first : (l : List A) → keep_only used free (keep_only p free l) ≡ keep_only p free l
    unfolding keep_only
    keep_only-first l =
        let k = keep-keep_only l in
        let n = length-keep_only p free l in
        ap (λ (r : List A). r ++ replicate (length (keep_only p free l) - length r) free) k
        ∙ ap (λ (m : ℕ). keep p l ++ replicate (m - length (keep p l)) free) n

-- ---- elements in use that stand first

module _ {A : Type 0} (used : A → Bool) (free : A) (no : used free ≡ false) (x : A) (u : used x ≡ true) where
  pub keep-own : (l : List A) → keep used (keep used l) ≡ keep used l
  keep-own = keep-keep used used (λ y e. e)

  set-kept : (l : List A) (i : ℕ) → keep used (set (keep used l) i x) ≡ set (keep used l) i x
  unfolding keep
  set-kept [] i = refl
  set-kept (y ∷ l) i = at (used y) refl i (keep-own l) (set-kept l)
    where
      at : (t : Bool) → used y ≡ t → (i : ℕ) → keep used (keep used l) ≡ keep used l
          → ((j : ℕ) → keep used (set (keep used l) j x) ≡ set (keep used l) j x)
          → keep used (set (cond t (y ∷ keep used l) (keep used l)) i x) ≡ set (cond t (y ∷ keep used l) (keep used l)) i x
      at true e zero own later = rw (u, own)
      at true e (suc j) own later = rw (e, later j)
      at false e j own later = later j

  module _ (l : List A) (first : keep_only used free l ≡ l) where
    abbrev kept : List A
    kept = keep used l

    split-first : l ≡ kept ++ replicate (length l - length kept) free
    unfolding keep_only
    split-first = sym first

    -- one of them changed
    pub changed-first : (i : ℕ) → i < length kept → keep_only used free (set l i x) ≡ set l i x
    unfolding keep_only
    changed-first i h =
        let m : ℕ = length l - length kept in
        let e : set l i x ≡ set kept i x ++ replicate m free =
        ap (λ (r : List A). set r i x) split-first ∙ set-append_left kept (replicate m free) i x h in
        let k : keep used (set l i x) ≡ set kept i x =
        ap (keep used) e ∙ keep-then-free used free no (set kept i x) m ∙ set-kept l i in
        rw (k, length-set l i x, length-set kept i x) (sym e)

    -- one more
    pub added-first : length kept < length l → keep_only used free (set l (length kept) x) ≡ set l (length kept) x
    unfolding keep_only keep
    added-first h =
        let n : ℕ = length kept in
        let m : ℕ = length l - (n + 1) in
        let z : length l - n ≡ suc m = omega arith in
        let e : set l n x ≡ (kept ++ (x ∷ [])) ++ replicate m free =
        ap (λ (r : List A). set r n x) (split-first ∙ ap (λ (j : ℕ). kept ++ replicate j free) z)
        ∙ set_at kept free (replicate m free) x n refl ∙ sym (append_assoc kept (x ∷ []) (replicate m free)) in
        let k : keep used (set l n x) ≡ kept ++ (x ∷ []) =
        ap (keep used) e ∙ keep-then-free used free no (kept ++ (x ∷ [])) m ∙ keep_append used kept (x ∷ []) ∙ rw (keep-own l, keep-last) in
        let c : length (kept ++ (x ∷ [])) ≡ n + 1 = length-append kept (x ∷ []) in
        rw (k, length-set l n x, c) (sym e)
      where
        keep-last : keep used (x ∷ []) ≡ x ∷ []
        keep-last = rw u

-- ---- rows in use

module _ {A : Type 0} (w : ℕ) (f : List ℕ → A) (free : A) where
  pub length-in-use : (most n : ℕ) (s : List ℕ) → n ≤ most → length (rows_in_use w f free most n s) ≡ most
  unfolding rows_in_use
  length-in-use most n s h = simp (length-append, length-replicate, length-rows) (omega arith)

  -- row i of those in use
  pub in-use-at : (most n i : ℕ) (s : List ℕ) → i < n → get_or (rows_in_use w f free most n s) i free ≡ f (drop (w * i) s)
  unfolding rows_in_use
  in-use-at most n i s h =
      get_or-append (rows_of w f n s) _ free i (omega (arith, length-rows w f n s)) ∙ rows_at w f n i s free h

  free-beyond : (m j : ℕ) → get_or (replicate m free) j free ≡ free
  free-beyond zero j = refl
  free-beyond (suc m) zero = refl
  free-beyond (suc m) (suc j) = free-beyond m j

  -- and the free element after them
  pub free-at : (most n : ℕ) (s : List ℕ) (i : ℕ) → n ≤ i → get_or (rows_in_use w f free most n s) i free ≡ free
  unfolding rows_in_use
  free-at most n s i h =
      let k = length-rows w f n s in
      let e : i ≡ length (rows_of w f n s) + (i - n) = omega arith in
      ap (λ (j : ℕ). get_or (rows_of w f n s ++ replicate (most - n) free) j free) e
      ∙ get_or-append-add (rows_of w f n s) (replicate (most - n) free) (i - n) free ∙ free-beyond (most - n) (i - n)

  module _ (used : A → Bool) (yes : (s : List ℕ) → used (f s) ≡ true) (no : used free ≡ false) where
    pub keep-rows : (n : ℕ) (s : List ℕ) → keep used (rows_of w f n s) ≡ rows_of w f n s
    unfolding rows_of keep
    keep-rows zero s = refl
    keep-rows (suc n) s = rw (yes s, keep-rows n (drop w s))

    pub keep-in-use : (most n : ℕ) (s : List ℕ) → keep used (rows_in_use w f free most n s) ≡ rows_of w f n s
    unfolding rows_in_use
    keep-in-use most n s = keep-then-free used free no (rows_of w f n s) (most - n) ∙ keep-rows n s

    -- they stand first
    pub in-use-first : (most n : ℕ) (s : List ℕ) → n ≤ most → keep_only used free (rows_in_use w f free most n s) ≡ rows_in_use w f free most n s
    unfolding keep_only rows_in_use
    in-use-first most n s h =
        let k = keep-in-use most n s in
        let m : length (rows_of w f n s ++ replicate (most - n) free) ≡ most = length-in-use most n s h in
        rw (k, m, length-rows w f n s)

    module _ (x : A) (u : used x ≡ true) where
      keep_one : keep used (x ∷ []) ≡ x ∷ []
      unfolding keep
      keep_one = rw u

      -- a row more: the next one is set
      pub keep-added : (most n : ℕ) (s : List ℕ) → n < most → keep used (set (rows_in_use w f free most n s) n x) ≡ rows_of w f n s ++ (x ∷ [])
      unfolding rows_in_use
      keep-added most n s h =
          let e : most - n ≡ suc (most - suc n) = omega arith in
          let l : List A = rows_of w f n s in
          let z : List A = replicate (most - suc n) free in
          ap (λ (m : ℕ). keep used (set (l ++ replicate m free) n x)) e
          ∙ ap (keep used) (set_at l free z x n (length-rows w f n s))
          ∙ ap (keep used) (sym (append_assoc l (x ∷ []) z))
          ∙ keep-then-free used free no (l ++ (x ∷ [])) (most - suc n)
          ∙ keep_append used l (x ∷ []) ∙ rw (keep-rows n s, keep_one)

      keep-set : (n i : ℕ) (s : List ℕ) → keep used (set (rows_of w f n s) i x) ≡ set (rows_of w f n s) i x
      unfolding rows_of keep
      keep-set zero i s = refl
      keep-set (suc n) zero s = rw (u, keep-rows n (drop w s))
      keep-set (suc n) (suc i) s = rw (yes s, keep-set n i (drop w s))

      -- a row in use is set
      pub keep-changed : (most n i : ℕ) (s : List ℕ) → i < n → keep used (set (rows_in_use w f free most n s) i x) ≡ set (rows_of w f n s) i x
      unfolding rows_in_use
      keep-changed most n i s h =
          ap (keep used) (set-append_left (rows_of w f n s) _ i x (omega (arith, length-rows w f n s)))
          ∙ keep-then-free used free no (set (rows_of w f n s) i x) (most - n) ∙ keep-set n i s

-- ---- what is searched and counted among rows in use

module _ {A : Type 0} (w : ℕ) (f : List ℕ → A) (free : A) (p : A → Bool) (most n : ℕ) (s : List ℕ) (h : n ≤ most) where
  abbrev rows : List A
  rows = rows_in_use w f free most n s

  -- a search that passes the rows in use finds none where a free one does not pass
  pub none-in-use : p free ≡ false → Searched p rows n → most ≡ first_of p rows
  unfolding rows_in_use
  none-in-use fails d =
      let k = length-rows w f n s in
      let e : length (rows_of w f n s) + (most - n) ≡ most = omega arith in
      sym (searched-free p free fails (rows_of w f n s) (most - n) (rw k d) ∙ e)

  -- and a count that passes them is done
  pub all_in_use : p free ≡ false → (m : ℕ) → Counted p rows m n → m ≡ count_of p rows
  unfolding rows_in_use
  all_in_use fails m d =
      let k = length-rows w f n s in
      counted-free p free fails (rows_of w f n s) (most - n) m (rw k d)

module _ {A : Type 0} (w : ℕ) (f : List ℕ → A) (free : A) (p : A → Bool) where
  first_rows : ((s : List ℕ) → p (f s) ≡ false) → (n : ℕ) (s : List ℕ) (r : List A) → first_of p (rows_of w f n s ++ r) ≡ n + first_of p r
  unfolding rows_of first_of
  first_rows fails zero s r = sym (zero-add (first_of p r))
  first_rows fails (suc n) s r = rw (fails s, first_rows fails n (drop w s) r) (sym (suc-add n (first_of p r)))

  first-passing : p free ≡ true → (m : ℕ) → first_of p (replicate m free) ≡ 0
  unfolding first_of
  first-passing passes zero = refl
  first-passing passes (suc m) = rw passes

  -- the first free one stands after the rows in use
  pub first-after : ((s : List ℕ) → p (f s) ≡ false) → p free ≡ true → (most n : ℕ) (s : List ℕ) → first_of p (rows_in_use w f free most n s) ≡ n
  unfolding rows_in_use
  first-after fails passes most n s =
      first_rows fails n s (replicate (most - n) free) ∙ rw (first-passing passes (most - n), add-zero n)

  count-rows : ((s : List ℕ) → p (f s) ≡ true) → (n : ℕ) (s : List ℕ) (r : List A) → count_of p (rows_of w f n s ++ r) ≡ n + count_of p r
  unfolding rows_of count_of
  count-rows passes zero s r = sym (zero-add (count_of p r))
  count-rows passes (suc n) s r = rw (passes s, count-rows passes n (drop w s) r) (omega arith)

  -- as many as the rows in use
  pub count-in-use : ((s : List ℕ) → p (f s) ≡ true) → p free ≡ false → (most n : ℕ) (s : List ℕ) → count_of p (rows_in_use w f free most n s) ≡ n
  unfolding rows_in_use
  count-in-use passes fails most n s =
      count-rows passes n s (replicate (most - n) free) ∙ rw (count-free p free fails (most - n), add-zero n)

-- ---- rows of the elements in use

pub keep-true : {A : Type 0} (l : List A) → keep (λ (x : A). true) l ≡ l
unfolding keep
keep-true [] = refl
keep-true (x ∷ l) = rw (keep-true l)

module _ {A : Type 0} (w : ℕ) (f : List ℕ → A) (g : A → List ℕ) (used : A → Bool) (wide : (x : A) → length (g x) ≡ w)
    (back : (x : A) → used x ≡ true → (r : List ℕ) → f (g x ++ r) ≡ x) where
  -- elements in use that stand first, read back from their numbers
  pub in-use-back : (free : A) (l : List A) (most : ℕ) (r : List ℕ) → length l ≡ most → keep_only used free l ≡ l
      → rows_in_use w f free most (length (keep used l)) (numbers_of g (keep used l) ++ r) ≡ l
  unfolding rows_in_use keep_only
  in-use-back free l most r e first =
      let k : ℕ = length (keep used l) in
      ap (λ (t : List A). t ++ replicate (most - k) free) (rows-numbers w f g used wide back l r)
      ∙ ap (λ (m : ℕ). keep used l ++ replicate (m - k) free) (sym e) ∙ first

  -- two writes of rows are one
  pub rows-twice : (l m : List A) (c : ℕ) (area : List ℕ) → w * c ≤ length area → w * length l ≤ length area → w * length m ≤ length area
      → w * length l ≤ max (w * c) (w * length m)
      → written (w * length l) (numbers_of g m) (written (w * c) (numbers_of g l) area) ≡ written (w * c) (numbers_of g m) area
  rows-twice l m c area x y z d =
      let nl = length-numbers g w wide l in
      let nm = length-numbers g w wide m in
      ap (λ (k : ℕ). written k (numbers_of g m) (written (w * c) (numbers_of g l) area)) (sym nl)
      ∙ written_twice (w * c) (numbers_of g l) (numbers_of g m) area x (omega arith) (omega arith) (omega arith)
