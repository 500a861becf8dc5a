-- What the loops that keep rows keep, for any width and any test. Assumes nothing.
use Prim.Native.Nat.{ℕ, zero, suc, ◌+◌, ◌-◌, ◌*◌, max, ◌≤◌, ◌<◌}
use mathlib.Core.Bool.{Bool, true, false, cond}
use mathlib.Core.List.{List, [], ◌∷◌, ◌++◌, append_assoc, append-nil}
use mathlib.Core.Path.{◌≡◌, refl, sym, ap, ◌∙◌}
use native.Mathlib.Nat.{mul-zero, mul-suc, mul-le-mul_left}
use native.Mathlib.Numerals.{add-one}
use native.Mathlib.Omega.{arith}
use lib.ListN.{length, take, drop, replicate, length-append, length-drop, length-replicate, take-append-drop}
use lib.Seq.{drop-drop, take_at, length-take-le, paste}
use Rattle.octets.specs.Bytes.{overwrite}
use Rattle.octets.proofs.Numbers.{length-overwrite}
use Rattle.bank_state.specs.Rows.{keep}
use Rattle.bank_state.proofs.Rows.{keep_append}
use Rattle.bank_state.proofs.Stores.{overwrite-behind}
use Rattle.bank_rows.specs.Rows.{rows_of, numbers_of, written, KeptRows}
use Rattle.bank_rows.proofs.General.{length-numbers, numbers-append, numbers-one, rows_next}

-- numbers written over themselves
pub overwrite-own : (d : List ℕ) (at w : ℕ) → at + w ≤ length d → overwrite d at (take w (drop at d)) ≡ d
unfolding overwrite
overwrite-own d at w h =
    let m = length-drop at d in
    let n : length (take w (drop at d)) ≡ w = length-take-le w (drop at d) (omega arith) in
    rw (n, ← drop-drop w at d, take-append-drop w (drop at d), take-append-drop at d)

-- a copy within an area
pub overwrite-part : (d : List ℕ) (at : ℕ) (s : List ℕ) (n : ℕ) → n ≤ length s → paste d at s n ≡ overwrite d at (take n s)
unfolding overwrite
overwrite-part d at s n h = rw (length-take-le n s h) (append_assoc (take at d) (take n s) (drop (at + n) d))

module _ {A : Type 0} (w : ℕ) (f : List ℕ → A) (g : A → List ℕ) (p : A → Bool) (wide : (x : A) → length (g x) ≡ w)
    (row : (t : List ℕ) → w ≤ length t → g (f t) ≡ take w t) where
  -- of the first i rows of s those that pass, k of them, stand at the front of t
  pub record Keeping (s t : List ℕ) (n k i : ℕ) : Type 0 where
    pub most : i ≤ n
    pub fewer : k ≤ i
    pub long : length t ≡ length s
    pub rest : drop (w * i) t ≡ drop (w * i) s
    pub front : take (w * k) t ≡ numbers_of g (keep p (rows_of w f i s))
    pub count : length (keep p (rows_of w f i s)) ≡ k

  pub keeping_start : (s : List ℕ) (n : ℕ) → Keeping s s n 0 0
  unfolding rows_of keep numbers_of
  keeping_start s n = record { most = omega arith; fewer = omega arith; long = refl; rest = refl; front = rw (mul-zero w); count = refl }

  module _ (s t : List ℕ) (n k i : ℕ) (fits : w * n ≤ length s) (a : Keeping s t n k i) (h : i < n) where
    abbrev one : List ℕ
    one = drop (w * i) t

    abbrev before : List A
    before = keep p (rows_of w f i s)

    within : w * i + w ≤ length t
    within = omega (arith, mul-le-mul_left {m = suc i} {n = n} w (omega arith), mul-suc w i, a.long)

    -- one row more is passed
    next-rest : (u : List ℕ) → drop (w * i + w) u ≡ drop (w * i + w) t → drop (w * (i + 1)) u ≡ drop (w * (i + 1)) s
    next-rest u e =
        let m : w * (i + 1) ≡ w * i + w = ap (λ (j : ℕ). w * j) (add-one i) ∙ mul-suc w i in
        rw m (e ∙ sym (drop-drop w (w * i) t) ∙ ap (drop w) a.rest ∙ drop-drop w (w * i) s)

    next-kept : (b : Bool) → p (f one) ≡ b → keep p (rows_of w f (i + 1) s) ≡ before ++ cond b (f one ∷ []) []
    unfolding keep
    next-kept b e =
        ap (keep p) (ap (λ (j : ℕ). rows_of w f j s) (add-one i) ∙ rows_next w f i s)
        ∙ keep_append p (rows_of w f i s) (f (drop (w * i) s) ∷ []) ∙ rw (← a.rest, e)

    pub keeping_none : p (f one) ≡ false → Keeping s t n k (i + 1)
    keeping_none e =
        let kept : keep p (rows_of w f (i + 1) s) ≡ before = next-kept false e ∙ append-nil before in
        record {
          most = omega arith;
          fewer = omega (arith, a.fewer);
          long = a.long;
          rest = next-rest t refl;
          front = a.front ∙ ap (numbers_of g) (sym kept);
          count = ap length kept ∙ a.count;
        }

    wide-one : length (take w one) ≡ w
    wide-one = length-take-le w one (omega (arith, length-drop (w * i) t, within))

    -- the row is moved to the front
    pub keeping_moved : p (f one) ≡ true → Keeping s (overwrite t (w * k) (take w one)) n (k + 1) (i + 1)
    unfolding overwrite
    keeping_moved e =
        let le = mul-le-mul_left {m = k} {n = i} w a.fewer in
        let x : List ℕ = take w one in
        let in-t : w * k + length x ≤ length t = omega (arith, wide-one, within) in
        let kept : keep p (rows_of w f (i + 1) s) ≡ before ++ (f one ∷ []) = next-kept true e in
        let m : w * (k + 1) ≡ w * k + w = ap (λ (j : ℕ). w * j) (add-one k) ∙ mul-suc w k in
        let z : length (take (w * k) t ++ x) ≡ w * k + w =
        length-append (take (w * k) t) x ∙ ap (λ (j : ℕ). j + length x) (length-take-le (w * k) t (omega arith)) ∙ ap (λ (j : ℕ). w * k + j) wide-one in
        record {
          most = omega arith;
          fewer = omega (arith, a.fewer);
          long = length-overwrite t (w * k) x in-t ∙ a.long;
          rest = next-rest (overwrite t (w * k) x) (overwrite-behind t (w * k) x in-t (w * i + w) (omega (arith, wide-one)));
          front = ap (λ (j : ℕ). take j (overwrite t (w * k) x)) m
              ∙ ap (take (w * k + w)) (sym (append_assoc (take (w * k) t) x (drop (w * k + length x) t)))
              ∙ take_at (take (w * k) t ++ x) (drop (w * k + length x) t) (w * k + w) z
              ∙ rw (a.front, ← row one (omega (arith, length-drop (w * i) t, within)))
              (sym (ap (numbers_of g) kept ∙ numbers-append g before (f one ∷ []) ∙ ap (λ (r : List ℕ). numbers_of g before ++ r) (numbers-one g (f one))));
          count = ap length kept ∙ length-append before (f one ∷ []) ∙ ap (λ (j : ℕ). j + 1) a.count;
        }

    -- the row stands there already
    pub keeping-there : i ≤ k → p (f one) ≡ true → Keeping s t n (k + 1) (i + 1)
    keeping-there le e =
        let same : k ≡ i = omega (arith, a.fewer) in
        let own : overwrite t (w * k) (take w one) ≡ t =
        ap (λ (j : ℕ). overwrite t (w * j) (take w one)) same ∙ overwrite-own t (w * i) w within in
        rw own at (keeping_moved e)

  -- every row passed stays
  keeping_all : (s : List ℕ) (n k : ℕ) → w * n ≤ length s → k ≤ n → ((i : ℕ) → i < n → p (f (drop (w * i) s)) ≡ true)
      → Keeping s s n k k
  keeping_all s n zero fits h all = keeping_start s n
  keeping_all s n (suc k) fits h all =
      rw add-one at (keeping-there s s n k k fits (keeping_all s n k fits (omega arith) all) (omega arith) (omega arith) (all k (omega arith)))

  -- all rows are passed, and those after the front ones are wiped
  pub keeping-end : (s t u : List ℕ) (n k i : ℕ) → w * n ≤ length s → Keeping s t n k i → n ≤ i
      → u ≡ overwrite t (w * k) (replicate (w * n - w * k) 0) → KeptRows w f g p n k s u
  unfolding written overwrite
  keeping-end s t u n k i fits a h e =
      let same : i ≡ n = omega (arith, a.most) in
      let le = mul-le-mul_left {m = k} {n = n} w (omega (arith, a.fewer, a.most)) in
      let c : length (keep p (rows_of w f n s)) ≡ k = ap (λ (j : ℕ). length (keep p (rows_of w f j s))) (sym same) ∙ a.count in
      let ns : List ℕ = numbers_of g (keep p (rows_of w f n s)) in
      let m : length ns ≡ w * k = length-numbers g w wide (keep p (rows_of w f n s)) ∙ ap (λ (j : ℕ). w * j) c in
      let front : take (w * k) t ≡ ns = a.front ∙ ap (λ (j : ℕ). numbers_of g (keep p (rows_of w f j s))) same in
      let rest : drop (w * n) t ≡ drop (w * n) s = ap (λ (j : ℕ). drop (w * j) t) (sym same) ∙ a.rest ∙ ap (λ (j : ℕ). drop (w * j) s) same in
      let z : length (replicate {A = ℕ} (w * n - w * k) 0) ≡ w * n - w * k = length-replicate (w * n - w * k) 0 in
      let o : w * k + (w * n - w * k) ≡ w * n = omega arith in
      let q : max (w * n) (w * k) ≡ w * n = omega arith in
      record {
        count = sym c;
        is = e ∙ rw (front, z, o, rest, m, q);
      }

  -- every row stays, and nothing is wiped
  pub kept-all : (s : List ℕ) (n : ℕ) → w * n ≤ length s → ((i : ℕ) → i < n → p (f (drop (w * i) s)) ≡ true)
      → KeptRows w f g p n n s s
  kept-all s n fits all =
      let none : w * n - w * n ≡ 0 = omega arith in
      keeping-end s s s n n n fits (keeping_all s n n fits (omega arith) all) (omega arith)
      (rw none (sym (overwrite-own s (w * n) 0 (omega arith))))
