-- Lengths of what is written and read, and the sizes of stores. Assumes nothing.
use Prim.Native.Nat.{ℕ, zero, suc, ◌+◌, ◌-◌, ◌≤◌, ◌<◌}
use mathlib.Core.List.{List, [], ◌∷◌}
use mathlib.Core.Path.{◌≡◌, refl, sym, ap, ◌∙◌}
use native.Mathlib.Nat.{add-zero}
use native.Mathlib.Omega.{arith}
use lib.ListN.{length, get_or, take, drop, length-append, length-drop, length-take}
use lib.Seq.{drop-drop, get_or-drop}
use Rattle.octets.specs.Bytes.{overwrite}
use Rattle.octets.proofs.Numbers.{length-bytes_of, overwrite-all}
use Rattle.image.specs.Items.{Item, constant, part, store, bytes_in, parts_in, stores_in, store_at}
use Rattle.image.specs.Image.{pack, numbers_of, stores_of, stores, lengths}

-- ---- sizes

pub length-lengths : (ss : List (List ℕ)) → length (lengths ss) ≡ length ss
unfolding lengths
length-lengths [] = refl
length-lengths (s ∷ ss) = ap suc (length-lengths ss)

pub lengths-at : (ss : List (List ℕ)) (n : ℕ) → get_or (lengths ss) n 0 ≡ length (get_or ss n [])
unfolding lengths
lengths-at [] n = refl
lengths-at (s ∷ ss) zero = refl
lengths-at (s ∷ ss) (suc n) = lengths-at ss n

pub no_lengths : (ss : List (List ℕ)) → [] ≡ lengths ss → ss ≡ []
unfolding lengths
no_lengths [] e = refl
no_lengths (s ∷ ss) e = absurd (let k = ap length e in omega arith)

-- the next store's size, and those behind it
module _ (ss : List (List ℕ)) (n z : ℕ) (l : List ℕ) (e : z ∷ l ≡ drop n (lengths ss)) where
  pub size_below : n < length ss
  size_below = omega (arith, simp length-drop at (ap length e), length-lengths ss)

  pub size_is : z ≡ length (get_or ss n [])
  size_is =
      ap (λ (k : List ℕ). get_or k 0 0) e ∙ get_or-drop n (lengths ss) 0 0
      ∙ ap (λ (m : ℕ). get_or (lengths ss) m 0) (add-zero n) ∙ lengths-at ss n

  pub sizes-behind : l ≡ drop (n + 1) (lengths ss)
  sizes-behind = ap (drop 1) e ∙ drop-drop 1 n (lengths ss)

-- the same at the front
pub first-size : (z : ℕ) (l : List ℕ) (ss : List (List ℕ)) → z ∷ l ≡ lengths ss
    → (length (get_or ss 0 []) ≡ z) × (l ≡ lengths (drop 1 ss)) × (ss ≡ get_or ss 0 [] ∷ drop 1 ss)
unfolding lengths
first-size z l [] e = absurd (let k = ap length e in omega arith)
first-size z l (s ∷ ss) e = (sym (ap (λ (k : List ℕ). get_or k 0 0) e), ap (drop 1) e, refl)

-- ---- lengths

pub length-pack : (l : List Item) (xs : List ℕ) (ss : List (List ℕ)) → stores_in l ≡ lengths ss
    → length (pack l xs ss) ≡ bytes_in l
unfolding pack bytes_in stores_in
length-pack [] xs ss e = refl
length-pack (constant w v ∷ l) xs ss e =
    simp length-append (omega (arith, length-bytes_of w v, length-pack l xs ss e))
length-pack (part w ∷ l) xs ss e =
    simp length-append (omega (arith, length-bytes_of w (get_or xs 0 0), length-pack l (drop 1 xs) ss e))
length-pack (store z ∷ l) xs ss e =
    let f = first-size z (stores_in l) ss e in
    simp length-append (omega (arith, f.0, length-pack l xs (drop 1 ss) f.1))

pub length-numbers_of : (l : List Item) (s : List ℕ) → length (numbers_of l s) ≡ parts_in l
unfolding numbers_of parts_in
length-numbers_of [] s = refl
length-numbers_of (constant w v ∷ l) s = length-numbers_of l (drop w s)
length-numbers_of (part w ∷ l) s = ap suc (length-numbers_of l (drop w s))
length-numbers_of (store z ∷ l) s = length-numbers_of l (drop z s)

pub lengths-stores_of : (l : List Item) (s : List ℕ) → bytes_in l ≤ length s → lengths (stores_of l s) ≡ stores_in l
unfolding stores_of stores_in bytes_in lengths
lengths-stores_of [] s h = refl
lengths-stores_of (constant w v ∷ l) s h = lengths-stores_of l (drop w s) (simp length-drop (omega arith))
lengths-stores_of (part w ∷ l) s h = lengths-stores_of l (drop w s) (simp length-drop (omega arith))
lengths-stores_of (store z ∷ l) s h =
    let e : length (take z s) ≡ z = simp length-take (omega arith) in
    rw (e, lengths-stores_of l (drop z s) (simp length-drop (omega arith)))

-- ---- the stores as parts of the bytes

pub length-stores_of : (l : List Item) (s : List ℕ) → length (stores_of l s) ≡ length (stores_in l)
unfolding stores_of stores_in
length-stores_of [] s = refl
length-stores_of (constant w v ∷ l) s = length-stores_of l (drop w s)
length-stores_of (part w ∷ l) s = length-stores_of l (drop w s)
length-stores_of (store z ∷ l) s = ap suc (length-stores_of l (drop z s))

pub store-part : (l : List Item) (s : List ℕ) (n : ℕ) → n < length (stores_in l)
    → get_or (stores_of l s) n [] ≡ take (get_or (stores_in l) n 0) (drop (store_at l n) s)
unfolding stores_of stores_in store_at
store-part [] s n h = absurd (omega arith)
store-part (constant w v ∷ l) s n h = store-part l (drop w s) n h ∙ rw (drop-drop (store_at l n) w s)
store-part (part w ∷ l) s n h = store-part l (drop w s) n h ∙ rw (drop-drop (store_at l n) w s)
store-part (store z ∷ l) s zero h = refl
store-part (store z ∷ l) s (suc n) h = store-part l (drop z s) n (omega arith) ∙ rw (drop-drop (store_at l n) z s)

pub store-within : (l : List Item) (n : ℕ) → n < length (stores_in l) → store_at l n + get_or (stores_in l) n 0 ≤ bytes_in l
unfolding stores_in store_at bytes_in
store-within [] n h = absurd (omega arith)
store-within (constant w v ∷ l) n h = omega (arith, store-within l n h)
store-within (part w ∷ l) n h = omega (arith, store-within l n h)
store-within (store z ∷ l) zero h = omega arith
store-within (store z ∷ l) (suc n) h = omega (arith, store-within l n (omega arith))

-- a list of two is its two elements
pub two-lists : (ss : List (List ℕ)) → length ss ≡ 2 → ss ≡ stores (get_or ss 0 []) (get_or ss 1 [])
two-lists [] e = absurd (omega arith)
two-lists (a ∷ []) e = absurd (omega arith)
two-lists (a ∷ b ∷ []) e = refl
two-lists (a ∷ b ∷ c ∷ ss) e = absurd (omega arith)

-- a whole store read from a place on
pub whole-read : (d s : List ℕ) (at : ℕ) (t : List ℕ) → at + length d ≤ length s
    → t ≡ overwrite d 0 (take (at + length d - at) (drop at s)) → t ≡ take (length d) (drop at s)
whole-read d s at t h e =
    let k : at + length d - at ≡ length d = omega arith in
    e ∙ rw k (overwrite-all d (take (length d) (drop at s)) (simp (length-take, length-drop) (omega arith)))
