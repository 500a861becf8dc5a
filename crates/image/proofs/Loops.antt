-- What the loops of writing and of testing numbers keep, over any items. Assumes nothing.
use Prim.Native.Nat.{ℕ, zero, suc, ◌+◌, ◌^◌, ◌≤◌, ◌<◌}
use mathlib.Core.List.{List, [], ◌∷◌, ◌++◌}
use mathlib.Core.Bool.{Bool, true, false, ◌&&◌}
use mathlib.Core.Path.{◌≡◌, refl, sym, ap, ◌∙◌}
use native.Mathlib.Nat.{add-zero}
use native.Mathlib.Omega.{arith}
use lib.ListN.{length, get_or, drop}
use lib.Seq.{drop-drop, get_or-drop}
use lib.Dec.{ltb}
use Rattle.octets.specs.Bytes.{bytes_of, overwrite}
use Rattle.octets.proofs.Numbers.{length-bytes_of, length-overwrite, overwrite-overwrite, overwrite-nil}
use Rattle.image.specs.Items.{Item, constant, part, store, bytes_in, parts_in, stores_in}
use Rattle.image.specs.declared.walk.Entry.{Entry}
use Rattle.image.specs.declared.walk.Entry.TheVariants as entry
use Rattle.image.specs.Walk.{item_of}
use Rattle.image.specs.Image.{pack, fits, lengths}
use Rattle.image.proofs.Walking.{bytes-constant, bytes-part, bytes-store, parts-part, stores-store}
use Rattle.image.proofs.Lengths.{length-pack, size_below, size_is, sizes-behind}

pub first_of : (k : ℕ) (xs : List ℕ) → get_or (drop k xs) 0 0 ≡ get_or xs k 0
first_of k xs = get_or-drop k xs 0 0 ∙ ap (λ (n : ℕ). get_or xs n 0) (add-zero k)

first_store : (n : ℕ) (ss : List (List ℕ)) → get_or (drop n ss) 0 [] ≡ get_or ss n []
first_store n ss = get_or-drop n ss 0 [] ∙ ap (λ (k : ℕ). get_or ss k []) (add-zero n)

drop-lengths : (n : ℕ) (ss : List (List ℕ)) → drop n (lengths ss) ≡ lengths (drop n ss)
unfolding lengths
drop-lengths zero ss = refl
drop-lengths (suc n) [] = refl
drop-lengths (suc n) (s ∷ ss) = drop-lengths n ss

-- ---- writing

pub record Putting (r : List Item) (xs : List ℕ) (ss : List (List ℕ)) (out : List ℕ) (k n at size : ℕ) (goal : List ℕ) : Type 0 where
  pub room : k + parts_in r ≤ length xs
  pub sizes : stores_in r ≡ drop n (lengths ss)
  pub space : at + bytes_in r ≤ length out
  pub long : length out ≡ size
  pub bytes : goal ≡ overwrite out at (pack r (drop k xs) (drop n ss))

module _ {r : List Item} {xs : List ℕ} {ss : List (List ℕ)} {out : List ℕ} {k n at size : ℕ} {goal : List ℕ}
    (p : Putting r xs ss out k n at size goal) where
  -- some bytes written, and the rest behind them
  further : (l : List Item) (j m w : ℕ) (b more : List ℕ) → length b ≡ w → bytes_in r ≡ w + bytes_in l
      → j + parts_in l ≤ length xs → stores_in l ≡ drop m (lengths ss)
      → pack r (drop k xs) (drop n ss) ≡ b ++ pack l (drop j xs) (drop m ss) → more ≡ overwrite out at b
      → Putting l xs ss more j m (at + w) size goal
  further l j m w b more e f g h i q =
      let s = p.space in
      let d : length more ≡ length out = ap length q ∙ length-overwrite out at b (omega arith) in
      let z : length (pack l (drop j xs) (drop m ss)) ≡ bytes_in l =
      length-pack l (drop j xs) (drop m ss) (h ∙ drop-lengths m ss) in
      record {
        room = g;
        sizes = h;
        space = omega arith;
        long = d ∙ p.long;
        bytes = p.bytes ∙ ap (overwrite out at) i
            ∙ sym (rw q (overwrite-overwrite out at w b (pack l (drop j xs) (drop m ss)) e (omega arith)));
      }

  pub putting-constant : {w v : ℕ} {l : List Item} → constant w v ∷ l ≡ r → (more : List ℕ)
      → more ≡ overwrite out at (bytes_of w v)
      → Putting l xs ss more k n (at + w) size goal
  unfolding pack parts_in stores_in
  putting-constant {w} {v} {l} e more q =
      further l k n w (bytes_of w v) more (length-bytes_of w v) (bytes-constant e) (rw (← e) at p.room)
      (rw (← e) at p.sizes) (rw (← e)) q

  pub putting-part : {w : ℕ} {l : List Item} → part w ∷ l ≡ r → (more : List ℕ)
      → more ≡ overwrite out at (bytes_of w (get_or xs k 0))
      → Putting l xs ss more (k + 1) n (at + w) size goal
  unfolding pack stores_in
  putting-part {w} {l} e more q =
      further l (k + 1) n w (bytes_of w (get_or xs k 0)) more (length-bytes_of w (get_or xs k 0)) (bytes-part e)
      (omega (arith, p.room, parts-part e)) (rw (← e) at p.sizes) (rw (← e, first_of k xs, drop-drop 1 k xs)) q

  module _ {z : ℕ} {l : List Item} (e : store z ∷ l ≡ r) where
    next-sizes : z ∷ stores_in l ≡ drop n (lengths ss)
    next-sizes = sym (stores-store e) ∙ p.sizes

    pub putting-below : n < length ss
    putting-below = size_below ss n z (stores_in l) next-sizes

    pub putting-size : z ≡ length (get_or ss n [])
    putting-size = size_is ss n z (stores_in l) next-sizes

    pub putting-store : (more : List ℕ) → more ≡ overwrite out at (get_or ss n [])
        → Putting l xs ss more k (n + 1) (at + z) size goal
    unfolding pack parts_in
    putting-store more q =
        further l k (n + 1) z (get_or ss n []) more (sym putting-size) (bytes-store e) (rw (← e) at p.room)
        (sizes-behind ss n z (stores_in l) next-sizes) (rw (← e, first_store n ss, drop-drop 1 n ss)) q

  pub putting-end : [] ≡ r → out ≡ goal
  unfolding pack
  putting-end e =
      sym (p.bytes ∙ ap (λ (i : List Item). overwrite out at (pack i (drop k xs) (drop n ss))) (sym e)
      ∙ overwrite-nil out at)

-- ---- testing numbers

pub record Fitting (r : List Item) (xs : List ℕ) (k : ℕ) (goal : Bool) : Type 0 where
  pub room : k + parts_in r ≤ length xs
  pub same : goal ≡ fits r (drop k xs)

module _ {r : List Item} {xs : List ℕ} {k : ℕ} {goal : Bool} (p : Fitting r xs k goal) where
  pub fitting-constant : {w v : ℕ} {l : List Item} → constant w v ∷ l ≡ r → Fitting l xs k goal
  unfolding fits parts_in
  fitting-constant e =
      record { room = rw (← e) at p.room; same = p.same ∙ ap (λ (i : List Item). fits i (drop k xs)) (sym e) }

  pub fitting-store : {z : ℕ} {l : List Item} → store z ∷ l ≡ r → Fitting l xs k goal
  unfolding fits parts_in
  fitting-store e =
      record { room = rw (← e) at p.room; same = p.same ∙ ap (λ (i : List Item). fits i (drop k xs)) (sym e) }

  -- an entry that is no part
  pub fitting-other : {l : List Item} (e : Entry) → r ≡ item_of e ∷ l → ((w : ℕ) → e ≡ entry.Part w → ⊥) → Fitting l xs k goal
  fitting-other (entry.Head w v) s n = fitting-constant (sym s)
  fitting-other (entry.Part w) s n = absurd (n w refl)
  fitting-other (entry.Store z) s n = fitting-store (sym s)

  fits_next : {w : ℕ} {l : List Item} → part w ∷ l ≡ r
      → goal ≡ (ltb (get_or xs k 0) (256 ^ w) && fits l (drop (k + 1) xs))
  unfolding fits
  fits_next {w} {l} e =
      p.same ∙ ap (λ (i : List Item). fits i (drop k xs)) (sym e)
      ∙ ap (λ (x : ℕ). ltb x (256 ^ w) && fits l (drop 1 (drop k xs))) (first_of k xs)
      ∙ ap (λ (d : List ℕ). ltb (get_or xs k 0) (256 ^ w) && fits l d) (drop-drop 1 k xs)

  pub fitting-no : {w : ℕ} {l : List Item} → part w ∷ l ≡ r → ltb (get_or xs k 0) (256 ^ w) ≡ false → false ≡ goal
  fitting-no e q = sym (fits_next e ∙ rw q)

  pub fitting-part : {w : ℕ} {l : List Item} → part w ∷ l ≡ r → ltb (get_or xs k 0) (256 ^ w) ≡ true
      → Fitting l xs (k + 1) goal
  fitting-part e q = record { room = omega (arith, p.room, parts-part e); same = fits_next e ∙ rw q }

  pub fitting-end : [] ≡ r → true ≡ goal
  unfolding fits
  fitting-end e = sym (p.same ∙ ap (λ (i : List Item). fits i (drop k xs)) (sym e))
