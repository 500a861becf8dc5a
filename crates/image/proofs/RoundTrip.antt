-- Writing and reading undo each other, over any items. Assumes nothing.
use Prim.Native.Nat.{ℕ, zero, suc, ◌+◌, ◌/◌, ◌%◌, ◌^◌, ◌≤◌, ◌<◌}
use mathlib.Core.List.{List, [], ◌∷◌, ◌++◌, append_assoc}
use mathlib.Core.Bool.{true}
use mathlib.Core.Path.{◌≡◌, refl, sym, ap, ◌∙◌}
use native.Mathlib.Omega.{arith}
use lib.ListN.{length, get_or, take, drop, length-drop, length-take}
use lib.Seq.{take_at, take-add, drop_at}
use lib.Dec.{ltb, eqb}
use borrow.Author.Tests.{ltb-true, lt-ltb, eqb-true, eq-eqb}
use Rattle.octets.specs.Bytes.{Bytes, number, bytes_of}
use Rattle.octets.proofs.Tests.{and-true}
use Rattle.octets.proofs.Numbers.{length-bytes_of, number-bytes_of, bytes_drop, bytes_take, bytes_of-number, number_small}
use Rattle.image.specs.declared.table.Row.{Row}
use Rattle.image.specs.Table.{row_at}
use Rattle.image.specs.Items.{
  Item,
  constant,
  part,
  store,
  part_items,
  record_items,
  store_items,
  content_items,
  field_items,
  bytes_in,
  parts_in,
  stores_in,
}
use Rattle.image.specs.Image.{pack, numbers_of, stores_of, fits, constants_right, lengths}
use Rattle.image.proofs.Lengths.{first-size, no_lengths}
use Rattle.image.proofs.Reading.{row-head-small}

-- every constant is one of its length
unfoldable pub Small : List Item → Type 0
Small [] = Unit {0}
Small (constant w v ∷ l) = (v < 256 ^ w) × Small l
Small (part w ∷ l) = Small l
Small (store z ∷ l) = Small l

-- ---- what is written is read

module _ (w : ℕ) (b l t : List ℕ) (e : length b ≡ w) where
  front : take w ((b ++ l) ++ t) ≡ b
  front = ap (take w) (append_assoc b l t) ∙ take_at b (l ++ t) w e

  behind : drop w ((b ++ l) ++ t) ≡ l ++ t
  behind = ap (drop w) (append_assoc b l t) ∙ drop_at b (l ++ t) w e

pub constants-packed : (l : List Item) (xs : List ℕ) (ss : List (List ℕ)) (t : List ℕ) → stores_in l ≡ lengths ss → Small l
    → constants_right l (pack l xs ss ++ t) ≡ true
unfolding Small constants_right pack stores_in
constants-packed [] xs ss t e h = refl
constants-packed (constant w v ∷ l) xs ss t e h =
    let n = length-bytes_of w v in
    rw (front w (bytes_of w v) (pack l xs ss) t n, behind w (bytes_of w v) (pack l xs ss) t n, number-bytes_of w v h.0, eq-eqb v v refl)
    (constants-packed l xs ss t e h.1)
constants-packed (part w ∷ l) xs ss t e h =
    let x : ℕ = get_or xs 0 0 in
    rw (behind w (bytes_of w x) (pack l (drop 1 xs) ss) t (length-bytes_of w x)) (constants-packed l (drop 1 xs) ss t e h)
constants-packed (store z ∷ l) xs ss t e h =
    let f = first-size z (stores_in l) ss e in
    rw (behind z (get_or ss 0 []) (pack l xs (drop 1 ss)) t f.0) (constants-packed l xs (drop 1 ss) t f.1 h)

first-and-rest : (xs : List ℕ) (n : ℕ) → suc n ≤ length xs → get_or xs 0 0 ∷ take n (drop 1 xs) ≡ take (suc n) xs
first-and-rest [] n h = absurd (omega arith)
first-and-rest (x ∷ xs) n h = refl

pub numbers-packed : (l : List Item) (xs : List ℕ) (ss : List (List ℕ)) (t : List ℕ) → stores_in l ≡ lengths ss
    → fits l xs ≡ true → parts_in l ≤ length xs → numbers_of l (pack l xs ss ++ t) ≡ take (parts_in l) xs
unfolding fits numbers_of pack parts_in stores_in
numbers-packed [] xs ss t e h k = refl
numbers-packed (constant w v ∷ l) xs ss t e h k =
    rw (behind w (bytes_of w v) (pack l xs ss) t (length-bytes_of w v)) (numbers-packed l xs ss t e h k)
numbers-packed (part w ∷ l) xs ss t e h k =
    let x : ℕ = get_or xs 0 0 in
    let n = length-bytes_of w x in
    let r : List ℕ = pack l (drop 1 xs) ss in
    let a = and-true (ltb x (256 ^ w)) (fits l (drop 1 xs)) h in
    rw (
      front w (bytes_of w x) r t n,
      behind w (bytes_of w x) r t n,
      number-bytes_of w x (ltb-true x (256 ^ w) a.0),
      numbers-packed l (drop 1 xs) ss t e a.1 (simp length-drop (omega arith)),
    )
    (first-and-rest xs (parts_in l) (omega arith))
numbers-packed (store z ∷ l) xs ss t e h k =
    let f = first-size z (stores_in l) ss e in
    rw (behind z (get_or ss 0 []) (pack l xs (drop 1 ss)) t f.0) (numbers-packed l xs (drop 1 ss) t f.1 h k)

pub stores-packed : (l : List Item) (xs : List ℕ) (ss : List (List ℕ)) (t : List ℕ) → stores_in l ≡ lengths ss
    → stores_of l (pack l xs ss ++ t) ≡ ss
unfolding stores_of pack stores_in
stores-packed [] xs ss t e = sym (no_lengths ss e)
stores-packed (constant w v ∷ l) xs ss t e =
    rw (behind w (bytes_of w v) (pack l xs ss) t (length-bytes_of w v)) (stores-packed l xs ss t e)
stores-packed (part w ∷ l) xs ss t e =
    let x : ℕ = get_or xs 0 0 in
    rw (behind w (bytes_of w x) (pack l (drop 1 xs) ss) t (length-bytes_of w x)) (stores-packed l (drop 1 xs) ss t e)
stores-packed (store z ∷ l) xs ss t e =
    let f = first-size z (stores_in l) ss e in
    let b : List ℕ = get_or ss 0 [] in
    let r : List ℕ = pack l xs (drop 1 ss) in
    rw (front z b r t f.0, behind z b r t f.0, stores-packed l xs (drop 1 ss) t f.1) (sym f.2)

-- ---- what is read is written

module _ (w : ℕ) (s : List ℕ) (b : Bytes s) (h : w ≤ length s) where
  long : length (take w s) ≡ w
  long = simp length-take (omega arith)

  bytes_read : bytes_of w (number (take w s)) ≡ take w s
  bytes_read = bytes_of-number w (take w s) (bytes_take w s b) long

  number_fits : number (take w s) < 256 ^ w
  number_fits = number_small w (take w s) (bytes_take w s b) long

two-takes : (s : List ℕ) (w n : ℕ) → take w s ++ take n (drop w s) ≡ take (w + n) s
two-takes s w n = sym (take-add w n s)

pub read-packed : (l : List Item) (s : List ℕ) → Bytes s → bytes_in l ≤ length s → constants_right l s ≡ true
    → pack l (numbers_of l s) (stores_of l s) ≡ take (bytes_in l) s
unfolding constants_right pack numbers_of stores_of bytes_in
read-packed [] s b k h = refl
read-packed (constant w v ∷ l) s b k h =
    let a = and-true (eqb (number (take w s)) v) (constants_right l (drop w s)) h in
    let e : bytes_of w v ≡ take w s =
    ap (bytes_of w) (sym (eqb-true (number (take w s)) v a.0)) ∙ bytes_read w s b (omega arith) in
    rw (e, read-packed l (drop w s) (bytes_drop w s b) (simp length-drop (omega arith)) a.1) (two-takes s w (bytes_in l))
read-packed (part w ∷ l) s b k h =
    rw (bytes_read w s b (omega arith), read-packed l (drop w s) (bytes_drop w s b) (simp length-drop (omega arith)) h)
    (two-takes s w (bytes_in l))
read-packed (store z ∷ l) s b k h =
    rw (read-packed l (drop z s) (bytes_drop z s b) (simp length-drop (omega arith)) h) (two-takes s z (bytes_in l))

pub read_fits : (l : List Item) (s : List ℕ) → Bytes s → bytes_in l ≤ length s → fits l (numbers_of l s) ≡ true
unfolding fits numbers_of bytes_in
read_fits [] s b k = refl
read_fits (constant w v ∷ l) s b k = read_fits l (drop w s) (bytes_drop w s b) (simp length-drop (omega arith))
read_fits (part w ∷ l) s b k =
    rw (lt-ltb (number (take w s)) (256 ^ w) (number_fits w s b (omega arith)))
    (read_fits l (drop w s) (bytes_drop w s b) (simp length-drop (omega arith)))
read_fits (store z ∷ l) s b k = read_fits l (drop z s) (bytes_drop z s b) (simp length-drop (omega arith))

-- ---- the items of a table

small-append : (l m : List Item) → Small l → Small m → Small (l ++ m)
unfolding Small
small-append [] m h k = k
small-append (constant w v ∷ l) m h k = (h.0, small-append l m h.1 k)
small-append (part w ∷ l) m h k = small-append l m h k
small-append (store z ∷ l) m h k = small-append l m h k

small-parts : (n ws : ℕ) → Small (part_items n ws)
unfolding Small part_items
small-parts zero ws = tt
small-parts (suc n) ws = small-parts n (ws / 16)

small-records : (k more ws : ℕ) → Small (record_items k more ws)
unfolding Small record_items
small-records zero more ws = tt
small-records (suc k) more ws =
    small-append (part_items (suc more) ws) (record_items k more ws) (small-parts (suc more) ws) (small-records k more ws)

small-store : (z : ℕ) → Small (store_items z)
unfolding Small store_items
small-store zero = tt
small-store (suc z) = tt

small-content : (r : Row) → Small (content_items r)
unfolding content_items
small-content r =
    small-append (record_items r.records r.more r.widths) (store_items r.store)
    (small-records r.records r.more r.widths) (small-store r.store)

pub small-fields : (k i : ℕ) → Small (field_items k i)
unfolding Small field_items
small-fields zero i = tt
small-fields (suc k) i =
    (row-head-small i, small-append (content_items (row_at i)) (field_items k (i % 256 + 1)) (small-content (row_at i)) (small-fields k (i % 256 + 1)))
