-- What the loops of reading and of testing heads keep, and what the table's rows say of themselves. Assumes nothing.
use Prim.Native.Nat.{ℕ, zero, suc, ◌+◌, ◌-◌, ◌/◌, ◌%◌, ◌^◌, ◌≤◌, ◌<◌}
use mathlib.Core.List.{List, [], ◌∷◌, ◌++◌, append_assoc}
use mathlib.Core.Bool.{Bool, true, false, ◌&&◌}
use mathlib.Core.Path.{◌≡◌, refl, sym, ap, ◌∙◌}
use native.Mathlib.Nat.{add-zero}
use native.Mathlib.Omega.{arith}
use lib.ListN.{length, get_or, take, drop, set, length-set, get_or-eq_default}
use lib.Seq.{drop-drop}
use lib.Dec.{ltb, leb, eqb}
use borrow.Author.Tests.{eqb-true, ltb-true, ltb-false, leb-true}
use Rattle.octets.specs.Bytes.{number, overwrite}
use Rattle.octets.proofs.Tests.{and-true, every, every-below}
use Rattle.octets.proofs.Numbers.{overwrite-nil, overwrite-set}
use Rattle.image.specs.declared.table.Row.{Row}
use Rattle.image.specs.Table.{row_at, image_fields, no_row}
use Rattle.image.specs.Items.{
  Item,
  constant,
  part,
  store,
  part_items,
  record_items,
  store_items,
  content_items,
  field_items,
  bytes_in,
  parts_in,
}
use Rattle.image.specs.Image.{numbers_of, constants_right}
use Rattle.image.proofs.Walking.{bytes-constant, bytes-part, bytes-store, parts-part}

-- ---- reading

pub record Taking (r : List Item) (s out : List ℕ) (at k size : ℕ) (goal : List ℕ) : Type 0 where
  pub room : at + bytes_in r ≤ length s
  pub space : k + parts_in r ≤ length out
  pub long : length out ≡ size
  pub numbers : goal ≡ overwrite out k (numbers_of r (drop at s))

module _ {r : List Item} {s out : List ℕ} {at k size : ℕ} {goal : List ℕ} (p : Taking r s out at k size goal) where
  pub taking-constant : {w v : ℕ} {l : List Item} → constant w v ∷ l ≡ r → Taking l s out (at + w) k size goal
  unfolding numbers_of parts_in
  taking-constant {w} {v} {l} e = record {
    room = omega (arith, p.room, bytes-constant e);
    space = rw (← e) at p.space;
    long = p.long;
    numbers = p.numbers ∙ rw (← e, drop-drop w at s);
  }

  pub taking-part : {w : ℕ} {l : List Item} → part w ∷ l ≡ r → (x : ℕ) → x ≡ number (take w (drop at s))
      → Taking l s (set out k x) (at + w) (k + 1) size goal
  unfolding numbers_of
  taking-part {w} {l} e x q = record {
    room = omega (arith, p.room, bytes-part e);
    space = simp length-set (omega (arith, p.space, parts-part e));
    long = length-set out k x ∙ p.long;
    numbers = p.numbers ∙ rw (← e, drop-drop w at s, ← q)
        (sym (overwrite-set out k x (numbers_of l (drop (at + w) s)) (omega (arith, p.space, parts-part e))));
  }

  pub taking-store : {z : ℕ} {l : List Item} → store z ∷ l ≡ r → Taking l s out (at + z) k size goal
  unfolding numbers_of parts_in
  taking-store {z} {l} e = record {
    room = omega (arith, p.room, bytes-store e);
    space = rw (← e) at p.space;
    long = p.long;
    numbers = p.numbers ∙ rw (← e, drop-drop z at s);
  }

  pub taking-end : [] ≡ r → out ≡ goal
  unfolding numbers_of
  taking-end e = sym (p.numbers ∙ rw (← e) (overwrite-nil out k))

-- ---- testing heads

pub record Heading (r : List Item) (s : List ℕ) (at : ℕ) (goal : Bool) : Type 0 where
  pub room : at + bytes_in r ≤ length s
  pub same : goal ≡ constants_right r (drop at s)

module _ {r : List Item} {s : List ℕ} {at : ℕ} {goal : Bool} (p : Heading r s at goal) where
  heads-next : {w v : ℕ} {l : List Item} → constant w v ∷ l ≡ r
      → goal ≡ (eqb (number (take w (drop at s))) v && constants_right l (drop (at + w) s))
  unfolding constants_right
  heads-next {w} {v} {l} e =
      p.same ∙ ap (λ (i : List Item). constants_right i (drop at s)) (sym e)
      ∙ ap (λ (d : List ℕ). eqb (number (take w (drop at s))) v && constants_right l d) (drop-drop w at s)

  heading-no : {w v : ℕ} {l : List Item} → constant w v ∷ l ≡ r → eqb (number (take w (drop at s))) v ≡ false
      → false ≡ goal
  heading-no e q = sym (heads-next e ∙ rw q)

  heading-constant : {w v : ℕ} {l : List Item} → constant w v ∷ l ≡ r → eqb (number (take w (drop at s))) v ≡ true
      → Heading l s (at + w) goal
  heading-constant e q = record { room = omega (arith, p.room, bytes-constant e); same = heads-next e ∙ rw q }

  heading-end : [] ≡ r → true ≡ goal
  unfolding constants_right
  heading-end e = sym (p.same ∙ ap (λ (i : List Item). constants_right i (drop at s)) (sym e))

-- ---- a field's content has no constants

bytes_in-append : (l m : List Item) → bytes_in (l ++ m) ≡ bytes_in l + bytes_in m
unfolding bytes_in
bytes_in-append [] m = omega arith
bytes_in-append (constant w v ∷ l) m = omega (arith, bytes_in-append l m)
bytes_in-append (part w ∷ l) m = omega (arith, bytes_in-append l m)
bytes_in-append (store z ∷ l) m = omega (arith, bytes_in-append l m)

-- the heads behind some items are those of the rest, so many bytes on
abbrev Passes : List Item → Type 0
Passes l = (m : List Item) (s : List ℕ) → constants_right (l ++ m) s ≡ constants_right m (drop (bytes_in l) s)

passes-both : (l k : List Item) → Passes l → Passes k → Passes (l ++ k)
passes-both l k f g m s =
    rw (
      append_assoc l k m,
      f (k ++ m) s,
      g m (drop (bytes_in l) s),
      drop-drop (bytes_in k) (bytes_in l) s,
      bytes_in-append l k,
    )

passes-parts : (n ws : ℕ) → Passes (part_items n ws)
unfolding part_items constants_right bytes_in
passes-parts zero ws m s = refl
passes-parts (suc n) ws m s =
    passes-parts n (ws / 16) m (drop (ws % 16 % 9) s)
    ∙ ap (constants_right m) (drop-drop (bytes_in (part_items n (ws / 16))) (ws % 16 % 9) s)

passes-records : (k more ws : ℕ) → Passes (record_items k more ws)
unfolding record_items bytes_in
passes-records zero more ws m s = refl
passes-records (suc k) more ws m s =
    passes-both (part_items (suc more) ws) (record_items k more ws) (passes-parts (suc more) ws) (passes-records k more ws) m s

passes-store : (z : ℕ) → Passes (store_items z)
unfolding store_items constants_right bytes_in
passes-store zero m s = refl
passes-store (suc z) m s = ap (λ (n : ℕ). constants_right m (drop n s)) (sym (add-zero (suc z)))

passes-content : (r : Row) → Passes (content_items r)
unfolding content_items
passes-content r =
    passes-both (record_items r.records r.more r.widths) (store_items r.store)
    (passes-records r.records r.more r.widths) (passes-store r.store)

-- ---- what a row says of itself: tests computed over the table

abbrev row_sized : ℕ → Bool
row_sized i = eqb (get_or image_fields i no_row).bytes (bytes_in (content_items (get_or image_fields i no_row)))

abbrev row_small : ℕ → Bool
row_small i = leb (get_or image_fields i no_row).width 8 && ltb (get_or image_fields i no_row).head (256 ^ (get_or image_fields i no_row).width)

all-rows : every (λ i. row_sized i && row_small i) (length image_fields) ≡ true
unfolding content_items record_items part_items store_items bytes_in
all-rows = refl

row-test : (i : ℕ) (t : Bool) → ltb i (length image_fields) ≡ t → (row_sized i && row_small i) ≡ true
unfolding content_items record_items store_items bytes_in
row-test i true e = every-below (λ i. row_sized i && row_small i) (length image_fields) all-rows i (ltb-true i (length image_fields) e)
row-test i false e =
    let z = get_or-eq_default image_fields no_row {n = i} (let k = ltb-false i (length image_fields) e in omega arith) in
    rw z

module _ (i : ℕ) where
  both-tests : (row_sized i ≡ true) × (row_small i ≡ true)
  both-tests = and-true (row_sized i) (row_small i) (row-test i (ltb i (length image_fields)) refl)

  row-bytes : (row_at i).bytes ≡ bytes_in (content_items (row_at i))
  unfolding row_at
  row-bytes = eqb-true _ _ both-tests.0

  small-tests : (leb (row_at i).width 8 ≡ true) × (ltb (row_at i).head (256 ^ (row_at i).width) ≡ true)
  unfolding row_at
  small-tests = and-true (leb (row_at i).width 8) (ltb (row_at i).head (256 ^ (row_at i).width)) both-tests.1

  pub row-narrow : (row_at i).width ≤ 8
  row-narrow = leb-true (row_at i).width 8 small-tests.0

  pub row-head-small : (row_at i).head < 256 ^ (row_at i).width
  row-head-small = ltb-true (row_at i).head (256 ^ (row_at i).width) small-tests.1

-- ---- one turn of the loop over fields

field-items : (n m i : ℕ) → n ≡ suc m
    → constant (row_at i).width (row_at i).head ∷ (content_items (row_at i) ++ field_items m (i % 256 + 1)) ≡ field_items n i
unfolding field_items
field-items n m i e = rw e

module _ (s : List ℕ) (i n at : ℕ) (goal : Bool) (p : Heading (field_items n i) s at goal) where
  pub fields-end : n ≡ 0 → true ≡ goal
  unfolding field_items
  fields-end e = heading-end p (sym (rw e))

  module _ (h : n ≡ suc (n - 1)) (r : Row) (er : r ≡ row_at i) where
    abbrev behind : List Item
    behind = field_items (n - 1) (i % 256 + 1)

    pub field_room : at + r.width + r.bytes + bytes_in behind ≤ length s
    field_room =
        omega (
          arith,
          p.room,
          bytes-constant (field-items n (n - 1) i h),
          bytes_in-append (content_items (row_at i)) behind,
          row-bytes i,
          ap (λ (x : Row). x.width) er,
          ap (λ (x : Row). x.bytes) er,
        )

    pub field-no : eqb (number (take r.width (drop at s))) r.head ≡ false → false ≡ goal
    field-no q = heading-no p (field-items n (n - 1) i h) (rw er at q)

    pub field_next : eqb (number (take r.width (drop at s))) r.head ≡ true
        → Heading behind s (at + r.width + r.bytes) goal
    field_next q =
        let g = heading-constant p (field-items n (n - 1) i h) (rw er at q) in
        let b : r.bytes ≡ bytes_in (content_items (row_at i)) = rw er (row-bytes i) in
        record {
          room = field_room;
          same = g.same ∙ passes-content (row_at i) behind (drop (at + (row_at i).width) s)
              ∙ rw (drop-drop (bytes_in (content_items (row_at i))) (at + (row_at i).width) s, ← b, er);
        }
