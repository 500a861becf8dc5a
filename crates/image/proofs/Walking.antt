-- Laws of the walk: what a place has left, one step at a time. Assumes nothing.
use Prim.Native.Nat.{ℕ, suc, ◌+◌, ◌/◌, ◌%◌, ◌≤◌, ◌<◌}
use mathlib.Core.List.{List, [], ◌∷◌, ◌++◌, append_assoc}
use mathlib.Core.Path.{◌≡◌, sym, ap, ◌∙◌}
use native.Mathlib.Omega.{arith}
use lib.ListN.{length}
use Rattle.image.specs.declared.table.Row.{Row}
use Rattle.image.specs.declared.walk.Cursor.{Cursor}
use Rattle.image.specs.declared.walk.Entry.{Entry}
use Rattle.image.specs.declared.walk.Entry.TheVariants as entry
use Rattle.image.specs.declared.walk.Step.{Step}
use Rattle.image.specs.declared.walk.Step.TheVariants.{Head, Part, Store, Done}
use Rattle.image.specs.Table.{row_at}
use Rattle.image.specs.Items.{
  Item,
  constant,
  part,
  store,
  part_items,
  record_items,
  store_items,
  content_items,
  field_items,
  bytes_in,
  parts_in,
  stores_in,
}
use Rattle.image.specs.Walk.{rest, start_at, step_items, step_width, item_of, IsNarrow}

-- ---- what a place has left

module _ (c : Cursor) where
  pub rest_part : (n : ℕ) → c.parts ≡ suc n
      → rest c ≡ part (c.widths % 16 % 9) ∷ rest (record {
        field = c.field;
        left = c.left;
        store = c.store;
        records = c.records;
        more = c.more;
        all = c.all;
        parts = n;
        widths = c.widths / 16;
      })
  unfolding rest part_items
  rest_part n e = rw e

  pub rest-record : (n : ℕ) → c.parts ≡ 0 → c.records ≡ suc n
      → rest c ≡ part (c.all % 16 % 9) ∷ rest (record {
        field = c.field;
        left = c.left;
        store = c.store;
        records = n;
        more = c.more;
        all = c.all;
        parts = c.more;
        widths = c.all / 16;
      })
  unfolding rest part_items record_items
  rest-record n p e =
      rw (p, e)
      (ap (λ (l : List Item). part (c.all % 16 % 9) ∷ l)
      (append_assoc (part_items c.more (c.all / 16)) (record_items n c.more c.all)
      (store_items c.store ++ field_items c.left c.field)))

  pub rest-store : (z : ℕ) → c.parts ≡ 0 → c.records ≡ 0 → c.store ≡ suc z
      → rest c ≡ store c.store ∷ rest (record {
        field = c.field;
        left = c.left;
        store = 0;
        records = 0;
        more = 0;
        all = 0;
        parts = 0;
        widths = 0;
      })
  unfolding rest part_items record_items store_items
  rest-store z p d e = rw (p, d, e)

  pub rest-field : (n : ℕ) (r : Row) → r ≡ row_at c.field → c.parts ≡ 0 → c.records ≡ 0 → c.store ≡ 0
      → c.left ≡ suc n
      → rest c ≡ constant r.width r.head ∷ rest (record {
        field = c.field % 256 + 1;
        left = n;
        store = r.store;
        records = r.records;
        more = r.more;
        all = r.widths;
        parts = 0;
        widths = 0;
      })
  unfolding rest part_items record_items store_items field_items content_items
  rest-field n r q p d s e =
      rw (p, d, s, e, q)
      (ap (λ (l : List Item). constant (row_at c.field).width (row_at c.field).head ∷ l)
      (append_assoc
      (record_items (row_at c.field).records (row_at c.field).more (row_at c.field).widths)
      (store_items (row_at c.field).store)
      (field_items n (c.field % 256 + 1))))

  pub rest-none : c.parts ≡ 0 → c.records ≡ 0 → c.store ≡ 0 → c.left ≡ 0 → rest c ≡ []
  unfolding rest part_items record_items store_items field_items
  rest-none p d s e = rw (p, d, s, e)

-- the walk through some fields
pub rest-start : (c : Cursor) (field left : ℕ)
    → c ≡ start_at field left → rest c ≡ field_items left field
unfolding rest part_items record_items store_items
rest-start c field left e = rw e

-- ---- what a step tells

module _ {s : Step} {r : List Item} (e : (step_items s ≡ r) × (step_width s ≤ 8)) where
  pub step-head : {w h : ℕ} {d : Cursor} → s ≡ Head w h d → constant w h ∷ rest d ≡ r
  unfolding step_items
  step-head q = ap step_items (sym q) ∙ e.0

  pub step_part : {w : ℕ} {d : Cursor} → s ≡ Part w d → part w ∷ rest d ≡ r
  unfolding step_items
  step_part q = ap step_items (sym q) ∙ e.0

  pub step-narrow : {w : ℕ} {d : Cursor} → s ≡ Part w d → w ≤ 8
  unfolding step_width
  step-narrow q = rw q at e.1

  pub step-store : {z : ℕ} {d : Cursor} → s ≡ Store z d → store z ∷ rest d ≡ r
  unfolding step_items
  step-store q = ap step_items (sym q) ∙ e.0

  pub step-done : s ≡ Done → [] ≡ r
  unfolding step_items
  step-done q = ap step_items (sym q) ∙ e.0

-- ---- what the walk gives

module _ {r l : List Item} (e : Entry) (s : r ≡ item_of e ∷ l) where
  pub walked-head : {w h : ℕ} → e ≡ entry.Head w h → constant w h ∷ l ≡ r
  walked-head q = sym (rw q at s)

  pub walked-part : {w : ℕ} → e ≡ entry.Part w → part w ∷ l ≡ r
  walked-part q = sym (rw q at s)

  pub walked-store : {z : ℕ} → e ≡ entry.Store z → store z ∷ l ≡ r
  walked-store q = sym (rw q at s)

pub walked-narrow : {w : ℕ} (e : Entry) → IsNarrow e → e ≡ entry.Part w → w ≤ 8
walked-narrow e n q = rw q at n

-- ---- what an item counts for

module _ {r : List Item} where
  pub shorter : {i : Item} {l : List Item} → i ∷ l ≡ r → length l < length r
  shorter e = rw (← e) (omega arith)

  pub bytes-constant : {w h : ℕ} {l : List Item} → constant w h ∷ l ≡ r → bytes_in r ≡ w + bytes_in l
  unfolding bytes_in
  bytes-constant e = rw (← e)

  pub bytes-part : {w : ℕ} {l : List Item} → part w ∷ l ≡ r → bytes_in r ≡ w + bytes_in l
  unfolding bytes_in
  bytes-part e = rw (← e)

  pub bytes-store : {z : ℕ} {l : List Item} → store z ∷ l ≡ r → bytes_in r ≡ z + bytes_in l
  unfolding bytes_in
  bytes-store e = rw (← e)

  pub parts-part : {w : ℕ} {l : List Item} → part w ∷ l ≡ r → parts_in r ≡ suc (parts_in l)
  unfolding parts_in
  parts-part e = rw (← e)

  pub stores-store : {z : ℕ} {l : List Item} → store z ∷ l ≡ r → stores_in r ≡ z ∷ stores_in l
  unfolding stores_in
  stores-store e = rw (← e)
