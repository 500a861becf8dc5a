-- What a table of fields stands for: the constants, the numbers and the stores of an image, one behind the other.
use Rattle.std.specs.Prelude.{ℕ, zero, suc, ◌+◌, ◌/◌, ◌%◌, List, [], ◌∷◌, ◌++◌, length}
use Rattle.bank_state.specs.Limits.{store_bytes}
use Rattle.image.specs.declared.table.Row.{Row}
use Rattle.image.specs.declared.table.Sizes.{Sizes}
use Rattle.image.specs.Table.{row_at, image_fields}

pub data Item : Type 0 where
  -- so many bytes that are this number in every image
  constant : ℕ → ℕ → Item
  -- a number of the session, of so many bytes
  part : ℕ → Item
  -- a store of so many bytes
  store : ℕ → Item

-- n parts, their lengths (at most 8) from hexadecimal digits
unfoldable pub part_items : ℕ → ℕ → List Item
part_items zero ws = []
part_items (suc n) ws = part (ws % 16 % 9) ∷ part_items n (ws / 16)

unfoldable pub record_items : ℕ → ℕ → ℕ → List Item
record_items zero more ws = []
record_items (suc k) more ws = part_items (suc more) ws ++ record_items k more ws

-- a store of this size; none of size 0
unfoldable pub store_items : ℕ → List Item
store_items zero = []
store_items (suc z) = store (suc z) ∷ []

unfoldable pub content_items : Row → List Item
content_items r = record_items r.records r.more r.widths ++ store_items r.store

-- so many fields from one on
unfoldable pub field_items : ℕ → ℕ → List Item
field_items zero i = []
field_items (suc k) i =
    constant (row_at i).width (row_at i).head ∷ (content_items (row_at i) ++ field_items k (i % 256 + 1))

unfoldable pub image_items : List Item
image_items = field_items (length image_fields) 0

-- how many bytes, how many numbers, and the sizes of the stores
unfoldable pub bytes_in : List Item → ℕ
bytes_in [] = 0
bytes_in (constant w v ∷ l) = w + bytes_in l
bytes_in (part w ∷ l) = w + bytes_in l
bytes_in (store z ∷ l) = z + bytes_in l

unfoldable pub parts_in : List Item → ℕ
parts_in [] = 0
parts_in (constant w v ∷ l) = parts_in l
parts_in (part w ∷ l) = suc (parts_in l)
parts_in (store z ∷ l) = parts_in l

unfoldable pub stores_in : List Item → List ℕ
stores_in [] = []
stores_in (constant w v ∷ l) = stores_in l
stores_in (part w ∷ l) = stores_in l
stores_in (store z ∷ l) = z ∷ stores_in l

-- where the n-th store begins
unfoldable pub store_at : List Item → ℕ → ℕ
store_at [] n = 0
store_at (constant w v ∷ l) n = w + store_at l n
store_at (part w ∷ l) n = w + store_at l n
store_at (store z ∷ l) zero = 0
store_at (store z ∷ l) (suc n) = z + store_at l n

unfoldable pub image_sizes : Sizes
image_sizes =
    record {
      fields = length image_fields;
      numbers = parts_in image_items;
      store = store_bytes;
      image = bytes_in image_items;
      orders = store_at image_items 0;
      mailboxes = store_at image_items 1;
    }
