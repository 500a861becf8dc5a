-- What the two calls answer and leave, case by case. Assumes nothing.
use Rattle.std.specs.Prelude.{Err, Ok}
use Prim.Native.Nat.{ℕ, ◌+◌, ◌≤◌, ◌<◌}
use mathlib.Core.List.{List, [], ◌∷◌}
use mathlib.Core.Bool.{Bool, true, false}
use mathlib.Core.Path.{◌≡◌, refl, sym, ap, ◌∙◌}
use lib.Dec.{eqb}
use lib.ListN.{length, take, drop}
use native.Mathlib.Omega.{arith}
use borrow.Author.Tests.{eq-eqb, ne_eqb, le-leb, lt-leb, eqb-true}
use Rattle.octets.specs.Bytes.{overwrite}
use Rattle.octets.proofs.Tests.{and-true}
use Rattle.image.specs.declared.codec.ImageRefusal.TheVariants.{WrongLength, NotAdmitted}
use Rattle.image.specs.declared.table.Sizes.{Sizes}
use Rattle.image.specs.declared.walk.Cursor.{Cursor}
use Rattle.image.specs.Table.{row_at}
use Rattle.image.specs.Items.{
  image_items,
  image_sizes,
  field_items,
  content_items,
  record_items,
  part_items,
  store_items,
  bytes_in,
  parts_in,
  stores_in,
}
use Rattle.image.specs.Walk.{rest, start_at}
use Rattle.image.specs.Image.{
  numbers_of,
  stores_of,
  fits,
  constants_right,
  stores,
  lengths,
  image_of,
  lent,
  is_image,
  wrote,
  written,
  took,
  taken,
  took_numbers,
  numbers_taken,
  parts_of,
}
use Rattle.image.proofs.Lengths.{length-stores_of, store-part, store-within, two-lists}
use Rattle.image.proofs.Walking.{rest-start}

-- an image has two stores, both of one size
pub form-stores : stores_in image_items ≡ image_sizes.store ∷ image_sizes.store ∷ []
unfolding image_sizes image_items field_items content_items record_items part_items store_items stores_in row_at
form-stores = refl

-- the stores that are read are the parts of the bytes at their places
pub stores-are-parts : (s : List ℕ) → stores_of image_items s ≡ parts_of s
unfolding image_sizes
stores-are-parts s =
    let l = image_items in
    let e = form-stores in
    let n : length (stores_in l) ≡ 2 = ap length e in
    let a = store-part l s 0 (omega arith) in
    let b = store-part l s 1 (omega arith) in
    two-lists (stores_of l s) (length-stores_of l s ∙ n) ∙ rw (a, b, e)

-- and lie within an image
pub parts_within : (image_sizes.orders + image_sizes.store ≤ image_sizes.image)
    × (image_sizes.mailboxes + image_sizes.store ≤ image_sizes.image)
unfolding image_sizes
parts_within =
    let l = image_items in
    let e = form-stores in
    let n : length (stores_in l) ≡ 2 = ap length e in
    (rw e at (store-within l 0 (omega arith)), rw e at (store-within l 1 (omega arith)))

module _ (f : Sizes) (ef : f ≡ image_sizes) where
  pub fields-items : field_items f.fields 0 ≡ image_items
  unfolding image_items image_sizes
  fields-items = rw ef

  pub rest-items : (c : Cursor) → c ≡ start_at 0 f.fields → rest c ≡ image_items
  rest-items c e = rest-start c 0 f.fields e ∙ fields-items

  pub numbers-size : f.numbers ≡ parts_in image_items
  unfolding image_sizes
  numbers-size = rw ef

  pub image-size : f.image ≡ bytes_in image_items
  unfolding image_sizes
  image-size = rw ef

  pub store-size : f.store ≡ image_sizes.store
  store-size = ap (λ (x : Sizes). x.store) ef

  -- both stores lie within an image
  pub orders-within : (s a : List ℕ) → length s ≡ image_sizes.image → length a ≡ image_sizes.store → f.orders + length a ≤ length s
  orders-within s a h k = rw ef (omega (arith, parts_within.0))

  pub mailboxes-within : (s b : List ℕ) → length s ≡ image_sizes.image → length b ≡ image_sizes.store → f.mailboxes + length b ≤ length s
  mailboxes-within s b h k = rw ef (omega (arith, parts_within.1))

  -- and are read from their places
  pub stores-taken : (s a b c d : List ℕ) → length a ≡ image_sizes.store → length b ≡ image_sizes.store
      → c ≡ take (length a) (drop f.orders s) → d ≡ take (length b) (drop f.mailboxes s)
      → stores c d ≡ stores_of image_items s
  stores-taken s a b c d h k p q = rw (p, q, h, k, ef) (sym (stores-are-parts s))

  module _ (xs a b : List ℕ) where
    pub lent-numbers : (length xs ≡ f.numbers → ⊥) → lent xs a b ≡ false
    unfolding lent
    lent-numbers h = rw (ne_eqb (length xs) image_sizes.numbers (rw ef at h))

    pub lent-orders : length xs ≡ f.numbers → (length a ≡ f.store → ⊥) → lent xs a b ≡ false
    unfolding lent
    lent-orders h k = rw (eq-eqb (length xs) image_sizes.numbers (rw ef at h), ne_eqb (length a) image_sizes.store (rw ef at k))

    pub lent-mailboxes : length xs ≡ f.numbers → length a ≡ f.store → (length b ≡ f.store → ⊥) → lent xs a b ≡ false
    unfolding lent
    lent-mailboxes h k j =
        rw (eq-eqb (length xs) image_sizes.numbers (rw ef at h), eq-eqb (length a) image_sizes.store (rw ef at k))
        (ne_eqb (length b) image_sizes.store (rw ef at j))

    pub lent-all : length xs ≡ f.numbers → length a ≡ f.store → length b ≡ f.store → lent xs a b ≡ true
    unfolding lent
    lent-all h k j =
        rw (eq-eqb (length xs) image_sizes.numbers (rw ef at h), eq-eqb (length a) image_sizes.store (rw ef at k))
        (eq-eqb (length b) image_sizes.store (rw ef at j))

    -- the stores have the image's sizes
    pub lent-stores : length a ≡ f.store → length b ≡ f.store → stores_in image_items ≡ lengths (stores a b)
    unfolding lengths
    lent-stores k j = form-stores ∙ rw (k, j, ef)

    module _ (d : List ℕ) where
      pub written-lengths : lent xs a b ≡ false → wrote (Err WrongLength) d ≡ written xs a b d
      unfolding written
      written-lengths h = rw h

      pub written-short : lent xs a b ≡ true → length d < f.image → wrote (Err WrongLength) d ≡ written xs a b d
      unfolding written
      written-short h k = rw (h, lt-leb image_sizes.image (length d) (rw ef at k))

      pub written-unfit : lent xs a b ≡ true → f.image ≤ length d → fits image_items xs ≡ false
          → wrote (Err NotAdmitted) d ≡ written xs a b d
      unfolding written
      written-unfit h k j = rw (h, le-leb image_sizes.image (length d) (rw ef at k), j)

      pub written-done : lent xs a b ≡ true → f.image ≤ length d → fits image_items xs ≡ true
          → (e : List ℕ) → e ≡ overwrite d 0 (image_of xs a b)
          → wrote (Ok tt) e ≡ written xs a b d
      unfolding written
      written-done h k j e q = rw (h, le-leb image_sizes.image (length d) (rw ef at k), j, q)

    module _ (s : List ℕ) where
      pub taken-lengths : lent xs a b ≡ false → took (Err WrongLength) xs (stores a b) ≡ taken s xs a b
      unfolding taken
      taken-lengths h = rw h

      pub taken-other : lent xs a b ≡ true → is_image s ≡ false → took (Err NotAdmitted) xs (stores a b) ≡ taken s xs a b
      unfolding taken
      taken-other h k = rw (h, k)

      pub taken-done : lent xs a b ≡ true → is_image s ≡ true
          → (ys : List ℕ) (ss : List (List ℕ)) → ys ≡ numbers_of image_items s → ss ≡ stores_of image_items s
          → took (Ok tt) ys ss ≡ taken s xs a b
      unfolding taken
      taken-done h k ys ss p q = rw (h, k, p, q)

  module _ (s : List ℕ) where
    pub image-other : (length s ≡ f.image → ⊥) → false ≡ is_image s
    unfolding is_image
    image-other k = rw (ne_eqb (length s) image_sizes.image (rw ef at k))

    pub image-heads : length s ≡ f.image → (r : Bool) → r ≡ constants_right image_items s → r ≡ is_image s
    unfolding is_image
    image-heads k r q = q ∙ rw (eq-eqb (length s) image_sizes.image (rw ef at k))

    pub image-long : is_image s ≡ true → length s ≡ image_sizes.image
    unfolding is_image
    image-long h =
        eqb-true (length s) image_sizes.image
        (and-true (eqb (length s) image_sizes.image) (constants_right image_items s) h).0

    pub image-bytes : is_image s ≡ true → bytes_in image_items ≤ length s
    unfolding image_sizes
    image-bytes h = let k = image-long h in omega arith

    module _ (xs : List ℕ) where
      pub numbers-lengths : (length xs ≡ f.numbers → ⊥) → took_numbers (Err WrongLength) xs ≡ numbers_taken s xs
      unfolding numbers_taken
      numbers-lengths h = rw (ne_eqb (length xs) image_sizes.numbers (rw ef at h))

      pub numbers-other : length xs ≡ f.numbers → is_image s ≡ false → took_numbers (Err NotAdmitted) xs ≡ numbers_taken s xs
      unfolding numbers_taken
      numbers-other h k = rw (eq-eqb (length xs) image_sizes.numbers (rw ef at h), k)

      pub numbers-done : length xs ≡ f.numbers → is_image s ≡ true → (ys : List ℕ) → ys ≡ numbers_of image_items s
          → took_numbers (Ok tt) ys ≡ numbers_taken s xs
      unfolding numbers_taken
      numbers-done h k ys p = rw (eq-eqb (length xs) image_sizes.numbers (rw ef at h), k, p)
