-- What putting away and taking up keep of a session. Assumes nothing.
use Rattle.std.specs.Prelude.{Err, Ok}
use Prim.Native.Nat.{ℕ, ◌≤◌}
use mathlib.Core.List.{List, [], ◌∷◌, append-nil}
use mathlib.Core.Bool.{Bool, true, false, cond, ◌&&◌}
use mathlib.Core.Path.{◌≡◌, refl, sym, ap, ◌∙◌}
use native.Mathlib.Omega.{arith}
use lib.ListN.{length, get_or}
use lib.Seq.{take_all}
use lib.Dec.{eqb}
use borrow.Author.Tests.{eqb-true, eq-eqb, le-leb}
use Rattle.octets.specs.Bytes.{Bytes, overwrite}
use Rattle.octets.proofs.Tests.{and-true}
use Rattle.image.specs.declared.codec.ImageRefusal.TheVariants.{WrongLength, NotAdmitted}
use Rattle.image.specs.Table.{row_at, image_fields}
use Rattle.image.specs.Items.{
  image_items,
  image_sizes,
  field_items,
  content_items,
  record_items,
  part_items,
  store_items,
  bytes_in,
  parts_in,
  stores_in,
}
use Rattle.image.specs.Image.{
  pack,
  numbers_of,
  stores_of,
  fits,
  constants_right,
  stores,
  lengths,
  image_of,
  lent,
  is_image,
  wrote,
  written,
  Took,
  took,
  taken,
}
use Rattle.image.proofs.Lengths.{length-pack, length-numbers_of, lengths-stores_of}
use Rattle.image.proofs.RoundTrip.{
  Small,
  small-fields,
  constants-packed,
  numbers-packed,
  stores-packed,
  read-packed,
  read_fits,
}
use Rattle.image.proofs.Calls.{form-stores, numbers-size, image-size, lent-stores, taken-done}

small-items : Small image_items
unfolding image_items
small-items = small-fields (length image_fields) 0

-- numbers and stores of the image's lengths, each number of its part's length
abbrev pub Session : List ℕ → List ℕ → List ℕ → Type 0
Session xs a b = (lent xs a b ≡ true) × (fits image_items xs ≡ true)

module _ (xs a b : List ℕ) (h : Session xs a b) where
  sizes : (length xs ≡ image_sizes.numbers) × (length a ≡ image_sizes.store) × (length b ≡ image_sizes.store)
  unfolding lent
  sizes =
      let p = and-true (eqb (length xs) image_sizes.numbers) (eqb (length a) image_sizes.store && eqb (length b) image_sizes.store) h.0 in
      let q = and-true (eqb (length a) image_sizes.store) (eqb (length b) image_sizes.store) p.1 in
      (eqb-true _ _ p.0, eqb-true _ _ q.0, eqb-true _ _ q.1)

  sized : stores_in image_items ≡ lengths (stores a b)
  sized = lent-stores image_sizes refl xs a b sizes.1 sizes.2

  -- every image has one length
  pub image-length : length (image_of xs a b) ≡ image_sizes.image
  unfolding image_of
  image-length = length-pack image_items xs (stores a b) sized ∙ sym (image-size image_sizes refl)

  -- the writer writes it over the front of any buffer that is long enough
  pub session-written : (d : List ℕ) → image_sizes.image ≤ length d
      → written xs a b d ≡ wrote (Ok tt) (overwrite d 0 (image_of xs a b))
  unfolding written
  session-written d k = rw (h.0, le-leb image_sizes.image (length d) k, h.1)

  -- the image of a session is accepted
  pub image-accepted : is_image (image_of xs a b) ≡ true
  unfolding is_image image_of
  image-accepted =
      rw (eq-eqb _ _ image-length)
      (rw (append-nil (pack image_items xs (stores a b))) at (constants-packed image_items xs (stores a b) [] sized small-items))

  -- so it gives the numbers and the stores back
  pub numbers-back : numbers_of image_items (image_of xs a b) ≡ xs
  unfolding image_of
  numbers-back =
      let l = image_items in
      let ss = stores a b in
      let n : length xs ≡ parts_in l = sizes.0 ∙ numbers-size image_sizes refl in
      (rw (append-nil (pack l xs ss)) at (numbers-packed l xs ss [] sized h.1 (omega arith))) ∙ take_all (parts_in l) xs (omega arith)

  pub stores_back : stores_of image_items (image_of xs a b) ≡ stores a b
  unfolding image_of
  stores_back =
      let l = image_items in
      let ss = stores a b in
      rw (append-nil (pack l xs ss)) at (stores-packed l xs ss [] sized)

  -- whatever stood there
  pub read_back : (ys c d : List ℕ) → lent ys c d ≡ true
      → taken (image_of xs a b) ys c d ≡ took (Ok tt) xs (stores a b)
  read_back ys c d k =
      sym (taken-done image_sizes refl ys c d (image_of xs a b) k image-accepted xs (stores a b)
      (sym numbers-back) (sym stores_back))

-- different sessions have different images
pub same-image : (xs a b ys c d : List ℕ) → Session xs a b → Session ys c d → image_of xs a b ≡ image_of ys c d
    → took (Ok tt) xs (stores a b) ≡ took (Ok tt) ys (stores c d)
same-image xs a b ys c d h k e =
    sym (read_back xs a b h xs a b h.0) ∙ ap (λ (s : List ℕ). taken s xs a b) e ∙ read_back ys c d k xs a b h.0

-- equal sessions have equal images
pub same-session : (xs a b ys c d : List ℕ) → xs ≡ ys → a ≡ c → b ≡ d → image_of xs a b ≡ image_of ys c d
same-session xs a b ys c d e f g = rw (e, f, g)

-- ---- what is read is written

-- an answer of the reader that is done comes from an image
module _ (s xs a b ys c d : List ℕ) (e : taken s xs a b ≡ took (Ok tt) ys (stores c d)) where
  abbrev From : Type 0
  From = (is_image s ≡ true) × (numbers_of image_items s ≡ ys) × (stores_of image_items s ≡ stores c d)

  not_done : ◌≡◌ {A = ℕ} 0 1 → From
  not_done z = absurd (omega arith)

  by_tests : (t u : Bool) → lent xs a b ≡ t → is_image s ≡ u
      → cond t
      (cond u (took (Ok tt) (numbers_of image_items s) (stores_of image_items s)) (took (Err NotAdmitted) xs (stores a b)))
      (took (Err WrongLength) xs (stores a b))
      ≡ took (Ok tt) ys (stores c d) → From
  by_tests true true p q r = (q, ap (λ (o : Took). o.numbers) r, ap (λ (o : Took). o.stores) r)
  by_tests true false p q r = not_done (let k = ap (λ (o : Took). o.answer) r in cc)
  by_tests false u p q r = not_done (let k = ap (λ (o : Took). o.answer) r in cc)

  from : From
  unfolding taken
  from = by_tests (lent xs a b) (is_image s) refl refl e

  both : (eqb (length s) image_sizes.image ≡ true) × (constants_right image_items s ≡ true)
  unfolding is_image
  both = and-true (eqb (length s) image_sizes.image) (constants_right image_items s) from.0

  long : length s ≡ bytes_in image_items
  long = eqb-true (length s) image_sizes.image both.0 ∙ image-size image_sizes refl

  read-sizes : lengths (stores c d) ≡ image_sizes.store ∷ image_sizes.store ∷ []
  read-sizes = ap lengths (sym from.2) ∙ lengths-stores_of image_items s (omega (arith, long)) ∙ form-stores

  numbers-read : length ys ≡ image_sizes.numbers
  numbers-read =
      ap length (sym from.1) ∙ length-numbers_of image_items s ∙ sym (numbers-size image_sizes refl)

  module _ (bytes : Bytes s) where
    -- what is taken up is a session
    pub session-read : Session ys c d
    unfolding lent lengths
    session-read = (
      rw (
        eq-eqb (length ys) image_sizes.numbers numbers-read,
        eq-eqb (length c) image_sizes.store (ap (λ (k : List ℕ). get_or k 0 0) read-sizes),
        eq-eqb (length d) image_sizes.store (ap (λ (k : List ℕ). get_or k 1 0) read-sizes),
      ),
      rw (← from.1) (read_fits image_items s bytes (omega (arith, long))),
    )

    -- "only such bytes are accepted": the bytes taken up are the image of what was read
    pub write-back : image_of ys c d ≡ s
    unfolding image_of
    write-back =
        rw (← from.1, ← from.2)
        (read-packed image_items s bytes (omega (arith, long)) both.1
        ∙ take_all (bytes_in image_items) s (omega (arith, long)))

-- "131,920"; the session has 868 numbers in all, in one order
pub image-is : (image_sizes.image ≡ 131920) × (image_sizes.numbers ≡ 868)
unfolding image_sizes image_items field_items content_items record_items part_items store_items bytes_in parts_in row_at
image-is = (refl, refl)
