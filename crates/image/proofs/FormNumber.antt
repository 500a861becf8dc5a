-- The form's number: bytes with another one are no image. Assumes nothing.
use Prim.Native.Nat.{ℕ, ◌+◌}
use mathlib.Core.Bool.{true}
use mathlib.Core.List.{List, ◌∷◌}
use mathlib.Core.Path.{◌≡◌, refl, sym, ap, ◌∙◌}
use native.Mathlib.Omega.{arith}
use lib.Dec.{eqb}
use lib.ListN.{length, get_or, take, drop}
use borrow.Author.Tests.{eqb-true}
use Rattle.octets.specs.Bytes.{Bytes, number}
use Rattle.octets.proofs.Numbers.{number-take}
use Rattle.octets.proofs.Tests.{and-true}
use Rattle.image.specs.Table.{row_at, form_field, form_number}
use Rattle.image.specs.Items.{Item, constant, image_items, image_sizes, field_items, bytes_in}
use Rattle.image.specs.Image.{constants_right, is_image}
use Rattle.image.proofs.Calls.{image-size}

-- an image begins with the field of the form's number, which is one byte
first-item : image_items ≡ constant (form_field 0x01).width (form_field 0x01).head ∷ drop 1 image_items
unfolding image_items field_items row_at
first-item = refl

-- "The first field is the form's number": the byte behind its head of three
pub form-number : (s : List ℕ) → Bytes s → is_image s ≡ true → get_or s 3 0 ≡ form_number
unfolding is_image bytes_in constants_right
form-number s bytes h =
    let items = image_items in
    let p = and-true (eqb (length s) image_sizes.image) (constants_right items s) h in
    let long : length s ≡ 4 + bytes_in (drop 1 items) =
    eqb-true (length s) image_sizes.image p.0 ∙ image-size image_sizes refl ∙ ap bytes_in first-item in
    let right = sym (ap (λ (l : List Item). constants_right l s) first-item) ∙ p.1 in
    let here = (and-true _ (constants_right (drop 1 items) (drop 4 s)) right).0 in
    let head = eqb-true (number (take 4 s)) (form_field 0x01).head here in
    omega (arith, head, number-take s 3 (omega (arith, long)), bytes 3)
