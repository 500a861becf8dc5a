-- The image against the page that lays it down: its number, its tags, and where each field's content begins, computed
-- from the table.
use Prim.Native.Nat.{ℕ, ◌+◌, ◌-◌, ◌/◌, ◌^◌}
use mathlib.Core.List.{List, [], ◌∷◌, map}
use mathlib.Core.Path.{◌≡◌, refl}
use Rattle.image.specs.declared.table.Row.{Row}
use Rattle.image.specs.Table.{form_number, image_fields}

-- "the number of the card that made the form"
pub number_is : form_number ≡ 12
number_is = refl

-- a field begins with its tag: the first byte of a head of three bytes, or of four where the form's number stands in it
abbrev tag_of : Row → ℕ
tag_of r = r.head / 256 ^ (r.width - 1)

-- "a one-byte tag, a two-byte length": the content stands three bytes after the field's beginning
abbrev contents_from : ℕ → List Row → List ℕ
contents_from at [] = []
contents_from at (r ∷ rs) = (at + 3) ∷ contents_from (at + r.width + r.bytes) rs

-- "tags rising, each once"
pub tags-rise : map tag_of image_fields
    ≡ 0x01 ∷ 0x02 ∷ 0x03 ∷ 0x04 ∷ 0x05 ∷ 0x06 ∷ 0x07 ∷ 0x08 ∷ 0x09 ∷ 0x0A ∷ 0x0B ∷ 0x0C ∷ 0x0D ∷ 0x0E ∷ 0x0F ∷ []
tags-rise = refl

-- "Contents begin at"
pub contents-begin : contents_from 0 image_fields
    ≡ 3 ∷ 7 ∷ 18 ∷ 29 ∷ 64 ∷ 75 ∷ 79 ∷ 1618 ∷ 1622 ∷ 1857 ∷ 2172 ∷ 2191 ∷ 4882 ∷ 68373 ∷ 131864 ∷ []
contents-begin = refl
