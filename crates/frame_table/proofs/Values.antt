-- Laws of the table of fields: which widths there are. Each is computed for all tags. Assumes nothing.
use Prim.Native.Nat.{ℕ, ◌≤◌, ◌<◌}
use mathlib.Core.Bool.{Bool, true, false, ◌&&◌, ◌||◌}
use mathlib.Core.Path.{◌≡◌, refl, ap, sym, ◌∙◌}
use lib.Dec.{eqb, ltb, leb}
use borrow.Author.Tests.{ltb-true, leb-true, ne_eqb}
use Rattle.frame_table.specs.declared.table.Values.{Values}
use Rattle.frame_table.specs.declared.table.Values.TheVariants.{Any, Range, Text}
use Rattle.frame_table.specs.Table.{tag_count, timestamp_tag, data_tag, width, values_of, in_range}
use Rattle.octets.proofs.Tests.{and-true, or-true, every-below}

narrow : ℕ → Bool
narrow t = eqb t data_tag || (ltb 0 (width t) && leb (width t) 16)

-- every field but the data has from 1 to 16 bytes
pub width_narrow : (t : ℕ) → t < tag_count → (t ≡ data_tag → ⊥) → (0 < width t) × (width t ≤ 16)
unfolding narrow width
width_narrow t h n =
    let e = or-true (eqb t data_tag) (ltb 0 (width t) && leb (width t) 16) (ne_eqb t data_tag n)
    (every-below narrow tag_count refl t h) in
    let a = and-true (ltb 0 (width t)) (leb (width t) 16) e in
    (ltb-true 0 (width t) a.0, leb-true (width t) 16 a.1)

-- a number in a range has from 1 to 8 bytes
abbrev range_width : Values → ℕ → Bool
range_width Any w = true
range_width (Range least greatest) w = ltb 0 w && leb w 8
range_width (Text x) w = true

ranged : ℕ → Bool
ranged t = range_width (values_of t) (width t)

pub range-narrow : (t least greatest : ℕ) → t < tag_count → values_of t ≡ Range least greatest
    → (0 < width t) × (width t ≤ 8)
unfolding ranged width values_of
range-narrow t least greatest h e =
    let r : range_width (Range least greatest) (width t) ≡ true =
    ap (λ (v : Values). range_width v (width t)) (sym e) ∙ every-below ranged tag_count refl t h in
    let a = and-true (ltb 0 (width t)) (leb (width t) 8) r in
    (ltb-true 0 (width t) a.0, leb-true (width t) 8 a.1)

-- the number is in the field's range, where it has one
abbrev ranging : Values → ℕ → Bool
ranging Any n = true
ranging (Range least greatest) n = in_range least greatest n
ranging (Text x) n = true

-- card 3, "Values over 253,402,300,799,999": the last timestamp of the list, and the first that is none
abbrev time_listed : ℕ → Bool
time_listed time = ranging (values_of timestamp_tag) time

pub last-timestamp : time_listed 253402300799999 ≡ true
unfolding values_of in_range
last-timestamp = refl

pub first-late-timestamp : time_listed 253402300800000 ≡ false
unfolding values_of in_range
first-late-timestamp = refl
