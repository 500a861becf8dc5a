-- What is left of a walk through a form's fields, and what a step of it says.
use Rattle.std.specs.Prelude.{ℕ, ◌≤◌, List, [], ◌∷◌, ◌++◌, Option, IfSome}
use Rattle.std.specs.Iterator.{YieldsFirstBy}
use Rattle.image.specs.declared.walk.Cursor.{Cursor}
use Rattle.image.specs.declared.walk.Entry.{Entry}
use Rattle.image.specs.declared.walk.Entry.TheVariants as entry
use Rattle.image.specs.declared.walk.Step.{Step}
use Rattle.image.specs.declared.walk.Step.TheVariants.{Head, Part, Store, Done}
use Rattle.image.specs.Items.{Item, constant, part, store, part_items, record_items, store_items, field_items}

unfoldable pub rest : Cursor → List Item
rest c =
    part_items c.parts c.widths
    ++ (record_items c.records c.more c.all ++ (store_items c.store ++ field_items c.left c.field))

-- the walk through some fields from one on
abbrev pub start_at : ℕ → ℕ → Cursor
start_at field left =
    record { field = field; left = left; store = 0; records = 0; more = 0; all = 0; parts = 0; widths = 0 }

unfoldable pub step_items : Step → List Item
step_items (Head w h c) = constant w h ∷ rest c
step_items (Part w c) = part w ∷ rest c
step_items (Store z c) = store z ∷ rest c
step_items Done = []

-- the length of a part
unfoldable pub step_width : Step → ℕ
step_width (Head w h c) = 0
step_width (Part w c) = w
step_width (Store z c) = 0
step_width Done = 0

-- what the walk gives, as an item; a part has eight bytes at most
abbrev pub item_of : Entry → Item
item_of (entry.Head w h) = constant w h
item_of (entry.Part w) = part w
item_of (entry.Store z) = store z

abbrev pub IsNarrow : Entry → Type 0
IsNarrow (entry.Head w h) = Unit {0}
IsNarrow (entry.Part w) = w ≤ 8
IsNarrow (entry.Store z) = Unit {0}

-- a call of the walk gives the first item that was left
abbrev pub Walked : Cursor → Option Entry → Cursor → Type 0
Walked c r d = YieldsFirstBy item_of rest c r d × IfSome r IsNarrow
