-- Document 01, "The frame": what a frame says.
use Rattle.std.specs.Prelude.{ℕ, ◌+◌, ◌^◌, ◌<◌, List, Bool, cond, ◌&&◌, ◌≡◌, length, drop, set, leb, eqb}
use Rattle.frame_table.specs.declared.fields.Fields.{Fields}
use Rattle.frame_table.specs.declared.table.Form.{Form}
use Rattle.frame_table.specs.Table.{tag_count, frame_limit, is_request_form, is_reply_form}
use Rattle.frame_table.specs.Names.{form, no_fields}
use Rattle.frame_row.specs.Row.{field_size, content, contents, behind, present_tags, high_of, low_of, each_from}

-- the fields that a row of contents says
unfoldable pub fields_of : List (List ℕ) → Fields
fields_of r = record { tags = present_tags r; high = each_from high_of 0 r; low = each_from low_of 0 r }

-- the set of the tags, and their numbers
abbrev pub said : ℕ → List ℕ → List ℕ → Fields
said tags high low = record { tags = tags; high = high; low = low }

-- f with the field at the front of s, where it stands there with tag t
unfoldable pub with_field : ℕ → List ℕ → Fields → Fields
with_field t s f = cond (eqb (field_size t s) 0) f
    (said (f.tags + 2 ^ t) (set f.high t (high_of t (content t s))) (set f.low t (low_of t (content t s))))

-- the field with tag t is read at the front of s: f becomes g, whose set has no tag over t; "Reading goes on with the
-- rest of the frame, from where the last field ended"
pub record FieldRead (t : ℕ) (s : List ℕ) (f g : Fields) (more : List ℕ) : Type 0 where
  pub fields : g ≡ with_field t s f
  pub small : g.tags < 2 ^ (t + 1)
  pub left : more ≡ drop (field_size t s) s

-- "Each field stands once, tags rising, nothing behind", at most 1,024 bytes; else no fields
unfoldable pub parse : List ℕ → Fields
parse s = cond (leb (length s) frame_limit && eqb (length (behind tag_count 0 s)) 0)
    (fields_of (contents tag_count 0 s)) no_fields

-- what a frame of the forms k says; no fields where it is of none of them
abbrev pub read_as : (Form → Bool) → List ℕ → Fields
read_as k s = cond (k (form (parse s))) (parse s) no_fields

-- what a request says
unfoldable pub read_request : List ℕ → Fields
read_request s = read_as is_request_form s

-- what a reply says
unfoldable pub read_reply : List ℕ → Fields
read_reply s = read_as is_reply_form s
