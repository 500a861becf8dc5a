-- Document 01, "The frame": "A frame is a row of fields". The row holds a content for each tag from 0 on, [] where
-- the tag is absent.
use Rattle.std.specs.Prelude.{ℕ, zero, suc, ◌+◌, ◌-◌, ◌*◌, ◌/◌, ◌%◌, ◌^◌, ◌≤◌, List, [], ◌∷◌, ◌++◌, Bool, true, cond, not, ◌&&◌, ◌||◌, ◌≡◌, length, get_or, take, drop, leb, eqb}
use Rattle.octets.specs.Bytes.{number, field_bytes}
use Rattle.frame_table.specs.declared.table.Characters.{Characters}
use Rattle.frame_table.specs.declared.table.Values.{Values}
use Rattle.frame_table.specs.declared.table.Values.TheVariants.{Any, Range, Text}
use Rattle.frame_table.specs.Table.{frame_limit, data_tag, width, values_of, in_range, allowed}

-- every byte is one of the characters
unfoldable pub spelled : Characters → List ℕ → Bool
spelled x [] = true
spelled x (b ∷ c) = allowed x b && spelled x c

-- the content c is one of the values: any bytes, a number in the range, or a text
abbrev pub is_value : Values → List ℕ → Bool
is_value Any c = true
is_value (Range least greatest) c = in_range least greatest (number c)
is_value (Text x) c = spelled x c

-- the content is in the value list of the tag
unfoldable pub listed : ℕ → List ℕ → Bool
listed t c = is_value (values_of t) c

-- c can be the content of a field with tag t: "1 or more" bytes, as many as the table says, in its value list
unfoldable pub well_formed : ℕ → List ℕ → Bool
well_formed t c = leb (length c) frame_limit && not (eqb (length c) 0)
    && (eqb (width t) 0 || eqb (length c) (width t)) && listed t c

-- how many bytes the field at the front says that it takes
abbrev pub announced : List ℕ → ℕ
announced s = 3 + get_or s 1 0 * 256 + get_or s 2 0

-- a field with tag t stands whole at the front of s
unfoldable pub stands : ℕ → List ℕ → Bool
stands t s = leb 3 (length s) && eqb (get_or s 0 0) t && leb (announced s) (length s)
    && well_formed t (take (announced s - 3) (drop 3 s))

-- how many bytes the field t takes at the front of s; 0 where no such field stands there
unfoldable pub field_size : ℕ → List ℕ → ℕ
field_size t s = cond (stands t s) (announced s) 0

unfoldable pub content : ℕ → List ℕ → List ℕ
content t s = take (field_size t s - 3) (drop 3 s)

-- "Each field stands once, tags rising": the contents of the k tags from t on, each looked for behind the field
-- before it
unfoldable pub contents : ℕ → ℕ → List ℕ → List (List ℕ)
contents zero t s = []
contents (suc k) t s = content t s ∷ contents k (t + 1) (drop (field_size t s) s)

-- "Reading goes on with the rest of the frame, from where the last field ended": what stands behind the k tags from t
-- on
unfoldable pub behind : ℕ → ℕ → List ℕ → List ℕ
behind zero t s = s
behind (suc k) t s = behind k (t + 1) (drop (field_size t s) s)

-- "The data field is returned as that part of the frame itself"
unfoldable pub data_of : List ℕ → List ℕ
data_of s = content data_tag (behind data_tag 0 s)

-- the data stand in s from a place on to the end
abbrev pub DataAt : List ℕ → ℕ → ℕ → Type 0
DataAt s from end = (from ≤ end) × (end ≤ length s) × (take (end - from) (drop from s) ≡ data_of s)

-- 1 where there are bytes, 0 where there are none
abbrev pub present : ℕ → ℕ
present n = cond (eqb n 0) 0 1

-- the set of the tags that stand, the first content's tag as bit 0
unfoldable pub present_tags : List (List ℕ) → ℕ
present_tags [] = 0
present_tags (c ∷ r) = present (length c) + 2 * present_tags r

-- the number of a content, its 64 bits high and its 64 low; data are no number
unfoldable pub high_of : ℕ → List ℕ → ℕ
high_of t c = cond (eqb t data_tag) 0 (number c / 2 ^ 64)

unfoldable pub low_of : ℕ → List ℕ → ℕ
low_of t c = cond (eqb t data_tag) 0 (number c % 2 ^ 64)

-- g of each content and its tag, from tag t on
unfoldable pub each_from : (ℕ → List ℕ → ℕ) → ℕ → List (List ℕ) → List ℕ
each_from g t [] = []
each_from g t (c ∷ r) = g t c ∷ each_from g (t + 1) r

-- the field with this content; nothing where that is []
unfoldable pub piece : ℕ → List ℕ → List ℕ
piece t c = cond (eqb (length c) 0) [] (field_bytes t c)

-- the bytes of a row from tag t on
unfoldable pub join : ℕ → List (List ℕ) → List ℕ
join t [] = []
join t (c ∷ r) = piece t c ++ join (t + 1) r
