-- Document 01, "The frame": the frame that says these fields with this data, and what the writer accepts.
use Rattle.number_table.specs.Numbers.{number_one}
use Rattle.number_table.specs.declared.table.WrongLength.{WrongLength}
use Rattle.std.specs.Prelude.{Err, Ok, Result}
use Rattle.std.specs.Prelude.{ℕ, zero, suc, ◌+◌, ◌*◌, ◌^◌, List, [], ◌∷◌, Bool, true, cond, not, ◌&&◌, ◌||◌, length, get_or, leb, eqb}
use Rattle.number_table.specs.Table as numbers
use Rattle.frame_table.specs.declared.fields.Fields.{Fields}
use Rattle.frame_table.specs.declared.table.Form.{Form}
use Rattle.frame_table.specs.Forms as forms
use Rattle.octets.specs.Bytes.{bytes_of, overwrite}
use Rattle.frame_table.specs.Table.{frame_limit, tag_count, data_tag, width, has, tags_of, is_form}
use Rattle.frame_table.specs.Names.{form}
use Rattle.frame_row.specs.Row.{well_formed, high_of, low_of, join}

-- the content of tag t among the tags m: the data d, its number, or nothing where the tag is absent
abbrev pub content_at : ℕ → ℕ → ℕ → ℕ → List ℕ → List ℕ
content_at m t hi lo d = cond (has m t) (cond (eqb t data_tag) d (bytes_of (width t) (hi * 2 ^ 64 + lo))) []

-- the content of tag t of these fields
unfoldable pub content_of : ℕ → Fields → List ℕ → List ℕ
content_of t f d = content_at f.tags t (get_or f.high t 0) (get_or f.low t 0) d

-- the contents of the k tags from t on
unfoldable pub contents_of : ℕ → ℕ → Fields → List ℕ → List (List ℕ)
contents_of zero t f d = []
contents_of (suc k) t f d = content_of t f d ∷ contents_of k (t + 1) f d

-- the frame that says these fields with this data
unfoldable pub frame_of : Fields → List ℕ → List ℕ
frame_of f d = join 0 (contents_of tag_count 0 f d)

-- the bytes that the k tags from t on take in a frame with the tags m and n bytes of data
unfoldable pub length_from : ℕ → ℕ → ℕ → ℕ → ℕ
length_from zero t m n = 0
length_from (suc k) t m n = cond (has m t) (3 + cond (eqb t data_tag) n (width t)) 0 + length_from k (t + 1) m n

-- the bytes of a frame with the tags m and n bytes of data
unfoldable pub frame_length : ℕ → ℕ → ℕ
frame_length m n = length_from tag_count 0 m n

-- the bytes of a frame of the form x with n bytes of data
abbrev pub form_length : Form → ℕ → ℕ
form_length x n = frame_length (tags_of x) n

-- n bytes are all m bytes of the data, where t is the tag of the data
unfoldable pub data_whole : ℕ → ℕ → ℕ → Bool
data_whole t n m = not (eqb t data_tag) || eqb n m

-- the content c of tag t, which stands or not, reads as its number, the data d is whole, and a field that stands is
-- well-formed
abbrev pub content_fits : ℕ → Bool → List ℕ → ℕ → ℕ → List ℕ → Bool
content_fits t stands c hi lo d =
    eqb (high_of t c) hi && eqb (low_of t c) lo && data_whole t (length c) (length d) && (not stands || well_formed t c)

-- no "values outside their list"
unfoldable pub field_writable : ℕ → Fields → List ℕ → Bool
field_writable t f d = content_fits t (has f.tags t) (content_of t f d) (get_or f.high t 0) (get_or f.low t 0) d

-- the k fields from tag t on can be written
unfoldable pub fields_writable : ℕ → ℕ → Fields → List ℕ → Bool
fields_writable zero t f d = true
fields_writable (suc k) t f d = field_writable t f d && fields_writable k (t + 1) f d

-- "The writer writes these forms only, up to 1,024 bytes"
unfoldable pub writable : Fields → List ℕ → Bool
writable f d = is_form (form f) && fields_writable tag_count 0 f d && leb (length (frame_of f d)) frame_limit

-- what is to be written can be, and the buffer old is not too short for it
unfoldable pub accepted : Fields → List ℕ → List ℕ → Bool
accepted f d old = writable f d && leb (length (frame_of f d)) (length old)

-- the answer where f with the data d was to be written into old
unfoldable pub write_answer : Fields → List ℕ → List ℕ → Result ℕ WrongLength
write_answer f d old = cond (accepted f d old) (Ok (length (frame_of f d))) (Err number_one)

-- the buffer then: the frame in front, or "nothing written"
unfoldable pub write_buffer : Fields → List ℕ → List ℕ → List ℕ
write_buffer f d old = cond (accepted f d old) (overwrite old 0 (frame_of f d)) old

-- "fields of no form, values outside their list or too short a buffer get number 1"; 0 where a frame is written
unfoldable pub write_number : Fields → List ℕ → List ℕ → ℕ
write_number f d old = cond (accepted f d old) 0 numbers.wrong_length

-- document 01's number for an answer, 0 where a frame is written
abbrev pub written_number : Result ℕ WrongLength → ℕ
written_number (Ok n) = 0
written_number (Err e) = numbers.wrong_length

-- "Frame lengths: upload opening" 57
abbrev pub upload_opening_length : ℕ
upload_opening_length = 57

-- and, of card 3, download opening 52
abbrev pub download_opening_length : ℕ
download_opening_length = 52

-- and, of card 8, signing 72
abbrev pub signing_length : ℕ
signing_length = 72

-- its reply 20: the form "any other refusal 01 03 0D"
abbrev pub signed_length : ℕ
signed_length = 20

-- of card 11, an opening that brings its order number 71
abbrev pub chosen_opening_length : ℕ
chosen_opening_length = 71

-- its reply 39: the form "receipt answered 01 03 08 0D"
abbrev pub chosen_opened_length : ℕ
chosen_opened_length = 39

-- "largest request 303", with the 256 data bytes of a whole segment; "request buffer under 303"
abbrev pub request_room : ℕ
request_room = 303

-- "largest reply 312", likewise; "a reply buffer of at least 312 bytes"
abbrev pub reply_room : ℕ
reply_room = 312

-- "unreadable request 0D"
abbrev pub smallest_reply : ℕ
smallest_reply = form_length forms.Unreadable 0

-- "segments are 256 bytes but the last"
abbrev pub segment_bytes : ℕ
segment_bytes = 256
