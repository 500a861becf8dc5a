-- Card 2, the two calls: putting a session away and taking it up, with every number, record and byte that they leave.
use Rattle.image.specs.declared.codec.ImageRefusal.{ImageRefusal}
use Rattle.std.specs.Prelude.{Err, Ok, Result}
use Rattle.std.specs.Prelude.{ℕ, Bool, cond, ◌&&◌, List, [], length, ◌==◌, nat_le, slice_index_or}
use Rattle.octets.specs.Bytes.{overwrite}
use Rattle.journal.specs.Events.{record_count}
use Rattle.bank_state.specs.Limits.{store_bytes}
use Rattle.bank_session.specs.Session.{LentSession, session, session_size}
use Rattle.image.specs.declared.codec.ImageRefusal.TheVariants as refusal
use Rattle.image.specs.Items.{image_items, image_sizes}
use Rattle.image.specs.Image as codec
use Rattle.image_conditions.specs.Conditions as list
use Rattle.image_numbers.specs.Numbers.{numbers_in, rows_from, row_from}

-- the length of an image
abbrev pub image_length : ℕ
image_length = image_sizes.image

-- the numbers of a session's image, and the image
abbrev pub numbers_of : LentSession → List ℕ
numbers_of m = numbers_in m.rows m.row

unfoldable pub image_in : LentSession → List ℕ
image_in m = codec.image_of (numbers_of m) m.orders m.mailboxes

-- "a store or the row has another length"
abbrev pub sizes_right : ℕ → ℕ → ℕ → ℕ → Bool
sizes_right rows records orders mailboxes =
    (rows == session_size) && (records == record_count && (orders == store_bytes && mailboxes == store_bytes))

unfoldable pub lengths_right : LentSession → Bool
lengths_right m = sizes_right (length m.rows) (length m.row) (length m.orders) (length m.mailboxes)

-- the session is one of the list: its numbers hold the conditions and have their parts' lengths
unfoldable pub is_admitted : LentSession → Bool
is_admitted m =
    list.admitted (numbers_of m) m.orders m.mailboxes && codec.fits image_items (numbers_of m)

-- ---- putting away

-- document 01's number for an answer, 0 where the session is put away
abbrev pub away_number : Result ℕ ImageRefusal → ℕ
away_number (Ok n) = 0
away_number (Err r) = codec.image_refusal_number r

-- what the call leaves: the buffer, the answer, document 01's number for it; nothing of the session changes
pub record PutAway : Type 0 where
  pub buffer : List ℕ
  pub answer : Result ℕ ImageRefusal
  pub number : ℕ

abbrev pub put_away_of : Result ℕ ImageRefusal → List ℕ → PutAway
put_away_of r buffer = record { buffer = buffer; answer = r; number = away_number r }

-- the answer where the codec has written an image, or has not
abbrev pub away_of : Result (Unit {0}) ImageRefusal → Result ℕ ImageRefusal
away_of (Ok u) = Ok image_length
away_of (Err r) = Err r

-- "Number 1: a store or the row has another length, or the buffer is shorter than the image (a longer one is allowed;
-- bytes behind the image are untouched). Then number 9: the session is not one of the list. Else the image is written"
unfoldable pub put_away : LentSession → List ℕ → PutAway
put_away m buffer =
    cond (lengths_right m && nat_le image_length (length buffer))
    (cond (is_admitted m)
    (put_away_of (Ok image_length) (overwrite buffer 0 (image_in m)))
    (put_away_of (Err refusal.NotAdmitted) buffer))
    (put_away_of (Err refusal.WrongLength) buffer)

-- ---- taking up

-- document 01's number for an answer, 0 where the session is taken up
abbrev pub taken_up_number : Result (Unit {0}) ImageRefusal → ℕ
taken_up_number (Ok u) = 0
taken_up_number (Err r) = codec.image_refusal_number r

-- what the call leaves: the session, the answer, document 01's number for it
pub record TakeUp : Type 0 where
  pub session : LentSession
  pub answer : Result (Unit {0}) ImageRefusal
  pub number : ℕ

abbrev pub take_up_of : Result (Unit {0}) ImageRefusal → LentSession → TakeUp
take_up_of r m = record { session = m; answer = r; number = taken_up_number r }

-- the numbers and the stores in an image
unfoldable pub numbers_from : List ℕ → List ℕ
numbers_from image = codec.numbers_of image_items image

unfoldable pub store_from : ℕ → List ℕ → List ℕ
store_from n image = slice_index_or (codec.stores_of image_items image) n []

-- the bytes are an image, and hold the conditions; "Any other form's number is number 9"
unfoldable pub is_admitted_image : List ℕ → Bool
is_admitted_image image =
    codec.is_image image && list.admitted (numbers_from image) (store_from 0 image) (store_from 1 image)

-- the session in an image
unfoldable pub session_from : List ℕ → LentSession
session_from image =
    session (rows_from (numbers_from image)) (row_from (numbers_from image)) (store_from 0 image) (store_from 1 image)

-- "Number 1: a store or the row has another length. Then number 9: the image breaks a condition. Else state, stores and
-- row become those of the image, whatever stood there; no clock moves, nothing is dropped or forgotten, no event is
-- entered"
unfoldable pub take_up : LentSession → List ℕ → TakeUp
take_up m image =
    cond (lengths_right m)
    (cond (is_admitted_image image) (take_up_of (Ok tt) (session_from image)) (take_up_of (Err refusal.NotAdmitted) m))
    (take_up_of (Err refusal.WrongLength) m)
