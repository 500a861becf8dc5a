-- Card 2: the image of a session's numbers and stores, and what the two calls answer and leave.
use Rattle.image.specs.declared.codec.ImageRefusal.{ImageRefusal}
use Rattle.std.specs.Prelude.{Err, Ok, Result}
use Rattle.std.specs.Prelude.{ℕ, ◌^◌, List, [], ◌∷◌, ◌++◌, Bool, true, cond, ◌&&◌, length, get_or, take, drop, ltb, leb, eqb}
use Rattle.number_table.specs.Table as numbers
use Rattle.octets.specs.Bytes.{number, bytes_of, overwrite}
use Rattle.image.specs.declared.codec.ImageRefusal.TheVariants.{WrongLength, NotAdmitted}
use Rattle.image.specs.Items.{Item, constant, part, store, image_items, image_sizes}

-- the bytes of constants, numbers and stores
unfoldable pub pack : List Item → List ℕ → List (List ℕ) → List ℕ
pack [] xs ss = []
pack (constant w v ∷ l) xs ss = bytes_of w v ++ pack l xs ss
pack (part w ∷ l) xs ss = bytes_of w (get_or xs 0 0) ++ pack l (drop 1 xs) ss
pack (store z ∷ l) xs ss = get_or ss 0 [] ++ pack l xs (drop 1 ss)

-- the numbers in such bytes
unfoldable pub numbers_of : List Item → List ℕ → List ℕ
numbers_of [] s = []
numbers_of (constant w v ∷ l) s = numbers_of l (drop w s)
numbers_of (part w ∷ l) s = number (take w s) ∷ numbers_of l (drop w s)
numbers_of (store z ∷ l) s = numbers_of l (drop z s)

-- the stores in such bytes
unfoldable pub stores_of : List Item → List ℕ → List (List ℕ)
stores_of [] s = []
stores_of (constant w v ∷ l) s = stores_of l (drop w s)
stores_of (part w ∷ l) s = stores_of l (drop w s)
stores_of (store z ∷ l) s = take z s ∷ stores_of l (drop z s)

-- each number has no more bytes than its part
unfoldable pub fits : List Item → List ℕ → Bool
fits [] xs = true
fits (constant w v ∷ l) xs = fits l xs
fits (part w ∷ l) xs = ltb (get_or xs 0 0) (256 ^ w) && fits l (drop 1 xs)
fits (store z ∷ l) xs = fits l xs

-- each constant stands where the table has it
unfoldable pub constants_right : List Item → List ℕ → Bool
constants_right [] s = true
constants_right (constant w v ∷ l) s = eqb (number (take w s)) v && constants_right l (drop w s)
constants_right (part w ∷ l) s = constants_right l (drop w s)
constants_right (store z ∷ l) s = constants_right l (drop z s)

-- both stores
abbrev pub stores : List ℕ → List ℕ → List (List ℕ)
stores orders mailboxes = orders ∷ mailboxes ∷ []

-- both stores as parts of an image, by their places in it
abbrev pub parts_of : List ℕ → List (List ℕ)
parts_of s =
    stores (take image_sizes.store (drop image_sizes.orders s))
    (take image_sizes.store (drop image_sizes.mailboxes s))

unfoldable pub image_of : List ℕ → List ℕ → List ℕ → List ℕ
image_of xs orders mailboxes = pack image_items xs (stores orders mailboxes)

-- the numbers and both stores have the image's lengths
unfoldable pub lent : List ℕ → List ℕ → List ℕ → Bool
lent xs orders mailboxes =
    eqb (length xs) image_sizes.numbers
    && (eqb (length orders) image_sizes.store && eqb (length mailboxes) image_sizes.store)

-- "The first field is the form's number"; "tags rising, each once, nothing behind": bytes that are an image
unfoldable pub is_image : List ℕ → Bool
is_image s = eqb (length s) image_sizes.image && constants_right image_items s

-- the papers' number for a refusal: "with number 9 after number 1"
abbrev pub image_refusal_number : ImageRefusal → ℕ
image_refusal_number WrongLength = numbers.wrong_length
image_refusal_number NotAdmitted = numbers.not_admitted

-- the papers' number for an answer, 0 where an image is written or read
abbrev pub codec_number : Result (Unit {0}) ImageRefusal → ℕ
codec_number (Ok u) = 0
codec_number (Err r) = image_refusal_number r

-- what a call of the writer answers, its number, and what it leaves
pub record Wrote : Type 0 where
  pub answer : Result (Unit {0}) ImageRefusal
  pub number : ℕ
  pub buffer : List ℕ

abbrev pub wrote : Result (Unit {0}) ImageRefusal → List ℕ → Wrote
wrote r d = record { answer = r; number = codec_number r; buffer = d }

-- "in a lent buffer, bytes behind them untouched"
unfoldable pub written : List ℕ → List ℕ → List ℕ → List ℕ → Wrote
written xs orders mailboxes d =
    cond (lent xs orders mailboxes && leb image_sizes.image (length d))
    (cond (fits image_items xs)
    (wrote (Ok tt) (overwrite d 0 (image_of xs orders mailboxes)))
    (wrote (Err NotAdmitted) d))
    (wrote (Err WrongLength) d)

-- what a call of the reader answers, its number, and what it leaves
pub record Took : Type 0 where
  pub answer : Result (Unit {0}) ImageRefusal
  pub number : ℕ
  pub numbers : List ℕ
  pub stores : List (List ℕ)

abbrev pub took : Result (Unit {0}) ImageRefusal → List ℕ → List (List ℕ) → Took
took r xs ss = record { answer = r; number = codec_number r; numbers = xs; stores = ss }

-- "taking up gives back the session written, whatever stood there"; "leaves the session unchanged" otherwise
unfoldable pub taken : List ℕ → List ℕ → List ℕ → List ℕ → Took
taken s xs orders mailboxes =
    cond (lent xs orders mailboxes)
    (cond (is_image s)
    (took (Ok tt) (numbers_of image_items s) (stores_of image_items s))
    (took (Err NotAdmitted) xs (stores orders mailboxes)))
    (took (Err WrongLength) xs (stores orders mailboxes))

-- what a call that reads the numbers alone answers, its number, and what it leaves
pub record TookNumbers : Type 0 where
  pub answer : Result (Unit {0}) ImageRefusal
  pub number : ℕ
  pub numbers : List ℕ

abbrev pub took_numbers : Result (Unit {0}) ImageRefusal → List ℕ → TookNumbers
took_numbers r xs = record { answer = r; number = codec_number r; numbers = xs }

unfoldable pub numbers_taken : List ℕ → List ℕ → TookNumbers
numbers_taken s xs =
    cond (eqb (length xs) image_sizes.numbers)
    (cond (is_image s) (took_numbers (Ok tt) (numbers_of image_items s)) (took_numbers (Err NotAdmitted) xs))
    (took_numbers (Err WrongLength) xs)

-- the lengths of stores
unfoldable pub lengths : List (List ℕ) → List ℕ
lengths [] = []
lengths (s ∷ ss) = length s ∷ lengths ss
