-- Document 01, "The frame", and cards 8 and 11: the fields by tag, and the forms as sets of tags.
use Rattle.std.specs.Prelude.{ℕ, ◌+◌, ◌/◌, ◌%◌, ◌^◌, List, [], ◌∷◌, Bool, true, false, cond, ◌&&◌, ◌||◌, get_or, leb, eqb}
use Rattle.frame_table.specs.declared.table.Characters.{Characters}
use Rattle.frame_table.specs.declared.table.Characters.TheVariants.{Digits, CapitalsOrDigits}
use Rattle.frame_table.specs.declared.table.Values.{Values}
use Rattle.frame_table.specs.declared.table.Values.TheVariants.{Any, Range, Text}
use Rattle.frame_table.specs.declared.table.Field.{Field}
use Rattle.frame_table.specs.declared.table.RequestForm.{RequestForm}
use Rattle.frame_table.specs.declared.table.RequestForm.TheVariants.{UploadOpening, DownloadOpening}
use Rattle.frame_table.specs.declared.table.RequestForm.TheVariants.{UploadTransfer, DownloadTransfer, Receipt}
use Rattle.frame_table.specs.declared.table.RequestForm.TheVariants.{Signing, ChosenOpening}
use Rattle.frame_table.specs.declared.table.ReplyForm.{ReplyForm}
use Rattle.frame_table.specs.declared.table.ReplyForm.TheVariants.{
  UploadOpened,
  DownloadOpened,
  SegmentTaken,
  DownloadSegment,
  ReceiptAnswered,
  Unreadable,
  Refusal,
}
use Rattle.frame_table.specs.declared.table.Form.{Form}
use Rattle.frame_table.specs.declared.table.Form.TheVariants.{NoForm, Request, Reply}

-- "A frame has at most 1,024 bytes"
abbrev pub frame_limit : ℕ
frame_limit = 1024

-- "253,402,300,799,999": the last millisecond of the year 9999, the highest time of a frame or of a call
abbrev pub last_time : ℕ
last_time = 253402300799999

-- how many tags there are, from 0 on
abbrev pub tag_count : ℕ
tag_count = 18

-- "Tags (hex)": 01 phase
abbrev pub phase_tag : ℕ
phase_tag = 1

-- 02 subscriber
abbrev pub subscriber_tag : ℕ
subscriber_tag = 2

-- 03 exchange number
abbrev pub exchange_tag : ℕ
exchange_tag = 3

-- 04 order type
abbrev pub order_type_tag : ℕ
order_type_tag = 4

-- 05 nonce
abbrev pub nonce_tag : ℕ
nonce_tag = 5

-- 06 timestamp
abbrev pub timestamp_tag : ℕ
timestamp_tag = 6

-- 07 number of segments
abbrev pub segments_tag : ℕ
segments_tag = 7

-- 08 transaction ID
abbrev pub transaction_tag : ℕ
transaction_tag = 8

-- 09 segment number
abbrev pub segment_tag : ℕ
segment_tag = 9

-- 0A last mark
abbrev pub last_mark_tag : ℕ
last_mark_tag = 10

-- 0B data
abbrev pub data_tag : ℕ
data_tag = 11

-- 0C receipt code
abbrev pub receipt_code_tag : ℕ
receipt_code_tag = 12

-- 0D return code
abbrev pub return_code_tag : ℕ
return_code_tag = 13

-- 0E order number
abbrev pub order_number_tag : ℕ
order_number_tag = 14

-- of card 8: 0F order attribute
abbrev pub order_attribute_tag : ℕ
order_attribute_tag = 15

-- 10 owner
abbrev pub owner_tag : ℕ
owner_tag = 16

-- of card 11: 11 protocol version
abbrev pub version_tag : ℕ
version_tag = 17

-- "attribute UZHNN": five characters, high byte first
abbrev pub uzhnn : ℕ
uzhnn = 0x555A484E4E

-- "field 11 (4 bytes, H003)": four characters, high byte first
abbrev pub h003 : ℕ
h003 = 0x48303033

-- "content lengths" (0: 1 or more), and the values, for each tag from 0 on
abbrev pub field_table : List Field
field_table =
    (1, Range 1 0)  -- 00: no tag, no value
    ∷ (1, Range 1 3)  -- "phase, 1 byte: 1 initialisation, 2 transfer, 3 receipt"
    ∷ (2, Any)  -- "subscriber, 2"
    ∷ (4, Any)  -- "exchange number, 4"
    ∷ (3, Text CapitalsOrDigits)  -- "order type, 3 capitals or digits"
    ∷ (16, Any)  -- "nonce, 16"
    ∷ (8, Range 0 last_time)  -- "timestamp": 8 bytes since card 3, at most the last time
    ∷ (2, Any)  -- "number of segments, 2"
    ∷ (16, Any)  -- "transaction ID, 16"
    ∷ (2, Any)  -- "segment number, 2"
    ∷ (1, Range 0 1)  -- "last mark, 1, 0 or 1"
    ∷ (0, Any)  -- "data, 1 or more"
    ∷ (1, Range 0 1)  -- "receipt code, 1: 0 taken, 1 not taken"
    ∷ (6, Text Digits)  -- "return code, 6 ASCII digits"
    ∷ (4, Any)  -- "order number, 4"
    ∷ (5, Range uzhnn uzhnn)  -- "attribute UZHNN (0F, 5 bytes)": no other value
    ∷ (2, Any)  -- "owner (10, 2 bytes)"
    ∷ (4, Range h003 h003)  -- "field 11 (4 bytes, H003)": no other value
    ∷ []

-- the row of a tag; no values where there is no such tag
abbrev pub field_row : ℕ → Field
field_row t = get_or field_table t (0, Range 1 0)

-- the content length of a tag
unfoldable pub width : ℕ → ℕ
width t = (field_row t).0

-- the values of a tag
unfoldable pub values_of : ℕ → Values
values_of t = (field_row t).1

unfoldable pub in_range : ℕ → ℕ → ℕ → Bool
in_range least greatest n = leb least n && leb n greatest

-- the byte is one of the characters: 0 to 9 are 48 to 57, A to Z 65 to 90
unfoldable pub allowed : Characters → ℕ → Bool
allowed Digits b = in_range 48 57 b
allowed CapitalsOrDigits b = in_range 48 57 b || in_range 65 90 b

-- a set of tags as a number: bit t for tag t
abbrev pub tag_set : List ℕ → ℕ
tag_set [] = 0
tag_set (t ∷ ts) = 2 ^ t + tag_set ts

-- the tag is in the set
abbrev pub has : ℕ → ℕ → Bool
has m t = eqb (m / 2 ^ t % 2) 1

-- "Request forms": the phase and the tags of each
abbrev pub request_row : RequestForm → ℕ × ℕ
-- "upload opening (phase 1): 01 to 07"
request_row UploadOpening =
    (1, tag_set (phase_tag ∷ subscriber_tag ∷ exchange_tag ∷ order_type_tag ∷ nonce_tag ∷ timestamp_tag ∷ segments_tag ∷ []))
-- "download opening (phase 1): 01 to 06"
request_row DownloadOpening =
    (1, tag_set (phase_tag ∷ subscriber_tag ∷ exchange_tag ∷ order_type_tag ∷ nonce_tag ∷ timestamp_tag ∷ []))
-- "upload transfer (2): 01 02 03 08 09 0A 0B"
request_row UploadTransfer =
    (2, tag_set (phase_tag ∷ subscriber_tag ∷ exchange_tag ∷ transaction_tag ∷ segment_tag ∷ last_mark_tag ∷ data_tag ∷ []))
-- "download transfer (2): 01 02 03 08 09"
request_row DownloadTransfer = (2, tag_set (phase_tag ∷ subscriber_tag ∷ exchange_tag ∷ transaction_tag ∷ segment_tag ∷ []))
-- "receipt (3): 01 02 03 08 0C"
request_row Receipt = (3, tag_set (phase_tag ∷ subscriber_tag ∷ exchange_tag ∷ transaction_tag ∷ receipt_code_tag ∷ []))
-- card 8, "An opening of form 01 to 06, 0E, 0F, 10": phase 1
request_row Signing = (
  1,
  tag_set (phase_tag ∷ subscriber_tag ∷ exchange_tag ∷ order_type_tag ∷ nonce_tag ∷ timestamp_tag ∷ order_number_tag
      ∷ order_attribute_tag ∷ owner_tag ∷ []),
)
-- card 11, "An upload opening with field 11 (4 bytes, H003) and 0E, besides 01 to 07": phase 1
request_row ChosenOpening = (
  1,
  tag_set (phase_tag ∷ subscriber_tag ∷ exchange_tag ∷ order_type_tag ∷ nonce_tag ∷ timestamp_tag ∷ segments_tag
      ∷ order_number_tag ∷ version_tag ∷ []),
)

-- "Reply forms": the tags of each
abbrev pub reply_row : ReplyForm → ℕ
-- "upload opened 01 03 08 0D 0E"
reply_row UploadOpened = tag_set (phase_tag ∷ exchange_tag ∷ transaction_tag ∷ return_code_tag ∷ order_number_tag ∷ [])
-- "download opened 01 03 07 08 09 0A 0B 0D"
reply_row DownloadOpened =
    tag_set (phase_tag ∷ exchange_tag ∷ segments_tag ∷ transaction_tag ∷ segment_tag ∷ last_mark_tag ∷ data_tag
    ∷ return_code_tag ∷ [])
-- "upload segment taken and recovery point 01 03 08 09 0D"
reply_row SegmentTaken = tag_set (phase_tag ∷ exchange_tag ∷ transaction_tag ∷ segment_tag ∷ return_code_tag ∷ [])
-- "download segment 01 03 08 09 0A 0B 0D"
reply_row DownloadSegment =
    tag_set (phase_tag ∷ exchange_tag ∷ transaction_tag ∷ segment_tag ∷ last_mark_tag ∷ data_tag ∷ return_code_tag ∷ [])
-- "receipt answered 01 03 08 0D"; of card 11 also the reply to a chosen opening, which "leaves 0E out"
reply_row ReceiptAnswered = tag_set (phase_tag ∷ exchange_tag ∷ transaction_tag ∷ return_code_tag ∷ [])
-- "unreadable request 0D"
reply_row Unreadable = tag_set (return_code_tag ∷ [])
-- "any other refusal 01 03 0D"
reply_row Refusal = tag_set (phase_tag ∷ exchange_tag ∷ return_code_tag ∷ [])

-- the tags of a form
abbrev pub tags_of : Form → ℕ
tags_of NoForm = 0
tags_of (Request x) = (request_row x).1
tags_of (Reply x) = reply_row x

-- a request form has its own phase, a reply form any
abbrev pub has_phase : Form → ℕ → Bool
has_phase NoForm p = false
has_phase (Request x) p = eqb (request_row x).0 p
has_phase (Reply x) p = true

-- "these forms only"
abbrev pub form_table : List Form
form_table =
    Request UploadOpening ∷ Request DownloadOpening ∷ Request UploadTransfer ∷ Request DownloadTransfer
    ∷ Request Receipt ∷ Request Signing ∷ Request ChosenOpening
    ∷ Reply UploadOpened ∷ Reply DownloadOpened ∷ Reply SegmentTaken ∷ Reply DownloadSegment ∷ Reply ReceiptAnswered
    ∷ Reply Unreadable ∷ Reply Refusal ∷ []

-- the form has these tags, and this phase or any
unfoldable pub row_fits : Form → ℕ → ℕ → Bool
row_fits x m p = eqb (tags_of x) m && has_phase x p

unfoldable pub find_form : List Form → ℕ → ℕ → Form
find_form [] m p = NoForm
find_form (x ∷ l) m p = cond (row_fits x m p) x (find_form l m p)

-- the form with these tags and this phase
unfoldable pub form_of : ℕ → ℕ → Form
form_of m p = find_form form_table m p

abbrev pub is_request_form : Form → Bool
is_request_form NoForm = false
is_request_form (Request x) = true
is_request_form (Reply x) = false

abbrev pub is_reply_form : Form → Bool
is_reply_form NoForm = false
is_reply_form (Request x) = false
is_reply_form (Reply x) = true

abbrev pub is_form : Form → Bool
is_form x = is_request_form x || is_reply_form x
