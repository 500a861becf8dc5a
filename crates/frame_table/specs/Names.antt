-- Document 01, "The frame": the fields by their names, and fields set one by one.
use Rattle.std.specs.Prelude.{ℕ, ◌+◌, ◌^◌, Bool, cond, ◌&&◌, get_or, set, replicate, ltb, eqb}
use Rattle.frame_table.specs.declared.fields.Bits128.{Bits128}
use Rattle.frame_table.specs.declared.fields.Fields.{Fields}
use Rattle.frame_table.specs.declared.table.Form.{Form}
use Rattle.frame_table.specs.Table.{
  tag_count,
  phase_tag,
  subscriber_tag,
  exchange_tag,
  order_type_tag,
  nonce_tag,
  timestamp_tag,
  segments_tag,
  transaction_tag,
  segment_tag,
  last_mark_tag,
  receipt_code_tag,
  return_code_tag,
  order_number_tag,
  order_attribute_tag,
  owner_tag,
  version_tag,
  has,
  form_of,
}

-- "01 phase"
abbrev pub phase : Fields → ℕ
phase f = get_or f.low phase_tag 0

-- "02 subscriber"
abbrev pub subscriber : Fields → ℕ
subscriber f = get_or f.low subscriber_tag 0

-- "03 exchange number, standing for the HTTP connection"
abbrev pub exchange : Fields → ℕ
exchange f = get_or f.low exchange_tag 0

-- "04 order type": its three bytes as a number
abbrev pub order_type : Fields → ℕ
order_type f = get_or f.low order_type_tag 0

-- "05 nonce"
abbrev pub nonce : Fields → Bits128
nonce f = record { high = get_or f.high nonce_tag 0; low = get_or f.low nonce_tag 0 }

-- "06 timestamp", milliseconds since 1970 UTC
abbrev pub timestamp : Fields → ℕ
timestamp f = get_or f.low timestamp_tag 0

-- "07 number of segments"
abbrev pub segments : Fields → ℕ
segments f = get_or f.low segments_tag 0

-- "08 transaction ID"
abbrev pub transaction : Fields → Bits128
transaction f = record { high = get_or f.high transaction_tag 0; low = get_or f.low transaction_tag 0 }

-- "09 segment number"
abbrev pub segment : Fields → ℕ
segment f = get_or f.low segment_tag 0

-- "0A last mark"
abbrev pub last_mark : Fields → ℕ
last_mark f = get_or f.low last_mark_tag 0

-- "0C receipt code"
abbrev pub receipt_code : Fields → ℕ
receipt_code f = get_or f.low receipt_code_tag 0

-- "0D return code": its six digits' bytes as a number
abbrev pub return_code : Fields → ℕ
return_code f = get_or f.low return_code_tag 0

-- "0E order number": its four bytes as a number
abbrev pub order_number : Fields → ℕ
order_number f = get_or f.low order_number_tag 0

-- card 8, "attribute UZHNN (0F, 5 bytes)": its five bytes as a number
abbrev pub order_attribute : Fields → ℕ
order_attribute f = get_or f.low order_attribute_tag 0

-- "its owner (10, 2 bytes)": the subscriber whose order is named
abbrev pub owner : Fields → ℕ
owner f = get_or f.low owner_tag 0

-- card 11, "field 11 (4 bytes, H003)": its four bytes as a number
abbrev pub version : Fields → ℕ
version f = get_or f.low version_tag 0

-- the form that the fields are of
abbrev pub form : Fields → Form
form f = form_of f.tags (phase f)

-- the set with the tag in it
abbrev pub with_tag : ℕ → ℕ → ℕ
with_tag t m = cond (has m t) m (m + 2 ^ t)

-- f with the field t of this number; f itself where there is no such tag
abbrev pub with_wide : ℕ → Bits128 → Fields → Fields
with_wide t v f =
    cond (ltb t tag_count)
    (record { tags = with_tag t f.tags; high = set f.high t v.high; low = set f.low t v.low })
    f

-- the same for a number of at most 64 bits
abbrev pub with : ℕ → ℕ → Fields → Fields
with t v f = with_wide t (record { high = 0; low = v }) f

-- two transaction IDs, or two nonces, are the same
abbrev pub same_bits : Bits128 → Bits128 → Bool
same_bits a b = eqb a.high b.high && eqb a.low b.low

-- no fields: the empty set of tags, and every number 0
abbrev pub no_fields : Fields
no_fields = record { tags = 0; high = replicate tag_count 0; low = replicate tag_count 0 }
