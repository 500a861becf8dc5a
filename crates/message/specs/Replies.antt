-- The seven reply forms of document 01 and the reply of card 11, each as the fields that it has.
use Rattle.std.specs.Prelude.{ℕ}
use Rattle.frame_table.specs.declared.fields.Fields.{Fields}
use Rattle.frame_table.specs.declared.fields.Bits128.{Bits128}
use Rattle.frame_table.specs.Table.{phase_tag, exchange_tag, segments_tag, transaction_tag, segment_tag, last_mark_tag}
use Rattle.frame_table.specs.Table.{data_tag, return_code_tag, order_number_tag}
use Rattle.frame_table.specs.Names.{no_fields}
use Rattle.frame_table.specs.Names.{with, with_wide}
use Rattle.message.specs.declared.codes.ReturnCode.{ReturnCode}
use Rattle.message.specs.declared.codes.ReturnCode.TheVariants as code
use Rattle.message.specs.Codes.{code_field}
use Rattle.message.specs.Limits.{initialisation_phase, transfer_phase, receipt_phase}

-- phase and exchange number stand in every reply but the one to an unreadable request
abbrev pub reply_of : ℕ → ℕ → Fields
reply_of phase exchange = with exchange_tag exchange (with phase_tag phase no_fields)

-- the return code
abbrev pub with_code : ReturnCode → Fields → Fields
with_code c f = with return_code_tag (code_field c) f

-- "upload opened 01 03 08 0D 0E"
unfoldable pub upload_opened : ℕ → Bits128 → ℕ → Fields
upload_opened exchange transaction order_number =
    with order_number_tag order_number
    (with_code code.Ok (with_wide transaction_tag transaction (reply_of initialisation_phase exchange)))

-- card 11, "the reply leaves 0E out": the tags of "receipt answered 01 03 08 0D", told apart by phase 1 and 000000
unfoldable pub chosen_opened : ℕ → Bits128 → Fields
chosen_opened exchange transaction =
    with_code code.Ok (with_wide transaction_tag transaction (reply_of initialisation_phase exchange))

-- a segment's fields 09 0A 0B behind the transaction ID; the data stands beside the fields
abbrev pub with_segment : ℕ → ℕ → Fields → Fields
with_segment segment last_mark f = with data_tag 0 (with last_mark_tag last_mark (with segment_tag segment f))

-- "download opened 01 03 07 08 09 0A 0B 0D (segment 1 is in it)"
unfoldable pub download_opened : ℕ → ℕ → Bits128 → ℕ → Fields
download_opened exchange segments transaction last_mark =
    with_code code.Ok
    (with_segment 1 last_mark
    (with_wide transaction_tag transaction (with segments_tag segments (reply_of initialisation_phase exchange))))

-- 01 03 08 09 0D
abbrev pub point_of : ℕ → ℕ → Bits128 → ℕ → ReturnCode → Fields
point_of phase exchange transaction segment c =
    with_code c (with segment_tag segment (with_wide transaction_tag transaction (reply_of phase exchange)))

-- "upload segment taken ... 01 03 08 09 0D"
unfoldable pub segment_taken : ℕ → Bits128 → ℕ → Fields
segment_taken exchange transaction segment = point_of transfer_phase exchange transaction segment code.Ok

-- "recovery point 01 03 08 09 0D": its phase is the point's, its segment number k or d
unfoldable pub recovery_point : ℕ → ℕ → Bits128 → ℕ → Fields
recovery_point phase exchange transaction segment = point_of phase exchange transaction segment code.RecoverySync

-- "download segment 01 03 08 09 0A 0B 0D"
unfoldable pub download_segment : ℕ → Bits128 → ℕ → ℕ → Fields
download_segment exchange transaction segment last_mark =
    with_code code.Ok (with_segment segment last_mark
    (with_wide transaction_tag transaction (reply_of transfer_phase exchange)))

-- "receipt answered 01 03 08 0D"
unfoldable pub receipt_answered : ℕ → Bits128 → ReturnCode → Fields
receipt_answered exchange transaction c = with_code c
    (with_wide transaction_tag transaction (reply_of receipt_phase exchange))

-- "unreadable request 0D"
unfoldable pub unreadable : Fields
unreadable = with_code code.InvalidXml no_fields

-- "any other refusal 01 03 0D"; of card 8 also the reply to a signing, with 000000: "the reply is 01 03 0D"
unfoldable pub refusal : ℕ → ℕ → ReturnCode → Fields
refusal phase exchange c = with_code c (reply_of phase exchange)
