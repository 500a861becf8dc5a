-- The five request forms of document 01 and those of cards 8 and 11, each as the fields that it has.
use Rattle.std.specs.Prelude.{ℕ}
use Rattle.frame_table.specs.declared.fields.Fields.{Fields}
use Rattle.frame_table.specs.declared.fields.Bits128.{Bits128}
use Rattle.frame_table.specs.Table.{phase_tag, subscriber_tag, exchange_tag, order_type_tag, nonce_tag, timestamp_tag}
use Rattle.frame_table.specs.Table.{segments_tag, transaction_tag, segment_tag, last_mark_tag, data_tag, receipt_code_tag}
use Rattle.frame_table.specs.Table.{order_number_tag, order_attribute_tag, owner_tag, uzhnn, version_tag, h003}
use Rattle.frame_table.specs.Names.{no_fields}
use Rattle.frame_table.specs.Names.{with, with_wide}
use Rattle.message.specs.Limits.{initialisation_phase, transfer_phase, receipt_phase, ful, fdl}

-- phase, subscriber and exchange number stand in every request
abbrev pub request_of : ℕ → ℕ → ℕ → Fields
request_of phase subscriber exchange = with exchange_tag exchange
    (with subscriber_tag subscriber (with phase_tag phase no_fields))

-- an opening's fields 01 to 06
abbrev pub opening_of : ℕ → ℕ → ℕ → Bits128 → ℕ → Fields
opening_of subscriber exchange order_type nonce timestamp =
    with timestamp_tag timestamp
    (with_wide nonce_tag nonce (with order_type_tag order_type (request_of initialisation_phase subscriber exchange)))

-- "upload opening (phase 1): 01 to 07"
unfoldable pub upload_opening : ℕ → ℕ → Bits128 → ℕ → ℕ → Fields
upload_opening subscriber exchange nonce timestamp segments = with segments_tag segments
    (opening_of subscriber exchange ful nonce timestamp)

-- "download opening (phase 1): 01 to 06"
unfoldable pub download_opening : ℕ → ℕ → Bits128 → ℕ → Fields
download_opening subscriber exchange nonce timestamp = opening_of subscriber exchange fdl nonce timestamp

-- a transfer's fields 01 02 03 08 09
abbrev pub transfer_of : ℕ → ℕ → Bits128 → ℕ → Fields
transfer_of subscriber exchange transaction segment =
    with segment_tag segment (with_wide transaction_tag transaction (request_of transfer_phase subscriber exchange))

-- "upload transfer (2): 01 02 03 08 09 0A 0B"; the data stands beside the fields
unfoldable pub upload_transfer : ℕ → ℕ → Bits128 → ℕ → ℕ → Fields
upload_transfer subscriber exchange transaction segment last_mark =
    with data_tag 0 (with last_mark_tag last_mark (transfer_of subscriber exchange transaction segment))

-- "download transfer (2): 01 02 03 08 09"
unfoldable pub download_transfer : ℕ → ℕ → Bits128 → ℕ → Fields
download_transfer subscriber exchange transaction segment = transfer_of subscriber exchange transaction segment

-- "receipt (3): 01 02 03 08 0C"
unfoldable pub receipt : ℕ → ℕ → Bits128 → ℕ → Fields
receipt subscriber exchange transaction code =
    with receipt_code_tag code (with_wide transaction_tag transaction (request_of receipt_phase subscriber exchange))

-- card 8, "An opening of form 01 to 06, 0E, 0F, 10 has attribute UZHNN ... and names type FUL, an order number and its
-- owner"
unfoldable pub signing : ℕ → ℕ → Bits128 → ℕ → ℕ → ℕ → Fields
signing subscriber exchange nonce timestamp order_number owner =
    with owner_tag owner (with order_attribute_tag uzhnn
    (with order_number_tag order_number (opening_of subscriber exchange ful nonce timestamp)))

-- card 11, "An upload opening with field 11 (4 bytes, H003) and 0E, besides 01 to 07"
unfoldable pub chosen_opening : ℕ → ℕ → Bits128 → ℕ → ℕ → ℕ → Fields
chosen_opening subscriber exchange nonce timestamp segments order_number =
    with version_tag h003 (with order_number_tag order_number (upload_opening subscriber exchange nonce timestamp segments))
