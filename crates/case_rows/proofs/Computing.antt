-- What the calls compute with: to unfold one of these names is to unfold all that its lines list.
use Prim.Native.Nat.{ℕ}
use Rattle.octets.specs.Bytes as octets
use Rattle.frame_table.specs.Table as frame_table
use Rattle.frame_row.specs.Row as frame_row
use Rattle.frame_reader.specs.Reader as frame_reader
use Rattle.frame_writer.specs.Writer as frame_writer
use Rattle.message.specs.OrderNumbers as order_numbers
use Rattle.message.specs.Replies as replies
use Rattle.message.specs.Requests as requests
use Rattle.message.specs.Segments as files
use Rattle.signers.specs.Signers as sets
use Rattle.bank_state.specs.Clock as clocks
use Rattle.bank_state.specs.Numbers as own_numbers
use Rattle.bank_state.specs.Rows as rows
use Rattle.bank_state.specs.Search as searches
use Rattle.bank_state.specs.State as state
use Rattle.bank_state.specs.Store as store
use Rattle.bank_verdicts.specs.Refusals as refusals
use Rattle.bank_verdicts.specs.Judgement as judgement
use Rattle.bank_openings.specs.Openings as openings
use Rattle.bank_signing.specs.Signings as signed
use Rattle.bank_uploads.specs.Uploads as uploads
use Rattle.bank.specs.Call as bank_call
use Rattle.bank.specs.Mailbox as bank_mailbox

unfoldable pub frames : ℕ
unfolding octets.number_from octets.number octets.bytes_of octets.field_bytes octets.overwrite
    frame_table.width frame_table.values_of frame_table.in_range frame_table.allowed frame_table.row_fits frame_table.find_form frame_table.form_of
    frame_row.spelled frame_row.listed frame_row.well_formed frame_row.stands frame_row.field_size frame_row.content frame_row.contents frame_row.behind
    frame_row.data_of frame_row.present_tags frame_row.high_of frame_row.low_of frame_row.each_from frame_row.piece frame_row.join
    frame_reader.fields_of frame_reader.parse frame_reader.read_request frame_reader.read_reply
    frame_writer.content_of frame_writer.contents_of frame_writer.frame_of frame_writer.length_from frame_writer.frame_length
    frame_writer.data_whole frame_writer.field_writable frame_writer.fields_writable frame_writer.writable frame_writer.accepted
    frame_writer.write_answer frame_writer.write_buffer
frames = 0

unfoldable pub messages : ℕ
unfolding replies.upload_opened replies.download_opened replies.segment_taken replies.recovery_point replies.download_segment
    replies.receipt_answered replies.unreadable replies.refusal
    requests.upload_opening requests.download_opening requests.upload_transfer requests.download_transfer requests.receipt
    files.segments_of files.segment_of order_numbers.character order_numbers.letter order_numbers.order_number_of
messages = 0

unfoldable pub bank : ℕ
unfolding clocks.is_idle clocks.freed clocks.drop_upload clocks.drop_uploads clocks.ends clocks.end_downloads clocks.forget
    clocks.at_clock clocks.advanced rows.first_of rows.count_of rows.keep rows.keep_only
    searches.free_place searches.free_download searches.free_nonce searches.is_upload searches.find_upload searches.is_download
    searches.find_download searches.open_count searches.open_count_of searches.is_remembered
    searches.holds_number searches.find_number searches.is_number_held
    state.fresh state.file_length state.series_of store.part_at store.with_part store.zeroed store.file_of
    refusals.no_subscriber refusals.long_data refusals.request_rows refusals.unknown_type refusals.many_segments refusals.in_time
    refusals.is_replay refusals.many_open refusals.is_full refusals.no_share refusals.opening_rows refusals.not_open refusals.transaction_rows
    refusals.upload_attempt refusals.is_underrun refusals.is_exceeded refusals.segment_rows refusals.upload_rows
    refusals.download_attempt refusals.receipt_rows refusals.download_rows
    judgement.judge_opening judgement.takes judgement.judge_upload judgement.judge_download judgement.judge_open
    judgement.judge_transaction judgement.judge
    judgement.opening_number own_numbers.first_unheld own_numbers.next_number
    openings.counted openings.counted_upload openings.open_upload openings.open_download uploads.grown uploads.booked uploads.attempted
    bank_call.mailbox_segment bank_call.respond bank_call.lent_right bank_call.frame_call bank_mailbox.file_refusals bank_mailbox.file_call
bank = 0

-- card 8, a signing: its lines, its order and its signers
unfoldable pub signings : ℕ
unfolding requests.signing refusals.no_owner refusals.signs_download refusals.is_order refusals.find_order refusals.not_booked
    refusals.no_memory refusals.signing_rows judgement.judge_signing signed.sign
    sets.has_bit sets.is_signer sets.with_signer sets.count_from sets.signer_count sets.is_released
signings = 0

-- card 11, an opening of edition 2.4: its form, its reply's, and its number
unfoldable pub choices : ℕ
unfolding requests.chosen_opening replies.chosen_opened order_numbers.digit_of order_numbers.letter_of
    order_numbers.is_order_number order_numbers.order_in
choices = 0
