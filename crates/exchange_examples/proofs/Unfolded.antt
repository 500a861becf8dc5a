-- What the examples compute with: to unfold one of these names is to unfold all that stands on its line.
use Rattle.octets.specs.Bytes as frame_bytes
use Rattle.frame_reader.specs.Reader as frame_reader
use Rattle.frame_row.specs.Row as frame_row
use Rattle.frame_table.specs.Table as frame_table
use Rattle.frame_writer.specs.Writer as frame_writer
use Rattle.message.specs.OrderNumbers as message_order_numbers
use Rattle.message.specs.Replies as message_replies
use Rattle.message.specs.Requests as message_requests
use Rattle.message.specs.Segments as message_segments
use Rattle.signers.specs.Signers as signer_sets
use Rattle.bank_state.specs.Clock as bankstate_clock
use Rattle.bank_state.specs.Numbers as bankstate_numbers
use Rattle.bank_state.specs.Rows as bankstate_rows
use Rattle.bank_state.specs.Search as bankstate_search
use Rattle.bank_state.specs.State as bankstate_state
use Rattle.bank_state.specs.Store as bankstate_store
use Rattle.bank_rows.specs.State as bankrows_state
use Rattle.bank_rows.specs.Rows as bankrows_rows
use Rattle.bank_verdicts.specs.Refusals as refusals
use Rattle.bank_verdicts.specs.Judgement as judgement
use Rattle.bank_openings.specs.Openings as openings
use Rattle.bank_signing.specs.Signings as signings
use Rattle.bank_uploads.specs.Uploads as uploads
use Rattle.bank_sound.specs.Sound as sound_rows
use Rattle.bank.specs.Lent as bank_lent
use Rattle.opening_counts.specs.Counts as seven_counts
use Rattle.bank_session.specs.Counts as session_counts
use Rattle.bank_session.specs.Session as host_calls
use Rattle.bank.specs.Call as bank_call
use Rattle.bank.specs.Mailbox as bank_mailbox
use Rattle.journal.specs.Events as journal_events
use Rattle.journal.specs.Row as journal_row
use Rattle.bank_events.specs.Entries as bank_entries
use Rattle.bank.specs.Journal as bank_journal
use Rattle.image.specs.Image as image
use Rattle.image.specs.Items as image_items
use Rattle.image.specs.Table as image_table
use Rattle.image_conditions.specs.Conditions as conditions
use Rattle.image_records.specs.Layout as records_layout
use Rattle.image_records.specs.Shapes as records_shapes
use Rattle.image_numbers.specs.Table as numbers_table
use Rattle.image_numbers.specs.Numbers as image_numbers
use Rattle.image_calls.specs.Calls as image_calls
use Rattle.client.specs.Calls as client_calls
use Rattle.client.specs.Journal as client_journal
use Rattle.client_run.specs.NextRun as client_next_run
use Rattle.client_run.specs.Requests as client_requests
use Rattle.client_run.specs.Run as client_run
use Rattle.client_rules.specs.Decisions as client_decisions
use Rattle.client_rules.specs.Rulings as client_rulings
use Rattle.exchange.specs.Course as course
use Rattle.exchange.specs.Demand3.{is_subscribers}

-- the calls of both ends
unfoldable pub both_ends : Unit {0}
unfolding frame_bytes.number_from frame_bytes.number frame_bytes.bytes_of frame_bytes.field_bytes frame_bytes.overwrite
    frame_reader.fields_of frame_reader.parse frame_reader.read_request frame_reader.read_reply frame_row.spelled
    frame_row.listed frame_row.well_formed frame_row.stands frame_row.field_size frame_row.content frame_row.contents
    frame_row.behind frame_row.data_of frame_row.present_tags frame_row.high_of frame_row.low_of frame_row.each_from
    frame_row.piece frame_row.join frame_table.width frame_table.values_of frame_table.in_range frame_table.allowed
    frame_table.row_fits frame_table.find_form frame_table.form_of frame_writer.content_of frame_writer.contents_of
    frame_writer.frame_of frame_writer.length_from frame_writer.frame_length frame_writer.data_whole frame_writer.field_writable
    frame_writer.fields_writable frame_writer.writable frame_writer.accepted frame_writer.write_answer
    frame_writer.write_buffer message_replies.upload_opened message_replies.chosen_opened message_replies.download_opened message_replies.segment_taken
    message_replies.recovery_point message_replies.download_segment message_replies.receipt_answered
    message_replies.unreadable message_replies.refusal message_requests.upload_opening message_requests.chosen_opening message_requests.download_opening
    message_requests.upload_transfer message_requests.download_transfer message_requests.receipt message_requests.signing message_segments.segments_of
    message_segments.segment_of bankstate_clock.is_idle bankstate_clock.freed bankstate_clock.drop_upload
    bankstate_clock.drop_uploads bankstate_clock.ends bankstate_clock.end_downloads bankstate_clock.forget
    bankstate_clock.at_clock bankstate_clock.advanced bankstate_rows.first_of bankstate_rows.count_of bankstate_rows.keep
    bankstate_rows.keep_only bankstate_search.free_place bankstate_search.free_download bankstate_search.free_nonce
    bankstate_search.holds_number bankstate_search.find_number bankstate_search.is_number_held
    bankstate_numbers.first_unheld bankstate_numbers.next_number bankstate_search.is_upload bankstate_search.find_upload bankstate_search.is_download bankstate_search.find_download
    bankstate_search.open_count bankstate_search.open_count_of bankstate_search.is_remembered bankstate_state.fresh
    bankstate_store.part_at bankstate_store.with_part bankstate_store.zeroed bankstate_store.file_of bankstate_state.file_length
    bankstate_state.series_of refusals.no_subscriber refusals.long_data refusals.request_rows refusals.unknown_type refusals.many_segments
    refusals.in_time refusals.is_replay refusals.many_open refusals.is_full refusals.no_share refusals.opening_rows refusals.no_owner
    refusals.signs_download refusals.is_order refusals.find_order refusals.not_booked refusals.no_memory refusals.signing_rows refusals.not_open
    refusals.transaction_rows refusals.upload_attempt refusals.is_underrun refusals.is_exceeded refusals.segment_rows
    refusals.upload_rows refusals.download_attempt refusals.receipt_rows refusals.download_rows judgement.judge_opening judgement.judge_signing
    judgement.takes judgement.judge_upload judgement.judge_download judgement.judge_open judgement.judge_transaction
    judgement.opening_number judgement.judge openings.counted openings.counted_upload openings.open_upload openings.open_download signings.sign signer_sets.has_bit
    signer_sets.is_signer signer_sets.with_signer message_order_numbers.character
    message_order_numbers.letter message_order_numbers.order_number_of message_order_numbers.digit_of message_order_numbers.letter_of
    message_order_numbers.is_order_number message_order_numbers.order_in uploads.grown uploads.booked uploads.attempted
    bank_call.mailbox_segment bank_call.respond bank_call.lent_right bank_call.frame_call bank_mailbox.file_refusals
    bank_mailbox.file_call client_calls.is_written client_calls.request_with client_calls.issued client_calls.taken
    client_calls.begin_call client_calls.reply_call client_calls.no_reply_call client_decisions.says client_decisions.is_own
    client_decisions.rest_word client_decisions.may_repeat client_decisions.ends_upload client_decisions.answers_segment
    client_decisions.fits_data client_decisions.fits_segment client_decisions.is_point
    client_decisions.upload_returns client_decisions.opens_download client_decisions.lodges
    client_decisions.takes_segment client_decisions.brings_segment client_decisions.confirms client_decisions.on_upload
    client_decisions.on_download client_decisions.is_answer client_decisions.on_reply client_decisions.on_no_reply
    client_next_run.begun client_next_run.go_on client_next_run.repeated
    client_next_run.ended client_run.chosen_number client_requests.nonce_of client_requests.outstanding client_requests.outstanding_data
    client_rulings.wrong_lengths client_rulings.no_subscriber client_rulings.time_first client_rulings.ruling_at_begin
    client_rulings.begin_ruling client_rulings.ruling_not_begun client_rulings.ruling_running client_rulings.ruling_ended
    client_rulings.run_ruling course.start course.mailbox_of course.held_of course.emptied
    course.exec is_subscribers journal_events.events_from journal_row.empty_row journal_row.entered journal_row.entered_all
    journal_row.is_of journal_row.with_record journal_row.lookup bank_entries.insert_by_opening bank_entries.by_opening
    bank_entries.dropped_uploads bank_entries.action_entries bank_entries.call_entries bank_journal.entered_by
    bank_journal.journal_after client_journal.answer_to client_journal.journal_call sound_rows.is_sound_upload
    sound_rows.is_sound bankrows_rows.all_below bank_lent.lent_frame_call bank_lent.lent_file_call host_calls.session_frame_call
    host_calls.session_file_call session_counts.counts_over seven_counts.fits seven_counts.can_grow
both_ends = tt

-- putting away
unfoldable pub images : Unit {0}
unfolding bankrows_state.bank_of bankrows_state.joined bankrows_state.stored bankrows_rows.rows_of bankrows_rows.rows_in_use
    bankrows_rows.numbers_of bankrows_rows.written bankrows_rows.all_below image.fits image_items.part_items
    image_items.record_items image_items.store_items image_items.content_items image_items.field_items image_items.image_items
    image_items.bytes_in image_items.image_sizes image_table.row_at conditions.series_fits
    conditions.is_ahead conditions.chosen_ahead conditions.series_sum
    conditions.same_nonce conditions.nonces_distinct records_shapes.unused conditions.nonces_unused conditions.download_rises
    conditions.downloads_unused conditions.same_order conditions.orders_distinct records_layout.slot_at conditions.same_number
    conditions.numbers_distinct conditions.is_open_slot conditions.is_open_of conditions.open_in_all conditions.open_of_one
    conditions.signers_at conditions.signers_in_all signer_sets.has_bit signer_sets.is_signer signer_sets.count_from
    signer_sets.signer_count conditions.events_fit conditions.bytes_behind conditions.place_bytes conditions.mailbox_bytes conditions.journal_unused
    conditions.nonce_test conditions.download_test conditions.place_test conditions.mailbox_test conditions.event_test
    conditions.every_series conditions.every_nonce conditions.every_download conditions.every_place conditions.every_mailbox
    conditions.every_subscriber conditions.every_event conditions.series_conditions conditions.nonce_conditions
    conditions.download_conditions conditions.open_conditions conditions.journal_conditions conditions.counts_open
    conditions.is_booked_place conditions.counts_booked conditions.counts_sum conditions.count_conditions conditions.conditions
    conditions.admitted records_layout.nonce_at records_layout.download_at records_layout.place_at
    records_layout.event_at records_layout.counter_at records_layout.counter_of records_layout.file_at records_layout.count_at
    records_layout.file_of records_shapes.every records_shapes.count records_shapes.total
    records_shapes.distinct records_shapes.all_zero numbers_table.group_at numbers_table.part_places
    numbers_table.record_places numbers_table.records_from numbers_table.group_places numbers_table.groups_from
    numbers_table.session_places numbers_table.image_places image_numbers.numbers_at image_numbers.numbers_in
    image_calls.lengths_right image_calls.is_admitted image_calls.put_away
images = tt
