-- Computed examples: places are used again, so that the drops by place, and by order number, would stand in another order
-- than by opening; and an order is signed by two subscribers, one of them twice.
use Prim.Native.Nat.{ℕ, ◌+◌}
use mathlib.Core.List.{List, [], ◌∷◌, ◌++◌}
use mathlib.Core.Path.{◌≡◌, refl}
use lib.ListN.{replicate}
use Rattle.frame_table.specs.declared.fields.Bits128.{Bits128}
use Rattle.frame_writer.specs.Writer.{frame_of}
use Rattle.message.specs.Limits.{ful}
use Rattle.message.specs.OrderNumbers.{order_number_of}
use Rattle.message.specs.Requests.{upload_opening, upload_transfer, signing}
use Rattle.signers.specs.Signers.{signer_count}
use Rattle.bank_state.specs.Limits.{id_bytes, reply_room, idle_limit}
use Rattle.bank_state.specs.State.{place_at}
use Rattle.journal.specs.declared.event.Kind.{Kind}
use Rattle.journal.specs.declared.event.Kind.TheVariants.{Opened, Booked, Cancelled, Dropped, Signed}
use Rattle.journal.specs.declared.event.Event.{Event}
use Rattle.journal.specs.Events.{no_event}
use Rattle.bank.specs.Call.{frame_input}
use Rattle.bank_history.specs.History.{BankCall, Frame, past_of}
use Rattle.bank_history.specs.ByReplies.{own_given}
use Rattle.bank_history.specs.Journal.{journal_of, events_in}
use Rattle.octets.specs.Bytes as octets
use Rattle.frame_table.specs.Table as frame_table
use Rattle.frame_row.specs.Row as frame_row
use Rattle.frame_reader.specs.Reader as frame_reader
use Rattle.frame_writer.specs.Writer as frame_writer
use Rattle.message.specs.OrderNumbers as order_numbers
use Rattle.message.specs.Replies as replies
use Rattle.message.specs.Requests as requests
use Rattle.signers.specs.Signers as signers
use Rattle.bank_state.specs.Clock as clocks
use Rattle.bank_state.specs.Numbers as numbers
use Rattle.bank_state.specs.Rows as rows
use Rattle.bank_state.specs.Search as searches
use Rattle.bank_state.specs.State as state
use Rattle.bank_state.specs.Store as store
use Rattle.bank_verdicts.specs.Refusals as refusals
use Rattle.bank_verdicts.specs.Judgement as judgement
use Rattle.bank_openings.specs.Openings as openings
use Rattle.bank_uploads.specs.Uploads as uploads
use Rattle.bank_signing.specs.Signings as signings
use Rattle.journal.specs.Events as events
use Rattle.journal.specs.Row as row
use Rattle.bank_events.specs.Entries as entries
use Rattle.bank.specs.Call as bank_call
use Rattle.bank.specs.Journal as bank_journal
use Rattle.bank_history.specs.History as history
use Rattle.bank_admitted.specs.State as admitted
use Rattle.bank_history.specs.Signatures as signatures
use Rattle.bank_history.specs.ByReplies as by_replies
use Rattle.bank_history.specs.Journal as journal

-- what the calls compute with
unfoldable pub frames : ℕ
unfolding octets.number_from octets.number octets.bytes_of octets.field_bytes octets.overwrite
    frame_table.width frame_table.values_of frame_table.in_range frame_table.allowed frame_table.row_fits frame_table.find_form frame_table.form_of
    frame_row.spelled frame_row.listed frame_row.well_formed frame_row.stands frame_row.field_size frame_row.content frame_row.contents frame_row.behind
    frame_row.data_of frame_row.present_tags frame_row.high_of frame_row.low_of frame_row.each_from frame_row.piece frame_row.join
    frame_reader.fields_of frame_reader.parse frame_reader.read_request frame_reader.read_reply
    frame_writer.content_of frame_writer.contents_of frame_writer.frame_of frame_writer.length_from frame_writer.frame_length
    frame_writer.data_whole frame_writer.field_writable frame_writer.fields_writable frame_writer.writable frame_writer.accepted
    frame_writer.write_answer frame_writer.write_buffer
    replies.upload_opened replies.segment_taken replies.unreadable replies.refusal
    requests.upload_opening requests.upload_transfer
    order_numbers.character order_numbers.letter order_numbers.order_number_of
frames = 0

unfoldable pub bank : ℕ
unfolding clocks.is_idle clocks.freed clocks.drop_upload clocks.drop_uploads clocks.ends clocks.end_downloads clocks.forget
    clocks.at_clock clocks.advanced rows.first_of rows.count_of rows.keep rows.keep_only
    searches.free_place searches.free_download searches.free_nonce searches.is_upload searches.find_upload searches.is_download
    searches.find_download searches.open_count searches.open_count_of searches.is_remembered
    searches.holds_number searches.find_number searches.is_number_held numbers.first_unheld numbers.next_number
    state.fresh state.file_length state.series_of store.part_at store.with_part store.zeroed store.file_of
    refusals.no_subscriber refusals.long_data refusals.request_rows refusals.unknown_type refusals.many_segments refusals.in_time
    refusals.is_replay refusals.many_open refusals.is_full refusals.no_share refusals.opening_rows refusals.not_open refusals.transaction_rows
    refusals.upload_attempt refusals.is_underrun refusals.is_exceeded refusals.segment_rows refusals.upload_rows
    judgement.opening_number judgement.judge_opening judgement.takes judgement.judge_upload judgement.judge_open
    judgement.judge_transaction judgement.judge
    openings.counted openings.counted_upload openings.open_upload uploads.grown uploads.booked uploads.attempted
    bank_call.mailbox_segment bank_call.respond bank_call.lent_right bank_call.frame_call
    history.exchange_of history.after history.start history.past_of admitted.mailbox_file
bank = 0

unfoldable events-entered : ℕ
unfolding entries.insert_by_opening entries.by_opening entries.dropped_uploads entries.action_entries entries.call_entries
    events.events_from row.empty_row row.entered row.entered_all
    bank_journal.entered_by bank_journal.journal_after journal.journal_over journal.journal_of
events-entered = 0

unfoldable pub events-told : ℕ
unfolding events.events_from by_replies.own_given order_numbers.digit_of order_numbers.letter_of order_numbers.order_in by_replies.opened_ids by_replies.at_opened by_replies.sent_up_to by_replies.standing
    journal.upload_drops journal.entries_of journal.events_in
events-told = 0

unfoldable pub signatures-given : ℕ
unfolding requests.signing refusals.no_owner refusals.signs_download refusals.is_order refusals.find_order refusals.not_booked
    refusals.no_memory refusals.signing_rows judgement.judge_signing signings.sign
    signers.has_bit signers.is_signer signers.with_signer signers.count_from signers.signer_count
    signatures.same_name signatures.has_signed journal.booked_as
signatures-given = 0

-- ---- the calls

-- the transaction of opening n: the lent ID bytes are 0
abbrev pub id_of : ℕ → Bits128
id_of n = record { high = 0; low = n }

-- a frame at this time
abbrev pub call : ℕ → List ℕ → BankCall
call time frame = Frame (frame_input time (replicate id_bytes 0) frame (replicate reply_room 0))

-- the time of the openings, and the first one after their idle limit
abbrev pub early : ℕ
early = 1000

abbrev pub late : ℕ
late = early + idle_limit + 1

-- an opening of an upload of one segment by a subscriber, with its nonce
abbrev opens : ℕ → ℕ → BankCall
opens s nonce = call early (frame_of (upload_opening s 1 (id_of nonce) early 1) [])

-- subscriber 1 opens uploads 0 and 1, its A000 and A001, in places 0 and 1; upload 0 is cancelled by its segment 1 of 1
-- without the last mark; subscriber 2 opens upload 2, its own A000, which takes place 0. The newest call first
abbrev before_drops : List BankCall
before_drops =
    opens 2 3
    ∷ call early (frame_of (upload_transfer 1 2 (id_of 0) 1 0) (65 ∷ []))
    ∷ opens 1 2
    ∷ opens 1 1
    ∷ []

-- a frame after the idle limit, which is none
abbrev with_drops : List BankCall
with_drops = call late [] ∷ before_drops

-- an event of the upload of opening t
abbrev event : ℕ → ℕ → ℕ → ℕ → ℕ → Kind → Event
event n clock subscriber order t k = record {
  number = n;
  clock = clock;
  subscriber = subscriber;
  order_type = ful;
  order = order;
  high = 0;
  low = t;
  kind = k;
}

-- upload 1 is dropped before upload 2
abbrev expected : List Event
expected =
    event 1 early 1 0 0 Opened
    ∷ event 2 early 1 1 1 Opened
    ∷ event 3 early 1 0 0 Cancelled
    ∷ event 4 early 2 0 2 Opened
    ∷ event 5 late 1 1 1 Dropped
    ∷ event 6 late 2 0 2 Dropped
    ∷ []

-- ---- what they compute to

-- by place, and by order number, upload 2 comes first
pub places-used-again : let b = (past_of before_drops).bank_state.bank in
    ((place_at b 0).transaction.low ≡ 2) × ((place_at b 0).number ≡ 0)
    × ((place_at b 1).transaction.low ≡ 1) × ((place_at b 1).number ≡ 1)
unfolding frames bank
places-used-again = (refl, refl, refl, refl)

-- the bank's own numbering has come to A002 for subscriber 1, for subscriber 2 to A001
pub series-of-each : (own_given 1 (past_of before_drops).history ≡ 2) × (own_given 2 (past_of before_drops).history ≡ 1)
unfolding frames bank events-told
series-of-each = (refl, refl)

-- the events that requests, replies and clocks tell
pub drops-told : events_in (past_of with_drops).history ≡ expected
unfolding frames bank events-told
drops-told = refl

-- the journal of the bank
pub drops-by-opening : (journal_of with_drops).row ≡ expected ++ replicate 58 no_event
unfolding frames bank events-entered
drops-by-opening = refl

-- ---- an order signed

-- a signing by a subscriber, with its nonce, of the order A000 of subscriber 1
abbrev signs_first : ℕ → ℕ → BankCall
signs_first s nonce = call early (frame_of (signing s 1 (id_of nonce) early (order_number_of 0) 1) [])

-- subscriber 1 opens upload 0, its A000, and segment 1 of 1 books it; subscriber 2 signs it, signs it again, and its
-- owner signs it. The newest call first
abbrev with_signings : List BankCall
with_signings =
    signs_first 1 4
    ∷ signs_first 2 3
    ∷ signs_first 2 2
    ∷ call early (frame_of (upload_transfer 1 2 (id_of 0) 1 1) (65 ∷ []))
    ∷ opens 1 1
    ∷ []

-- "once a signer, under the owner"
abbrev expected_signed : List Event
expected_signed =
    event 1 early 1 0 0 Opened
    ∷ event 2 early 1 0 0 Booked
    ∷ event 3 early 1 0 0 Signed
    ∷ event 4 early 1 0 0 Signed
    ∷ []

-- the bits of subscribers 1 and 2
pub signers-counted : let p = place_at (past_of with_signings).bank_state.bank 0 in (p.signers ≡ 3) × (signer_count p.signers ≡ 2)
unfolding frames bank signatures-given
signers-counted = (refl, refl)

pub signings-told : events_in (past_of with_signings).history ≡ expected_signed
unfolding frames bank events-told signatures-given
signings-told = refl

pub signings-entered : (journal_of with_signings).row ≡ expected_signed ++ replicate 60 no_event
unfolding frames bank events-entered signatures-given
signings-entered = refl
