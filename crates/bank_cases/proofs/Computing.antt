-- What the rows compute with besides the bank's calls: to unfold one of these names is to unfold all that its lines list.
use Prim.Native.Nat.{ℕ}
use Rattle.journal.specs.Events as events
use Rattle.journal.specs.Row as journal
use Rattle.bank_state.specs.Rows as lists
use Rattle.bank_rows.specs.Rows as rows
use Rattle.bank_rows.specs.State as laid
use Rattle.bank_sound.specs.Sound as sound
use Rattle.bank_events.specs.Entries as entries
use Rattle.bank.specs.Journal as bank_journal
use Rattle.bank.specs.Lent as lent_calls
use Rattle.opening_counts.specs.Counts as seven_counts
use Rattle.bank_session.specs.Counts as session_counts
use Rattle.bank_session.specs.Session as session_calls
use Rattle.image.specs.Image as image
use Rattle.image.specs.Items as items
use Rattle.image.specs.Table as image_table
use Rattle.image_numbers.specs.Table as numbers_table
use Rattle.image_numbers.specs.Numbers as image_numbers
use Rattle.image_calls.specs.Calls as image_calls
use Rattle.case_rows.proofs.Computing.{frames, messages, bank, signings, choices}
use Rattle.bank_cases.specs.Table as table

-- a session's numbers
unfoldable pub numbers : ℕ
unfolding lists.keep rows.rows_of rows.rows_in_use rows.numbers_of rows.written rows.all_below laid.bank_of laid.joined
    laid.stored sound.is_sound_upload sound.is_sound seven_counts.fits seven_counts.can_grow session_counts.counts_over table.from
numbers = 0

-- the events of a call
unfoldable pub journals : ℕ
unfolding events.events_from journal.entered journal.entered_all
    entries.insert_by_opening entries.by_opening entries.dropped_uploads entries.action_entries entries.call_entries
    bank_journal.entered_by bank_journal.journal_after
journals = 0

-- a frame and a file arrive
unfoldable pub calls : ℕ
unfolding frames messages bank signings choices numbers journals lent_calls.lent_file_call session_calls.session_file_call
calls = 0

-- an image's length, and the first number of a session to be put away
unfoldable pub images : ℕ
unfolding numbers image.fits image.is_image items.part_items items.record_items items.store_items items.content_items
    items.field_items items.image_items items.bytes_in items.image_sizes image_table.row_at
    numbers_table.group_at numbers_table.part_places numbers_table.record_places numbers_table.records_from
    numbers_table.group_places numbers_table.groups_from numbers_table.session_places
    image_numbers.numbers_at image_numbers.numbers_in image_calls.is_admitted_image
    image_calls.lengths_right image_calls.take_up
images = 0
