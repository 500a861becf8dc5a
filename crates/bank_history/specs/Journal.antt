-- The journal after a list of calls, and the events of a history told by requests, replies and clocks alone.
use Rattle.std.specs.Prelude.{ℕ, Bool, true, false, cond, ◌&&◌, List, [], ◌∷◌, ◌++◌, map, ◌≡◌, eqb, length}
use Rattle.frame_table.specs.declared.fields.Bits128.{Bits128}
use Rattle.frame_table.specs.declared.table.ReplyForm.{ReplyForm}
use Rattle.frame_table.specs.declared.table.ReplyForm.TheVariants as replies
use Rattle.frame_table.specs.Names.{subscriber, transaction, segment, return_code, form}
use Rattle.message.specs.declared.codes.ReturnCode.TheVariants as code
use Rattle.message.specs.Codes.{code_field}
use Rattle.message.specs.OrderNumbers.{order_number_of}
use Rattle.bank_state.specs.Clock.{is_idle}
use Rattle.bank_state.specs.Rows.{keep}
use Rattle.message.specs.declared.directions.Direction.{Direction}
use Rattle.message.specs.declared.directions.Direction.TheVariants as direction
use Rattle.bank_verdicts.specs.declared.verdict.Verdict.TheVariants.{Unreadable}
use Rattle.journal.specs.declared.event.Kind.{Kind}
use Rattle.journal.specs.declared.event.Kind.TheVariants as kind
use Rattle.journal.specs.declared.event.Entry.{Entry}
use Rattle.journal.specs.declared.event.Event.{Event}
use Rattle.journal.specs.declared.event.OrderName.{OrderName}
use Rattle.journal.specs.Events.{events_from}
use Rattle.journal.specs.Records.{Numbered}
use Rattle.journal.specs.Row.{Journal, empty_row, row_of}
use Rattle.bank_events.specs.Entries.{entry}
use Rattle.bank.specs.Call.{frame_call}
use Rattle.bank.specs.Journal.{journal_after, journal_by}
use Rattle.bank_history.specs.History.{Exchange, BankCall, Frame, File, Past, past_of}
use Rattle.bank_history.specs.Opened.{of_reply, is_upload_opened}
use Rattle.bank_history.specs.Signatures.{signed_name, is_signed, has_signed}
use Rattle.bank_history.specs.Sound.{is_cancelling}
use Rattle.bank_history.specs.Status.{
  Status,
  NotOpened,
  Open,
  Booked,
  Fetched,
  Skipped,
  EndedByReceipt,
  Cancelled,
  Dropped,
}
use Rattle.bank_history.specs.ByReplies.{
  number_given,
  opened_ids,
  owner_of,
  order_of,
  segment_count_of,
  is_upload_id,
  is_code,
  standing,
}

-- ---- the journal that the calls leave

-- a file call is not lent it
unfoldable pub journal_over : BankCall → Past → Journal → Journal
journal_over (Frame a) p j = journal_by (frame_call p.bank_state a).answer (journal_after p.bank_state a j) j
journal_over (File mailbox file) p j = j

-- the journal that a list of calls to a fresh bank leaves, the newest call first
unfoldable pub journal_of : List BankCall → Journal
journal_of [] = record { events = 0; row = empty_row }
journal_of (c ∷ calls) = journal_over c (past_of calls) (journal_of calls)

-- ---- the events by requests, replies and clocks

abbrev pub entry_of : Kind → Bits128 → List Exchange → Entry
entry_of k t h = entry k (owner_of t h) (order_of t h) t

-- an upload that is open, and idle at a clock
abbrev pub is_idle_as : ℕ → Direction → ℕ → Bool
is_idle_as clock direction.Upload last = is_idle clock last
is_idle_as clock direction.Download last = false

abbrev pub is_idle_upload_at : ℕ → Status → Bool
is_idle_upload_at clock NotOpened = false
is_idle_upload_at clock (Open d s last) = is_idle_as clock d last
is_idle_upload_at clock Booked = false
is_idle_upload_at clock Fetched = false
is_idle_upload_at clock Skipped = false
is_idle_upload_at clock EndedByReceipt = false
is_idle_upload_at clock Cancelled = false
is_idle_upload_at clock Dropped = false

-- the uploads that a call which sets this clock drops, in the order of the accepted openings
unfoldable pub upload_drops : ℕ → List Exchange → List Bits128
upload_drops clock h = keep (λ (t : Bits128). is_idle_upload_at clock (standing t h)) (opened_ids h)

-- a booked upload that was opened under this name
abbrev pub is_booked_status : Status → Bool
is_booked_status NotOpened = false
is_booked_status (Open d s last) = false
is_booked_status Booked = true
is_booked_status Fetched = false
is_booked_status Skipped = false
is_booked_status EndedByReceipt = false
is_booked_status Cancelled = false
is_booked_status Dropped = false

abbrev pub is_booked_as : OrderName → List Exchange → Bits128 → Bool
is_booked_as o h t =
    is_booked_status (standing t h) && (eqb (owner_of t h) o.subscriber && eqb (order_number_of (order_of t h)) o.number)

-- the booked uploads of that name: one, or none
unfoldable pub booked_as : OrderName → List Exchange → List Bits128
booked_as o h = keep (is_booked_as o h) (opened_ids h)

-- "kind signed, once a signer, under the owner": the first signature of a subscriber is an event, "signing again" none
abbrev pub signed_entries : Exchange → List Exchange → List Entry
signed_entries e h =
    let o = signed_name e in
    cond (has_signed o (subscriber e.request) h) []
    (map (λ (t : Bits128). entry_of kind.Signed t h) (booked_as o h))

-- an upload opened, of either edition
abbrev pub opened_entries : Exchange → List Entry
opened_entries e = entry kind.Opened (subscriber e.request) (number_given e) (transaction e.reply) ∷ []

-- what a reply says beside the drops: an upload opened; an upload's segment N taken; 01 03 0D with 000000 to a signing;
-- an upload cancelled by 091102, 011101 or 091104
abbrev pub reply_entries : Exchange → List Exchange → ReplyForm → List Entry
reply_entries e h replies.UploadOpened = opened_entries e
reply_entries e h replies.DownloadOpened = []
reply_entries e h replies.SegmentTaken =
    let t = transaction e.reply in
    let is_last = is_code (code_field code.Ok) e && eqb (segment e.request) (segment_count_of t h) in
    cond is_last (entry_of kind.Booked t h ∷ []) []
reply_entries e h replies.DownloadSegment = []
reply_entries e h replies.ReceiptAnswered = cond (is_upload_opened e) (opened_entries e) []
reply_entries e h replies.Refusal =
    let t = transaction e.request in
    cond (is_signed e) (signed_entries e h)
    (cond (is_cancelling (return_code e.reply) && is_upload_id t h) (entry_of kind.Cancelled t h ∷ []) [])
reply_entries e h replies.Unreadable = []

-- the events of the exchange e after the history h: "drops of one call by opening", then at most one other
unfoldable pub entries_of : Exchange → List Exchange → List Entry
entries_of e h =
    map (λ (t : Bits128). entry_of kind.Dropped t h) (upload_drops e.clock h)
    ++ of_reply [] (reply_entries e h) (form e.reply)

-- the events of a history, the oldest first, numbered from 1, each with the clock of its call
unfoldable pub events_in : List Exchange → List Event
events_in [] = []
events_in (e ∷ h) = events_in h ++ events_from (length (events_in h)) e.clock (entries_of e h)

-- an exchange of which only request, reply and clock are left
abbrev pub plain : Exchange → Exchange
plain e = record {
  request = e.request;
  request_data = [];
  reply = e.reply;
  reply_data = [];
  clock = e.clock;
  file = [];
  verdict = Unreadable;
}

-- ---- the statement: over every list of calls to a fresh bank

pub record JournalTold : Type 0 where
  -- "The newest 64 remain, oldest first", and records not in use are zero
  pub row : (calls : List BankCall) → (journal_of calls).row ≡ row_of (events_in (past_of calls).history)
  -- the number of events so far
  pub events : (calls : List BankCall) → (journal_of calls).events ≡ length (events_in (past_of calls).history)
  -- "event number (8 bytes, from 1)": 1, 2, 3 ..., so that they never repeat
  pub numbers : (calls : List BankCall) → Numbered 0 (events_in (past_of calls).history)
  -- neither verdict nor file nor data is looked at
  pub alone : (h : List Exchange) → events_in (map plain h) ≡ events_in h
