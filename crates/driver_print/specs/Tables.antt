-- "At the end of the input": the book, the mailboxes, the runs' closing words, the runs' files and the journal.
use Rattle.std.specs.Prelude.{ℕ, ◌+◌, ◌*◌, Bool, true, false, cond, List, [], ◌∷◌, ◌++◌, eqb, length, get_or}
use Rattle.octets.specs.Bytes.{bytes_of}
use Rattle.message.specs.Limits.{file_bytes}
use Rattle.journal.specs.declared.event.Event.{Event}
use Rattle.journal.specs.declared.event.Kind.{Kind}
use Rattle.journal.specs.declared.event.Kind.TheVariants as kind
use Rattle.journal.specs.declared.event.OrderName.{OrderName}
use Rattle.journal.specs.Events.{record_count, no_event}
use Rattle.journal.specs.Records.{name_of}
use Rattle.bank_state.specs.declared.state.Place.{Place}
use Rattle.bank_state.specs.Limits.{place_count}
use Rattle.bank_state.specs.Search.{is_booked}
use Rattle.bank_state.specs.State.{place_at}
use Rattle.bank_state.specs.Store.{file_of}
use Rattle.bank_rows.specs.State.{bank_of}
use Rattle.bank_steps.specs.Lent.{Lent}
use Rattle.client_run.specs.declared.run.ClientRun.{ClientRun}
use Rattle.message.specs.declared.directions.Direction.{Direction}
use Rattle.message.specs.declared.directions.Direction.TheVariants.{Upload, Download}
use Rattle.client_run.specs.declared.run.Stage.{Stage}
use Rattle.client_run.specs.declared.run.Stage.TheVariants as stage
use Rattle.client_run.specs.Run.{order_name}
use Rattle.client_rules.specs.Rulings.{is_begun}
use Rattle.print.specs.Text.{ascii, space, newline, column, column_room, rows_to}
use Rattle.print.specs.Name.{order_name_text, order_name_room}
use Rattle.print.specs.Book.{book_header, book_header_room, order_columns, order_columns_room}
use Rattle.print.specs.Closing.{closing_text}
use Rattle.unit_state.specs.declared.state.UnitState.{UnitState}
use Rattle.unit_state.specs.Records.{run_count}
use Rattle.unit_state.specs.State.{run_at}
use Rattle.driver_print.specs.declared.tables.Table.{Table}
use Rattle.driver_print.specs.declared.tables.Table.TheVariants.{Book, Mailboxes, Words, Files, Journal}
use Rattle.driver_print.specs.Line.{hex_of}

abbrev pub header_text : Table → List ℕ
header_text Book = book_header space ++ ascii "content\n"
header_text Mailboxes = ascii "mailbox bytes content\n"
header_text Words = ascii "run word\n"
header_text Files = ascii "run bytes content\n"
header_text Journal = ascii "event clock subscriber type order transaction kind\n"

-- the column "content", the last of its row
unfoldable pub content_text : List ℕ → List ℕ
content_text content = hex_of content ++ (newline ∷ [])

-- a booked order: the book's columns, "the number of signers and whether the order is released in front of the
-- content"; a place that holds none has no row
unfoldable pub order_row : Place → List ℕ → List ℕ
order_row p content = cond (is_booked p.used) (order_columns p (length content) space ++ content_text content) []

-- a mailbox or a run with its file, "where it is not empty"
unfoldable pub file_row : ℕ → List ℕ → List ℕ
file_row n content =
    cond (eqb (length content) 0) [] (column n space ++ (column (length content) space ++ content_text content))

-- "the runs that have begun, with their closing word or `open`"
abbrev pub stage_text : Stage → OrderName → List ℕ
stage_text stage.NotBegun o = []
stage_text stage.Running o = ascii "open"
stage_text (stage.Ended w) o = closing_text w o

unfoldable pub word_row : ℕ → ClientRun → List ℕ
word_row n c = cond (is_begun c.stage) (column n space ++ (stage_text c.stage (order_name c) ++ (newline ∷ []))) []

-- "its file buffer up to the end of the last segment held"; an upload holds none
abbrev pub held_by : Direction → ClientRun → ℕ
held_by Upload c = 0
held_by Download c = c.length

-- what happened to an upload or to a booked order, the column "kind", the last of its row
abbrev pub kind_text : Kind → List ℕ
kind_text kind.Unused = []
kind_text kind.Opened = ascii "opened\n"
kind_text kind.Booked = ascii "booked\n"
kind_text kind.Cancelled = ascii "cancelled\n"
kind_text kind.Dropped = ascii "dropped\n"
kind_text kind.Signed = ascii "signed\n"

abbrev pub is_used : Kind → Bool
is_used kind.Unused = false
is_used kind.Opened = true
is_used kind.Booked = true
is_used kind.Cancelled = true
is_used kind.Dropped = true
is_used kind.Signed = true

-- "the transaction ID in front of the kind, in hexadecimal": its sixteen bytes
unfoldable pub transaction_text : Event → List ℕ
transaction_text e = hex_of (bytes_of 8 e.high ++ bytes_of 8 e.low)

-- a record of the journal: event, clock, subscriber, type, order, transaction, kind; one that is not in use has no row
unfoldable pub event_row : Event → List ℕ
event_row e =
    cond (is_used e.kind)
    (column e.number space ++ (column e.clock space
    ++ (order_name_text (name_of e) ++ (space ∷ (transaction_text e ++ (space ∷ kind_text e.kind))))))
    []

-- row i of a table: "The book in place order; the mailboxes that hold a file; the runs that have begun ...; and each
-- run's file", and the journal, oldest first
abbrev pub row_at : Table → UnitState → Lent → List ℕ → ℕ → List ℕ
row_at Book u m files i =
    let p = place_at (bank_of m.rows) i in
    order_row p (file_of m.orders i p.length)
row_at Mailboxes u m files i = file_row (i + 1) (file_of m.mailboxes i (get_or (bank_of m.rows).files i 0))
row_at Words u m files i = word_row (i + 1) (run_at u.runs i).client.run
row_at Files u m files i =
    let c = (run_at u.runs i).client.run in
    file_row (i + 1) (file_of files i (held_by c.direction c))
row_at Journal u m files i = event_row (get_or u.journal i no_event)

-- how many rows a table has at most: one for each place, mailbox, run or record
abbrev pub row_count : Table → ℕ
row_count Book = place_count
row_count Mailboxes = place_count
row_count Words = run_count
row_count Files = run_count
row_count Journal = record_count

-- a table of the unit, the memory lent to its bank, and the runs' file buffers
unfoldable pub table_of : Table → UnitState → Lent → List ℕ → List ℕ
table_of t u m files = header_text t ++ rows_to (row_at t u m files) (row_count t)

-- the most bytes that a header takes, the book's, the column "content" with the longest file, a row with it, the columns
-- "transaction" and "kind", and a row of the journal
abbrev pub header_room : ℕ
header_room = book_header_room + 8

abbrev pub content_room : ℕ
content_room = 2 * file_bytes + 1

abbrev pub row_room : ℕ
row_room = order_columns_room + content_room

abbrev pub transaction_room : ℕ
transaction_room = 2 * 16

abbrev pub kind_room : ℕ
kind_room = 10

abbrev pub event_room : ℕ
event_room = column_room + column_room + order_name_room + 1 + transaction_room + 1 + kind_room

-- the same of a row of each table, and of a table: 16 rows of files are longer than 64 of the journal
abbrev pub room_of : Table → ℕ
room_of Book = row_room
room_of Mailboxes = row_room
room_of Words = row_room
room_of Files = row_room
room_of Journal = event_room

abbrev pub table_room : ℕ
table_room = header_room + run_count * row_room
