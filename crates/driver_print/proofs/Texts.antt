-- Laws of the texts of the lines and tables: bytes in hexadecimal, digests, and how long a text is at most. Assumes nothing.
use Prim.Native.Nat.{ℕ, zero, suc, ◌+◌, ◌*◌, ◌/◌, ◌%◌, ◌≤◌, ◌<◌}
use mathlib.Core.List.{List, [], ◌∷◌, ◌++◌}
use mathlib.Core.Path.{◌≡◌, refl, sym, ap, ◌∙◌}
use native.Mathlib.Nat.{div-add-mod, mul-add-mod_self_left}
use native.Mathlib.Numerals.{add-one}
use native.Mathlib.Omega.{arith}
use lib.Dec.{eqb}
use lib.ListN.{length, get_or, take, set, length-append, length-take, length-set}
use lib.Seq.{take-suc}
use Rattle.octets.specs.Bytes.{number, bytes_of}
use Rattle.octets.proofs.Numbers.{number-nil, number-take, length-bytes_of}
use Rattle.message.specs.Limits.{file_bytes}
use Rattle.journal.specs.declared.event.Event.{Event}
use Rattle.journal.specs.declared.event.Kind.{Kind}
use Rattle.journal.specs.declared.event.Kind.TheVariants as kind
use Rattle.journal.specs.declared.event.OrderName.{OrderName}
use Rattle.journal.specs.Events.{record_count, no_event}
use Rattle.journal.specs.Records.{name_of}
use Rattle.bank_state.specs.declared.state.Place.{Place}
use Rattle.bank_state.specs.Search.{is_booked}
use Rattle.bank_state.specs.State.{place_at}
use Rattle.bank_state.specs.Store.{part_at, file_of}
use Rattle.bank_rows.specs.State.{bank_of}
use Rattle.bank_steps.specs.Lent.{Lent}
use Rattle.client_run.specs.declared.run.ClientRun.{ClientRun}
use Rattle.client_run.specs.declared.run.Stage.{Stage}
use Rattle.client_run.specs.declared.run.Stage.TheVariants as stage
use Rattle.client_run.specs.Run.{order_name}
use Rattle.client_rules.specs.Rulings.{is_begun}
use Rattle.print.specs.Text.{Put, ascii, decimal, space, newline, column, column_room}
use Rattle.print.specs.Name.{order_name_text}
use Rattle.print.specs.Book.{order_columns}
use Rattle.print.proofs.Digits.{decimal-most, column-most}
use Rattle.print.proofs.Texts.{put_then, put_one, cond-most}
use Rattle.print.specs.Closing.{closing_room}
use Rattle.print.proofs.Lengths.{day-most, order-name-most, closing-most, columns-most, counts-most}
use Rattle.unit_state.specs.declared.answer.Answer.{Answer}
use Rattle.unit_state.specs.declared.answer.Answer.TheVariants as answer
use Rattle.unit_state.specs.declared.state.Run.{Run}
use Rattle.unit_state.specs.declared.state.UnitState.{UnitState}
use Rattle.unit_state.specs.Records.{run_count}
use Rattle.unit_state.specs.State.{new_run, run_at}
use Rattle.driver_print.specs.declared.tables.Table.{Table}
use Rattle.driver_print.specs.declared.tables.Table.TheVariants.{Book, Mailboxes, Words, Files, Journal}
use Rattle.driver_print.specs.Line.{hex_digit, hex_of, digest, away_text, message_text, out_text, answer_text, away_room, out_room, answer_room}
use Rattle.driver_print.specs.Tables.{
  header_text,
  content_text,
  order_row,
  file_row,
  stage_text,
  word_row,
  held_by,
  transaction_text,
  kind_text,
  is_used,
  event_row,
  row_at,
  row_count,
  header_room,
  content_room,
  row_room,
  transaction_room,
  kind_room,
  event_room,
  room_of,
}

-- ---- hexadecimal

hex_of-append : (l r : List ℕ) → hex_of (l ++ r) ≡ hex_of l ++ hex_of r
unfolding hex_of
hex_of-append [] r = refl
hex_of-append (b ∷ l) r = ap (λ (t : List ℕ). hex_digit (b / 16) ∷ hex_digit (b % 16) ∷ t) (hex_of-append l r)

-- the digits of one byte more
pub hex_of-next : (l : List ℕ) (i : ℕ) → i < length l
    → hex_of (take (i + 1) l) ≡ hex_of (take i l) ++ (hex_digit (get_or l i 0 / 16) ∷ hex_digit (get_or l i 0 % 16) ∷ [])
unfolding hex_of
hex_of-next l i h = rw (add-one i, take-suc l i 0 h) (hex_of-append (take i l) (get_or l i 0 ∷ []))

pub length-hex_of : (l : List ℕ) → length (hex_of l) ≡ 2 * length l
unfolding hex_of
length-hex_of [] = refl
length-hex_of (b ∷ l) = omega (arith, length-hex_of l)

pub put_two : (old : List ℕ) (at v w : ℕ) → at + 1 < length old → Put old at (v ∷ w ∷ []) (set (set old at v) (at + 1) w) (at + 2)
put_two old at v w h =
    let n : length (set old at v) ≡ length old = simp length-set in
    let p = put_then (put_one old at v (omega arith)) (put_one (set old at v) (at + 1) w (omega arith)) in
    record { place = omega arith; fits = omega arith; bytes = p.bytes }

-- ---- digests

-- "value = (value * 256 + byte) mod 4294967291": a multiple of the prime more does not change the rest
rest-next : (x b : ℕ) → (x % 4294967291 * 256 + b) % 4294967291 ≡ (x * 256 + b) % 4294967291
rest-next x b =
    let e : x * 256 + b ≡ 4294967291 * (x / 4294967291 * 256) + (x % 4294967291 * 256 + b) = omega (arith, div-add-mod x 4294967291) in
    sym (mul-add-mod_self_left 4294967291 (x / 4294967291 * 256) (x % 4294967291 * 256 + b)) ∙ ap (λ (y : ℕ). y % 4294967291) (sym e)

pub digest-nil : digest [] ≡ 0
unfolding digest
digest-nil = rw number-nil

-- the digest of one byte more
pub digest-next : (l : List ℕ) (i : ℕ) → i < length l
    → digest (take (i + 1) l) ≡ (digest (take i l) * 256 + get_or l i 0) % 4294967291
unfolding digest
digest-next l i h =
    ap (λ (y : ℕ). y % 4294967291) (number-take l i h) ∙ sym (rest-next (number (take i l)) (get_or l i 0))

-- ---- how long a text is

hex-front : (n : ℕ) (buffer : List ℕ) → length (hex_of (take n buffer)) ≤ 2 * length buffer
hex-front n buffer = omega (arith, length-hex_of (take n buffer), length-take n buffer)

pub away-most : (n : ℕ) (room : List ℕ) → length (away_text n room) ≤ away_room
unfolding away_text
away-most n room =
    omega (arith, length-append (column n space) (decimal (digest room)), column-most n space, decimal-most (digest room))

pub message-most : (m : List ℕ) → length (message_text m) ≤ 1 + 2 * length m
unfolding message_text
message-most m =
    cond-most (eqb (length m) 0) (ascii "-") (hex_of m) (1 + 2 * length m) (omega arith) (omega (arith, length-hex_of m))

out-most : (n : ℕ) (m : List ℕ) → length (out_text n m) ≤ out_room (length m)
unfolding out_text
out-most n m = omega (arith, length-append (column n space) (message_text m), column-most n space, message-most m)

pub answer-most : (a : Answer) (buffer room : List ℕ) → length (answer_text a buffer room) ≤ answer_room (length buffer)
answer-most (answer.Frame n) buffer room = omega (arith, hex-front n buffer)
answer-most answer.Put buffer room = omega arith
answer-most (answer.Request n) buffer room = omega (arith, hex-front n buffer)
answer-most answer.Ignored buffer room = omega arith
answer-most (answer.Closed w o) buffer room = omega (arith, closing-most w o)
answer-most answer.Unchanged buffer room = omega arith
answer-most (answer.Away n) buffer room = omega (arith, away-most n room)
answer-most answer.TakenUp buffer room = omega arith
answer-most answer.Room buffer room = omega arith
answer-most (answer.Day d) buffer room = omega (arith, day-most d)
answer-most answer.Line buffer room = omega arith
answer-most (answer.Out n) buffer room = omega (arith, decimal-most n)
answer-most (answer.OutAndHeld n k) buffer room = omega (arith, out-most n (take k buffer), length-take k buffer)
answer-most (answer.Counted c) buffer room = omega (arith, counts-most c)
answer-most (answer.Number n) buffer room = omega (arith, decimal-most n)
answer-most answer.NoCall buffer room = omega arith

pub header-most : (t : Table) → length (header_text t) ≤ header_room
header-most Book = omega arith
header-most Mailboxes = omega arith
header-most Words = omega arith
header-most Files = omega arith
header-most Journal = omega arith

-- the rows of a table fit, and are not many
pub rows_fit : (t : Table) → row_count t * room_of t ≤ run_count * row_room
rows_fit Book = omega arith
rows_fit Mailboxes = omega arith
rows_fit Words = omega arith
rows_fit Files = omega arith
rows_fit Journal = omega arith

pub count_most : (t : Table) → row_count t ≤ record_count
count_most Book = omega arith
count_most Mailboxes = omega arith
count_most Words = omega arith
count_most Files = omega arith
count_most Journal = omega arith

-- a number in front of a text, a text and the newline behind it
length-numbered : (n : ℕ) (text : List ℕ) → length (column n space ++ text) ≤ column_room + length text
length-numbered n text = omega (arith, length-append (column n space) text, column-most n space)

length-ended : (text : List ℕ) → length (text ++ (newline ∷ [])) ≡ length text + 1
length-ended text = length-append text (newline ∷ [])

pub content-most : (content : List ℕ) → length content ≤ file_bytes → length (content_text content) ≤ content_room
unfolding content_text
content-most content h = omega (arith, length-ended (hex_of content), length-hex_of content)

order-most : (p : Place) (content : List ℕ) → length content ≤ file_bytes → length (order_row p content) ≤ row_room
unfolding order_row
order-most p content h =
    let columns = order_columns p (length content) space in
    let e = length-append columns (content_text content) in
    cond-most (is_booked p.used) (columns ++ content_text content) [] row_room
    (omega (arith, columns-most p (length content) space, content-most content h)) (omega arith)

file-most : (n : ℕ) (content : List ℕ) → length content ≤ file_bytes → length (file_row n content) ≤ row_room
unfolding file_row
file-most n content h =
    let columns = column (length content) space ++ content_text content in
    cond-most (eqb (length content) 0) [] (column n space ++ columns) row_room (omega arith)
    (omega (arith, length-numbered n columns, length-numbered (length content) (content_text content), content-most content h))

pub stage-most : (s : Stage) (o : OrderName) → length (stage_text s o) ≤ closing_room
stage-most stage.NotBegun o = omega arith
stage-most stage.Running o = omega arith
stage-most (stage.Ended w) o = closing-most w o

word-most : (n : ℕ) (c : ClientRun) → length (word_row n c) ≤ row_room
unfolding word_row
word-most n c =
    let text = stage_text c.stage (order_name c) in
    cond-most (is_begun c.stage) (column n space ++ (text ++ (newline ∷ []))) [] row_room
    (omega (arith, length-numbered n (text ++ (newline ∷ [])), length-ended text, stage-most c.stage (order_name c))) (omega arith)

pub kind-most : (k : Kind) → length (kind_text k) ≤ kind_room
kind-most kind.Unused = omega arith
kind-most kind.Opened = omega arith
kind-most kind.Booked = omega arith
kind-most kind.Cancelled = omega arith
kind-most kind.Dropped = omega arith
kind-most kind.Signed = omega arith

pub transaction-most : (e : Event) → length (transaction_text e) ≤ transaction_room
unfolding transaction_text
transaction-most e =
    rw length-hex_of
    (omega (
      arith,
      length-append (bytes_of 8 e.high) (bytes_of 8 e.low),
      length-bytes_of 8 e.high,
      length-bytes_of 8 e.low,
    ))

event-most : (e : Event) → length (event_row e) ≤ event_room
unfolding event_row
event-most e =
    let last = space ∷ kind_text e.kind in
    let id = transaction_text e in
    let told = space ∷ (id ++ last) in
    let name = order_name_text (name_of e) in
    let named = name ++ told in
    let timed = column e.clock space ++ named in
    cond-most (is_used e.kind) (column e.number space ++ timed) [] event_room
    (omega (
      arith,
      length-numbered e.number timed,
      length-numbered e.clock named,
      length-append name told,
      order-name-most (name_of e),
      length-append id last,
      transaction-most e,
      kind-most e.kind,
    )) (omega arith)

-- a file of a store is no longer than its place
pub file-fits : (store : List ℕ) (i n : ℕ) → length (file_of store i n) ≤ file_bytes
unfolding file_of part_at
file-fits store i n = simp (length-take) (omega arith)

-- an element of a row that has it, whatever else would stand for one past its end
at-any : {A : Type 0} (e : A) (l : List A) (i : ℕ) (d : A) → i < length l → get_or l i d ≡ get_or l i e
at-any e [] i d h = absurd (omega arith)
at-any e (x ∷ l) zero d h = refl
at-any e (x ∷ l) (suc i) d h = at-any e l i d (omega arith)

-- the rows of a run that the unit has
module _ {old new : List ℕ} {at r : ℕ} (runs : List Run) (i : ℕ) (d : Run) (h : i < length runs) where
  pub word_of : Put old at (word_row (i + 1) (get_or runs i d).client.run) new r → Put old at (word_row (i + 1) (run_at runs i).client.run) new r
  word_of p = rw (at-any (new_run []) runs i d h) at p

  pub file-of : (files : List ℕ) → let c = (get_or runs i d).client.run in
      Put old at (file_row (i + 1) (file_of files i (held_by c.direction c))) new r
      → let e = (run_at runs i).client.run in
      Put old at (file_row (i + 1) (file_of files i (held_by e.direction e))) new r
  file-of files p = rw (at-any (new_run []) runs i d h) at p

pub row-most : (t : Table) (u : UnitState) (m : Lent) (files : List ℕ) (i : ℕ) → length (row_at t u m files i) ≤ room_of t
row-most Book u m files i = order-most (place_at (bank_of m.rows) i) _ (file-fits _ _ _)
row-most Mailboxes u m files i = file-most (i + 1) _ (file-fits _ _ _)
row-most Words u m files i = word-most (i + 1) (run_at u.runs i).client.run
row-most Files u m files i = file-most (i + 1) _ (file-fits _ _ _)
row-most Journal u m files i = event-most (get_or u.journal i no_event)
