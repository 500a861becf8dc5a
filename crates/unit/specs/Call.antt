-- One call of a record on the unit.
use Rattle.image.specs.declared.codec.ImageRefusal.{ImageRefusal}
use Rattle.client_run.specs.declared.run.Word.{Word}
use Rattle.octets.specs.Bytes.{number}
use Rattle.client_run.specs.declared.run.Refusal.{Refusal}
use Rattle.bank.specs.declared.mailbox.FileRefusal.{FileRefusal}
use Rattle.calendar.specs.declared.dates.Date.{Date}
use Rattle.line.specs.declared.calls.MakeRefusal.{MakeRefusal}
use Rattle.number_table.specs.Numbers.{number_one, number_ten}
use Rattle.number_table.specs.declared.table.TooLate.{TooLate}
use Rattle.number_table.specs.declared.table.WrongLength.{WrongLength}
use Rattle.opening_counts.specs.declared.seven.Counts.{Counts}
use Rattle.std.specs.Prelude.{Err, Ok, Result}
use Rattle.std.specs.Prelude.{ℕ, ◌-◌, ◌≤◌, ◌≡◌, Bool, true, false, cond, ◌&&◌, List, eqb, length, take}
use Rattle.octets.specs.Bytes.{overwrite}
use Rattle.calendar.specs.ValueDay.{value_day, answered}
use Rattle.line.specs.declared.calls.MakeRefusal.TheVariants as make
use Rattle.number_table.specs.declared.table.WrongLength.{WrongLength}
use Rattle.line.specs.declared.calls.Delivery.{Delivery}
use Rattle.line.specs.Calls.{make_refusal_number, put_number}
use Rattle.bank_state.specs.Store.{part_at, with_part, file_of}
use Rattle.bank.specs.declared.mailbox.FileRefusal.TheVariants as file-answer
use Rattle.bank.specs.Call.{frame_input, frame_number}
use Rattle.bank_steps.specs.Lent.{lent}
use Rattle.bank.specs.Mailbox.{file_refusal_number}
use Rattle.bank_session.specs.Session.{session_frame_call, session_file_call, count_call, count_number}
use Rattle.image.specs.declared.codec.ImageRefusal.TheVariants as refusal
use Rattle.image.specs.Image.{image_refusal_number}
use Rattle.image_calls.specs.Calls.{put_away, take_up}
use Rattle.client_run.specs.declared.run.Answer as client
use Rattle.client_run.specs.declared.run.Answer.TheVariants as client-answer
use Rattle.client_run.specs.declared.run.ClientRun.{ClientRun}
use Rattle.message.specs.declared.directions.Direction.{Direction}
use Rattle.message.specs.declared.directions.Direction.TheVariants as direction
use Rattle.client_run.specs.declared.run.RunParameters.{RunParameters}
use Rattle.client_run.specs.declared.run.RunTerms.{RunTerms}
use Rattle.client_run.specs.Run.{Lent, ClientCall, terms_of25, parameters_of, lent_of, refusal_number, order_name}
use Rattle.client.specs.Calls.{begin_call, reply_call, no_reply_call}
use Rattle.number_table.specs.declared.table.WrongLength.{WrongLength}
use Rattle.number_table.specs.Numbers.{number_one}
use Rattle.std.specs.Prelude.{Result, Ok, Err, Option, Some, None}
use Rattle.client.specs.Journal.{journal_number, journal_call}
use Rattle.unit_state.specs.declared.record.Event.{Event}
use Rattle.unit_state.specs.declared.record.Event.TheVariants.{Upload, Download, Reply, NoReply}
use Rattle.unit_state.specs.declared.record.Kind.{Kind}
use Rattle.unit_state.specs.declared.record.Kind.TheVariants as kind
use Rattle.unit_state.specs.declared.answer.Answer.{Answer}
use Rattle.unit_state.specs.declared.answer.Answer.TheVariants.{
  Frame,
  Put,
  Request,
  Ignored,
  Closed,
  Unchanged,
  Away,
  TakenUp,
  Room,
  Day,
  Line,
  Out,
  OutAndHeld,
  Counted,
  Number,
  NoCall,
}
use Rattle.unit.specs.declared.call.RunOut.{RunOut}
use Rattle.unit_state.specs.declared.state.Run.{Run}
use Rattle.unit_state.specs.declared.state.UnitState.{UnitState}
use Rattle.unit_state.specs.Records.{
  head_of,
  bank_time_of,
  ids_of,
  mailbox_of,
  run_of,
  time_of,
  subscriber_of,
  first_of,
  nonce_of,
  edition_in,
  order_of,
  lent_length_of,
  offset_of,
  booking_time_of,
  line_of,
  seed_of,
  body_of,
  is_run,
  edition_of,
  room_bytes,
  call_of,
}
use Rattle.unit_state.specs.State.{rooms_bytes, run_at, with_run, with_journal}
use Rattle.unit_rows.specs.Lines.{lines_size, stores_bytes, row_at, is_made, made_at, put_at}
use Rattle.unit.specs.State.{Memory, State, memory, state_of, session_in}

-- the rooms lent for the runs, for images and for the lines are of their lengths
unfoldable pub rooms_right : ℕ → ℕ → ℕ → ℕ → ℕ → Bool
rooms_right payloads files room lines stores =
    eqb payloads rooms_bytes
    && (eqb files rooms_bytes && (eqb room room_bytes && (eqb lines lines_size && eqb stores stores_bytes)))

-- what a call to a run asks: a record that names one of the runs and has its head, and rooms of their lengths
pub record Ready (e : Event) (r payloads files : List ℕ) : Type 0 where
  pub run : is_run (run_of r) ≡ true
  pub head : head_of (kind.Run e) ≤ length r
  pub payload-rooms : length payloads ≡ rooms_bytes
  pub file-rooms : length files ≡ rooms_bytes

-- what a call leaves, and its answer
pub record UnitCall : Type 0 where
  pub state : State
  pub answer : Answer

abbrev pub after_call : UnitState → Memory → Answer → UnitCall
after_call u m a = record { state = state_of u m; answer = a }

-- the answers of the bank's two calls, of a client's, and of the journal handed to it; a run that ends as lodged names
-- its order: "subscriber, type and number together"
abbrev pub frame_answer : Result ℕ WrongLength → Answer
frame_answer (Ok n) = Frame n
frame_answer (Err e) = Number (frame_number (Err number_one))

abbrev pub file_answer : Result (Unit {0}) FileRefusal → Answer
file_answer (Ok u) = Put
file_answer (Err r) = Number (file_refusal_number r)

abbrev pub run_answer : Result client.Answer Refusal → ClientRun → Answer
run_answer (Ok (client-answer.Request n)) c = Request n
run_answer (Ok client-answer.Ignored) c = Ignored
run_answer (Ok (client-answer.Closed w)) c = Closed w (order_name c)
run_answer (Err x) c = Number (refusal_number x)

abbrev pub journal_answer : Result (Option Word) WrongLength → ClientRun → Answer
journal_answer (Ok (Some w)) c = Closed w (order_name c)
journal_answer (Ok None) c = Unchanged
journal_answer (Err e) c = Number (journal_number (Err number_one))

-- the answers of putting away, with the image's length, and of taking up
abbrev pub away_answer : Result ℕ ImageRefusal → Answer
away_answer (Ok n) = Away n
away_answer (Err r) = Number (image_refusal_number r)

abbrev pub taken_up_answer : Result (Unit {0}) ImageRefusal → Answer
taken_up_answer (Ok u) = TakenUp
taken_up_answer (Err r) = Number (image_refusal_number r)

-- the answer of a value day
abbrev pub value_day_answer : Result Date TooLate → Answer
value_day_answer (Ok d) = Day d
value_day_answer (Err e) = Number (answered (Err number_ten)).number

-- the answer of the counts
abbrev pub count_answer : Result Counts WrongLength → Answer
count_answer (Ok c) = Counted c
count_answer (Err e) = Number (count_number (Err number_one))

-- the answers of making a line, and of putting a message in
abbrev pub line_answer : Result (Unit {0}) MakeRefusal → Answer
line_answer (Ok u) = Line
line_answer (Err r) = Number (make_refusal_number r)

-- what comes out, with the length of a held one
abbrev pub delivery_answer : ℕ → Option ℕ → Answer
delivery_answer copies None = Out copies
delivery_answer copies (Some n) = OutAndHeld copies n

abbrev pub out_answer : Result Delivery WrongLength → Answer
out_answer (Ok d) = delivery_answer d.copies d.held
out_answer (Err e) = Number (put_number (Err e))

-- `F`: a frame to the bank
unfoldable pub frame_step : State → List ℕ → UnitCall
frame_step s r =
    let m = s.memory in
    let o = session_frame_call (session_in s) (frame_input (bank_time_of r) (ids_of r) (body_of kind.Frame r) m.buffer) in
    let bank = lent o.session.rows o.session.orders o.session.mailboxes in
    after_call (with_journal s.unit o.session.row)
    (memory bank m.payloads m.files o.buffer m.room m.lines) (frame_answer o.answer)

-- `M`: a file into a mailbox
unfoldable pub file_step : State → List ℕ → UnitCall
file_step s r =
    let m = s.memory in
    let o = session_file_call m.bank.rows (mailbox_of r) (body_of kind.File r) m.bank.mailboxes in
    let bank = lent o.rows m.bank.orders o.mailboxes in
    after_call s.unit (memory bank m.payloads m.files m.buffer m.room m.lines) (file_answer o.answer)

-- the run that a record names, from 0 on
abbrev pub index_of : List ℕ → ℕ
index_of r = run_of r - 1

-- whether an event begins its run
abbrev pub begins : Event → Bool
begins Upload = true
begins Download = true
begins Reply = false
begins NoReply = false

-- the terms that the record r brings: an upload's edition and order number; a download's record has none
abbrev pub terms_of : Direction → List ℕ → RunTerms
terms_of direction.Upload r = record { edition = edition_of (edition_in r); number = order_of r }
terms_of direction.Download r = terms_of25

-- what the record r begins its run with
abbrev pub params_of : Direction → List ℕ → RunParameters
params_of way r = parameters_of way (subscriber_of r) (first_of r) (terms_of way r)

-- "begin, as an upload", "begin, as a download", "reply arrived", "no reply": a client's call by the event of the
-- record r
abbrev pub event_call : Event → ClientRun → List ℕ → Lent → ClientCall
event_call Upload c r l = begin_call c (params_of direction.Upload r) l
event_call Download c r l = begin_call c (params_of direction.Download r) l
event_call Reply c r l = reply_call c (body_of (kind.Run Reply) r) l
event_call NoReply c r l = no_reply_call c l

-- the same where the file buffers of all runs are lent, of which the client has that of run i
unfoldable pub room_call : Event → ClientRun → ℕ → List ℕ → Lent → ClientCall
room_call e c i r l =
    let o = event_call e c r (lent_of l.time l.nonce l.payload (part_at l.file i) l.request) in
    record {
      run = o.run;
      file = with_part l.file i o.file;
      request = o.request;
      answer = o.answer;
      number =
          o.number;
    }

-- "A begin that is given a number leaves the run's payload and nonce bytes as they were; one that is not keeps them"
abbrev pub keeps : Bool → Result client.Answer Refusal → Bool
keeps begin (Ok a) = begin
keeps begin (Err x) = false

abbrev pub with_client : Run → ClientRun → Run
with_client run next = record { client = record { run = next }; nonce = run.nonce; payload = run.payload }

abbrev pub next_run : Bool → Run → ClientRun → List ℕ → ℕ → Run
next_run true run next nonce n = record { client = record { run = next }; nonce = nonce; payload = n }
next_run false run next nonce n = with_client run next

abbrev pub kept_payloads : Bool → List ℕ → ℕ → List ℕ → List ℕ
kept_payloads true payloads i payload = with_part payloads i payload
kept_payloads false payloads i payload = payloads

-- what a call leaves of its run, and its answer
pub record RunCall : Type 0 where
  pub run : Run
  pub memory : Memory
  pub answer : Answer

abbrev pub run_call_of : RunOut → Memory → RunCall
run_call_of r m = record { run = r.run; memory = m; answer = r.answer }

-- run i: a begin with the record's nonce bytes and payload, a later call with those kept
unfoldable pub run_call : Event → ℕ → Run → Memory → List ℕ → RunCall
run_call e i run m r =
    let body = body_of (kind.Run e) r in
    let nonce = cond (begins e) (nonce_of r) run.nonce in
    let payload = cond (begins e) body (file_of m.payloads i run.payload) in
    let o = room_call e run.client.run i r (lent_of (time_of r) nonce payload m.files m.buffer) in
    let kept = keeps (begins e) o.answer in
    record {
      run = next_run kept run o.run nonce (length body);
      memory = memory m.bank (kept_payloads kept m.payloads i body) o.file o.request m.room m.lines;
      answer = run_answer o.answer o.run;
    }

-- `U`, `D`, `R`, `N`: the run is taken out, called, and put back
unfoldable pub run_step : Event → State → List ℕ → UnitCall
run_step e s r =
    let i = index_of r in
    let o = run_call e i (run_at s.unit.runs i) s.memory r in
    after_call (with_run s.unit i o.run) o.memory o.answer

-- `J`: "the journal, as the bank last left it, to a run"
unfoldable pub journal_step : State → List ℕ → UnitCall
journal_step s r =
    let i = index_of r in
    let run = run_at s.unit.runs i in
    let o = journal_call run.client.run s.unit.journal in
    after_call (with_run s.unit i (with_client run o.run)) s.memory (journal_answer o.answer o.run)

-- the memory with this image room
abbrev pub with_room : Memory → List ℕ → Memory
with_room m room = memory m.bank m.payloads m.files m.buffer room m.lines

-- `P`: "the session is put away into the first that many bytes of the image room"
unfoldable pub away_step : State → List ℕ → UnitCall
away_step s r =
    let m = s.memory in
    let o = put_away (session_in s) (take (lent_length_of r) m.room) in
    after_call s.unit (with_room m (overwrite m.room 0 o.buffer)) (away_answer o.answer)

-- `T`: "the first that many bytes of the image room are taken up"
unfoldable pub take_up_step : State → List ℕ → UnitCall
take_up_step s r =
    let m = s.memory in
    let o = take_up (session_in s) (take (lent_length_of r) m.room) in
    let bank = lent o.session.rows o.session.orders o.session.mailboxes in
    after_call (with_journal s.unit o.session.row)
    (memory bank m.payloads m.files m.buffer m.room m.lines) (taken_up_answer o.answer)

-- `I`: "these bytes into the image room at that offset (the host's own doing, no call of the unit)"
unfoldable pub image_step : State → List ℕ → UnitCall
image_step s r =
    let m = s.memory in
    after_call s.unit (with_room m (overwrite m.room (offset_of r) (body_of kind.Image r))) Room

-- nothing changes
abbrev pub unchanged : State → Answer → UnitCall
unchanged s a = record { state = s; answer = a }

-- `V`: "the value day of a booking"
unfoldable pub value_day_step : State → List ℕ → UnitCall
value_day_step s r = unchanged s (value_day_answer (value_day (booking_time_of r)))

-- the line that a record names, from 0 on
abbrev pub line_index : List ℕ → ℕ
line_index r = line_of r - 1

-- `L`: "a line is made, afresh also where there is one"; "an `L` given a number leaves the line as it was"
unfoldable pub make_step : State → List ℕ → UnitCall
make_step s r =
    let m = s.memory in
    let o = made_at m.lines (line_index r) (seed_of r) in
    after_call s.unit (memory m.bank m.payloads m.files m.buffer m.room o.lines)
    (line_answer o.answer)

-- `W`: "the message is put into that line"; what comes out stands in the buffer and "goes nowhere by itself"
unfoldable pub put_step : State → List ℕ → UnitCall
put_step s r =
    let m = s.memory in
    let o = put_at m.lines (line_index r) (body_of kind.PutIn r) m.buffer in
    after_call s.unit (memory m.bank m.payloads m.files o.buffer m.room o.lines)
    (out_answer o.answer)

-- "a `W` to a line not made" is no call
unfoldable pub put_in_step : State → List ℕ → UnitCall
put_in_step s r =
    cond (is_made (row_at s.memory.lines.rows (line_index r))) (put_step s r) (unchanged s NoCall)

-- `C`: "the seven counts"
unfoldable pub count_step : State → UnitCall
count_step s = unchanged s (count_answer (count_call s.memory.bank.rows))

abbrev pub step_of : Kind → State → List ℕ → UnitCall
step_of kind.Frame s r = frame_step s r
step_of kind.File s r = file_step s r
step_of (kind.Run e) s r = run_step e s r
step_of kind.Journal s r = journal_step s r
step_of kind.Away s r = away_step s r
step_of kind.TakeUp s r = take_up_step s r
step_of kind.Image s r = image_step s r
step_of kind.ValueDay s r = value_day_step s r
step_of kind.MakeLine s r = make_step s r
step_of kind.PutIn s r = put_in_step s r
step_of kind.Counts s r = count_step s
step_of kind.NoCall s r = unchanged s NoCall

-- the rooms of this memory are of their lengths
abbrev pub rooms_of : Memory → Bool
rooms_of m =
    rooms_right (length m.payloads) (length m.files) (length m.room) (length m.lines.rows)
    (length m.lines.stores)

-- one call of the record r on the unit; rooms of another length get number 1, "a lent length differs"
unfoldable pub unit_call : State → List ℕ → UnitCall
unit_call s r =
    let m = s.memory in
    cond (rooms_of m) (step_of (call_of r) s r) (unchanged s (Number (frame_number (Err number_one))))
