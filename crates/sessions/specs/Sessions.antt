-- The unit after the calls of records, and the list of demand 3's calls that these records are: one claim over every
-- list of records, and demand 3's clauses said of the unit.
use Rattle.std.specs.Prelude.{ℕ, ◌<◌, ◌≡◌, true, cond, take, replicate}
use mathlib.Core.List.{List, [], ◌∷◌, ◌++◌, map, Memᴰ as In}
use Rattle.octets.specs.Bytes.{Bytes}
use Rattle.frame_table.specs.Forms as forms
use Rattle.frame_table.specs.Names.{subscriber}
use Rattle.frame_reader.specs.Reader.{read_request}
use Rattle.journal.specs.declared.event.OrderName.{OrderName}
use Rattle.journal.specs.Row.{Journal}
use Rattle.bank_state.specs.Limits.{store_bytes}
use Rattle.bank_state.specs.State.{BankState}
use Rattle.bank_state.specs.Store.{part_at, file_of}
use Rattle.bank.specs.Call.{frame_input}
use Rattle.bank_rows.specs.State.{bank_of}
use Rattle.bank_steps.specs.Lent.{lent}
use Rattle.bank_steps.specs.Lent as bank
use Rattle.bank_session.specs.Session.{
  session_size,
  bank_rows,
  bank_in,
  journal_in,
  session_frame_call,
  session_file_call,
}
use Rattle.image_calls.specs.Calls.{put_away, take_up}
use Rattle.client_run.specs.declared.run.ClientRun.{ClientRun}
use Rattle.message.specs.declared.directions.Direction.TheVariants as direction
use Rattle.client_run.specs.declared.run.Stage.TheVariants as stage
use Rattle.client_run.specs.declared.run.Word.TheVariants.{Lodged, NotLodged, Fetched}
use Rattle.client.specs.Calls.{begin_call, reply_call, no_reply_call}
use Rattle.client.specs.Journal.{journal_call}
use Rattle.client_run.specs.Run.{Lent, ClientCall, lent_of, order_name}
use Rattle.client_rules.specs.Rulings.{is_begun}
use Rattle.exchange.specs.Course.{
  Call,
  frame_arrives,
  file_put,
  begins,
  reply_arrives,
  no_reply,
  journal_handed,
  puts_away,
  takes_up,
  Exchange,
  Course,
  start,
  call_number,
  exec,
  after,
  held_of,
}
use Rattle.exchange.specs.Demand3.{is_subscribers, Left, OneExchangeNumber, Outcome, ClosesInTurn}
use Rattle.exchange.specs.Terms.{IssuedBy, Booked, Opened, Order, name_of, InBook, OrderOf}
use Rattle.unit_state.specs.declared.answer.Answer.{Answer}
use Rattle.unit_state.specs.declared.answer.Answer.TheVariants.{
  Frame,
  Put,
  Request,
  Ignored,
  Closed,
  Unchanged,
  Away,
  TakenUp,
  Room,
  Day,
  Line,
  Out,
  OutAndHeld,
  Counted,
  Number,
  NoCall,
}
use Rattle.unit_state.specs.declared.record.Event.{Event}
use Rattle.unit_state.specs.declared.record.Event.TheVariants.{Upload, Download, Reply, NoReply}
use Rattle.unit_state.specs.declared.record.Kind.{Kind}
use Rattle.unit_state.specs.declared.record.Kind.TheVariants as kind
use Rattle.unit_state.specs.Records.{
  bank_time_of,
  ids_of,
  mailbox_of,
  time_of,
  nonce_of,
  lent_length_of,
  body_of,
  run_count,
  room_bytes,
  call_of,
  is_call,
}
use Rattle.unit_state.specs.State.{fresh, rooms_bytes, buffer_bytes, run_at}
use Rattle.unit_rows.specs.Lines.{lines_size, stores_bytes, lines_of}
use Rattle.unit.specs.State.{State, memory, state_of, session_in}
use Rattle.unit.specs.Call.{
  frame_answer,
  file_answer,
  run_answer,
  journal_answer,
  away_answer,
  taken_up_answer,
  index_of,
  params_of,
  UnitCall,
  unit_call,
}
use Rattle.unit.specs.Call as unit

-- ---- A SESSION OF THE UNIT

abbrev zeros : ℕ → List ℕ
zeros n = replicate n 0

-- "one fresh bank (8 places, 8 mailboxes) and 16 client runs": no run begun, no event in the journal, no line made, and
-- all that is lent to them zeroed
unfoldable pub fresh_unit : State
fresh_unit =
    let bank = lent (zeros session_size) (zeros store_bytes) (zeros store_bytes) in
    state_of fresh
    (memory bank (zeros rooms_bytes) (zeros rooms_bytes) (zeros buffer_bytes) (zeros room_bytes)
    (lines_of (zeros lines_size) (zeros stores_bytes)))

-- the driver's records: bytes, and each is a call; what is no call ends the input. A message for a line not made, which
-- ends it too, may stand here anywhere: it changes nothing
pub data Records : List (List ℕ) → Type 0 where
  none : Records []
  more : {r : List ℕ} {rs : List (List ℕ)} → Bytes r → is_call (call_of r) ≡ true → Records rs → Records (r ∷ rs)

-- the unit after the calls of these records, one after the other
unfoldable pub unit_after : State → List (List ℕ) → State
unit_after u [] = u
unit_after u (r ∷ rs) = unit_after (unit_call u r).state rs

-- the bank with its stores that the unit's rows are, and the journal: the row, and the number of events behind the
-- bank's numbers
abbrev pub bank_at : State → BankState
bank_at u = bank.state_of (bank_in (session_in u))

abbrev pub journal_at : State → Journal
journal_at u = journal_in (session_in u)

-- run i of the unit, from 0 on: the client, and the payload that it keeps
abbrev pub client_at : State → ℕ → ClientRun
client_at u i = (run_at u.unit.runs i).client.run

abbrev pub payload_at : State → ℕ → List ℕ
payload_at u i = file_of u.memory.payloads i (run_at u.unit.runs i).payload

abbrev pub file_at : State → ℕ → List ℕ
file_at u i = part_at u.memory.files i

-- ---- A RECORD AS A CALL OF DEMAND 3

-- `F`: a frame to the session
unfoldable pub frame_of : State → List ℕ → Call
frame_of u r =
    frame_arrives (session_in u) (frame_input (bank_time_of r) (ids_of r) (body_of kind.Frame r) u.memory.buffer)

-- `M`: a file into a mailbox
unfoldable pub put_of : State → List ℕ → Call
put_of u r = let m = session_in u in file_put m.rows m.mailboxes (mailbox_of r) (body_of kind.File r)

-- what the unit lends to run i: to a begin the record's nonce bytes and payload, to a later call those that it keeps
unfoldable pub lent_to : Event → ℕ → State → List ℕ → Lent
lent_to e i u r =
    let nonce = cond (unit.begins e) (nonce_of r) (run_at u.unit.runs i).nonce in
    let payload = cond (unit.begins e) (body_of (kind.Run e) r) (payload_at u i) in
    lent_of (time_of r) nonce payload (file_at u i) u.memory.buffer

-- `U`, `D`, `R`, `N`: a call of run i
abbrev pub run_call_of : Event → ℕ → ClientRun → List ℕ → Lent → Call
run_call_of Upload i c r l = begins i c (params_of direction.Upload r) l
run_call_of Download i c r l = begins i c (params_of direction.Download r) l
run_call_of Reply i c r l = reply_arrives i c (body_of (kind.Run Reply) r) l
run_call_of NoReply i c r l = no_reply i c l

abbrev pub run_of : Event → State → List ℕ → Call
run_of e u r = let i = index_of r in run_call_of e i (client_at u i) r (lent_to e i u r)

-- `J`: the journal's row to run i
unfoldable pub handed_of : State → List ℕ → Call
handed_of u r = let i = index_of r in journal_handed i (client_at u i) (journal_at u).row

-- the first bytes of the image room, as many as the record says
abbrev pub front_of : State → List ℕ → List ℕ
front_of u r = take (lent_length_of r) u.memory.room

-- `P`: the session into them
unfoldable pub away_of : State → List ℕ → Call
away_of u r = puts_away (session_in u) (front_of u r)

-- `T`: a session from them
unfoldable pub taken_of : State → List ℕ → Call
taken_of u r = takes_up (session_in u) (front_of u r)

-- the call of a record of this kind, before the calls ks; `I` is "the host's own doing, no call of the unit", `V` asks the
-- calendar alone, `L` and `W` a line, and `C` the session's counts, which it leaves: no calls of demand 3
abbrev pub call_first : Kind → State → List ℕ → List Call → List Call
call_first kind.Frame u r ks = frame_of u r ∷ ks
call_first kind.File u r ks = put_of u r ∷ ks
call_first (kind.Run e) u r ks = run_of e u r ∷ ks
call_first kind.Journal u r ks = handed_of u r ∷ ks
call_first kind.Away u r ks = away_of u r ∷ ks
call_first kind.TakeUp u r ks = taken_of u r ∷ ks
call_first kind.Image u r ks = ks
call_first kind.ValueDay u r ks = ks
call_first kind.MakeLine u r ks = ks
call_first kind.PutIn u r ks = ks
call_first kind.Counts u r ks = ks
call_first kind.NoCall u r ks = ks

-- the calls of these records
unfoldable pub calls_of : State → List (List ℕ) → List Call
calls_of u [] = []
calls_of u (r ∷ rs) = call_first (call_of r) u r (calls_of (unit_call u r).state rs)

-- ---- WHAT IS ANSWERED

-- an answer with the bytes of its reply, request, image or held message
pub record Told : Type 0 where
  pub answer : Answer
  pub bytes : List ℕ

abbrev pub bytes_in : Answer → List ℕ → List ℕ → List ℕ
bytes_in (Frame n) buffer room = take n buffer
bytes_in Put buffer room = []
bytes_in (Request n) buffer room = take n buffer
bytes_in Ignored buffer room = []
bytes_in (Closed w o) buffer room = []
bytes_in Unchanged buffer room = []
bytes_in (Away n) buffer room = take n room
bytes_in TakenUp buffer room = []
bytes_in Room buffer room = []
bytes_in (Day d) buffer room = []
bytes_in Line buffer room = []
bytes_in (Out n) buffer room = []
bytes_in (OutAndHeld n k) buffer room = take k buffer
bytes_in (Counted c) buffer room = []
bytes_in (Number n) buffer room = []
bytes_in NoCall buffer room = []

-- with the buffer and the image room
abbrev pub told : Answer → List ℕ → List ℕ → Told
told a buffer room = record { answer = a; bytes = bytes_in a buffer room }

abbrev pub told_of : UnitCall → Told
told_of o = told o.answer o.state.memory.buffer o.state.memory.room

-- the answer to a record of this kind, before the answers ts
abbrev pub answer_first : Kind → Told → List Told → List Told
answer_first kind.Frame t ts = t ∷ ts
answer_first kind.File t ts = t ∷ ts
answer_first (kind.Run e) t ts = t ∷ ts
answer_first kind.Journal t ts = t ∷ ts
answer_first kind.Away t ts = t ∷ ts
answer_first kind.TakeUp t ts = t ∷ ts
answer_first kind.Image t ts = ts
answer_first kind.ValueDay t ts = ts
answer_first kind.MakeLine t ts = ts
answer_first kind.PutIn t ts = ts
answer_first kind.Counts t ts = ts
answer_first kind.NoCall t ts = t ∷ ts

-- by the unit, call by call
unfoldable pub answers_of : State → List (List ℕ) → List Told
answers_of u [] = []
answers_of u (r ∷ rs) = let o = unit_call u r in answer_first (call_of r) (told_of o) (answers_of o.state rs)

-- by a call of demand 3: its reply, its request, its closing word, or the number that it is given
abbrev pub told_by_run : ClientCall → Told
told_by_run k = told (run_answer k.answer k.run) k.request []

abbrev pub told_by : Call → Told
told_by (frame_arrives m a) = let k = session_frame_call m a in told (frame_answer k.answer) k.buffer []
told_by (file_put rows mailboxes m file) = told (file_answer (session_file_call rows m file mailboxes).answer) [] []
told_by (begins i c params l) = told_by_run (begin_call c params l)
told_by (reply_arrives i c reply l) = told_by_run (reply_call c reply l)
told_by (no_reply i c l) = told_by_run (no_reply_call c l)
told_by (journal_handed i c row) = let k = journal_call c row in told (journal_answer k.answer k.run) [] []
told_by (puts_away m buffer) = let k = put_away m buffer in told (away_answer k.answer) [] k.buffer
told_by (takes_up m image) = told (taken_up_answer (take_up m image).answer) [] []

-- ---- THE PREMISES OF DEMAND 3, ONE BY ONE

-- "Each call gets state, stores, payload and file buffer as the last call not given a number left them at its end (the
-- bank, or that client run)"; a begin brings its own payload and file buffer. A run is handed the row "as the bank last
-- left it"
abbrev pub Given : Call → Course → Type 0
Given (frame_arrives m a) s = (bank.state_of (bank_in m) ≡ s.bank) × (journal_in m ≡ s.journal)
Given (file_put rows mailboxes m file) s = (bank_of (bank_rows rows) ≡ s.bank.bank) × (mailboxes ≡ s.bank.mailboxes)
Given (begins i c params l) s = c ≡ s.runs i
Given (reply_arrives i c reply l) s = Left i c l s
Given (no_reply i c l) s = Left i c l s
Given (journal_handed i c row) s = (c ≡ s.runs i) × (row ≡ s.journal.row)
Given (puts_away m buffer) s = (bank.state_of (bank_in m) ≡ s.bank) × (journal_in m ≡ s.journal)
Given (takes_up m image) s = Unit {0}

-- "A request that demand 3 names is a copy of one issued earlier in the list; a reply is a copy of one the bank gave
-- earlier for such a copy". "Demand 3 covers a resumed session when nothing ran between the writing and the taking up":
-- an image taken up is a copy of one written since the bank's last frame or file call given no number
abbrev pub Copy : Call → Course → Type 0
Copy (frame_arrives m a) s = is_subscribers a.frame ≡ true → (i : ℕ) × IssuedBy i a.frame s
Copy (file_put rows mailboxes m file) s = Unit {0}
Copy (begins i c params l) s = Unit {0}
Copy (reply_arrives i c reply l) s =
    (e : Exchange) × In e s.exchanged × (e.reply ≡ reply) × ((j : ℕ) × IssuedBy j e.request s)
Copy (no_reply i c l) s = Unit {0}
Copy (journal_handed i c row) s = Unit {0}
Copy (puts_away m buffer) s = Unit {0}
Copy (takes_up m image) s = In image s.images

-- what holds of each call given no number, in the course that the calls before it leave
abbrev pub AtEach : (Call → Course → Type 0) → List Call → Course → Type 0
AtEach P [] s = Unit {0}
AtEach P (k ∷ ks) s = (call_number k ≡ 0 → P k s) × AtEach P ks (exec k s)

-- ---- THE CLAIM

-- a run of the unit is that of the course: the client, and once begun its payload and its file buffer
pub record SameRun (own : ClientRun) (kept buffer : List ℕ) (c : ClientRun) (p f : List ℕ) : Type 0 where
  pub client : own ≡ c
  pub payload : is_begun c.stage ≡ true → kept ≡ p
  pub file : is_begun c.stage ≡ true → buffer ≡ f

-- the unit is what the course has left: the bank with its stores that the unit's memory is, the journal, and each of
-- the 16 runs
pub record Same (u : State) (s : Course) : Type 0 where
  pub bank : bank_at u ≡ s.bank
  pub journal : journal_at u ≡ s.journal
  pub runs : (i : ℕ) → i < run_count →
      SameRun (client_at u i) (payload_at u i) (file_at u i) (s.runs i) (s.payloads i) (s.files i)

-- "for every list of the driver's records, what the unit is and answers after them is what a list of demand 3's calls
-- leaves in which each call gets what the last one at its end left"
pub record IsCourse (u : State) (rs : List (List ℕ)) (s : Course) : Type 0 where
  pub given : AtEach Given (calls_of u rs) s
  pub same : Same (unit_after u rs) (after (calls_of u rs) s)
  pub answers : answers_of u rs ≡ map told_by (calls_of u rs)

unfoldable pub Sessions : Type 0
Sessions = (rs : List (List ℕ)) → Records rs → IsCourse fresh_unit rs start

-- ---- DEMAND 3 OF THE UNIT

-- the course of a session
abbrev pub course_of : List (List ℕ) → Course
course_of rs = after (calls_of fresh_unit rs) start

-- demand 3's clauses on the closing words, of the unit u
pub record Closes (u : State) (s : Course) : Type 0 where
  -- "'lodged' names its booked order": "subscriber, type and number together"
  pub lodged : (i : ℕ) → i < run_count → (client_at u i).stage ≡ stage.Ended Lodged →
      Booked s i × ((j : ℕ) × (o : Order) × InBook s j o × OrderOf s i o × (name_of o ≡ order_name (client_at u i)))
  -- "'not lodged' means never booked"
  pub not_lodged : (i : ℕ) → i < run_count → (client_at u i).stage ≡ stage.Ended NotLodged → Booked s i → ⊥
  -- "a fetched file is the mailbox's file at its transaction's opening"
  pub fetched : (i : ℕ) → i < run_count → (client_at u i).stage ≡ stage.Ended Fetched →
      (e : Exchange) × Opened forms.DownloadOpened s i e
      × (subscriber (read_request e.request) ≡ (client_at u i).subscriber)
      × (held_of (client_at u i) (file_at u i) ≡ e.box)

-- "demand 3 speaks of its closing words whenever its records copy requests and replies", and images taken up; and "not
-- lodged" in every continuation of the session
unfoldable pub SessionsClose : Type 0
SessionsClose = (rs ts : List (List ℕ)) → Records (rs ++ ts) → AtEach Copy (calls_of fresh_unit (rs ++ ts)) start →
    OneExchangeNumber (course_of (rs ++ ts)) →
    Outcome (course_of rs)
    × ClosesInTurn (calls_of fresh_unit rs)
    × Closes (unit_after fresh_unit rs) (course_of rs)
    × ((i : ℕ) → i < run_count → (client_at (unit_after fresh_unit rs) i).stage ≡ stage.Ended NotLodged →
    Booked (course_of (rs ++ ts)) i → ⊥)

-- "'Lodged' names subscriber, type and number together", as the unit answers it to the record r: those of a booked
-- order, its run's
unfoldable pub LodgedNamed : Type 0
LodgedNamed = (rs : List (List ℕ)) (r : List ℕ) (ts : List (List ℕ)) →
    let ss = rs ++ (r ∷ []) in
    let s = course_of ss in
    Records (ss ++ ts) → AtEach Copy (calls_of fresh_unit (ss ++ ts)) start → OneExchangeNumber (course_of (ss ++ ts)) →
    (o : OrderName) → (unit_call (unit_after fresh_unit rs) r).answer ≡ Closed Lodged o →
    Booked s (index_of r) × ((j : ℕ) × (x : Order) × InBook s j x × OrderOf s (index_of r) x × (name_of x ≡ o))
