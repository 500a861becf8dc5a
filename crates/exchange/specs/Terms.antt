-- The terms of demand 3, as document 01's paragraph behind it fixes them: copies, booked, an order, in turn, an idle
-- hour.
use Rattle.std.specs.Prelude.{ℕ, ◌+◌, ◌<◌, ◌≤◌, ◌≡◌, ◌⊎◌, length, take}
use mathlib.Core.List.{List, [], ◌∷◌, Memᴰ as In}
use Rattle.frame_table.specs.declared.table.Form.{Form}
use Rattle.frame_table.specs.Forms as forms
use Rattle.frame_table.specs.Names.{order_type, segment, transaction, return_code, form}
use Rattle.frame_reader.specs.Reader.{read_request, read_reply}
use Rattle.message.specs.declared.codes.ReturnCode.TheVariants as code
use Rattle.message.specs.Codes.{code_field}
use Rattle.message.specs.Editions.{edition_of, opened_form, order_opened}
use Rattle.message.specs.Limits.{ful}
use Rattle.message.specs.Segments.{segments_of}
use Rattle.journal.specs.declared.event.OrderName.{OrderName}
use Rattle.bank_state.specs.declared.state.Use.TheVariants as uses
use Rattle.bank_state.specs.Limits.{place_count, idle_limit}
use Rattle.bank_state.specs.Search.{open_count_of}
use Rattle.bank_state.specs.State.{place_at}
use Rattle.bank_state.specs.Store.{part_at}
use Rattle.message.specs.OrderNumbers.{order_number_of}
use Rattle.bank_steps.specs.Lent.{state_of}
use Rattle.bank_session.specs.Session.{bank_in, session_frame_call}
use Rattle.client_run.specs.declared.run.Stage.TheVariants as stage
use Rattle.exchange.specs.Course.{
  Call,
  frame_arrives,
  file_put,
  begins,
  reply_arrives,
  no_reply,
  journal_handed,
  puts_away,
  takes_up,
  Issue,
  Exchange,
  Arrival,
  Course,
  call_number,
  exec,
}

-- ---- COPIES

-- "A request that demand 3 names is a copy of one issued earlier in the list"; by run i
abbrev pub IssuedBy : ℕ → List ℕ → Course → Type 0
IssuedBy i frame s = (x : Issue) × In x s.issued × (x.run ≡ i) × (x.frame ≡ frame)

-- a request of the run that the bank received, with the reply given
abbrev pub Received : ℕ → Exchange → Course → Type 0
Received i e s = In e s.exchanged × IssuedBy i e.request s

-- the opening of the run's transaction: a request of the run, answered in the opening's form with 000000 and the run's
-- transaction ID
pub record Opened (answer : Form) (s : Course) (i : ℕ) (e : Exchange) : Type 0 where
  pub received : Received i e s
  pub answered : form (read_reply e.reply) ≡ answer
  pub ok : return_code (read_reply e.reply) ≡ code_field code.Ok
  pub own : transaction (read_reply e.reply) ≡ (s.runs i).transaction

-- an upload's is answered in the form of its request's edition
abbrev pub UploadOpenedBy : Course → ℕ → Exchange → Type 0
UploadOpenedBy s i e = Opened (opened_form (edition_of (read_request e.request))) s i e

-- ---- BOOKED

-- "An upload is booked when a copy of its segment N gets 000000"
pub record Books (s : Course) (i : ℕ) (e : Exchange) : Type 0 where
  pub copy : IssuedBy i e.request s
  pub upload : form (read_request e.request) ≡ forms.UploadTransfer
  pub last : segment (read_request e.request) ≡ segments_of (length (s.payloads i))
  pub taken : return_code (read_reply e.reply) ≡ code_field code.Ok

unfoldable pub Booked : Course → ℕ → Type 0
Booked s i = (e : Exchange) × In e s.exchanged × Books s i e

-- an order: its subscriber, its type, its order number, its bytes
pub record Order : Type 0 where
  pub subscriber : ℕ
  pub order_type : ℕ
  pub number : ℕ
  pub bytes : List ℕ

-- what names it: "subscriber, type and number together"
abbrev pub name_of : Order → OrderName
name_of o = record { subscriber = o.subscriber; order_type = o.order_type; number = o.number }

-- the book: the order in place j; FUL is the only upload type
pub record InBook (s : Course) (j : ℕ) (o : Order) : Type 0 where
  pub place : j < place_count
  pub booked : (place_at s.bank.bank j).used ≡ uses.Booked
  pub is :
      o ≡ record {
        subscriber = (place_at s.bank.bank j).subscriber;
        order_type = ful;
        number = order_number_of (place_at s.bank.bank j).number;
        bytes = take (place_at s.bank.bank j).length (part_at s.bank.orders j);
      }

-- "its order is its subscriber, its payload and the order number opened with its transaction ID"; its type is the
-- opening's, and in edition 2.4 so is the number
pub record OrderOf (s : Course) (i : ℕ) (o : Order) : Type 0 where
  pub subscriber : o.subscriber ≡ (s.runs i).subscriber
  pub bytes : o.bytes ≡ s.payloads i
  pub exchange : Exchange
  pub opened : UploadOpenedBy s i exchange
  pub typed : order_type (read_request exchange.request) ≡ o.order_type
  pub number : order_opened (read_request exchange.request) (read_reply exchange.reply) ≡ o.number

-- ---- AN ORDER IN TURN

-- "An idle hour is over" the idle limit "on the clock from the arrival of one of the order's requests to that of the
-- next"
abbrev pub NoIdleHour : ℕ → ℕ → Course → Type 0
NoIdleHour i clock s =
    ((e : Exchange) × Received i e s × (clock ≤ e.clock + idle_limit)) ⊎ ((e : Exchange) → Received i e s → ⊥)

-- what "in turn" asks of a call given no number
abbrev pub Turn : ℕ → Call → Course → Type 0
Turn i (frame_arrives m a) s = IssuedBy i a.frame s →
    ((e : Exchange) → In e s.exchanged → e.request ≡ a.frame → ⊥)
    × NoIdleHour i (state_of (bank_in (session_frame_call m a).session)).bank.clock s
Turn i (file_put rows mailboxes m file) s = Unit {0}
Turn i (begins j c params l) s = Unit {0}
Turn i (reply_arrives j c reply l) s = j ≡ i → (a : Arrival) → In a s.arrived → a.run ≡ i → a.reply ≡ reply → ⊥
Turn i (no_reply j c l) s = j ≡ i → ⊥
Turn i (journal_handed j c row) s = Unit {0}
Turn i (puts_away m buffer) s = Unit {0}
Turn i (takes_up m image) s = Unit {0}

-- "whose messages each arrive once, in turn": "calls given a number left out, the run's only calls are begin and the
-- arrivals of these replies"; the journal may be handed to it and the session put away and taken up at any time
abbrev pub InTurn : ℕ → Call → Course → Type 0
InTurn i k s = call_number k ≡ 0 → Turn i k s

-- the forms that accept an opening, with 000000: the last one an upload's of edition 2.4, as no receipt gets 000000
abbrev pub IsOpened : Form → Type 0
IsOpened f = (f ≡ forms.UploadOpened) ⊎ ((f ≡ forms.DownloadOpened) ⊎ (f ≡ forms.ReceiptAnswered))

-- "an order whose opening is accepted": a request of the run was answered as an opening, with 000000
abbrev pub Accepted : ℕ → Course → Type 0
Accepted i s = (e : Exchange) × Received i e s × IsOpened (form (read_reply e.reply))
    × (return_code (read_reply e.reply) ≡ code_field code.Ok)

-- "its subscriber having nothing else open meanwhile": from the acceptance of its opening on, while the run is not
-- ended
abbrev pub Alone : ℕ → Course → Type 0
Alone i s = Accepted i s → (s.runs i).stage ≡ stage.Running → open_count_of (s.runs i).subscriber s.bank.bank ≤ 1

abbrev pub AllInTurn : ℕ → List Call → Course → Type 0
AllInTurn i [] s = Alone i s
AllInTurn i (k ∷ ks) s = Alone i s × InTurn i k s × AllInTurn i ks (exec k s)

-- "once none of its messages is under way"
pub record Settled (s : Course) (i : ℕ) : Type 0 where
  pub requests : (x : Issue) → In x s.issued → x.run ≡ i →
      (e : Exchange) × In e s.exchanged × (e.request ≡ x.frame)
  pub replies : (e : Exchange) → Received i e s →
      (a : Arrival) × In a s.arrived × (a.run ≡ i) × (a.reply ≡ e.reply)
