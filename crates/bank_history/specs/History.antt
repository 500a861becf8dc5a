-- The bank's calls, the history of requests and replies that they leave, and what a history says of one transaction.
use Rattle.bank.specs.declared.mailbox.FileRefusal.{FileRefusal}
use Rattle.number_table.specs.declared.table.WrongLength.{WrongLength}
use Rattle.std.specs.Prelude.{Err, Ok, Result}
use Rattle.std.specs.Prelude.{ℕ, suc, ◌+◌, Bool, true, false, cond, ◌&&◌, ◌||◌, List, [], ◌∷◌, ◌++◌, ◌≡◌, eqb, leb, replicate}
use Rattle.frame_table.specs.declared.fields.Bits128.{Bits128}
use Rattle.frame_table.specs.declared.fields.Fields.{Fields}
use Rattle.octets.specs.Bytes.{number}
use Rattle.frame_table.specs.Names.{subscriber, nonce, timestamp, segments, same_bits}
use Rattle.frame_reader.specs.Reader.{read_request}
use Rattle.frame_row.specs.Row.{data_of}
use Rattle.message.specs.declared.codes.ReturnCode.{ReturnCode}
use Rattle.message.specs.declared.codes.ReturnCode.TheVariants as code
use Rattle.message.specs.declared.editions.Edition.{Edition}
use Rattle.message.specs.declared.editions.Edition.TheVariants as edition
use Rattle.message.specs.Editions.{edition_of}
use Rattle.bank_state.specs.State.{Bank}
use Rattle.bank_state.specs.State.{Nonce}
use Rattle.bank_state.specs.Clock.{advanced}
use Rattle.bank_state.specs.Limits.{store_bytes, window}
use Rattle.bank_state.specs.Rows.{keep}
use Rattle.bank_state.specs.State.{BankState, bank_state, fresh}
use Rattle.bank_admitted.specs.State.{mailbox_file}
use Rattle.bank_verdicts.specs.declared.verdict.Context.{Context}
use Rattle.bank_verdicts.specs.declared.verdict.UploadAction.{UploadAction}
use Rattle.bank_verdicts.specs.declared.verdict.UploadAction.TheVariants as up
use Rattle.bank_verdicts.specs.declared.verdict.DownloadAction.{DownloadAction}
use Rattle.bank_verdicts.specs.declared.verdict.DownloadAction.TheVariants as down
use Rattle.bank_verdicts.specs.declared.verdict.Action.{Action}
use Rattle.bank_verdicts.specs.declared.verdict.Action.TheVariants as action
use Rattle.bank_verdicts.specs.declared.verdict.Verdict.{Verdict}
use Rattle.bank_verdicts.specs.declared.verdict.Verdict.TheVariants as verdict
use Rattle.bank.specs.declared.mailbox.FileRefusal.TheVariants as put
use Rattle.bank.specs.Call.{context_of, Step, respond, FrameInput, frame_call}
use Rattle.bank.specs.Mailbox.{file_call}

-- One answered frame: the request's fields and data as read, the reply's fields and data, the clock that the call has
-- set, the file of the subscriber's mailbox as the request was judged, and the verdict
pub record Exchange : Type 0 where
  pub request : Fields
  pub request_data : List ℕ
  pub reply : Fields
  pub reply_data : List ℕ
  pub clock : ℕ
  pub file : List ℕ
  pub verdict : Verdict

-- the exchange of a request whose step is s, with the bank w before it
abbrev pub exchange_by : Step → BankState → Fields → List ℕ → Exchange
exchange_by s w q d = record {
  request = q;
  request_data = d;
  reply = s.reply;
  reply_data = s.reply_data;
  clock = w.bank.clock;
  file = mailbox_file w (subscriber q);
  verdict = s.verdict;
}

-- the exchange of a request that comes to the bank w, clock and drops done
unfoldable pub exchange_of : Context → BankState → Fields → List ℕ → Exchange
exchange_of c w q d = exchange_by (respond c w q d) w q d

-- the exchange of a frame call to the bank w
abbrev pub call_exchange : BankState → FrameInput → Exchange
call_exchange w a = exchange_of (context_of a) (advanced a.time w) (read_request a.frame) (data_of a.frame)

-- A call of the bank: a frame arrives, or a file goes into a mailbox (mailbox, file)
pub data BankCall : Type 0 where
  Frame : FrameInput → BankCall
  File : ℕ → List ℕ → BankCall

-- The bank and its stores as the calls so far left them, and the answered frames, the newest first. Unreadable frames
-- are entered too
pub record Past : Type 0 where
  pub bank_state : BankState
  pub history : List Exchange

-- a frame call's answer: a reply is entered; "a number, nothing changed"
abbrev pub entered : Result ℕ WrongLength → BankState → Exchange → Past → Past
entered (Ok n) w e p = record { bank_state = w; history = e ∷ p.history }
entered (Err x) w e p = p

-- a file call's answer
abbrev pub placed : Result (Unit {0}) FileRefusal → Bank → List ℕ → Past → Past
placed (Ok u) b mailboxes p =
    record { bank_state = bank_state b p.bank_state.orders mailboxes; history = p.history }
placed (Err put.WrongLength) b mailboxes p = p
placed (Err put.NoMailbox) b mailboxes p = p
placed (Err put.WrongFile) b mailboxes p = p
placed (Err put.MailboxFull) b mailboxes p = p

-- what a call leaves
unfoldable pub after : BankCall → Past → Past
after (Frame a) p =
    let c = frame_call p.bank_state a in
    entered c.answer c.bank_state (call_exchange p.bank_state a) p
after (File mailbox file) p =
    let c = file_call p.bank_state.bank mailbox file p.bank_state.mailboxes in
    placed c.answer c.bank c.mailboxes p

-- "Fresh means clock 0, no opening accepted, nothing open, booked or remembered, and every lent byte kept between
-- calls 0"
unfoldable pub start : Past
start = record { bank_state = bank_state fresh (replicate store_bytes 0) (replicate store_bytes 0); history = [] }

-- what a list of calls leaves, the newest call first
unfoldable pub past_of : List BankCall → Past
past_of [] = start
past_of (c ∷ calls) = after c (past_of calls)

-- the exchange e stands in a history, and g is what came before it
pub data Stands (e : Exchange) (g : List Exchange) : List Exchange → Type 0 where
  newest : Stands e g (e ∷ g)
  older : {x : Exchange} {h : List Exchange} → Stands e g h → Stands e g (x ∷ h)

-- What an action is: it opens an upload, opens a download, takes a segment, books the order, delivers a segment, ends
-- without booking
pub record Kind : Type 0 where
  pub opens_upload : Bool
  pub opens_download : Bool
  pub takes : Bool
  pub books : Bool
  pub delivers : Bool
  pub ends : Bool

abbrev kind : Bool → Bool → Bool → Bool → Bool → Bool → Kind
kind a b c d e f = record { opens_upload = a; opens_download = b; takes = c; books = d; delivers = e; ends = f }

-- columns of both tables: opens an upload, opens a download, takes, books, delivers, ends

-- "Segment N books the order"
abbrev pub upload_kind : UploadAction → Kind
upload_kind (up.Opened number) = kind true false false false false false
upload_kind up.Took = kind false false true false false false
upload_kind up.TookLast = kind false false true true false false
upload_kind (up.Point k) = kind false false false false false false
upload_kind (up.Cancelled c) = kind false false false false false true

-- a download's opening delivers segment 1
abbrev pub download_kind : DownloadAction → Kind
download_kind (down.Opened n) = kind false true false false true false
download_kind (down.Delivered n) = kind false false false false true false
download_kind (down.SentAgain n) = kind false false false false false false
download_kind (down.Point d) = kind false false false false false false
download_kind down.Cancelled = kind false false false false false true
download_kind down.Confirmed = kind false false false false false true
download_kind down.Declined = kind false false false false false true

abbrev pub kind_of : Action → Kind
kind_of (action.Upload a) = upload_kind a
kind_of (action.Download a) = download_kind a

abbrev pub is_upload_opening : Action → Bool
is_upload_opening k = (kind_of k).opens_upload

abbrev pub is_download_opening : Action → Bool
is_download_opening k = (kind_of k).opens_download

abbrev pub is_opening : Action → Bool
is_opening k = is_upload_opening k || is_download_opening k

abbrev pub is_taking : Action → Bool
is_taking k = (kind_of k).takes

abbrev pub is_booking : Action → Bool
is_booking k = (kind_of k).books

abbrev pub is_delivery : Action → Bool
is_delivery k = (kind_of k).delivers

abbrev pub is_ending : Action → Bool
is_ending k = (kind_of k).ends

abbrev pub is_action : Action → Bool
is_action k = true

-- the actions that cancel a transaction with this code; a download's sixth attempt alone cancels it
pub data CancelsWith : ReturnCode → Action → Type 0 where
  upload : (c : ReturnCode) → CancelsWith c (action.Upload (up.Cancelled c))
  download : CancelsWith code.TransactionAbort (action.Download down.Cancelled)

-- the verdict is such an action under the transaction ID t
abbrev pub did : (Action → Bool) → Bits128 → Verdict → Bool
did f t verdict.Unreadable = false
did f t (verdict.Refused c) = false
did f t (verdict.Of u k) = same_bits t u && f k
did f t (verdict.Signed n added) = false

-- the exchange is such an action of t
pub record ActionIn (f : Action → Bool) (t : Bits128) (e : Exchange) : Type 0 where
  pub action : Action
  pub is : e.verdict ≡ verdict.Of t action
  pub kind : f action ≡ true

-- the exchange opens a transaction with this number
pub record OpensNumber (n : ℕ) (e : Exchange) : Type 0 where
  pub id : Bits128
  pub action : Action
  pub is : e.verdict ≡ verdict.Of id action
  pub opening : is_opening action ≡ true
  pub numbered : id.low ≡ n

-- the exchange opens an upload of this subscriber, and the bank's own numbering gave it this number
pub record OpensInSeries (s n : ℕ) (e : Exchange) : Type 0 where
  pub id : Bits128
  pub is : e.verdict ≡ verdict.Of id (action.Upload (up.Opened n))
  pub own : edition_of e.request ≡ edition.V25
  pub owner : subscriber e.request ≡ s

-- there was such an action under t
unfoldable pub ever : (Action → Bool) → Bits128 → List Exchange → Bool
ever f t [] = false
ever f t (e ∷ h) = cond (did f t e.verdict) true (ever f t h)

-- how many such actions there were under t
unfoldable pub times : (Action → Bool) → Bits128 → List Exchange → ℕ
times f t [] = 0
times f t (e ∷ h) = cond (did f t e.verdict) (suc (times f t h)) (times f t h)

-- the data of the segments of t taken, one behind the other
unfoldable pub received : Bits128 → List Exchange → List ℕ
received t [] = []
received t (e ∷ h) = cond (did is_taking t e.verdict) (received t h ++ e.request_data) (received t h)

-- something of the exchange that opened t
unfoldable pub at_opening : {A : Type 0} → (Exchange → A) → A → Bits128 → List Exchange → A
at_opening g none t [] = none
at_opening g none t (e ∷ h) = cond (did is_opening t e.verdict) (g e) (at_opening g none t h)

-- the number of the order in a verdict: an upload's opening alone has one
abbrev pub upload_number : UploadAction → ℕ
upload_number (up.Opened number) = number
upload_number up.Took = 0
upload_number up.TookLast = 0
upload_number (up.Point k) = 0
upload_number (up.Cancelled c) = 0

abbrev pub action_number : Action → ℕ
action_number (action.Upload a) = upload_number a
action_number (action.Download a) = 0

abbrev pub number_in : Verdict → ℕ
number_in verdict.Unreadable = 0
number_in (verdict.Refused c) = 0
number_in (verdict.Of t k) = action_number k
number_in (verdict.Signed n added) = 0

-- the subscriber that opened t, an upload's order number and number of segments, the file in the mailbox at a
-- download's opening
abbrev pub opened_by : Bits128 → List Exchange → ℕ
opened_by t h = at_opening (λ (e : Exchange). subscriber e.request) 0 t h

abbrev pub number_at : Bits128 → List Exchange → ℕ
number_at t h = at_opening (λ (e : Exchange). number_in e.verdict) 0 t h

abbrev pub segments_at : Bits128 → List Exchange → ℕ
segments_at t h = at_opening (λ (e : Exchange). segments e.request) 0 t h

abbrev pub file_at_opening : Bits128 → List Exchange → List ℕ
file_at_opening t h = at_opening (λ (e : Exchange). e.file) [] t h

-- the accepted openings
abbrev pub opens : Verdict → Bool
opens verdict.Unreadable = false
opens (verdict.Refused c) = false
opens (verdict.Of t k) = is_opening k
opens (verdict.Signed n added) = false

unfoldable pub accepted : List Exchange → ℕ
accepted [] = 0
accepted (e ∷ h) = cond (opens e.verdict) (suc (accepted h)) (accepted h)

-- the accepted uploads
abbrev pub accepts_upload : Verdict → Bool
accepts_upload verdict.Unreadable = false
accepts_upload (verdict.Refused c) = false
accepts_upload (verdict.Of t k) = is_upload_opening k
accepts_upload (verdict.Signed n added) = false

-- those that the bank's own numbering gave their number: "before 2.5 the client chose" it
abbrev pub is_own : Edition → Bool
is_own edition.V24 = false
is_own edition.V25 = true

abbrev pub numbers_own : Exchange → Bool
numbers_own e = accepts_upload e.verdict && is_own (edition_of e.request)

-- how far it has come for a subscriber: one past the number that it gave last
unfoldable pub own_numbering : ℕ → List Exchange → ℕ
own_numbering s [] = 0
own_numbering s (e ∷ h) =
    cond (numbers_own e && eqb (subscriber e.request) s) (suc (number_in e.verdict)) (own_numbering s h)

-- the verdicts that a nonce is remembered for: an accepted opening's, and an accepted signing's, which "opens no
-- transaction and takes no running number; its nonce is remembered"
abbrev pub remembers : Verdict → Bool
remembers verdict.Unreadable = false
remembers (verdict.Refused c) = false
remembers (verdict.Of t k) = is_opening k
remembers (verdict.Signed n added) = true

-- "An accepted opening's nonce": with its timestamp
abbrev pub nonce_of : Exchange → Nonce
nonce_of e = record { used = true; value = nonce e.request; timestamp = timestamp e.request }

-- the nonces of the accepted openings, signings among them, in their order
unfoldable pub opening_nonces : List Exchange → List Nonce
opening_nonces [] = []
opening_nonces (e ∷ h) = cond (remembers e.verdict) (opening_nonces h ++ (nonce_of e ∷ [])) (opening_nonces h)

-- "remembered, against all subscribers, while its timestamp is at most" the window "behind the clock"
unfoldable pub remembered : ℕ → List Exchange → List Nonce
remembered clock h = keep (λ (e : Nonce). leb clock (e.timestamp + window)) (opening_nonces h)
