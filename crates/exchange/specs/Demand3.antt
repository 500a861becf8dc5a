-- Demand 3 of document 01: its premises, its clauses, and the one claim over every list of calls.
use Rattle.std.specs.Prelude.{ℕ, ◌≤◌, ◌≡◌, Bool, true, not, ◌&&◌, ◌⊎◌, leb}
use mathlib.Core.List.{List, [], ◌∷◌, ◌++◌, map, Memᴰ as In}
use Rattle.frame_table.specs.declared.table.Form.{Form}
use Rattle.frame_table.specs.Forms as forms
use Rattle.frame_table.specs.Names.{subscriber, exchange, return_code, form}
use Rattle.frame_reader.specs.Reader.{read_request, read_reply}
use Rattle.frame_table.specs.Table.{is_request_form}
use Rattle.message.specs.declared.codes.ReturnCode.TheVariants as code
use Rattle.message.specs.Codes.{code_field}
use Rattle.message.specs.Limits.{subscribers}
use Rattle.bank_rows.specs.State.{bank_of}
use Rattle.bank_steps.specs.Lent.{state_of}
use Rattle.bank_session.specs.Session.{bank_rows, bank_in, journal_in}
use Rattle.bank_history.specs.Signatures.{is_signing_form}
use Rattle.client_run.specs.declared.run.ClientRun.{ClientRun}
use Rattle.message.specs.declared.directions.Direction.TheVariants.{Download}
use Rattle.client_run.specs.declared.run.Stage.TheVariants as stage
use Rattle.client_run.specs.declared.run.Word.TheVariants.{Lodged, NotLodged, Fetched}
use Rattle.client_run.specs.Run.{Lent, order_name}
use Rattle.exchange.specs.Course.{
  Call,
  frame_arrives,
  file_put,
  begins,
  reply_arrives,
  no_reply,
  journal_handed,
  puts_away,
  takes_up,
  Issue,
  Exchange,
  Course,
  start,
  call_number,
  exec,
  after,
  mailbox_of,
  held_of,
}
use Rattle.exchange.specs.Lists.{AtMostOne, NoDup}
use Rattle.exchange.specs.Terms.{
  IssuedBy,
  Received,
  Books,
  Booked,
  Opened,
  Order,
  name_of,
  InBook,
  OrderOf,
  Accepted,
  AllInTurn,
  Settled,
}

-- ---- THE PREMISES

-- the request forms that demand 3 names; card 8: "closing words hold whoever signs: demand 3's premise on requests
-- leaves signings out", so that every readable frame of that form is free, whoever sent it
abbrev pub is_named : Form → Bool
is_named f = is_request_form f && not (is_signing_form f)

-- a readable frame of such a form under a subscriber's number
unfoldable pub is_subscribers : List ℕ → Bool
is_subscribers frame = is_named (form (read_request frame)) && leb 1 (subscriber (read_request frame)) && leb
    (subscriber (read_request frame)) subscribers

-- "Each call gets state, stores, payload and file buffer as the last call not given a number left them at its end (the
-- bank, or that client run)"
abbrev pub Left : ℕ → ClientRun → Lent → Course → Type 0
Left i c l s = (c ≡ s.runs i) × (l.payload ≡ s.payloads i) × (l.file ≡ s.files i)

-- "A request that demand 3 names is a copy of one issued earlier in the list; a reply is a copy of one the bank gave
-- earlier for such a copy": each frame under a subscriber's number that is no signing, and each reply that reaches a
-- run. A begin brings its own payload and file buffer. A run is handed the row "as the bank last left it": as its last
-- call given no number did. "Demand 3 covers a resumed session when nothing ran between the writing and the taking up":
-- the image is one that the list wrote, no frame or file call given no number stands between, and the session lent is
-- free; "no image is taken up twice" is not asked, as the session taken up is the one that stands. A file call may be
-- lent any number of events, which it leaves, and every call any counts
abbrev pub Premise : Call → Course → Type 0
Premise (frame_arrives m a) s = (state_of (bank_in m) ≡ s.bank) × (journal_in m ≡ s.journal)
    × (is_subscribers a.frame ≡ true → (i : ℕ) × IssuedBy i a.frame s)
Premise (file_put rows mailboxes m file) s = (bank_of (bank_rows rows) ≡ s.bank.bank) × (mailboxes ≡ s.bank.mailboxes)
Premise (begins i c params l) s = c ≡ s.runs i
Premise (reply_arrives i c reply l) s = Left i c l s
    × ((e : Exchange) × In e s.exchanged × (e.reply ≡ reply) × ((j : ℕ) × IssuedBy j e.request s))
Premise (no_reply i c l) s = Left i c l s
Premise (journal_handed i c row) s = (c ≡ s.runs i) × (row ≡ s.journal.row)
Premise (puts_away m buffer) s = (state_of (bank_in m) ≡ s.bank) × (journal_in m ≡ s.journal)
Premise (takes_up m image) s = In image s.images

-- "a call given a number may be lent others"
abbrev pub Allowed : Call → Course → Type 0
Allowed k s = call_number k ≡ 0 → Premise k s

abbrev pub AllAllowed : List Call → Course → Type 0
AllAllowed [] s = Unit {0}
AllAllowed (k ∷ ks) s = Allowed k s × AllAllowed ks (exec k s)

-- no two requests of the list were issued under one exchange number
unfoldable pub OneExchangeNumber : Course → Type 0
OneExchangeNumber s = NoDup (map (λ (x : Issue). exchange (read_request x.frame)) s.issued)

-- ---- THE CLAUSES

pub record Outcome (s : Course) : Type 0 where
  -- "each upload is booked at most once"
  pub once : (i : ℕ) → AtMostOne (Books s i) s.exchanged
  -- "and the book is exactly the orders of those booked, each with exactly its bytes"
  pub sound : (j : ℕ) (o : Order) → InBook s j o → (i : ℕ) × Booked s i × OrderOf s i o
  pub whole : (i : ℕ) → Booked s i → (j : ℕ) × (o : Order) × InBook s j o × OrderOf s i o
  -- no two of its orders have one subscriber, type and number
  pub single : (j j' : ℕ) (o o' : Order) → InBook s j o → InBook s j' o' → name_of o ≡ name_of o' → j ≡ j'
  -- no upload explains two places of the book, no two uploads one
  pub place : (i j j' : ℕ) (o o' : Order) → InBook s j o → InBook s j' o' → OrderOf s i o → OrderOf s i o' → j ≡ j'
  pub apart : (i i' : ℕ) (o : Order) → Booked s i → Booked s i' → OrderOf s i o → OrderOf s i' o → i ≡ i'
  -- "'lodged' names its booked order": "subscriber, type and number together"
  pub lodged : (i : ℕ) → (s.runs i).stage ≡ stage.Ended Lodged →
      Booked s i × ((j : ℕ) × (o : Order) × InBook s j o × OrderOf s i o × (name_of o ≡ order_name (s.runs i)))
  -- "'not lodged' means never booked"
  pub not_lodged : (i : ℕ) → (s.runs i).stage ≡ stage.Ended NotLodged → Booked s i → ⊥
  -- "a fetched file is the mailbox's file at its transaction's opening"
  pub fetched : (i : ℕ) → (s.runs i).stage ≡ stage.Ended Fetched → (e : Exchange) × Opened forms.DownloadOpened s i e
      × (subscriber (read_request e.request) ≡ (s.runs i).subscriber) × (held_of (s.runs i) (s.files i) ≡ e.box)
  -- "The bank's mailbox holds exactly the file last put in by a call given no number, until a receipt of its subscriber
  -- is answered 011000, which alone empties it"
  pub mailbox : (m : ℕ) → 1 ≤ m → m ≤ subscribers → mailbox_of s.bank m ≡ s.mailboxes m
  -- "a mailbox is emptied only after its client held the whole": "as it issued that receipt, its file was the
  -- mailbox's", a run of the mailbox's subscriber; and it is the mailbox's file still as the bank answers
  pub emptied : (e : Exchange) → In e s.exchanged →
      return_code (read_reply e.reply) ≡ code_field code.DownloadPostprocessDone →
      (form (read_request e.request) ≡ forms.Receipt)
      × ((x : Issue) × In x s.issued × (x.frame ≡ e.request)
      × ((s.runs x.run).subscriber ≡ subscriber (read_request e.request))
      × (x.file ≡ x.box) × (x.file ≡ e.box))
  -- no request of a download run is answered 061101
  pub no_point : (i : ℕ) (e : Exchange) → Received i e s → (s.runs i).direction ≡ Download →
      return_code (read_reply e.reply) ≡ code_field code.RecoverySync → ⊥

-- "an order in turn closes as lodged or fetched"
abbrev pub ClosesInTurn : List Call → Type 0
ClosesInTurn ks = (i : ℕ) → AllInTurn i ks start → Accepted i (after ks start) → Settled (after ks start) i →
    (((after ks start).runs i).stage ≡ stage.Ended Lodged) ⊎ (((after ks start).runs i).stage ≡ stage.Ended Fetched)

-- ---- THE CLAIM, over every list of calls and every continuation of it that keeps the premises

unfoldable pub Demand3 : Type 0
Demand3 = (ks ls : List Call) → AllAllowed (ks ++ ls) start → OneExchangeNumber (after (ks ++ ls) start) →
    Outcome (after ks start)
    × ClosesInTurn ks
    × ((i : ℕ) → ((after ks start).runs i).stage ≡ stage.Ended NotLodged → Booked (after (ks ++ ls) start) i → ⊥)
