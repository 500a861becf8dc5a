-- The signers of the orders in the book, over every list of calls to a fresh bank, by requests and replies alone.
-- Document 02, card 8: "Signers are a set over the 8 subscribers, and the number of signatures given is the count of
-- signers; two or more make the order released".
use Rattle.std.specs.Prelude.{ℕ, ◌≤◌, ◌<◌, ◌+◌, Bool, true, false, ◌&&◌, List, [], ◌∷◌, ◌⊎◌, ◌≡◌, set}
use Rattle.frame_table.specs.declared.fields.Bits128.{Bits128}
use Rattle.frame_table.specs.Forms as forms
use Rattle.frame_table.specs.Names.{subscriber, order_type, nonce, timestamp, segment, return_code, owner, form}
use Rattle.message.specs.declared.codes.ReturnCode.TheVariants as code
use Rattle.message.specs.Codes.{code_field}
use Rattle.message.specs.Limits.{ful, subscribers}
use Rattle.signers.specs.Signers.{is_signer, signer_count, is_released}
use Rattle.bank_state.specs.Clock.{advanced}
use Rattle.bank_state.specs.Limits.{place_count, nonce_count, window}
use Rattle.bank_state.specs.Rows.{count_of}
use Rattle.bank_state.specs.Search.{is_booked, free_nonce}
use Rattle.bank_state.specs.State.{BankState, place_at}
use Rattle.journal.specs.declared.event.Kind.{Kind}
use Rattle.journal.specs.declared.event.Kind.TheVariants as kind
use Rattle.journal.specs.declared.event.Event.{Event}
use Rattle.journal.specs.declared.event.OrderName.{OrderName}
use Rattle.journal.specs.Records.{name_of}
use Rattle.bank_signing.specs.Signings.{signed_place}
use Rattle.bank_history.specs.History.{Exchange, Stands, BankCall, Frame, past_of, nonce_of}
use Rattle.bank_history.specs.Signatures.{signed_name, same_name, signature_count}
use Rattle.bank_history.specs.Invariant.{place_name}
use Rattle.bank_history.specs.FalseEconomies.{Next, WellMade, WellMadeOpening, Opens, Takes, RefusedWith}
use Rattle.bank_history.specs.ByReplies.{segment_count_of}
use Rattle.bank_history.specs.Timely.{is_kept, Timely}
use Rattle.bank_history.specs.Journal.{events_in}
use Rattle.bank_history.specs.JournalOrders.{OpensOrder}

-- ---- signings

-- a signing that no line above 091103 refuses
pub record WellMadeSigning (e : Exchange) : Type 0 where
  pub made : WellMade e
  pub asked : form e.request ≡ forms.Signing
  pub known : 1 ≤ owner e.request
  pub most : owner e.request ≤ subscribers
  pub typed : order_type e.request ≡ ful

-- a signing answered 000000
pub record Signs (e : Exchange) : Type 0 where
  pub asked : form e.request ≡ forms.Signing
  pub coded : return_code e.reply ≡ code_field code.Ok

-- the subscriber s has signed the order o: to a signing of s that names its owner, type and number 000000 was answered
pub record Signature (o : OrderName) (s : ℕ) (h : List Exchange) : Type 0 where
  pub exchange : Exchange
  pub before : List Exchange
  pub stands : Stands exchange before h
  pub signs : Signs exchange
  pub by : subscriber exchange.request ≡ s
  pub named : signed_name exchange ≡ o

-- ---- orders

-- the order o was booked: segment N of the upload opened under this name got 000000
pub record BooksOrder (o : OrderName) (h : List Exchange) : Type 0 where
  pub id : Bits128
  pub opened : OpensOrder o id h
  pub exchange : Exchange
  pub before : List Exchange
  pub stands : Stands exchange before h
  pub taken : Takes id exchange
  pub last : segment exchange.request ≡ segment_count_of id before

-- the order o is in the bank's book, in place i
pub record InBook (w : BankState) (o : OrderName) (i : ℕ) : Type 0 where
  pub inside : i < place_count
  pub booked : is_booked (place_at w.bank i).used ≡ true
  pub named : place_name (place_at w.bank i) ≡ o

-- the signers in place i
abbrev pub signers_at : BankState → ℕ → ℕ
signers_at w i = (place_at w.bank i).signers

-- the bank with its stores, and the answered frames, after a list of calls
abbrev pub bank_after : List BankCall → BankState
bank_after calls = (past_of calls).bank_state

abbrev pub history_after : List BankCall → List Exchange
history_after calls = (past_of calls).history

-- ---- what a signing leaves

-- "It opens no transaction and takes no running number; its nonce is remembered": from the bank w, clock and drops done,
-- to w' the accepted signing e added its nonce and, to one booked order, a signer; no place, series, download, mailbox or
-- byte of an order else is another
pub record SignsOnly (e : Exchange) (w w' : BankState) : Type 0 where
  pub clock : w'.bank.clock ≡ w.bank.clock
  pub openings : w'.bank.openings ≡ w.bank.openings
  pub series : w'.bank.series ≡ w.bank.series
  pub downloads : w'.bank.downloads ≡ w.bank.downloads
  pub files : w'.bank.files ≡ w.bank.files
  pub orders : w'.orders ≡ w.orders
  pub mailboxes : w'.mailboxes ≡ w.mailboxes
  -- the nonce goes after those remembered
  pub nonces : w'.bank.nonces ≡ set w.bank.nonces (free_nonce w.bank) (nonce_of e)
  -- the order named is in the book; its place has the signer, and is otherwise as it was
  pub place : ℕ
  pub order : InBook w (signed_name e) place
  pub signed : place_at w'.bank place ≡ signed_place (subscriber e.request) (place_at w.bank place)
  -- every other one is
  pub others : (i : ℕ) → (i ≡ place → ⊥) → place_at w'.bank i ≡ place_at w.bank i

-- ---- what the journal says

abbrev pub is_signed_kind : Kind → Bool
is_signed_kind kind.Unused = false
is_signed_kind kind.Opened = false
is_signed_kind kind.Booked = false
is_signed_kind kind.Cancelled = false
is_signed_kind kind.Dropped = false
is_signed_kind kind.Signed = true

-- an event signed of the order o
abbrev pub is_signed_of : OrderName → Event → Bool
is_signed_of o v = is_signed_kind v.kind && same_name (name_of v) o

-- ---- the statements

pub record SignersTold : Type 0 where
  -- the orders in the book are exactly those whose segment N got 000000, each in one place
  pub books : (calls : List BankCall) {o : OrderName} {i : ℕ} → InBook (bank_after calls) o i →
      BooksOrder o (history_after calls)
  pub in_book : (calls : List BankCall) {o : OrderName} → BooksOrder o (history_after calls) →
      (i : ℕ) × InBook (bank_after calls) o i
  pub one : (calls : List BankCall) {o : OrderName} {i j : ℕ} → InBook (bank_after calls) o i →
      InBook (bank_after calls) o j → i ≡ j
  -- "the subscriber becomes a signer of that booked order": the signers of an order in the book are exactly the
  -- subscribers to whom a signing naming its owner, type and number was answered 000000
  pub signers : (calls : List BankCall) {o : OrderName} {i : ℕ} → InBook (bank_after calls) o i → (s : ℕ) →
      is_signer s (signers_at (bank_after calls) i) ≡ true → Signature o s (history_after calls)
  pub signed : (calls : List BankCall) {o : OrderName} {i : ℕ} → InBook (bank_after calls) o i → (s : ℕ) →
      Signature o s (history_after calls) → is_signer s (signers_at (bank_after calls) i) ≡ true
  -- each after the order's booking, and the order is in the book still
  pub booked : (calls : List BankCall) {o : OrderName} {s : ℕ} (x : Signature o s (history_after calls)) →
      BooksOrder o x.before
  pub stays : (calls : List BankCall) {o : OrderName} {s : ℕ} → Signature o s (history_after calls) →
      (i : ℕ) × InBook (bank_after calls) o i
  -- "booking makes nobody a signer"; an open upload and a free place have none
  pub unsigned : (calls : List BankCall) (i : ℕ) → is_booked (place_at (bank_after calls).bank i).used ≡ false →
      signers_at (bank_after calls) i ≡ 0
  -- "the number of signatures given is the count of signers": what is printed is the number of these subscribers
  pub count : (calls : List BankCall) {o : OrderName} {i : ℕ} → InBook (bank_after calls) o i →
      signer_count (signers_at (bank_after calls) i) ≡ signature_count o (history_after calls)
  -- "two or more make the order released": from two on, and at none or one not
  pub released : (calls : List BankCall) {o : OrderName} {i : ℕ} → InBook (bank_after calls) o i →
      is_released (signers_at (bank_after calls) i) ≡ true → 2 ≤ signature_count o (history_after calls)
  pub unreleased : (calls : List BankCall) {o : OrderName} {i : ℕ} → InBook (bank_after calls) o i →
      is_released (signers_at (bank_after calls) i) ≡ false → signature_count o (history_after calls) ≤ 1
  -- "Signing again answers 000000": a signing of a booked order that no line above 091114 refuses gets 000000, whoever has
  -- signed before, while not 64 nonces are remembered, and then 061099
  pub answered : {calls : List BankCall} {e : Exchange} → Next calls e → WellMadeSigning e → Timely e (history_after calls) →
      BooksOrder (signed_name e) (history_after calls) → count_of (is_kept e.clock) (history_after calls) < nonce_count →
      Signs e
  pub full : {calls : List BankCall} {e : Exchange} → Next calls e → WellMadeSigning e → Timely e (history_after calls) →
      BooksOrder (signed_name e) (history_after calls) → nonce_count ≤ count_of (is_kept e.clock) (history_after calls) →
      RefusedWith code.InternalError e
  -- "It refuses an order not in the book with 091114, directly after 091103": "open ones do not count"
  pub unknown : {calls : List BankCall} {e : Exchange} → Next calls e → WellMadeSigning e → Timely e (history_after calls) →
      (BooksOrder (signed_name e) (history_after calls) → ⊥) → RefusedWith code.OrderIdUnknown e
  -- "the reply is 01 03 0D"
  pub reply : {calls : List BankCall} {e : Exchange} → Next calls e → Signs e →
      (form e.reply ≡ forms.Refusal) × (e.reply_data ≡ [])
  -- an accepted signing changes nothing but clock, drops, nonces, that order's signers and the journal
  pub only : {calls : List BankCall} {e : Exchange} (n : Next calls e) → Signs e →
      SignsOnly e (advanced n.input.time (bank_after calls))
      (bank_after (Frame n.input ∷ calls))
  -- "Refused signings are not remembered": one changes nothing but clock and drops
  pub refused : {calls : List BankCall} {e : Exchange} (n : Next calls e) → form e.request ≡ forms.Signing →
      (return_code e.reply ≡ code_field code.Ok → ⊥) →
      bank_after (Frame n.input ∷ calls) ≡ advanced n.input.time (bank_after calls)
  -- "its nonce is remembered": a signing with the nonce of an accepted opening or signing gets 091103, and so does an
  -- opening with a signing's
  pub replay : {calls : List BankCall} {e f : Exchange} {g : List Exchange} {t : Bits128} → Next calls e →
      Stands f g (history_after calls) →
      (WellMadeSigning e × (Signs f ⊎ Opens t f)) ⊎ (WellMadeOpening e × Signs f) →
      nonce e.request ≡ nonce f.request → e.clock ≤ timestamp f.request + window →
      RefusedWith code.MessageReplay e
  -- "timestamp not in time" gets it too
  pub untimely : {calls : List BankCall} {e : Exchange} → Next calls e → WellMadeSigning e →
      (e.clock + window < timestamp e.request) ⊎ (timestamp e.request + window < e.clock) →
      RefusedWith code.MessageReplay e
  -- "kind signed, once a signer, under the owner": so many events signed of an order as it has signers
  pub events : (calls : List BankCall) (o : OrderName) →
      count_of (is_signed_of o) (events_in (history_after calls)) ≡ signature_count o (history_after calls)
