-- What the journal's events say of orders, over every list of calls to a fresh bank: for demand 3.
use Rattle.std.specs.Prelude.{◌+◌, ◌*◌, ◌≤◌, Bool, true, false, ◌&&◌, ◌⊎◌, ◌≡◌}
use mathlib.Core.List.{List, ◌++◌, Memᴰ as In}
use Rattle.frame_table.specs.declared.fields.Bits128.{Bits128}
use Rattle.frame_table.specs.Names.{subscriber, order_type, transaction}
use Rattle.message.specs.Editions.{order_opened}
use Rattle.message.specs.Limits.{ful, subscribers}
use Rattle.bank_state.specs.Limits.{place_count, max_openings}
use Rattle.bank_state.specs.Rows.{count_of}
use Rattle.journal.specs.declared.event.Kind.{Kind}
use Rattle.journal.specs.declared.event.Kind.TheVariants as kind
use Rattle.journal.specs.declared.event.Event.{Event}
use Rattle.journal.specs.declared.event.OrderName.{OrderName}
use Rattle.journal.specs.Records.{name_of, Recorded}
use Rattle.journal.specs.Row.{transaction_of, is_of}
use Rattle.bank_history.specs.History.{Exchange, Stands, BankCall, is_booking, ever, past_of}
use Rattle.bank_history.specs.Opened.{is_upload_opened}
use Rattle.bank_history.specs.Status.{OpenIn}
use Rattle.bank_history.specs.Journal.{journal_of, events_in}

-- what names the order of an accepted upload: "subscriber, type and number together"
abbrev pub name_in : Exchange → OrderName
name_in e = record {
  subscriber = subscriber e.request;
  order_type = order_type e.request;
  number = order_opened e.request e.reply;
}

-- the exchange e, with g before it, opened the upload t under this name
pub record OpensOrder (o : OrderName) (t : Bits128) (h : List Exchange) : Type 0 where
  pub exchange : Exchange
  pub before : List Exchange
  pub stands : Stands exchange before h
  pub opened : is_upload_opened exchange ≡ true
  pub id : transaction exchange.reply ≡ t
  pub named : name_in exchange ≡ o

-- an event that ends an upload
abbrev pub is_end : Kind → Bool
is_end kind.Unused = false
is_end kind.Opened = false
is_end kind.Booked = true
is_end kind.Cancelled = true
is_end kind.Dropped = true
is_end kind.Signed = false

-- the upload t is not open, and is never booked, whatever calls come after
pub record NeverBooked (calls : List BankCall) (t : Bits128) : Type 0 where
  pub closed : (more : List BankCall) → OpenIn (past_of (more ++ calls)).bank_state t → ⊥
  pub unbooked : (more : List BankCall) → ever is_booking t (past_of (more ++ calls)).history ≡ false

-- ---- the statements

pub record JournalOrders : Type 0 where
  -- a record in use is one of the events
  pub in_row : (calls : List BankCall) (v : Event) → In v (journal_of calls).row → (v.kind ≡ kind.Unused → ⊥) →
      In v (events_in (past_of calls).history)
  pub recorded : (calls : List BankCall) {k : Kind} {t : Bits128} → Recorded k t (journal_of calls).row →
      (k ≡ kind.Unused → ⊥) →
      (v : Event) × In v (events_in (past_of calls).history) × (transaction_of v ≡ t) × (v.kind ≡ k)
  -- "the journal gains the type"
  pub typed : (calls : List BankCall) (v : Event) → In v (events_in (past_of calls).history) → v.order_type ≡ ful
  -- an event has the ID of one upload, "signed ones too", and the name that it was opened under
  pub opened : (calls : List BankCall) (v : Event) → In v (events_in (past_of calls).history) →
      OpensOrder (name_of v) (transaction_of v) (past_of calls).history
  -- "a booking": segment N was taken
  pub booked : (calls : List BankCall) (v : Event) → In v (events_in (past_of calls).history) →
      v.kind ≡ kind.Booked → ever is_booking (transaction_of v) (past_of calls).history ≡ true
  -- "a cancellation or drop"
  pub ended : (calls : List BankCall) (v : Event) → In v (events_in (past_of calls).history) →
      (v.kind ≡ kind.Cancelled) ⊎ (v.kind ≡ kind.Dropped) → NeverBooked calls (transaction_of v)
  -- a signing is of a booked order
  pub signed : (calls : List BankCall) (v : Event) → In v (events_in (past_of calls).history) →
      v.kind ≡ kind.Signed → ever is_booking (transaction_of v) (past_of calls).history ≡ true
  -- an upload has at most one event that ends it
  pub once : (calls : List BankCall) (t : Bits128) →
      count_of (λ (v : Event). is_end v.kind && is_of t v) (events_in (past_of calls).history) ≤ 1
  -- and at most two events but those of signers: 4,294,967,296 openings accepted, 8 orders in the book, each signed by
  -- "a set over the 8 subscribers"
  pub bounded : (calls : List BankCall) → (journal_of calls).events ≤ 2 * max_openings + place_count * subscribers
