-- What a session may hold: the bank and its stores, and the journal.
use Rattle.std.specs.Prelude.{ℕ, suc, ◌+◌, ◌-◌, ◌*◌, ◌^◌, ◌<◌, ◌≤◌, true, List, [], ◌∷◌, ◌≡◌, length, get_or}
use Rattle.octets.specs.Bytes.{Bytes}
use Rattle.frame_table.specs.declared.fields.Bits128.{Bits128}
use Rattle.frame_table.specs.Table.{last_time}
use Rattle.message.specs.Limits.{subscribers, ful}
use Rattle.signers.specs.Signers.{signer_count}
use Rattle.journal.specs.declared.event.Event.{Event}
use Rattle.journal.specs.Events.{record_count, no_event}
use Rattle.journal.specs.Places.{used_after}
use Rattle.journal.specs.Row.{Journal}
use Rattle.bank_state.specs.declared.state.Place.{Place}
use Rattle.bank_state.specs.Limits.{place_count, series_limit, window}
use Rattle.bank_state.specs.Rows.{count_of}
use Rattle.bank_state.specs.Search.{is_open}
use Rattle.bank_state.specs.State.{Bank, BankState, Nonce, no_nonce, place_at, download_at}
use Rattle.bank_events.specs.Entries.{is_event}
use Rattle.bank.specs.Call.{FrameInput}
use Rattle.bank_admitted.specs.State.{StateHolds, NoneIdle}

-- both halves are numbers of eight bytes
pub record Words (t : Bits128) : Type 0 where
  pub high : t.high < 2 ^ 64
  pub low : t.low < 2 ^ 64

-- a nonce in use: "clock - window to clock + window, at most the last time"
pub record NonceHolds (clock : ℕ) (e : Nonce) : Type 0 where
  pub words : Words e.value
  pub ahead : e.timestamp ≤ clock + window
  pub last : e.timestamp ≤ last_time

-- nonces: "any, all distinct"
pub record NoncesApart (clock : ℕ) (nonces : List Nonce) : Type 0 where
  pub each : (i : ℕ) → (get_or nonces i no_nonce).used ≡ true → NonceHolds clock (get_or nonces i no_nonce)
  pub apart : (i j : ℕ) → (get_or nonces i no_nonce).used ≡ true → (get_or nonces j no_nonce).used ≡ true →
      (get_or nonces i no_nonce).value ≡ (get_or nonces j no_nonce).value → i ≡ j

-- an event in use, at a clock, with the number of openings: type FUL, an order number of A000 to ZZZZ, the transaction ID
-- of an accepted opening
pub record EventHolds (clock openings : ℕ) (e : Event) : Type 0 where
  pub current : e.clock ≤ clock
  pub known : 1 ≤ e.subscriber
  pub most : e.subscriber ≤ subscribers
  pub typed : e.order_type ≡ ful
  pub ordered : e.order < series_limit
  pub lent : e.high < 2 ^ 64
  pub counted : e.low < openings
  pub happened : is_event e.kind ≡ true

abbrev pub record_at : Journal → ℕ → Event
record_at j i = get_or j.row i no_event

-- the journal: numbers "consecutive, the last one is 05", no clock below the one before, the other records are 0
pub record JournalHolds (clock openings : ℕ) (j : Journal) : Type 0 where
  pub long : length j.row ≡ record_count
  pub each : (i : ℕ) → i < used_after j.events → EventHolds clock openings (record_at j i)
  pub numbered : (i : ℕ) → i < used_after j.events →
      (record_at j i).number ≡ j.events - used_after j.events + 1 + i
  pub rising : (i : ℕ) → suc i < used_after j.events → (record_at j i).clock ≤ (record_at j (suc i)).clock
  pub unused : (i : ℕ) → used_after j.events ≤ i → record_at j i ≡ no_event

abbrev pub open_uploads : Bank → ℕ
open_uploads b = count_of (λ (p : Place). is_open p.used) b.places

-- "signers the bits set in the places' signers, all together"
unfoldable pub signers_given : List Place → ℕ
signers_given [] = 0
signers_given (p ∷ l) = signer_count p.signers + signers_given l

-- the session
pub record SessionHolds (w : BankState) (j : Journal) : Type 0 where
  pub state : StateHolds w
  pub idle : NoneIdle w
  pub clock : w.bank.clock ≤ last_time
  pub nonces : NoncesApart w.bank.clock w.bank.nonces
  pub places : (i : ℕ) → i < place_count → Words (place_at w.bank i).transaction
  pub downloads : (i : ℕ) → Words (download_at w.bank i).transaction
  pub journal : JournalHolds w.bank.clock w.bank.openings j
  -- "05 plus the number of open uploads is at most 2 × openings + *signers*"
  pub events : j.events + open_uploads w.bank ≤ 2 * w.bank.openings + signers_given w.bank.places

-- what a frame call brings is of the machine: bytes
pub record Brought (a : FrameInput) : Type 0 where
  pub ids : Bytes a.ids
  pub frame : Bytes a.frame
