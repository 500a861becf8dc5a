-- The bank's invariant: what holds of the state and the stores after every list of calls, and what the history tells
-- of them.
use Rattle.std.specs.Prelude.{ℕ, ◌-◌, ◌*◌, ◌<◌, ◌≤◌, Bool, true, false, List, ◌++◌, ◌≡◌, length, replicate}
use Rattle.frame_table.specs.declared.fields.Bits128.{Bits128}
use Rattle.message.specs.Limits.{ful, subscribers, segment_bytes, max_segments, file_bytes}
use Rattle.message.specs.OrderNumbers.{order_number_of}
use Rattle.journal.specs.declared.event.OrderName.{OrderName}
use Rattle.bank_state.specs.declared.state.Download.{Download}
use Rattle.bank_state.specs.State.{Nonce}
use Rattle.bank_state.specs.declared.state.Place.{Place}
use Rattle.bank_state.specs.declared.state.Use.{Use}
use Rattle.bank_state.specs.declared.state.Use.TheVariants.{Free, Open, Booked}
use Rattle.bank_state.specs.Limits.{place_count, nonce_count}
use Rattle.bank_state.specs.State.{Bank, BankState, no_nonce, place_at, download_at, series_of}
use Rattle.bank_state.specs.Store.{part_at}
use Rattle.bank_verdicts.specs.Refusals.{find_order}
use Rattle.bank_admitted.specs.State.{mailbox_file}
use Rattle.bank_history.specs.History.{Exchange, Past, is_upload_opening, is_download_opening, is_booking, is_taking, is_delivery, is_ending, is_action, ever, times, received, accepted, own_numbering, opened_by, number_at, segments_at, file_at_opening, remembered}
use Rattle.bank_admitted.specs.State.{StateHolds, NoneIdle}
use Rattle.bank_history.specs.Signatures.{signers_in}
use Rattle.bank_history.specs.Sound.{AllSound}

-- ---- what the history tells of the state

-- of a place in use, by the columns that a booked order keeps
pub record UsedTold (h : List Exchange) (t : Bits128) (subscriber number size : ℕ) (bytes : List ℕ) : Type 0 where
  -- its transaction was opened by an accepted opening of this subscriber with this order number
  pub opened : ever is_upload_opening t h ≡ true
  pub owner : opened_by t h ≡ subscriber
  pub order : number_at t h ≡ number
  -- nothing has cancelled it
  pub going : ever is_ending t h ≡ false
  -- the place holds exactly the data of the segments taken, zeros behind
  pub long : length (received t h) ≡ size
  pub held : bytes ≡ received t h ++ replicate (file_bytes - size) 0

abbrev pub ToldAs : List Exchange → Place → List ℕ → Type 0
ToldAs h p bytes = UsedTold h p.transaction p.subscriber p.number p.length bytes

-- of an open upload: N is that of its opening, k segments were taken, and the last one not
pub record UploadTold (h : List Exchange) (p : Place) (bytes : List ℕ) : Type 0 where
  pub place : ToldAs h p bytes
  pub size : segments_at p.transaction h ≡ p.segments
  pub takings : times is_taking p.transaction h ≡ p.taken
  pub unbooked : ever is_booking p.transaction h ≡ false

-- of a booked order: its segments 1 to N were taken, each of 1 to 256 bytes
pub record OrderTold (h : List Exchange) (p : Place) (bytes : List ℕ) : Type 0 where
  pub place : ToldAs h p bytes
  pub some : 1 ≤ segments_at p.transaction h
  pub few : segments_at p.transaction h ≤ max_segments
  pub whole : times is_taking p.transaction h ≡ segments_at p.transaction h
  pub least : segments_at p.transaction h ≤ p.length
  pub largest : p.length ≤ segments_at p.transaction h * segment_bytes
  pub booked : ever is_booking p.transaction h ≡ true

-- of a place by its use
abbrev pub PlaceTold : Use → List Exchange → Place → List ℕ → Type 0
PlaceTold Free h p bytes = Unit
PlaceTold Open h p bytes = UploadTold h p bytes
PlaceTold Booked h p bytes = OrderTold h p bytes

-- of an open download, with the file now in its mailbox
pub record OpenTold (h : List Exchange) (file : List ℕ) (e : Download) : Type 0 where
  -- its transaction was opened by an accepted opening of this subscriber; d segments were delivered; nothing has ended
  -- it
  pub opened : ever is_download_opening e.transaction h ≡ true
  pub owner : opened_by e.transaction h ≡ e.subscriber
  pub deliveries : times is_delivery e.transaction h ≡ e.delivered
  pub going : ever is_ending e.transaction h ≡ false
  pub unbooked : ever is_booking e.transaction h ≡ false
  -- the mailbox holds exactly the file of its opening
  pub unchanged : file_at_opening e.transaction h ≡ file

-- of a record of downloads by its use
abbrev pub DownloadTold : Bool → List Exchange → List ℕ → Download → Type 0
DownloadTold true h file e = OpenTold h file e
DownloadTold false h file e = Unit

-- the nonces are exactly those remembered at the clock, in the order of their openings
pub record Memory (clock : ℕ) (nonces : List Nonce) (h : List Exchange) : Type 0 where
  pub held : nonces ≡ remembered clock h ++ replicate (nonce_count - length (remembered clock h)) no_nonce

-- the name of the order in a place: "subscriber, type and number together"; FUL is the only upload type
abbrev pub place_name : Place → OrderName
place_name p = record { subscriber = p.subscriber; order_type = ful; number = order_number_of p.number }

-- the signers that the bank holds for the booked order of this owner with this number; none where it is not booked
abbrev pub signers_held : ℕ → ℕ → Bank → ℕ
signers_held owner order b = (place_at b (find_order owner order b)).signers

-- the order of transaction t is booked in some place
pub record BookedIn (w : BankState) (t : Bits128) : Type 0 where
  pub place : ℕ
  pub inside : place < place_count
  pub used : (place_at w.bank place).used ≡ Booked
  pub same : (place_at w.bank place).transaction ≡ t

-- The state, and what ties it to the history
pub record Invariant (w : BankState) (h : List Exchange) : Type 0 where
  pub state : StateHolds w
  -- the openings are counted
  pub counted : w.bank.openings ≡ accepted h
  -- each subscriber's counter is one past the number that the bank's own numbering gave last
  pub series : (s : ℕ) → 1 ≤ s → s ≤ subscribers → series_of s w.bank.series ≡ own_numbering s h
  -- each place in use holds exactly what was taken for it
  pub places : (i : ℕ) → i < place_count →
      PlaceTold (place_at w.bank i).used h (place_at w.bank i) (part_at w.orders i)
  -- each open download is one of the file at its opening
  pub downloads : (j : ℕ) →
      DownloadTold (download_at w.bank j).used h (mailbox_file w (download_at w.bank j).subscriber)
      (download_at w.bank j)
  pub memory : Memory w.bank.clock w.bank.nonces h
  -- every transaction of the history has a number below that of the next opening
  pub known : (t : Bits128) → ever is_action t h ≡ true → t.low < w.bank.openings
  -- a transaction whose segment N was taken is booked
  pub booked : (t : Bits128) → ever is_booking t h ≡ true → BookedIn w t
  -- the signers of each order are those of the history; an order that is not in the book has none
  pub signers : (owner order : ℕ) →
      signers_held owner order w.bank
      ≡ signers_in (record { subscriber = owner; order_type = ful; number = order }) h
  -- every exchange of the history is sound
  pub sound : AllSound h

-- what holds after every list of calls
pub record Holds (p : Past) : Type 0 where
  pub invariant : Invariant p.bank_state p.history
  pub current : NoneIdle p.bank_state
