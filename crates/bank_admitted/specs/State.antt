-- What a bank and its stores may hold, without their history: "bounded by document 01's limits".
use Rattle.std.specs.Prelude.{ℕ, suc, ◌-◌, ◌*◌, ◌+◌, ◌<◌, ◌≤◌, Bool, true, false, not, ◌&&◌, List, [], ◌∷◌, ◌++◌, ◌⊎◌, ◌≡◌, leb, length, get_or, take, replicate}
use Rattle.frame_table.specs.declared.fields.Bits128.{Bits128}
use Rattle.message.specs.Limits.{subscribers, segment_bytes, max_segments, file_bytes, max_attempts}
use Rattle.message.specs.Segments.{segments_of}
use Rattle.bank_state.specs.declared.state.Download.{Download}
use Rattle.bank_state.specs.State.{Nonce}
use Rattle.bank_state.specs.declared.state.Place.{Place}
use Rattle.bank_state.specs.declared.state.Use.{Use}
use Rattle.bank_state.specs.declared.state.Use.TheVariants.{Free, Open, Booked}
use Rattle.bank_state.specs.Limits.{
  place_count,
  store_bytes,
  nonce_count,
  idle_limit,
  max_open,
  max_open_per_subscriber,
  max_openings,
  series_limit,
  window,
  all_signers,
}
use Rattle.bank_state.specs.Rows.{count_of}
use Rattle.bank_state.specs.Search.{is_free, is_open, open_count, open_count_of}
use Rattle.bank_state.specs.State.{BankState, no_place, no_download, no_nonce, place_at, download_at, series_of}
use Rattle.bank_state.specs.Store.{part_at}
unfoldable pub use Rattle.bank_state.specs.Store.{mailbox_file}
use Rattle.bank_admitted.specs.Packed.{Packed}

-- rows and stores have their lengths
pub record Sizes (w : BankState) : Type 0 where
  pub places : length w.bank.places ≡ place_count
  pub downloads : length w.bank.downloads ≡ place_count
  pub nonces : length w.bank.nonces ≡ nonce_count
  pub files : length w.bank.files ≡ place_count
  pub series : length w.bank.series ≡ place_count
  pub orders : length w.orders ≡ store_bytes
  pub mailboxes : length w.mailboxes ≡ store_bytes

-- a place not in use: "Unused bytes of places and mailboxes are 0"
pub record FreePlace (p : Place) (bytes : List ℕ) : Type 0 where
  pub empty : p ≡ no_place
  pub zeros : bytes ≡ replicate file_bytes 0

-- the columns that count the steps of an open upload are 0
pub record NoSteps (p : Place) : Type 0 where
  pub segments : p.segments ≡ 0
  pub taken : p.taken ≡ 0
  pub attempts : p.attempts ≡ 0
  pub last : p.last ≡ 0

-- a place in use, with the number of openings and the place's bytes: the columns that a booked order keeps, transaction
-- ID, subscriber and length
pub record UsedPlace (openings : ℕ) (t : Bits128) (subscriber size : ℕ) (bytes : List ℕ) : Type 0 where
  -- "The transaction ID is the 8 lent bytes, then the number", that of an accepted opening
  pub counted : t.low < openings
  -- "Subscribers are 1 to 8"
  pub known : 1 ≤ subscriber
  pub most : subscriber ≤ subscribers
  pub zeros : bytes ≡ take size bytes ++ replicate (file_bytes - size) 0

abbrev pub UsedAs : ℕ → Place → List ℕ → Type 0
UsedAs openings p bytes = UsedPlace openings p.transaction p.subscriber p.length bytes

-- the place of an open upload: N is 1 to the most segments, k < N, at most five attempts, each of the k segments has 1
-- to 256 bytes; nobody has signed it
pub record OpenPlace (clock openings : ℕ) (p : Place) (bytes : List ℕ) : Type 0 where
  pub place : UsedAs openings p bytes
  pub some : 1 ≤ p.segments
  pub few : p.segments ≤ max_segments
  pub below : p.taken < p.segments
  pub tries : p.attempts ≤ max_attempts
  pub current : p.last ≤ clock
  pub least : p.taken ≤ p.length
  pub largest : p.length ≤ p.taken * segment_bytes
  pub unsigned : p.signers ≡ 0

-- the place of a booked order: what counted its steps is 0, and "Signers are a set over the 8 subscribers"
pub record BookedPlace (openings : ℕ) (p : Place) (bytes : List ℕ) : Type 0 where
  pub place : UsedAs openings p bytes
  pub over : NoSteps p
  pub some : 1 ≤ p.length
  pub room : p.length ≤ file_bytes
  pub signed : p.signers ≤ all_signers

-- a place by its use
abbrev pub PlaceHolds : Use → ℕ → ℕ → Place → List ℕ → Type 0
PlaceHolds Free clock openings p bytes = FreePlace p bytes
PlaceHolds Open clock openings p bytes = OpenPlace clock openings p bytes
PlaceHolds Booked clock openings p bytes = BookedPlace openings p bytes

-- the record of an open download, with the clock, the number of openings and the file now in its mailbox
pub record OpenRecord (clock openings : ℕ) (file : List ℕ) (e : Download) : Type 0 where
  pub counted : e.transaction.low < openings
  pub known : 1 ≤ e.subscriber
  pub most : e.subscriber ≤ subscribers
  pub tries : e.attempts ≤ max_attempts
  -- d is 1 to N of a file that is not empty
  pub some : 1 ≤ e.delivered
  pub within : e.delivered ≤ segments_of (length file)
  pub full : 1 ≤ length file
  pub current : e.last ≤ clock

-- a record of downloads by its use
abbrev pub DownloadHolds : Bool → ℕ → ℕ → List ℕ → Download → Type 0
DownloadHolds true clock openings file e = OpenRecord clock openings file e
DownloadHolds false clock openings file e = e ≡ no_download

-- a mailbox with a file of n bytes: zeros behind it
pub record MailboxHolds (n : ℕ) (bytes : List ℕ) : Type 0 where
  pub room : n ≤ file_bytes
  pub zeros : bytes ≡ take n bytes ++ replicate (file_bytes - n) 0

-- each nonce of a list is used, "while its timestamp is at most" the window "behind the clock"
pub data AllRemembered (clock : ℕ) : List Nonce → Type 0 where
  end : AllRemembered clock []
  next : {e : Nonce} {l : List Nonce} → e.used ≡ true → leb clock (e.timestamp + window) ≡ true →
      AllRemembered clock l →
      AllRemembered clock (e ∷ l)

-- the nonces remembered at a clock stand first, and the others are free
pub record NoncesHold (clock : ℕ) (nonces : List Nonce) : Type 0 where
  pub first : List Nonce
  pub used : AllRemembered clock first
  pub rows : nonces ≡ first ++ replicate (nonce_count - length first) no_nonce

-- the numbers of a list, all together
unfoldable pub total : List ℕ → ℕ
total [] = 0
total (n ∷ l) = n + total l

-- a place is in use with an order number that its subscriber's counter has not reached
unfoldable pub is_ahead : List ℕ → Place → Bool
is_ahead series p = not (is_free p.used) && leb (series_of p.subscriber series) p.number

-- "chosen ahead": how many places are so
unfoldable pub chosen_ahead : List ℕ → List Place → ℕ
chosen_ahead series places = count_of (is_ahead series) places

-- how far the bank's own numbering of each subscriber's uploads has come, after so many openings, with these places
pub record SeriesHold (openings : ℕ) (series : List ℕ) (places : List Place) : Type 0 where
  -- "The limit of 1,213,056 ... holds per series"
  pub limited : (i : ℕ) → i < place_count → get_or series i 0 ≤ series_limit
  -- "the counts and chosen ahead together" are at most the openings
  pub counted : total series + chosen_ahead series places ≤ openings

-- two places have one running number in their transaction IDs, or one subscriber and one order number
abbrev pub Alike : Place → Place → Type 0
Alike p r =
    (p.transaction.low ≡ r.transaction.low) ⊎ ((p.subscriber ≡ r.subscriber) × (p.number ≡ r.number))

-- What an image may hold: the state and the stores alone, without the history
pub record StateHolds (w : BankState) : Type 0 where
  -- rows and stores have their lengths
  pub sizes : Sizes w
  -- at most 4,294,967,296 openings
  pub numbers : w.bank.openings ≤ max_openings
  pub series : SeriesHold w.bank.openings w.bank.series w.bank.places
  -- each place is free and zero, or in use with its columns in their ranges and zeros behind its bytes
  pub places : (i : ℕ) → i < place_count →
      PlaceHolds (place_at w.bank i).used w.bank.clock w.bank.openings (place_at w.bank i)
      (part_at w.orders i)
  -- an order's number is any of A000 to ZZZZ, the bank's own or its client's
  pub orders : (i : ℕ) → i < place_count → is_free (place_at w.bank i).used ≡ false →
      (place_at w.bank i).number < series_limit
  -- each record of downloads is zero, or an open download with its columns in their ranges
  pub downloads : (j : ℕ) →
      DownloadHolds (download_at w.bank j).used w.bank.clock w.bank.openings
      (mailbox_file w (download_at w.bank j).subscriber) (download_at w.bank j)
  -- each mailbox holds at most a file's bytes, zeros behind
  pub mailboxes_hold : (i : ℕ) → i < place_count → MailboxHolds (get_or w.bank.files i 0) (part_at w.mailboxes i)
  -- no two places in use have one running number, or one order number of one subscriber, and no place has the running
  -- number of an open download
  pub places_apart : (i j : ℕ) → i < place_count → j < place_count → is_free (place_at w.bank i).used ≡ false →
      is_free (place_at w.bank j).used ≡ false → Alike (place_at w.bank i) (place_at w.bank j) → i ≡ j
  pub apart : (i j : ℕ) → i < place_count → is_free (place_at w.bank i).used ≡ false →
      (download_at w.bank j).used ≡ true →
      (place_at w.bank i).transaction.low ≡ (download_at w.bank j).transaction.low → ⊥
  -- open downloads stand first, in the order of their openings
  pub in_order : Packed (λ (e : Download). e.used) no_download (λ (e : Download). e.transaction.low)
      (λ (e : Download). suc e.transaction.low) 0 w.bank.downloads
  -- the nonces in use stand first, and each is still to be remembered
  pub nonces : NoncesHold w.bank.clock w.bank.nonces
  -- at most 8 transactions are open, at most 4 of one subscriber
  pub open_all : open_count w.bank ≤ max_open
  pub open_of : (s : ℕ) → open_count_of s w.bank ≤ max_open_per_subscriber

-- no open transaction is idle: open at the idle limit, gone after it
pub record NoneIdle (w : BankState) : Type 0 where
  pub places : (i : ℕ) → i < place_count → is_open (place_at w.bank i).used ≡ true →
      w.bank.clock ≤ (place_at w.bank i).last + idle_limit
  pub downloads : (j : ℕ) → (download_at w.bank j).used ≡ true →
      w.bank.clock ≤ (download_at w.bank j).last + idle_limit
