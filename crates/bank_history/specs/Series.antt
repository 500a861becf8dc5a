-- Order numbers, over every list of calls to a fresh bank, told by requests and replies alone: which number an accepted
-- upload has, that no two uploads hold one number at one time, and when a number that a client chose is refused.
-- Document 02, cards 5 and 11.
use Rattle.std.specs.Prelude.{ℕ, suc, ◌≤◌, ◌<◌, Bool, true, false, List, ◌∷◌, ◌≡◌}
use Rattle.frame_table.specs.declared.fields.Bits128.{Bits128}
use Rattle.frame_table.specs.Forms as forms
use Rattle.frame_table.specs.Names.{subscriber, order_type, order_number, form}
use Rattle.message.specs.declared.codes.ReturnCode.TheVariants as code
use Rattle.message.specs.Editions.{order_opened}
use Rattle.message.specs.Limits.{ful, subscribers}
use Rattle.message.specs.OrderNumbers.{order_number_of, order_in}
use Rattle.bank_state.specs.Limits.{series_limit}
use Rattle.bank_state.specs.State.{series_of}
use Rattle.message.specs.declared.directions.Direction.{Direction}
use Rattle.message.specs.declared.directions.Direction.TheVariants as direction
use Rattle.bank_history.specs.History.{Exchange, Stands, BankCall, past_of}
use Rattle.bank_history.specs.Opened.{is_upload_opened, is_own_opened}
use Rattle.bank_history.specs.FalseEconomies.{Next, WellMadeOpening, RefusedWith}
use Rattle.bank_history.specs.Status.{
  Status,
  NotOpened,
  Open,
  Booked,
  Fetched,
  Skipped,
  EndedByReceipt,
  Cancelled,
  Dropped,
  drop_idle,
}
use Rattle.bank_history.specs.ByReplies.{own_given, number_given, owner_of, order_of, standing}
use Rattle.bank_history.specs.Timely.{Timely}

-- ---- accepted uploads

-- e, with g before it in the history h, is an accepted upload of the subscriber s
pub record InSeries (s : ℕ) (e : Exchange) (g h : List Exchange) : Type 0 where
  pub stands : Stands e g h
  pub opened : is_upload_opened e ≡ true
  pub owner : subscriber e.request ≡ s

-- and the bank's own numbering gave its number
pub record OwnInSeries (s : ℕ) (e : Exchange) (g h : List Exchange) : Type 0 where
  pub stands : Stands e g h
  pub opened : is_own_opened e ≡ true
  pub owner : subscriber e.request ≡ s

-- the call c enters one of these of the subscriber s
pub record EntersOwn (s : ℕ) (c : BankCall) (calls : List BankCall) : Type 0 where
  pub exchange : Exchange
  pub entered : (past_of (c ∷ calls)).history ≡ exchange ∷ (past_of calls).history
  pub opened : is_own_opened exchange ≡ true
  pub owner : subscriber exchange.request ≡ s

-- the bank's counter of the subscriber s
abbrev pub counter_of : ℕ → List BankCall → ℕ
counter_of s calls = series_of s (past_of calls).bank_state.bank.series

-- ---- a number held: "by an open or booked upload of that subscriber and type"; FUL is the only upload type

abbrev pub is_uploads : Direction → Bool
is_uploads direction.Upload = true
is_uploads direction.Download = false

abbrev pub is_holding : Status → Bool
is_holding NotOpened = false
is_holding (Open d s last) = is_uploads d
is_holding Booked = true
is_holding Fetched = false
is_holding Skipped = false
is_holding EndedByReceipt = false
is_holding Cancelled = false
is_holding Dropped = false

-- the upload t of the subscriber s holds the number n, as a call finds it that sets this clock
pub record HeldBy (t : Bits128) (s n clock : ℕ) (h : List Exchange) : Type 0 where
  pub owner : owner_of t h ≡ s
  pub order : order_of t h ≡ n
  pub holding : is_holding (drop_idle clock (standing t h)) ≡ true

-- some upload does
abbrev pub Held : ℕ → ℕ → ℕ → List Exchange → Type 0
Held s n clock h = (t : Bits128) × HeldBy t s n clock h

-- ---- the statements

pub record Series : Type 0 where
  -- the number of an accepted upload is one of A000 to ZZZZ: the request's field 0E in edition 2.4, else the reply's
  pub numbered : (calls : List BankCall) {s : ℕ} {e : Exchange} {g : List Exchange} →
      InSeries s e g (past_of calls).history →
      (number_given e < series_limit) × (order_opened e.request e.reply ≡ order_number_of (number_given e))
  -- "of a subscriber and type": FUL is the only upload type
  pub typed : (calls : List BankCall) {s : ℕ} {e : Exchange} {g : List Exchange} →
      InSeries s e g (past_of calls).history → order_type e.request ≡ ful
  -- THE BANK'S OWN NUMBERING
  -- it "skips numbers held by that subscriber's open or booked uploads": it gives the first number from where it has come
  -- to that is not held
  pub from : {calls : List BankCall} {e : Exchange} → Next calls e → is_own_opened e ≡ true →
      own_given (subscriber e.request) (past_of calls).history ≤ number_given e
  pub passed : {calls : List BankCall} {e : Exchange} → Next calls e → is_own_opened e ≡ true → (n : ℕ) →
      own_given (subscriber e.request) (past_of calls).history ≤ n → n < number_given e →
      Held (subscriber e.request) n e.clock (past_of calls).history
  pub unheld : {calls : List BankCall} {e : Exchange} → Next calls e → is_upload_opened e ≡ true →
      Held (subscriber e.request) (number_given e) e.clock (past_of calls).history → ⊥
  -- it starts at A000, and goes on after the number that it gave last: the bank's counters say so
  pub counters : (calls : List BankCall) (s : ℕ) → 1 ≤ s → s ≤ subscribers →
      counter_of s calls ≡ own_given s (past_of calls).history
  -- "which such openings neither move nor need": an upload that it numbers moves it, no other call does
  pub moved : (c : BankCall) (calls : List BankCall) (s : ℕ) → 1 ≤ s → s ≤ subscribers → (i : EntersOwn s c calls) →
      counter_of s (c ∷ calls) ≡ suc (number_given i.exchange)
  pub still : (c : BankCall) (calls : List BankCall) (s : ℕ) → 1 ≤ s → s ≤ subscribers → (EntersOwn s c calls → ⊥) →
      counter_of s (c ∷ calls) ≡ counter_of s calls
  -- no number comes twice from it
  pub apart : (calls : List BankCall) {s : ℕ} {e f : Exchange} {g k : List Exchange} →
      OwnInSeries s e g (past_of calls).history → OwnInSeries s f k (past_of calls).history →
      number_given e ≡ number_given f → (e ≡ f) × (g ≡ k)
  -- NUMBERS HELD
  -- no two uploads of one subscriber and type that are open or booked at one time have the same number
  pub single : (calls : List BankCall) (clock : ℕ) {s n : ℕ} {t u : Bits128} →
      HeldBy t s n clock (past_of calls).history → HeldBy u s n clock (past_of calls).history → t ≡ u
  -- "one held by an open or booked upload of that subscriber and type with 091115, directly after 091103": exactly while
  -- it is held
  pub refused : {calls : List BankCall} {e : Exchange} → Next calls e → WellMadeOpening e →
      form e.request ≡ forms.ChosenOpening → Timely e (past_of calls).history →
      Held (subscriber e.request) (order_in (order_number e.request)) e.clock (past_of calls).history →
      RefusedWith code.OrderIdAlreadyExists e
  pub only_held : {calls : List BankCall} {e : Exchange} → Next calls e → RefusedWith code.OrderIdAlreadyExists e →
      (form e.request ≡ forms.ChosenOpening)
      × Held (subscriber e.request) (order_in (order_number e.request)) e.clock (past_of calls).history
