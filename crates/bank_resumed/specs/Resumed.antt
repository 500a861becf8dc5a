-- Every allowed list of a host's calls leaves what its answered frames and its files alone leave on a fresh bank. So
-- the theorems on lists of the bank's calls speak of a session put away and taken up, whatever the requests are.
use Rattle.std.specs.Prelude.{ℕ, ◌+◌, ◌≤◌, ◌<◌, true, false, ◌⊎◌, ◌≡◌, length}
use mathlib.Core.List.{List, ◌∷◌, ◌++◌, Memᴰ as In}
use Rattle.frame_table.specs.declared.fields.Bits128.{Bits128}
use Rattle.frame_table.specs.declared.table.Form.{Form}
use Rattle.frame_table.specs.Forms as forms
use Rattle.frame_table.specs.Names.{subscriber, nonce, timestamp, transaction, last_mark, order_number, form}
use Rattle.message.specs.declared.codes.ReturnCode.TheVariants as code
use Rattle.message.specs.Editions.{order_opened}
use Rattle.message.specs.Limits.{subscribers, max_attempts}
use Rattle.message.specs.OrderNumbers.{order_number_of, order_in}
use Rattle.journal.specs.declared.event.Kind.TheVariants as kind
use Rattle.journal.specs.declared.event.OrderName.{OrderName}
use Rattle.journal.specs.Records.{Recorded, RecordedEnd}
use Rattle.journal.specs.Row.{Journal, row_of}
use Rattle.signers.specs.Signers.{is_signer, signer_count, is_released}
use Rattle.bank_state.specs.Clock.{advanced}
use Rattle.bank_state.specs.Limits.{window, idle_limit, series_limit}
use Rattle.bank_state.specs.Rows.{count_of}
use Rattle.bank_state.specs.State.{BankState, series_of}
use Rattle.message.specs.declared.directions.Direction.{Direction}
use Rattle.bank_steps.specs.Lent.{state_of}
use Rattle.bank.specs.Call.{FrameInput}
use Rattle.bank_session.specs.Session.{LentSession, bank_in}
use Rattle.bank_history.specs.History.{
  Exchange,
  Stands,
  BankCall,
  Frame,
  Past,
  call_exchange,
  is_booking,
  ever,
  past_of,
}
use Rattle.bank_history.specs.FalseEconomies.{
  Next,
  WellMadeOpening,
  Asks,
  RefusedWith,
  Opens,
  Takes,
  Fits,
  Attempt,
  Attempts,
  StillOpen,
}
use Rattle.bank_history.specs.Status.{Open, Drop, drops, events_of, OpenAs, OpenIn, Rising}
use Rattle.bank_history.specs.Opened.{is_own_opened, is_upload_opened}
use Rattle.bank_history.specs.ByReplies.{opened_count, own_given, number_given, standing}
use Rattle.bank_history.specs.Timely.{Timely}
use Rattle.bank_history.specs.Series.{InSeries, OwnInSeries, HeldBy, Held}
use Rattle.bank_history.specs.Journal.{journal_of, events_in}
use Rattle.bank_history.specs.Signatures.{signature_count}
use Rattle.bank_history.specs.Signers.{
  WellMadeSigning,
  Signs,
  Signature,
  BooksOrder,
  InBook,
  signers_at,
  SignsOnly,
  is_signed_of,
}
use Rattle.opening_counts.specs.Counts.{sum}
use Rattle.bank_counts.specs.Counts.{counts, carried}
use Rattle.bank_resumed.specs.Calls.{
  HostCall,
  frame_arrives,
  call_number,
  left_by,
  AllAllowed,
  bank_calls,
}

-- the answered frames that a list leaves, and the bank with its stores
abbrev pub history_left : List HostCall → List Exchange
history_left ks = (left_by ks).past.history

abbrev pub bank_left : List HostCall → BankState
bank_left ks = (left_by ks).past.bank_state

-- after these calls a frame call is answered, and e is its exchange
pub record NextFrame (ks : List HostCall) (e : Exchange) : Type 0 where
  pub lent : LentSession
  pub input : FrameInput
  pub allowed : AllAllowed (frame_arrives lent input ∷ ks)
  pub answered : call_number (frame_arrives lent input) ≡ 0
  pub is : call_exchange (state_of (bank_in lent)) input ≡ e

-- ---- the statement

pub record Resumed : Type 1 where
  -- bank, stores, answered frames, journal and counts are those of the bank's calls alone
  pub past : {ks : List HostCall} → AllAllowed ks → (left_by ks).past ≡ past_of (bank_calls ks)
  pub journal : {ks : List HostCall} → AllAllowed ks → (left_by ks).journal ≡ journal_of (bank_calls ks)
  pub counts : {ks : List HostCall} → AllAllowed ks → (left_by ks).counts ≡ carried (bank_calls ks)
  -- an answered frame is the bank's next one, with all that it brings
  pub next : {ks : List HostCall} {e : Exchange} → NextFrame ks e → Next (bank_calls ks) e
  pub input : {ks : List HostCall} {e : Exchange} (n : NextFrame ks e) → (next n).input ≡ n.input
  pub joins : {ks : List HostCall} {e : Exchange} (n : NextFrame ks e) →
      bank_calls (frame_arrives n.lent n.input ∷ ks) ≡ Frame n.input ∷ bank_calls ks
  -- so what is true after every list of the bank's calls is true here, and so is what is true of each answered frame
  pub holds : (P : Past → Journal → Type 0) → ((calls : List BankCall) → P (past_of calls) (journal_of calls)) →
      (ks : List HostCall) → AllAllowed ks → P (left_by ks).past (left_by ks).journal
  pub holds_next : (P : List Exchange → Exchange → Type 0) →
      ((calls : List BankCall) (e : Exchange) → Next calls e → P (past_of calls).history e) →
      (ks : List HostCall) (e : Exchange) → NextFrame ks e → P (history_left ks) e

-- ---- what it says after an allowed list, of the false economies, series, journal, signers, drops and statuses

pub record ResumedBank (ks : List HostCall) : Type 0 where
  -- `FalseEconomies`: "An accepted opening's nonce is remembered, against all subscribers"
  pub replay : {e f : Exchange} {g : List Exchange} {t : Bits128} → NextFrame ks e → WellMadeOpening e →
      Stands f g (history_left ks) → Opens t f → nonce e.request ≡ nonce f.request →
      e.clock ≤ timestamp f.request + window → RefusedWith code.MessageReplay e
  -- "Accepting another subscriber's transaction ID": it gets 091101, and "beyond clock and drops" nothing changes
  pub foreign : {e f : Exchange} {g : List Exchange} {t : Bits128} (n : NextFrame ks e) → Asks t e →
      Stands f g (history_left ks) → Opens t f → (subscriber e.request ≡ subscriber f.request → ⊥) →
      RefusedWith code.UnknownTransaction e
      × (bank_left (frame_arrives n.lent n.input ∷ ks) ≡ advanced n.input.time (bank_left ks))
  -- "Answering a repeated last segment 000000 (the order is closed: 091101)"
  pub closed : {e f : Exchange} {g : List Exchange} {t : Bits128} → NextFrame ks e → Asks t e →
      Stands f g (history_left ks) → Takes t f → last_mark f.request ≡ 1 → RefusedWith code.UnknownTransaction e
  -- "Letting a recovery attempt refresh the idle hour"; a request to an open transaction never gets 091101
  pub idle : {e : Exchange} {t : Bits128} → NextFrame ks e → Asks t e →
      ((f : Exchange) (g : List Exchange) → Stands f g (history_left ks) → Fits t g f →
      f.clock + idle_limit < e.clock) →
      RefusedWith code.UnknownTransaction e
  pub known : {e : Exchange} {t : Bits128} {f : Form} {last : ℕ} → NextFrame ks e → Asks t e →
      StillOpen t f (subscriber e.request) last (history_left ks) → e.clock ≤ last + idle_limit →
      RefusedWith code.UnknownTransaction e → ⊥
  -- "Attempts are counted per transaction and never reset"
  pub five : {e : Exchange} {t : Bits128} {n : ℕ} → NextFrame ks e → Attempts t n (history_left ks) →
      Attempt t (history_left ks) e → n < max_attempts
  pub sixth : {e : Exchange} {n : ℕ} → NextFrame ks e → Attempts (transaction e.request) n (history_left ks) →
      RefusedWith code.TransactionAbort e → n ≡ max_attempts
  -- `Series`: the number of an accepted upload is one of A000 to ZZZZ, in the request or in the reply by its edition
  pub numbered : {s : ℕ} {e : Exchange} {g : List Exchange} → InSeries s e g (history_left ks) →
      (number_given e < series_limit) × (order_opened e.request e.reply ≡ order_number_of (number_given e))
  -- the bank's own numbering gives the first number from where it has come to that is not held; its counters say where
  pub from : {e : Exchange} → NextFrame ks e → is_own_opened e ≡ true →
      own_given (subscriber e.request) (history_left ks) ≤ number_given e
  pub passed : {e : Exchange} → NextFrame ks e → is_own_opened e ≡ true → (n : ℕ) →
      own_given (subscriber e.request) (history_left ks) ≤ n → n < number_given e →
      Held (subscriber e.request) n e.clock (history_left ks)
  pub unheld : {e : Exchange} → NextFrame ks e → is_upload_opened e ≡ true →
      Held (subscriber e.request) (number_given e) e.clock (history_left ks) → ⊥
  pub counters : (s : ℕ) → 1 ≤ s → s ≤ subscribers →
      series_of s (bank_left ks).bank.series ≡ own_given s (history_left ks)
  -- no number comes twice from it, and no two uploads hold one at one time
  pub apart : {s : ℕ} {e f : Exchange} {g h : List Exchange} → OwnInSeries s e g (history_left ks) →
      OwnInSeries s f h (history_left ks) → number_given e ≡ number_given f → (e ≡ f) × (g ≡ h)
  pub single : (clock : ℕ) {s n : ℕ} {t u : Bits128} → HeldBy t s n clock (history_left ks) →
      HeldBy u s n clock (history_left ks) → t ≡ u
  -- 091115 to a number chosen exactly while it is held
  pub refused : {e : Exchange} → NextFrame ks e → WellMadeOpening e → form e.request ≡ forms.ChosenOpening →
      Timely e (history_left ks) →
      Held (subscriber e.request) (order_in (order_number e.request)) e.clock (history_left ks) →
      RefusedWith code.OrderIdAlreadyExists e
  pub only_held : {e : Exchange} → NextFrame ks e → RefusedWith code.OrderIdAlreadyExists e →
      (form e.request ≡ forms.ChosenOpening)
      × Held (subscriber e.request) (order_in (order_number e.request)) e.clock (history_left ks)
  -- `JournalTold`: the row and the number of events, by requests, replies and clocks
  pub row : (left_by ks).journal.row ≡ row_of (events_in (history_left ks))
  pub events : (left_by ks).journal.events ≡ length (events_in (history_left ks))
  -- `OpeningsEnd`: each of the seven counts that the session carries is the number of the openings that stand so, by
  -- requests, replies and clocks
  pub counted : (left_by ks).counts ≡ counts (history_left ks)
  pub adds : sum (left_by ks).counts ≡ opened_count (history_left ks)
  -- `JournalOrders`, by the transaction ID: a booking; "a cancellation or drop", whatever allowed calls come after
  pub booked : {t : Bits128} → Recorded kind.Booked t (left_by ks).journal.row →
      ever is_booking t (history_left ks) ≡ true
  pub ended : {t : Bits128} → RecordedEnd t (left_by ks).journal.row → (more : List HostCall) →
      AllAllowed (more ++ ks) →
      (OpenIn (bank_left (more ++ ks)) t → ⊥) × (ever is_booking t (history_left (more ++ ks)) ≡ false)
  -- `SignersTold`: the signers of an order in the book are exactly the subscribers to whom a signing naming its owner,
  -- type and number was answered 000000, in whatever part of the session, each after its booking
  pub signers : {o : OrderName} {i : ℕ} → InBook (bank_left ks) o i → (s : ℕ) →
      is_signer s (signers_at (bank_left ks) i) ≡ true → Signature o s (history_left ks)
  pub signed : {o : OrderName} {i : ℕ} → InBook (bank_left ks) o i → (s : ℕ) → Signature o s (history_left ks) →
      is_signer s (signers_at (bank_left ks) i) ≡ true
  pub booked_before : {o : OrderName} {s : ℕ} (x : Signature o s (history_left ks)) → BooksOrder o x.before
  -- their number is the one printed and that of the order's events, and from two on it is released
  pub count : {o : OrderName} {i : ℕ} → InBook (bank_left ks) o i →
      signer_count (signers_at (bank_left ks) i) ≡ signature_count o (history_left ks)
  pub signed_events : (o : OrderName) →
      count_of (is_signed_of o) (events_in (history_left ks)) ≡ signature_count o (history_left ks)
  pub released : {o : OrderName} {i : ℕ} → InBook (bank_left ks) o i →
      is_released (signers_at (bank_left ks) i) ≡ true → 2 ≤ signature_count o (history_left ks)
  pub unreleased : {o : OrderName} {i : ℕ} → InBook (bank_left ks) o i →
      is_released (signers_at (bank_left ks) i) ≡ false → signature_count o (history_left ks) ≤ 1
  -- an accepted signing changes nothing but clock, drops, nonces and that order's signers
  pub signs_only : {e : Exchange} (n : NextFrame ks e) → Signs e →
      SignsOnly e (advanced n.input.time (bank_left ks)) (bank_left (frame_arrives n.lent n.input ∷ ks))
  -- "its nonce is remembered", among those of the openings
  pub signed_replay : {e f : Exchange} {g : List Exchange} {t : Bits128} → NextFrame ks e → Stands f g (history_left ks) →
      (WellMadeSigning e × (Signs f ⊎ Opens t f)) ⊎ (WellMadeOpening e × Signs f) →
      nonce e.request ≡ nonce f.request → e.clock ≤ timestamp f.request + window →
      RefusedWith code.MessageReplay e
  -- `Drops` and the statuses: open in the bank exactly when open by requests, replies and clocks
  pub told : (t : Bits128) (d : Direction) (s last : ℕ) → OpenAs (bank_left ks) t d s last →
      standing t (history_left ks) ≡ Open d s last
  pub shown : (t : Bits128) (d : Direction) (s last : ℕ) → standing t (history_left ks) ≡ Open d s last →
      OpenAs (bank_left ks) t d s last
  -- a call's clock takes out of the bank exactly what its events drop, the oldest opening first
  pub gone : {e : Exchange} (n : NextFrame ks e) (t : Bits128) → In (Drop t) (events_of e (history_left ks)) →
      OpenIn (bank_left ks) t × (OpenIn (advanced n.input.time (bank_left ks)) t → ⊥)
  pub stays : {e : Exchange} (n : NextFrame ks e) (t : Bits128) (d : Direction) (s last : ℕ) →
      OpenAs (bank_left ks) t d s last → (In (Drop t) (events_of e (history_left ks)) → ⊥) →
      OpenAs (advanced n.input.time (bank_left ks)) t d s last
  pub ordered : (clock : ℕ) → Rising 0 (drops clock (history_left ks))
