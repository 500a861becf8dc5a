-- Document 01, "False economies", and what else a bank might save: statements on every list of calls to a fresh bank.
-- They are said by requests, replies and the clock; no verdict and no column of the bank's state is looked at.
use Rattle.std.specs.Prelude.{ℕ, suc, ◌+◌, ◌≤◌, ◌<◌, true, false, cond, List, [], ◌∷◌, ◌⊎◌, ◌≡◌, eqb, length}
use Rattle.frame_table.specs.declared.fields.Bits128.{Bits128}
use Rattle.frame_table.specs.declared.table.Form.{Form}
use Rattle.frame_table.specs.Forms as forms
use Rattle.frame_table.specs.Names.{
  phase,
  subscriber,
  order_type,
  nonce,
  timestamp,
  segments,
  transaction,
  segment,
  last_mark,
  return_code,
  order_number,
  form,
}
use Rattle.message.specs.declared.codes.ReturnCode.{ReturnCode}
use Rattle.message.specs.declared.codes.ReturnCode.TheVariants as code
use Rattle.message.specs.Codes.{code_field}
use Rattle.message.specs.Limits.{
  ful,
  fdl,
  subscribers,
  segment_bytes,
  max_segments,
  max_attempts,
  initialisation_phase,
  transfer_phase,
}
use Rattle.message.specs.OrderNumbers.{is_order_number}
use Rattle.bank_state.specs.Clock.{advanced}
use Rattle.bank_state.specs.Limits.{window, idle_limit}
use Rattle.bank.specs.Call.{FrameInput}
use Rattle.bank_history.specs.History.{Exchange, BankCall, Frame, Stands, past_of}
use Rattle.bank_history.specs.Opened.{is_upload_opened, is_opened}
use Rattle.bank_history.specs.Sound.{is_cancelling}

-- after these calls a frame call is answered, and e is its exchange
pub record Next (calls : List BankCall) (e : Exchange) : Type 0 where
  pub input : FrameInput
  pub entered : (past_of (Frame input ∷ calls)).history ≡ e ∷ (past_of calls).history

-- ---- requests

-- a readable request that no line for every request refuses: "subscriber not 1 to 8", "data over 256 bytes"
pub record WellMade (e : Exchange) : Type 0 where
  pub known : 1 ≤ subscriber e.request
  pub most : subscriber e.request ≤ subscribers
  pub short : length e.request_data ≤ segment_bytes

-- an opening that no line above 091103 refuses
pub record WellMadeOpening (e : Exchange) : Type 0 where
  pub made : WellMade e
  pub kind : ((form e.request ≡ forms.UploadOpening) × (order_type e.request ≡ ful) × (1 ≤ segments e.request))
      ⊎ (((form e.request ≡ forms.ChosenOpening) × (order_type e.request ≡ ful) × (1 ≤ segments e.request)
      × (is_order_number (order_number e.request) ≡ true))
      ⊎ ((form e.request ≡ forms.DownloadOpening) × (order_type e.request ≡ fdl)))
  pub few : segments e.request ≤ max_segments

-- a request to the transaction t
pub record Asks (t : Bits128) (e : Exchange) : Type 0 where
  pub made : WellMade e
  pub kind : (form e.request ≡ forms.UploadTransfer)
      ⊎ ((form e.request ≡ forms.DownloadTransfer) ⊎ (form e.request ≡ forms.Receipt))
  pub to : transaction e.request ≡ t

-- ---- replies

-- 01 03 0D with this code
pub record RefusedWith (c : ReturnCode) (e : Exchange) : Type 0 where
  pub formed : form e.reply ≡ forms.Refusal
  pub coded : return_code e.reply ≡ code_field c

-- an accepted opening, with the transaction ID t
pub record Opens (t : Bits128) (e : Exchange) : Type 0 where
  pub accepted : is_opened e ≡ true
  pub id : transaction e.reply ≡ t

-- a segment of the upload t taken
pub record Takes (t : Bits128) (e : Exchange) : Type 0 where
  pub formed : form e.reply ≡ forms.SegmentTaken
  pub coded : return_code e.reply ≡ code_field code.Ok
  pub id : transaction e.reply ≡ t

-- segment n of the download t was sent: the opening's reply has segment 1 in it
pub record Sent (t : Bits128) (n : ℕ) (h : List Exchange) : Type 0 where
  pub exchange : Exchange
  pub before : List Exchange
  pub stands : Stands exchange before h
  pub formed : (form exchange.reply ≡ forms.DownloadOpened) ⊎ (form exchange.reply ≡ forms.DownloadSegment)
  pub id : transaction exchange.reply ≡ t
  pub number : segment exchange.reply ≡ n

-- a fitting request of t after the history g: "(its opening included)"; a segment taken, or sent and not sent before
pub data Fits (t : Bits128) (g : List Exchange) (e : Exchange) : Type 0 where
  opens : Opens t e → Fits t g e
  takes : Takes t e → Fits t g e
  delivers : form e.reply ≡ forms.DownloadSegment → transaction e.reply ≡ t →
      (Sent t (segment e.reply) g → ⊥) →
      Fits t g e

-- a recovery point: 01 03 08 09 0D with 061101
pub record RecoveryPoint (e : Exchange) : Type 0 where
  pub formed : form e.reply ≡ forms.SegmentTaken
  pub coded : return_code e.reply ≡ code_field code.RecoverySync

-- a recovery attempt of t that is answered, after the history g: 061101, or a segment sent again
pub data Attempt (t : Bits128) (g : List Exchange) (e : Exchange) : Type 0 where
  point : RecoveryPoint e → transaction e.reply ≡ t → Attempt t g e
  again : form e.reply ≡ forms.DownloadSegment → transaction e.reply ≡ t → Sent t (segment e.reply) g →
      Attempt t g e

-- "Attempts are counted per transaction and never reset": a history has n of them
pub data Attempts (t : Bits128) : ℕ → List Exchange → Type 0 where
  none : Attempts t 0 []
  one : {n : ℕ} {e : Exchange} {g : List Exchange} → Attempt t g e → Attempts t n g → Attempts t (suc n) (e ∷ g)
  other : {n : ℕ} {e : Exchange} {g : List Exchange} → (Attempt t g e → ⊥) → Attempts t n g → Attempts t n (e ∷ g)

-- a transaction whose opening is answered in the form f, of the subscriber s, is ended without booking: cancelled by
-- 091102,
-- 011101 or 091104, by its receipt, a download by 011000 to another receipt ("every download of that mailbox ended")
pub data Ends (t : Bits128) (f : Form) (s : ℕ) (e : Exchange) : Type 0 where
  cancelled : form e.reply ≡ forms.Refusal → is_cancelling (return_code e.reply) ≡ true →
      transaction e.request ≡ t → Ends t f s e
  receipt : form e.reply ≡ forms.ReceiptAnswered → is_opened e ≡ false → transaction e.reply ≡ t → Ends t f s e
  emptied : f ≡ forms.DownloadOpened → form e.reply ≡ forms.ReceiptAnswered →
      return_code e.reply ≡ code_field code.DownloadPostprocessDone → subscriber e.request ≡ s → Ends t f s e

-- it is open after a history, its last fitting request at the clock last: no call came over the idle limit after that,
-- segment N is not taken, and nothing has ended it
pub data StillOpen (t : Bits128) (f : Form) (s : ℕ) : ℕ → List Exchange → Type 0 where
  opened : {e : Exchange} {g : List Exchange} → Opens t e → form e.reply ≡ f → subscriber e.request ≡ s →
      StillOpen t f s e.clock (e ∷ g)
  took : {last : ℕ} {e : Exchange} {g : List Exchange} → StillOpen t f s last g → e.clock ≤ last + idle_limit →
      Takes t e → last_mark e.request ≡ 0 → StillOpen t f s e.clock (e ∷ g)
  delivered : {last : ℕ} {e : Exchange} {g : List Exchange} → StillOpen t f s last g → e.clock ≤ last + idle_limit →
      form e.reply ≡ forms.DownloadSegment → transaction e.reply ≡ t → (Sent t (segment e.reply) g → ⊥) →
      StillOpen t f s e.clock (e ∷ g)
  other : {last : ℕ} {e : Exchange} {g : List Exchange} → StillOpen t f s last g → e.clock ≤ last + idle_limit →
      (Fits t g e → ⊥) → (Ends t f s e → ⊥) → StillOpen t f s last (e ∷ g)

-- ---- the statements

pub record FalseEconomies : Type 0 where
  -- "An accepted opening's nonce is remembered, against all subscribers, while its timestamp is at most" the window
  -- "behind the clock"
  pub replay : {calls : List BankCall} {e f : Exchange} {g : List Exchange} {t : Bits128} →
      Next calls e → WellMadeOpening e → Stands f g (past_of calls).history → Opens t f →
      nonce e.request ≡ nonce f.request → e.clock ≤ timestamp f.request + window →
      RefusedWith code.MessageReplay e
  -- "Accepting another subscriber's transaction ID": it gets 091101, and "beyond clock and drops" nothing changes
  pub foreign : {calls : List BankCall} {e f : Exchange} {g : List Exchange} {t : Bits128} →
      (n : Next calls e) → Asks t e → Stands f g (past_of calls).history → Opens t f →
      (subscriber e.request ≡ subscriber f.request → ⊥) →
      RefusedWith code.UnknownTransaction e
      × ((past_of (Frame n.input ∷ calls)).bank_state
      ≡ advanced n.input.time (past_of calls).bank_state)
  -- "Answering a repeated last segment 000000 (the order is closed: 091101)"
  pub closed : {calls : List BankCall} {e f : Exchange} {g : List Exchange} {t : Bits128} → Next calls e → Asks t e →
      Stands f g (past_of calls).history → Takes t f → last_mark f.request ≡ 1 → RefusedWith code.UnknownTransaction e
  -- "Letting a recovery attempt refresh the idle hour": where each fitting request of t is older than the idle limit,
  -- t is gone, whatever attempts came since
  pub idle : {calls : List BankCall} {e : Exchange} {t : Bits128} → Next calls e → Asks t e →
      ((f : Exchange) (g : List Exchange) → Stands f g (past_of calls).history → Fits t g f →
      f.clock + idle_limit < e.clock) →
      RefusedWith code.UnknownTransaction e
  -- an attempt on an open transaction of its subscriber, or any other request to it, never gets 091101
  pub known : {calls : List BankCall} {e : Exchange} {t : Bits128} {f : Form} {last : ℕ} → Next calls e → Asks t e →
      StillOpen t f (subscriber e.request) last (past_of calls).history → e.clock ≤ last + idle_limit →
      RefusedWith code.UnknownTransaction e → ⊥
  -- "The first five get 061101 with k or d (a download segment sent again carries 000000 instead)"
  pub five : {calls : List BankCall} {e : Exchange} {t : Bits128} {n : ℕ} → Next calls e →
      Attempts t n (past_of calls).history → Attempt t (past_of calls).history e → n < max_attempts
  -- "the sixth gets 091102": it comes behind five attempts, neither earlier nor later
  pub sixth : {calls : List BankCall} {e : Exchange} {n : ℕ} → Next calls e →
      Attempts (transaction e.request) n (past_of calls).history → RefusedWith code.TransactionAbort e →
      n ≡ max_attempts
  -- every history has its number of attempts
  pub counted : (calls : List BankCall) (t : Bits128) → (n : ℕ) × Attempts t n (past_of calls).history
  -- "The phase is the request's, but in a recovery point"; the reply to an unreadable request has none
  pub phases : {calls : List BankCall} {e : Exchange} → Next calls e → (form e.reply ≡ forms.Unreadable → ⊥) →
      (return_code e.reply ≡ code_field code.RecoverySync → ⊥) → phase e.reply ≡ phase e.request
  -- "in a recovery point it is that point's: 1 for segment 0 of an upload, else 2"
  pub upload_points : {calls : List BankCall} {e f : Exchange} {g : List Exchange} → Next calls e → RecoveryPoint e →
      Stands f g (past_of calls).history → is_upload_opened f ≡ true →
      transaction f.reply ≡ transaction e.reply →
      phase e.reply ≡ cond (eqb (segment e.reply) 0) initialisation_phase transfer_phase
  -- "a download's opening delivered segment 1 and counts as phase 1 while only that is delivered"
  pub download_points : {calls : List BankCall} {e f : Exchange} {g : List Exchange} → Next calls e → RecoveryPoint e →
      Stands f g (past_of calls).history → form f.reply ≡ forms.DownloadOpened →
      transaction f.reply ≡ transaction e.reply →
      phase e.reply ≡ cond (eqb (segment e.reply) 1) initialisation_phase transfer_phase
