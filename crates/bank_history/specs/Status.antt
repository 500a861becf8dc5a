-- How each transaction stands after a history, the openings in their order, and what each call drops: by the exchanges
-- and their clocks alone. Then the statements on every list of calls to a fresh bank.
use Rattle.std.specs.Prelude.{ℕ, suc, ◌≤◌, Bool, false, cond, ◌≡◌, eqb, length}
use mathlib.Core.List.{List, [], ◌∷◌, ◌++◌, map, Memᴰ as In}
use Rattle.frame_table.specs.declared.fields.Bits128.{Bits128}
use Rattle.frame_table.specs.Names.{subscriber, same_bits}
use Rattle.bank_state.specs.Clock.{is_idle, advanced}
use Rattle.bank_state.specs.Rows.{keep}
use Rattle.bank_state.specs.State.{BankState}
use Rattle.message.specs.declared.directions.Direction.{Direction}
use Rattle.message.specs.declared.directions.Direction.TheVariants as direction
use Rattle.bank_verdicts.specs.declared.verdict.UploadAction.{UploadAction}
use Rattle.bank_verdicts.specs.declared.verdict.UploadAction.TheVariants as up
use Rattle.bank_verdicts.specs.declared.verdict.DownloadAction.{DownloadAction}
use Rattle.bank_verdicts.specs.declared.verdict.DownloadAction.TheVariants as down
use Rattle.bank_verdicts.specs.declared.verdict.Action.{Action}
use Rattle.bank_verdicts.specs.declared.verdict.Action.TheVariants as action
use Rattle.bank_verdicts.specs.declared.verdict.Verdict.{Verdict}
use Rattle.bank_verdicts.specs.declared.verdict.Verdict.TheVariants as verdict
use Rattle.bank_history.specs.FalseEconomies.{Next}
use Rattle.bank_history.specs.History.{Exchange, BankCall, is_opening, accepted, past_of}
use Rattle.bank_history.specs.Transactions.{UploadAt, DownloadAt}

-- Open: direction, subscriber, clock of the last fitting request. The others have ended: booked; 011000 to its receipt,
-- 011001 to its receipt, 011000 to another receipt of its subscriber; cancelled; dropped
pub data Status : Type 0 where
  NotOpened : Status
  Open : Direction → ℕ → ℕ → Status
  Booked : Status
  Fetched : Status
  Skipped : Status
  EndedByReceipt : Status
  Cancelled : Status
  Dropped : Status

-- an open transaction changes, any other is as it was
abbrev pub if_open : (Direction → ℕ → ℕ → Status) → Status → Status
if_open f NotOpened = NotOpened
if_open f (Open d s last) = f d s last
if_open f Booked = Booked
if_open f Fetched = Fetched
if_open f Skipped = Skipped
if_open f EndedByReceipt = EndedByReceipt
if_open f Cancelled = Cancelled
if_open f Dropped = Dropped

-- "Then it drops every transaction whose last fitting request (its opening included) is more than" the idle limit "old"
abbrev pub drop_idle : ℕ → Status → Status
drop_idle clock x = if_open (λ (d : Direction) (s last : ℕ). cond (is_idle clock last) Dropped (Open d s last)) x

-- a fitting request
abbrev pub refreshed : ℕ → Status → Status
refreshed clock x = if_open (λ (d : Direction) (s last : ℕ). Open d s clock) x

-- "every download of that mailbox ended"
abbrev pub is_download_of : Direction → ℕ → ℕ → Bool
is_download_of direction.Upload owner s = false
is_download_of direction.Download owner s = eqb owner s

abbrev pub ended_by_receipt : ℕ → Status → Status
ended_by_receipt s x =
    if_open (λ (d : Direction) (owner last : ℕ). cond (is_download_of d owner s) EndedByReceipt (Open d owner last)) x

-- its own action
abbrev pub upload_status : UploadAction → Exchange → Status → Status
upload_status (up.Opened n) e x = Open direction.Upload (subscriber e.request) e.clock
upload_status up.Took e x = refreshed e.clock x
upload_status up.TookLast e x = Booked
upload_status (up.Point k) e x = x
upload_status (up.Cancelled c) e x = Cancelled

abbrev pub download_status : DownloadAction → Exchange → Status → Status
download_status (down.Opened n) e x = Open direction.Download (subscriber e.request) e.clock
download_status (down.Delivered n) e x = refreshed e.clock x
download_status (down.SentAgain n) e x = x
download_status (down.Point d) e x = x
download_status down.Cancelled e x = Cancelled
download_status down.Confirmed e x = Fetched
download_status down.Declined e x = Skipped

abbrev pub action_status : Action → Exchange → Status → Status
action_status (action.Upload a) e x = upload_status a e x
action_status (action.Download a) e x = download_status a e x

-- another transaction's action: "011000: mailbox emptied, every download of that mailbox ended"
abbrev pub other_download : DownloadAction → Exchange → Status → Status
other_download (down.Opened n) e x = x
other_download (down.Delivered n) e x = x
other_download (down.SentAgain n) e x = x
other_download (down.Point d) e x = x
other_download down.Cancelled e x = x
other_download down.Confirmed e x = ended_by_receipt (subscriber e.request) x
other_download down.Declined e x = x

abbrev pub other_status : Action → Exchange → Status → Status
other_status (action.Upload a) e x = x
other_status (action.Download a) e x = other_download a e x

abbrev pub status_after : Bits128 → Verdict → Exchange → Status → Status
status_after t verdict.Unreadable e x = x
status_after t (verdict.Refused c) e x = x
status_after t (verdict.Of u k) e x = cond (same_bits t u) (action_status k e x) (other_status k e x)
status_after t (verdict.Signed n added) e x = x

-- how t stands after a history: each call first drops, then its verdict does what it names
unfoldable pub status : Bits128 → List Exchange → Status
status t [] = NotOpened
status t (e ∷ h) = status_after t e.verdict e (drop_idle e.clock (status t h))

-- the transactions of the accepted openings, the oldest first
abbrev pub opened_in : Verdict → List Bits128
opened_in verdict.Unreadable = []
opened_in (verdict.Refused c) = []
opened_in (verdict.Of t k) = cond (is_opening k) (t ∷ []) []
opened_in (verdict.Signed n added) = []

unfoldable pub openings : List Exchange → List Bits128
openings [] = []
openings (e ∷ h) = openings h ++ opened_in e.verdict

-- open, and idle at a clock
abbrev pub is_idle_at : ℕ → Status → Bool
is_idle_at clock NotOpened = false
is_idle_at clock (Open d s last) = is_idle clock last
is_idle_at clock Booked = false
is_idle_at clock Fetched = false
is_idle_at clock Skipped = false
is_idle_at clock EndedByReceipt = false
is_idle_at clock Cancelled = false
is_idle_at clock Dropped = false

-- what a call that sets this clock drops after a history, in the order of the openings
unfoldable pub drops : ℕ → List Exchange → List Bits128
drops clock h = keep (λ (t : Bits128). is_idle_at clock (status t h)) (openings h)

-- what happens to transactions: a drop, or an action of a request
pub data Event : Type 0 where
  Drop : Bits128 → Event
  Act : Bits128 → Action → Event

abbrev pub acted_in : Verdict → List Event
acted_in verdict.Unreadable = []
acted_in (verdict.Refused c) = []
acted_in (verdict.Of t k) = Act t k ∷ []
acted_in (verdict.Signed n added) = []

-- the events of a call after a history: its drops, the oldest opening first, then its action
unfoldable pub events_of : Exchange → List Exchange → List Event
events_of e h = map Drop (drops e.clock h) ++ acted_in e.verdict

-- ---- the statements

-- t is open in the bank, of this direction, for this subscriber, its last fitting request at the clock last
pub data OpenAs (w : BankState) (t : Bits128) : Direction → ℕ → ℕ → Type 0 where
  upload : {s k n last : ℕ} → UploadAt w t s k n last → OpenAs w t direction.Upload s last
  download : {s d last : ℕ} → DownloadAt w t s d last → OpenAs w t direction.Download s last

abbrev pub OpenIn : BankState → Bits128 → Type 0
OpenIn w t = (d : Direction) × (s : ℕ) × (last : ℕ) × OpenAs w t d s last

-- the transactions of a list have the numbers m, m + 1 ...; their numbers rise from m on
pub data Numbered : ℕ → List Bits128 → Type 0 where
  none : {m : ℕ} → Numbered m []
  one : {m : ℕ} {t : Bits128} {l : List Bits128} → t.low ≡ m → Numbered (suc m) l → Numbered m (t ∷ l)

pub data Rising : ℕ → List Bits128 → Type 0 where
  end : {m : ℕ} → Rising m []
  next : {m : ℕ} {t : Bits128} {l : List Bits128} → m ≤ t.low → Rising (suc t.low) l → Rising m (t ∷ l)

pub record Drops : Type 0 where
  -- a transaction is open in the bank exactly when it is by the history
  pub told : (calls : List BankCall) (t : Bits128) (d : Direction) (s last : ℕ) →
      OpenAs (past_of calls).bank_state t d s last →
      status t (past_of calls).history ≡ Open d s last
  pub shown : (calls : List BankCall) (t : Bits128) (d : Direction) (s last : ℕ) →
      status t (past_of calls).history ≡ Open d s last →
      OpenAs (past_of calls).bank_state t d s last
  -- a call's clock takes out of the bank exactly what its events drop; what else is open stays as it is
  pub gone : {calls : List BankCall} {e : Exchange} (n : Next calls e) (t : Bits128) →
      In (Drop t) (events_of e (past_of calls).history) →
      OpenIn (past_of calls).bank_state t × (OpenIn (advanced n.input.time (past_of calls).bank_state) t → ⊥)
  pub stays : {calls : List BankCall} {e : Exchange} (n : Next calls e) (t : Bits128) (d : Direction) (s last : ℕ) →
      OpenAs (past_of calls).bank_state t d s last → (In (Drop t) (events_of e (past_of calls).history) → ⊥) →
      OpenAs (advanced n.input.time (past_of calls).bank_state) t d s last
  -- the oldest opening first
  pub ordered : (calls : List BankCall) (clock : ℕ) → Rising 0 (drops clock (past_of calls).history)
  -- "The accepted openings are numbered from 0"; each stands in one way, and no longer as not opened
  pub numbered : (calls : List BankCall) → Numbered 0 (openings (past_of calls).history)
  pub counted : (calls : List BankCall) → length (openings (past_of calls).history) ≡ accepted (past_of calls).history
  pub opened : (calls : List BankCall) (t : Bits128) → In t (openings (past_of calls).history) →
      status t (past_of calls).history ≡ NotOpened → ⊥
