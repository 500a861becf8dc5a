-- A host's calls to one bank's session, on any requests: what a list of them leaves, and which lists are allowed. The
-- numbers and the steps are the definitions that the calls' contracts cite.
use Rattle.std.specs.Prelude.{ℕ, cond, ◌≡◌, eqb, take}
use mathlib.Core.List.{List, [], ◌∷◌, Memᴰ as In}
use Rattle.journal.specs.Row.{Journal}
use Rattle.bank_state.specs.State.{BankState, bank_state}
use Rattle.bank_rows.specs.State.{bank_of}
use Rattle.bank_steps.specs.Lent.{state_of}
use Rattle.bank.specs.Call.{FrameInput}
use Rattle.opening_counts.specs.declared.seven.Counts.{Counts}
use Rattle.opening_counts.specs.Counts.{no_counts}
use Rattle.bank_session.specs.Session.{LentSession, bank_rows, counts_in, bank_in, journal_in, session_frame_call, session_file_call}
use Rattle.bank_history.specs.History.{Exchange, call_exchange, BankCall, Frame, File, Past, start}
use Rattle.bank_history.specs.Journal.{journal_of}
use Rattle.image_calls.specs.Calls.{image_length, put_away, take_up}

-- A call with everything that it brings and is lent
pub data HostCall : Type 0 where
  -- a frame: the session; the bank time, the 8 ID bytes, the frame, the reply buffer and the others' count
  frame_arrives : LentSession → FrameInput → HostCall
  -- a file into a mailbox: the session's numbers, the mailboxes' store, the mailbox, the file
  file_put : List ℕ → List ℕ → ℕ → List ℕ → HostCall
  -- a session is put away: the session, the buffer
  puts_away : LentSession → List ℕ → HostCall
  -- a session is taken up: the session lent, whatever stands there; the image
  takes_up : LentSession → List ℕ → HostCall

-- What a list of calls has left: the session, "bank, both stores, journal", and its counts, with the answered frames, the
-- newest first, and the images written since the last frame or file call given no number
pub record Left : Type 0 where
  pub past : Past
  pub journal : Journal
  pub counts : Counts
  pub images : List (List ℕ)

abbrev pub past_with : BankState → List Exchange → Past
past_with w h = record { bank_state = w; history = h }

abbrev pub left : Past → Journal → Counts → List (List ℕ) → Left
left p j c images = record { past = p; journal = j; counts = c; images = images }

-- ---- ONE CALL

-- document 01's number for a call, 0 where it is given none
abbrev pub call_number : HostCall → ℕ
call_number (frame_arrives m a) = (session_frame_call m a).number
call_number (file_put rows mailboxes mailbox file) = (session_file_call rows mailbox file mailboxes).number
call_number (puts_away m buffer) = (put_away m buffer).number
call_number (takes_up m image) = (take_up m image).number

-- the image that a session is put away in
abbrev pub image_put : LentSession → List ℕ → List ℕ
image_put m buffer = take image_length (put_away m buffer).buffer

-- what a call given no number leaves. After a frame or a file no image is of the session that stands
abbrev pub carry_out : HostCall → Left → Left
carry_out (frame_arrives m a) s =
    let k = session_frame_call m a in
    let h = call_exchange (state_of (bank_in m)) a ∷ s.past.history in
    left (past_with (state_of (bank_in k.session)) h) (journal_in k.session) (counts_in k.session.rows) []
carry_out (file_put rows mailboxes mailbox file) s =
    let k = session_file_call rows mailbox file mailboxes in
    let w = bank_state (bank_of (bank_rows k.rows)) s.past.bank_state.orders k.mailboxes in
    left (past_with w s.past.history) s.journal s.counts []
carry_out (puts_away m buffer) s = left s.past s.journal s.counts (image_put m buffer ∷ s.images)
carry_out (takes_up m image) s =
    let k = take_up m image in
    left (past_with (state_of (bank_in k.session)) s.past.history) (journal_in k.session) (counts_in k.session.rows)
    s.images

-- "a number, nothing changed"
unfoldable pub exec : HostCall → Left → Left
exec k s = cond (eqb (call_number k) 0) (carry_out k s) s

-- what a list of calls to a fresh bank leaves, the newest call first
unfoldable pub left_by : List HostCall → Left
left_by [] = left start (journal_of []) no_counts []
left_by (k ∷ ks) = exec k (left_by ks)

-- ---- THE PREMISE

-- the session lent is the one that stands
abbrev pub Standing : LentSession → Left → Type 0
Standing m s =
    (state_of (bank_in m) ≡ s.past.bank_state) × (journal_in m ≡ s.journal) × (counts_in m.rows ≡ s.counts)

-- "Each call gets state, stores ... as the last call not given a number left them". "a resumed session when nothing ran
-- between the writing and the taking up": the image is one that the list wrote, no frame or file call given no number
-- stands between, and the session lent is free. A file call may be lent any number of events and any
-- counts, which it leaves
abbrev pub Premise : HostCall → Left → Type 0
Premise (frame_arrives m a) s = Standing m s
Premise (file_put rows mailboxes mailbox file) s =
    (bank_of (bank_rows rows) ≡ s.past.bank_state.bank) × (mailboxes ≡ s.past.bank_state.mailboxes)
Premise (puts_away m buffer) s = Standing m s
Premise (takes_up m image) s = In image s.images

-- a call given a number may be lent others
abbrev pub Allowed : HostCall → Left → Type 0
Allowed k s = call_number k ≡ 0 → Premise k s

pub data AllAllowed : List HostCall → Type 0 where
  none : AllAllowed []
  more : {k : HostCall} {ks : List HostCall} → Allowed k (left_by ks) → AllAllowed ks → AllAllowed (k ∷ ks)

-- ---- THE BANK'S CALLS AMONG THEM

abbrev pub bank_call : HostCall → List BankCall → List BankCall
bank_call (frame_arrives m a) calls = Frame a ∷ calls
bank_call (file_put rows mailboxes mailbox file) calls = File mailbox file ∷ calls
bank_call (puts_away m buffer) calls = calls
bank_call (takes_up m image) calls = calls

-- the answered frames and the files put, the newest first
unfoldable pub bank_calls : List HostCall → List BankCall
bank_calls [] = []
bank_calls (k ∷ ks) = cond (eqb (call_number k) 0) (bank_call k (bank_calls ks)) (bank_calls ks)
