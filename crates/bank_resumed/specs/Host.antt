-- A host that keeps one session in memory: it lends it to each call, keeps what the call left, and puts it away and
-- takes it up between calls as it likes. Its lists of calls are allowed.
use Rattle.std.specs.Prelude.{Ok}
use Rattle.std.specs.Prelude.{ℕ, ◌≤◌, true, List, [], ◌∷◌, ◌≡◌, length}
use Rattle.bank.specs.Call.{FrameInput}
use Rattle.bank_session.specs.Session.{LentSession, session_frame_call, count_call}
use Rattle.bank_admitted.specs.Session.{Brought}
use Rattle.image_calls.specs.Calls.{image_length, lengths_right, take_up}
use Rattle.image_admitted.specs.Fresh.{fresh_session}
use Rattle.image_admitted.specs.Reached.{InList, after_file}
use Rattle.bank_counts.specs.Counts.{counts}
use Rattle.bank_resumed.specs.Calls.{
  HostCall,
  frame_arrives,
  file_put,
  puts_away,
  takes_up,
  image_put,
  left_by,
  Standing,
  AllAllowed,
}
use Rattle.bank_resumed.specs.Resumed.{history_left}

-- the session that it holds after its calls, the newest first; a call given a number is one of them
pub data Keeps : LentSession → List HostCall → Type 0 where
  fresh : Keeps fresh_session []
  frame : {m : LentSession} {ks : List HostCall} → Keeps m ks → (a : FrameInput) → Brought a →
      Keeps (session_frame_call m a).session (frame_arrives m a ∷ ks)
  file : {m : LentSession} {ks : List HostCall} → Keeps m ks → (mailbox : ℕ) (file : List ℕ) →
      Keeps (after_file m mailbox file) (file_put m.rows m.mailboxes mailbox file ∷ ks)
  -- into any buffer that is long enough, and any memory of the session's lengths
  resumed : {m : LentSession} {ks : List HostCall} → Keeps m ks → (buffer : List ℕ) → image_length ≤ length buffer →
      (n : LentSession) → lengths_right n ≡ true →
      Keeps (take_up n (image_put m buffer)).session (takes_up n (image_put m buffer) ∷ puts_away m buffer ∷ ks)

-- its list is allowed, what it holds is the session that stands, and this is one of card 2's list
pub record Covered (m : LentSession) (ks : List HostCall) : Type 0 where
  pub allowed : AllAllowed ks
  pub standing : Standing m (left_by ks)
  pub admitted : InList m

-- card 12, "The unit reports seven counts in this order, each equal to the number so defined": asked of the session that
-- it holds, whatever was put away and taken up before
abbrev pub Reported : LentSession → List HostCall → Type 0
Reported m ks = count_call m.rows ≡ Ok (counts (history_left ks))
