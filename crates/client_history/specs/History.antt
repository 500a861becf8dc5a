-- The events of a client run, the requests that it issued, and which replies may reach it.
use Rattle.std.specs.Prelude.{Result, Ok, Err}
use Rattle.client_run.specs.declared.run.Refusal.{Refusal}
use Rattle.std.specs.Prelude.{ℕ, ◌-◌, ◌<◌, ◌≤◌, true, ◌≡◌, length, take}
use mathlib.Core.List.{List, [], ◌∷◌, Memᴰ as In}
use Rattle.frame_table.specs.declared.fields.Bits128.{Bits128}
use Rattle.frame_table.specs.declared.fields.Fields.{Fields}
use Rattle.frame_table.specs.Forms as forms
use Rattle.frame_table.specs.Names.{exchange, segments, transaction, segment, form}
use Rattle.frame_reader.specs.Reader.{read_reply}
use Rattle.frame_row.specs.Row.{data_of}
use Rattle.frame_table.specs.Table.{is_reply_form}
use Rattle.message.specs.Limits.{file_bytes}
use Rattle.message.specs.Segments.{segments_of, segment_of}
use Rattle.client_run.specs.declared.run.Answer.{Answer}
use Rattle.client_run.specs.declared.run.Answer.TheVariants as answer
use Rattle.client_run.specs.declared.run.ClientRun.{ClientRun}
use Rattle.client_run.specs.declared.run.RunParameters.{RunParameters}
use Rattle.client.specs.Calls.{begin_call, reply_call, no_reply_call}
use Rattle.client_run.specs.Requests.{outstanding, outstanding_data}
use Rattle.client_run.specs.Run.{Lent, ClientCall, not_begun, answer_number}

-- A request issued: its fields, its data, and the run's file as it was issued
pub record Issue : Type 0 where
  pub request : Fields
  pub request_data : List ℕ
  pub file : List ℕ

-- "begin, reply arrived, no reply", with what each brings and is lent:
-- a begin has its run's parameters, a reply its bytes
pub data Event : Type 0 where
  Begin : RunParameters → Lent → Event
  Reply : List ℕ → Lent → Event
  NoReply : Lent → Event

-- The run, its payload and its file buffer as the calls so far left them, and the requests issued, the newest first
pub record Past : Type 0 where
  pub run : ClientRun
  pub payload : List ℕ
  pub file : List ℕ
  pub issues : List Issue

-- a run not begun
abbrev pub start : Past
start = record { run = not_begun; payload = []; file = []; issues = [] }

-- the segments that a download holds: those before the outstanding one, where N + 1 stands for the receipt
abbrev pub held_count : ClientRun → ℕ
held_count c = c.segment - 1

-- "A run's file is its file buffer up to the end of the last segment held"
abbrev pub held_of : ClientRun → List ℕ → List ℕ
held_of c file = take c.length file

-- the issue of the request that the run has outstanding
abbrev pub issue_of : ClientRun → List ℕ → List ℕ → ℕ → List ℕ → Issue
issue_of c payload file time nonce =
    record { request = outstanding c time nonce; request_data = outstanding_data c payload; file = held_of c file }

-- the run goes on with its request issued
abbrev pub issuing : ClientRun → List ℕ → List ℕ → ℕ → List ℕ → List Issue → Past
issuing c payload file time nonce issues =
    record { run = c; payload = payload; file = file; issues = issue_of c payload file time nonce ∷ issues }

-- what a call leaves, by its answer: a request issued is entered; a call given a number changes nothing
abbrev pub left : Result Answer Refusal → ClientCall → Lent → Past → Past
left (Ok (answer.Request n)) k l p = issuing k.run l.payload k.file l.time l.nonce p.issues
left (Ok answer.Ignored) k l p = record { run = k.run; payload = l.payload; file = k.file; issues = p.issues }
left (Ok (answer.Closed w)) k l p = record { run = k.run; payload = l.payload; file = k.file; issues = p.issues }
left (Err r) k l p = p

-- the call that an event is
abbrev pub call_of : Event → ClientRun → ClientCall
call_of (Begin params l) c = begin_call c params l
call_of (Reply frame l) c = reply_call c frame l
call_of (NoReply l) c = no_reply_call c l

abbrev pub lent_to : Event → Lent
lent_to (Begin params l) = l
lent_to (Reply frame l) = l
lent_to (NoReply l) = l

unfoldable pub after : Event → Past → Past
after e p = left (call_of e p.run).answer (call_of e p.run) (lent_to e) p

-- what a list of events leaves, the newest event first
unfoldable pub past_of : List Event → Past
past_of [] = start
past_of (e ∷ es) = after e (past_of es)

-- What the bank's replies are known to be. Given q d r e: the request with the fields q and the data d was given the
-- reply with r and e.
-- file_at t: the file in the mailbox at the opening of the transaction t
pub record BankReplies (Given : Fields → List ℕ → Fields → List ℕ → Type 0) (file_at : Bits128 → List ℕ) : Type 0 where
  -- "Reply forms": each but the unreadable request's has the request's exchange number
  pub same_exchange : {q r : Fields} {d e : List ℕ} → Given q d r e → is_reply_form (form r) ≡ true
      → (form r ≡ forms.Unreadable → ⊥)
      → exchange r ≡ exchange q
  -- "N is the file length divided by 256, rounded up"
  pub number : {q r : Fields} {d e : List ℕ} → Given q d r e → form r ≡ forms.DownloadOpened
      → segments r ≡ segments_of (length (file_at (transaction r)))
  -- a file of 0 bytes or too many is in no mailbox
  pub some : {q r : Fields} {d e : List ℕ} → Given q d r e → form r ≡ forms.DownloadOpened
      → 0 < length (file_at (transaction r))
  pub most : {q r : Fields} {d e : List ℕ} → Given q d r e → form r ≡ forms.DownloadOpened
      → length (file_at (transaction r)) ≤ file_bytes
  -- "segment 1 is in it"
  pub first : {q r : Fields} {d e : List ℕ} → Given q d r e → form r ≡ forms.DownloadOpened
      → e ≡ segment_of (file_at (transaction r)) 1
  -- "segments are 256 bytes but the last"
  pub part : {q r : Fields} {d e : List ℕ} → Given q d r e → form r ≡ forms.DownloadSegment
      → e ≡ segment_of (file_at (transaction r)) (segment r)

-- "Each call gets ... payload and file buffer as the last call not given a number left them at its end"
pub record Kept (l : Lent) (p : Past) : Type 0 where
  pub payload : l.payload ≡ p.payload
  pub file : l.file ≡ p.file

module _ (Given : Fields → List ℕ → Fields → List ℕ → Type 0) where
  -- "a reply is a copy of one the bank gave earlier for such a copy": for a request that the run issued before
  pub record GivenTo (frame : List ℕ) (p : Past) : Type 0 where
    pub issue : Issue
    pub own : In issue p.issues
    pub given : Given issue.request issue.request_data (read_reply frame) (data_of frame)

  -- "a call given a number may be lent others"; a begin is lent what its owner will
  abbrev pub Fair : Event → Past → Type 0
  Fair (Begin params l) p = Unit {0}
  Fair (Reply frame l) p = answer_number (reply_call p.run frame l).answer ≡ 0 → Kept l p × GivenTo frame p
  Fair (NoReply l) p = answer_number (no_reply_call p.run l).answer ≡ 0 → Kept l p

  abbrev pub AllFair : List Event → Type 0
  AllFair [] = Unit {0}
  AllFair (e ∷ es) = Fair e (past_of es) × AllFair es
