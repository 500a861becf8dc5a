-- Document 02, card 9: the calls of demand 3 with lines between the two ends, "two fresh ones for each run, one each
-- way, with its requests and the replies to them alone": what a call hands on, and what is put where.
use Rattle.std.specs.Prelude.{ℕ, ◌-◌, cond, List, [], ◌∷◌, ◌++◌, map, leb, length, take}
use Rattle.line.specs.Line.{Message, message_bytes, Line, made, put, out_of}
use Rattle.bank.specs.Call.{FrameInput}
use Rattle.bank_session.specs.Session.{LentSession}
use Rattle.exchange.specs.Course.{
  Call,
  frame_arrives,
  file_put,
  begins,
  reply_arrives,
  no_reply,
  journal_handed,
  puts_away,
  takes_up,
  Issue,
  Exchange,
  Course,
  start,
  changed,
  exec,
}

-- ---- A LINE IN USE

-- the line as it stands, and all that has come out of it, in its order
pub record InUse : Type 0 where
  pub line : Line
  pub out : List Message

-- a fresh line
abbrev pub unused : ℕ → InUse
unused seed = record { line = made seed; out = [] }

-- a message is put in; "longer ones get number 1", and change nothing
unfoldable pub carry : Message → InUse → InUse
carry m u =
    cond (leb (length m) message_bytes)
    (record { line = (put u.line m).next; out = u.out ++ out_of m (put u.line m) }) u

-- ---- THE LINES OF ALL RUNS

-- "two fresh ones for each run, one each way": run i's requests go into `requests i`, and what comes out of it to the
-- bank; the replies to these go into `replies i`, and what comes out of it to run i
pub record Lines : Type 0 where
  pub requests : ℕ → InUse
  pub replies : ℕ → InUse

-- the seed of each
pub record Seeds : Type 0 where
  pub requests : ℕ → ℕ
  pub replies : ℕ → ℕ

-- both ends and the lines between them
pub record Net : Type 0 where
  pub course : Course
  pub lines : Lines

unfoldable pub fresh_net : Seeds → Net
fresh_net seeds = record {
  course = start;
  lines = record { requests = λ i. unused (seeds.requests i); replies = λ i. unused (seeds.replies i) };
}

-- ---- A CALL, AND WHAT IT HANDS ON

-- a call of demand 3's list; of a frame it is said which run's line it came out of
pub data Move : Type 0 where
  -- a frame out of run i's request line: the run; the session lent, and what the frame's call brings
  to_bank : ℕ → LentSession → FrameInput → Move
  -- any other call; a frame among them came out of no line
  other : Call → Move

abbrev pub call_of : Move → Call
call_of (to_bank i m a) = frame_arrives m a
call_of (other k) = k

abbrev pub calls_of : List Move → List Call
calls_of ms = map call_of ms

-- a message that a call hands on
pub data Passed : Type 0 where
  -- out of run i's request line to the bank
  request : ℕ → Message → Passed
  -- to run i
  reply : ℕ → Message → Passed
  -- a frame out of no line
  stray : Message → Passed
  none : Passed

abbrev pub passed : Move → Passed
passed (to_bank i m a) = request i a.frame
passed (other (frame_arrives m a)) = stray a.frame
passed (other (file_put rows mailboxes m file)) = none
passed (other (begins i c params l)) = none
passed (other (reply_arrives i c bytes l)) = reply i bytes
passed (other (no_reply i c l)) = none
passed (other (journal_handed i c row)) = none
passed (other (puts_away m buffer)) = none
passed (other (takes_up m image)) = none

-- ---- WHAT IS PUT WHERE

-- a message for run i's line
pub record Sent : Type 0 where
  pub run : ℕ
  pub message : Message

-- messages put into their runs' lines, the last one first
abbrev pub send_all : List Sent → (ℕ → InUse) → ℕ → InUse
send_all [] us = us
send_all (x ∷ xs) us =
    let earlier = send_all xs us in changed earlier x.run (carry x.message (earlier x.run))

-- what a call has added in front of a list
abbrev pub added : {A : Type 0} → List A → List A → List A
added old now = take (length now - length old) now

-- "its requests": each one that a call issues, from the course s to t, goes into its run's request line
abbrev pub request_sent : Issue → Sent
request_sent x = record { run = x.run; message = x.frame }

abbrev pub requests_sent : Course → Course → List Sent
requests_sent s t = map request_sent (added s.issued t.issued)

-- "and the replies to them alone": the bank's reply to a frame out of run i's request line goes into run i's reply
-- line, and its reply to any other frame into none
abbrev pub reply_sent : ℕ → Exchange → Sent
reply_sent i e = record { run = i; message = e.reply }

abbrev pub replies_sent : Move → Course → Course → List Sent
replies_sent (to_bank i m a) s t = map (reply_sent i) (added s.exchanged t.exchanged)
replies_sent (other k) s t = []

-- both ends and the lines after a call that leaves the course t
abbrev pub net_by : Move → Course → Net → Net
net_by m t n = record {
  course = t;
  lines = record {
    requests = send_all (requests_sent n.course t) n.lines.requests;
    replies = send_all (replies_sent m n.course t) n.lines.replies;
  };
}

unfoldable pub next : Move → Net → Net
next m n = net_by m (exec (call_of m) n.course) n

unfoldable pub net_after : List Move → Net → Net
net_after [] n = n
net_after (m ∷ ms) n = net_after ms (next m n)
