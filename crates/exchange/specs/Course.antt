-- A list of calls to one bank and to client runs, and what it leaves: the steps are the definitions that the calls'
-- contracts cite.
use Rattle.client_run.specs.declared.run.Refusal.{Refusal}
use Rattle.number_table.specs.declared.table.WrongLength.{WrongLength}
use Rattle.std.specs.Prelude.{Err, Ok, Result}
use Rattle.std.specs.Prelude.{ℕ, ◌-◌, cond, List, [], ◌∷◌, eqb, take, replicate}
use Rattle.frame_table.specs.Names.{subscriber, return_code}
use Rattle.frame_reader.specs.Reader.{read_request, read_reply}
use Rattle.message.specs.declared.codes.ReturnCode.TheVariants as code
use Rattle.message.specs.Codes.{code_field}
use Rattle.journal.specs.declared.event.Event.{Event}
use Rattle.journal.specs.Row.{Journal, empty_row}
use Rattle.bank_state.specs.State.{Bank}
use Rattle.bank_state.specs.Clock.{advanced}
use Rattle.bank_state.specs.Limits.{store_bytes}
use Rattle.bank_state.specs.State.{BankState, bank_state, fresh, file_length}
use Rattle.bank_state.specs.Store.{file_of}
use Rattle.bank_rows.specs.State.{bank_of}
use Rattle.bank_steps.specs.Lent.{state_of}
use Rattle.bank.specs.Call.{FrameInput}
use Rattle.bank_session.specs.Session.{LentSession, bank_rows, bank_in, journal_in, session_frame_call, session_file_call}
use Rattle.image_calls.specs.Calls.{PutAway, put_away, take_up, image_length}
use Rattle.client_run.specs.declared.run.Answer.{Answer}
use Rattle.client_run.specs.declared.run.Answer.TheVariants as answer
use Rattle.client_run.specs.declared.run.ClientRun.{ClientRun}
use Rattle.client_run.specs.declared.run.RunParameters.{RunParameters}
use Rattle.client.specs.Calls.{begin_call, reply_call, no_reply_call}
use Rattle.client.specs.Journal.{journal_call}
use Rattle.client_run.specs.Run.{Lent, ClientCall, not_begun, answer_number}

-- A call with everything that it brings and is lent; client runs are told apart by a number
pub data Call : Type 0 where
  -- a frame to the bank: the session; the bank time, the 8 ID bytes, the frame, the reply buffer and the others' count
  frame_arrives : LentSession → FrameInput → Call
  -- a file into a mailbox: the session's numbers, the mailboxes' store, the mailbox, the file
  file_put : List ℕ → List ℕ → ℕ → List ℕ → Call
  -- begin: direction, subscriber, first exchange number
  begins : ℕ → ClientRun → RunParameters → Lent → Call
  -- reply arrived: its bytes
  reply_arrives : ℕ → ClientRun → List ℕ → Lent → Call
  -- no reply
  no_reply : ℕ → ClientRun → Lent → Call
  -- a run is handed the journal: its row
  journal_handed : ℕ → ClientRun → List Event → Call
  -- a session is put away: the session, the buffer
  puts_away : LentSession → List ℕ → Call
  -- a session is taken up: the session lent, whatever stands there; the image
  takes_up : LentSession → List ℕ → Call

-- a request issued: by which run, its bytes, and as it was issued the run's file and the file that its subscriber's
-- mailbox held
pub record Issue : Type 0 where
  pub run : ℕ
  pub frame : List ℕ
  pub file : List ℕ
  pub box : List ℕ

-- a frame and the reply that the bank gave it, the clock then, and the file that the mailbox of the frame's subscriber
-- held as the frame came: after clock and drops, before the answer
pub record Exchange : Type 0 where
  pub request : List ℕ
  pub reply : List ℕ
  pub clock : ℕ
  pub box : List ℕ

-- a reply that reached a run
pub record Arrival : Type 0 where
  pub run : ℕ
  pub reply : List ℕ

-- What a list of calls has left: at the bank's end with its journal, at each run's end, the file last put into each
-- mailbox and not emptied by 011000, and all that was issued, exchanged and arrived, the newest first; and the images
-- written since the bank's last frame or file call given no number
pub record Course : Type 0 where
  pub bank : BankState
  pub journal : Journal
  pub runs : ℕ → ClientRun
  pub payloads : ℕ → List ℕ
  pub files : ℕ → List ℕ
  pub mailboxes : ℕ → List ℕ
  pub issued : List Issue
  pub exchanged : List Exchange
  pub arrived : List Arrival
  pub images : List (List ℕ)

-- a fresh bank with every lent byte 0, no event in its journal, no run begun, and no image written
unfoldable pub start : Course
start = record {
  bank = bank_state fresh (replicate store_bytes 0) (replicate store_bytes 0);
  journal = record { events = 0; row = empty_row };
  runs = λ i. not_begun;
  payloads = λ i. [];
  files = λ i. [];
  mailboxes = λ m. [];
  issued = [];
  exchanged = [];
  arrived = [];
  images = [];
}

abbrev pub changed : {A : Type 0} → (ℕ → A) → ℕ → A → ℕ → A
changed f i a j = cond (eqb j i) a (f j)

-- ---- THE COURSE WITH ONE PART CHANGED

abbrev pub with_bank : BankState → Course → Course
with_bank w s = record {
  bank = w;
  journal = s.journal;
  runs = s.runs;
  payloads = s.payloads;
  files = s.files;
  mailboxes = s.mailboxes;
  issued = s.issued;
  exchanged = s.exchanged;
  arrived = s.arrived;
  images = s.images;
}

abbrev pub with_journal : Journal → Course → Course
with_journal j s = record {
  bank = s.bank;
  journal = j;
  runs = s.runs;
  payloads = s.payloads;
  files = s.files;
  mailboxes = s.mailboxes;
  issued = s.issued;
  exchanged = s.exchanged;
  arrived = s.arrived;
  images = s.images;
}

abbrev pub with_runs : (ℕ → ClientRun) → Course → Course
with_runs runs s = record {
  bank = s.bank;
  journal = s.journal;
  runs = runs;
  payloads = s.payloads;
  files = s.files;
  mailboxes = s.mailboxes;
  issued = s.issued;
  exchanged = s.exchanged;
  arrived = s.arrived;
  images = s.images;
}

-- run i, its payload and its file buffer
abbrev pub with_run : ℕ → ClientRun → List ℕ → List ℕ → Course → Course
with_run i c payload file s = record {
  bank = s.bank;
  journal = s.journal;
  runs = changed s.runs i c;
  payloads = changed s.payloads i payload;
  files = changed s.files i file;
  mailboxes = s.mailboxes;
  issued = s.issued;
  exchanged = s.exchanged;
  arrived = s.arrived;
  images = s.images;
}

abbrev pub with_mailboxes : (ℕ → List ℕ) → Course → Course
with_mailboxes m s = record {
  bank = s.bank;
  journal = s.journal;
  runs = s.runs;
  payloads = s.payloads;
  files = s.files;
  mailboxes = m;
  issued = s.issued;
  exchanged = s.exchanged;
  arrived = s.arrived;
  images = s.images;
}

abbrev pub with_issued : List Issue → Course → Course
with_issued l s = record {
  bank = s.bank;
  journal = s.journal;
  runs = s.runs;
  payloads = s.payloads;
  files = s.files;
  mailboxes = s.mailboxes;
  issued = l;
  exchanged = s.exchanged;
  arrived = s.arrived;
  images = s.images;
}

abbrev pub with_exchanged : List Exchange → Course → Course
with_exchanged l s = record {
  bank = s.bank;
  journal = s.journal;
  runs = s.runs;
  payloads = s.payloads;
  files = s.files;
  mailboxes = s.mailboxes;
  issued = s.issued;
  exchanged = l;
  arrived = s.arrived;
  images = s.images;
}

abbrev pub with_arrived : List Arrival → Course → Course
with_arrived l s = record {
  bank = s.bank;
  journal = s.journal;
  runs = s.runs;
  payloads = s.payloads;
  files = s.files;
  mailboxes = s.mailboxes;
  issued = s.issued;
  exchanged = s.exchanged;
  arrived = l;
  images = s.images;
}

abbrev pub with_images : List (List ℕ) → Course → Course
with_images l s = record {
  bank = s.bank;
  journal = s.journal;
  runs = s.runs;
  payloads = s.payloads;
  files = s.files;
  mailboxes = s.mailboxes;
  issued = s.issued;
  exchanged = s.exchanged;
  arrived = s.arrived;
  images = l;
}

-- ---- FILES

-- the file that a subscriber's mailbox holds
unfoldable pub mailbox_of : BankState → ℕ → List ℕ
mailbox_of w m = file_of w.mailboxes (m - 1) (file_length m w.bank.files)

-- "A run's file is its file buffer up to the end of the last segment held"
unfoldable pub held_of : ClientRun → List ℕ → List ℕ
held_of c file = take c.length file

-- the mailbox of the request's subscriber is emptied by 011000
unfoldable pub emptied : List ℕ → List ℕ → (ℕ → List ℕ) → ℕ → List ℕ
emptied request reply mailboxes =
    cond (eqb (return_code (read_reply reply)) (code_field code.DownloadPostprocessDone))
    (changed mailboxes (subscriber (read_request request)) []) mailboxes

-- ---- ONE CALL

-- document 01's number for a call, 0 where it is given none: the one that the host or the run's owner is told
abbrev pub call_number : Call → ℕ
call_number (frame_arrives m a) = (session_frame_call m a).number
call_number (file_put rows mailboxes m file) = (session_file_call rows m file mailboxes).number
call_number (begins i c params l) = answer_number (begin_call c params l).answer
call_number (reply_arrives i c reply l) = answer_number (reply_call c reply l).answer
call_number (no_reply i c l) = answer_number (no_reply_call c l).answer
call_number (journal_handed i c row) = (journal_call c row).number
call_number (puts_away m buffer) = (put_away m buffer).number
call_number (takes_up m image) = (take_up m image).number

-- the reply in the lent buffer
abbrev pub reply_in : Result ℕ WrongLength → List ℕ → List ℕ
reply_in (Ok n) buffer = take n buffer
reply_in (Err e) buffer = []

-- the bank moved: an image written before is not of the bank as it stands
abbrev pub moved : BankState → Course → Course
moved w s = with_bank w (with_images [] s)

-- a frame answered: the reply, the bank after the answer, and after clock and drops before it
abbrev pub after_frame : List ℕ → BankState → BankState → List ℕ → Course → Course
after_frame reply now before request s =
    moved now
    (with_mailboxes (emptied request reply s.mailboxes)
    (with_exchanged
    (record {
      request = request;
      reply = reply;
      clock = now.bank.clock;
      box = mailbox_of before (subscriber (read_request request));
    }
    ∷ s.exchanged) s))

-- a file put into mailbox m: the bank and the mailboxes' store after it
abbrev pub after_file : Bank → List ℕ → ℕ → List ℕ → Course → Course
after_file b mailboxes m file s =
    moved (bank_state b s.bank.orders mailboxes) (with_mailboxes (changed s.mailboxes m file) s)

-- the requests issued, with the one of n bytes that a call of run i issues
abbrev pub issued_by : Result Answer Refusal → ℕ → ClientCall → Course → List Issue
issued_by (Ok (answer.Request n)) i k s =
    record {
      run = i;
      frame = take n k.request;
      file = held_of k.run k.file;
      box = mailbox_of s.bank k.run.subscriber;
    }
    ∷ s.issued
issued_by (Ok answer.Ignored) i k s = s.issued
issued_by (Ok (answer.Closed w)) i k s = s.issued
issued_by (Err r) i k s = s.issued

-- a call of run i
abbrev pub after_run : ℕ → ClientCall → List ℕ → Course → Course
after_run i k payload s = with_run i k.run payload k.file (with_issued (issued_by k.answer i k s) s)

-- the image in the buffer, the newest
abbrev pub after_put : PutAway → Course → Course
after_put k s = with_images (take image_length k.buffer ∷ s.images) s

-- the session taken up
abbrev pub after_taken : LentSession → Course → Course
after_taken m s = with_bank (state_of (bank_in m)) (with_journal (journal_in m) s)

-- what a call given no number leaves
abbrev pub carry_out : Call → Course → Course
carry_out (frame_arrives m a) s =
    let k = session_frame_call m a in
    with_journal (journal_in k.session)
    (after_frame (reply_in k.answer k.buffer) (state_of (bank_in k.session))
    (advanced a.time (state_of (bank_in m))) a.frame s)
carry_out (file_put rows mailboxes m file) s =
    let k = session_file_call rows m file mailboxes in after_file (bank_of (bank_rows k.rows)) k.mailboxes m file s
carry_out (begins i c params l) s = after_run i (begin_call c params l) l.payload s
carry_out (reply_arrives i c reply l) s =
    with_arrived (record { run = i; reply = reply } ∷ s.arrived) (after_run i (reply_call c reply l) l.payload s)
carry_out (no_reply i c l) s = after_run i (no_reply_call c l) l.payload s
carry_out (journal_handed i c row) s = with_runs (changed s.runs i (journal_call c row).run) s
carry_out (puts_away m buffer) s = after_put (put_away m buffer) s
carry_out (takes_up m image) s = after_taken (take_up m image).session s

-- the course after one call, "a number, nothing changed", and after a list of calls
unfoldable pub exec : Call → Course → Course
exec k s = cond (eqb (call_number k) 0) (carry_out k s) s

unfoldable pub after : List Call → Course → Course
after [] s = s
after (k ∷ ks) s = after ks (exec k s)
