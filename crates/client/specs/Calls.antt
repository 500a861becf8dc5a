-- "begin, reply arrived, no reply": what each call leaves.
use Rattle.number_table.specs.declared.table.WrongLength.{WrongLength}
use Rattle.std.specs.Prelude.{Err, Ok, Result}
use Rattle.std.specs.Prelude.{ℕ, ◌+◌, List, [], length}
use Rattle.frame_table.specs.declared.fields.Fields.{Fields}
use Rattle.frame_reader.specs.Reader.{read_reply}
use Rattle.frame_table.specs.Names.{no_fields}
use Rattle.frame_row.specs.Row.{data_of}
use Rattle.frame_writer.specs.Writer.{write_answer, write_buffer}
use Rattle.client_run.specs.declared.run.Answer.{Answer}
use Rattle.client_run.specs.declared.run.Answer.TheVariants as answer
use Rattle.client_run.specs.declared.run.ClientRun.{ClientRun}
use Rattle.client_run.specs.declared.run.Decision.{Decision}
use Rattle.client_run.specs.declared.run.Decision.TheVariants.{Ignore, Opened, Advance, Return, Repeat, Close}
use Rattle.client_run.specs.declared.run.Refusal.{Refusal}
use Rattle.client_run.specs.declared.run.Refusal.TheVariants.{WrongBuffer}
use Rattle.client_run.specs.declared.run.RunParameters.{RunParameters}
use Rattle.client_run.specs.NextRun.{begin_length, begun, go_on, repeated, learned, holding, file_with, ended}
use Rattle.client_run.specs.Requests.{outstanding, outstanding_data}
use Rattle.client_run.specs.Run.{Lent, ClientCall, not_begun, lengths_of, answer_number}
use Rattle.client_rules.specs.Decisions.{on_reply, on_no_reply}
use Rattle.client_rules.specs.Rulings.{begin_ruling, run_ruling}
use Rattle.client.specs.declared.calls.Client.{Client}
use Rattle.client.specs.declared.calls.Outcome.{Outcome}

-- a client whose run is not begun
abbrev pub new_client : Client
new_client = record { run = not_begun }

-- what a call returns, by the next run and the answer
abbrev pub outcome : ClientRun → Result Answer Refusal → Outcome
outcome next a = record { client = record { run = next }; answer = a }

-- what a call leaves, from what it returns and the two buffers
abbrev pub call_of : Outcome → List ℕ → List ℕ → ClientCall
call_of o file request = record {
  run = o.client.run;
  file = file;
  request = request;
  answer = o.answer;
  number = answer_number o.answer;
}

-- what is left where the request is written, and where it is not
abbrev pub if_written : {A : Type 0} → Result ℕ WrongLength → A → A → A
if_written (Ok n) a b = a
if_written (Err e) a b = b

-- the next run with its request; a request that the writer refuses, which no run from a begin has, is number 5
abbrev pub outcome_of : Result ℕ WrongLength → ClientRun → ClientRun → Outcome
outcome_of (Ok n) c next = outcome next (Ok (answer.Request n))
outcome_of (Err e) c next = outcome c (Err WrongBuffer)

-- whether the outstanding request of the next run is written
unfoldable pub is_written : ClientRun → Lent → Result ℕ WrongLength
is_written next l = write_answer (outstanding next l.time l.nonce) (outstanding_data next l.payload) l.request

-- the request buffer then
unfoldable pub request_with : ClientRun → Lent → List ℕ
request_with next l =
    write_buffer (outstanding next l.time l.nonce) (outstanding_data next l.payload) l.request

-- the next run's request issued: the run goes on and the file buffer changes only where it is written
unfoldable pub issued : ClientRun → ClientRun → List ℕ → Lent → ClientCall
issued c next file l =
    call_of (outcome_of (is_written next l) c next) (if_written (is_written next l) file l.file) (request_with next l)

-- the segment that the run k has outstanding is answered with the data d: held, and the request after it issued
unfoldable pub taken : ClientRun → ClientRun → List ℕ → Lent → ClientCall
taken c k d l = issued c (go_on k.segment k.repeats (holding (length d) k)) (file_with k d l.file) l

-- what returns with both buffers as they were
abbrev pub unchanged : Outcome → Lent → ClientCall
unchanged o l = call_of o l.file l.request

-- *The client's owner* "(nothing changed)"
abbrev pub refused : Refusal → ClientRun → Lent → ClientCall
refused r c l = unchanged (outcome c (Err r)) l

-- what a decision makes of the run and the buffers; r and d are the reply's fields and data
abbrev pub carry_out : Decision → ClientRun → Fields → List ℕ → Lent → ClientCall
carry_out Ignore c r d l = unchanged (outcome c (Ok answer.Ignored)) l
carry_out Opened c r d l = taken c (learned c.direction r c) d l
carry_out Advance c r d l = taken c c d l
carry_out (Return s) c r d l = issued c (go_on s (c.repeats + 1) c) l.file l
carry_out Repeat c r d l = issued c (repeated c) l.file l
carry_out (Close w) c r d l = unchanged (outcome (ended w c) (Ok (answer.Closed w))) l

-- numbers 1 and 5 to 8 first: a call that is given one changes nothing, an admitted one is carried out
abbrev pub if_admitted : Result (Unit {0}) Refusal → ClientRun → Lent → ClientCall → ClientCall
if_admitted (Err x) c l done = refused x c l
if_admitted (Ok u) c l done = done

-- begin
abbrev pub admitted_begin : ClientRun → RunParameters → Lent → ClientCall
admitted_begin c params l =
    issued c (begun params (begin_length params.direction (lengths_of l))) l.file l

unfoldable pub begin_call : ClientRun → RunParameters → Lent → ClientCall
begin_call c params l =
    if_admitted (begin_ruling c params l.time (lengths_of l)) c l (admitted_begin c params l)

-- reply arrived: only an admitted call reads it
abbrev pub admitted_reply : ClientRun → List ℕ → Lent → ClientCall
admitted_reply c frame l =
    carry_out (on_reply c (read_reply frame) (length (data_of frame))) c (read_reply frame) (data_of frame) l

unfoldable pub reply_call : ClientRun → List ℕ → Lent → ClientCall
reply_call c frame l = if_admitted (run_ruling c l.time (lengths_of l)) c l (admitted_reply c frame l)

-- no reply
abbrev pub admitted_no_reply : ClientRun → Lent → ClientCall
admitted_no_reply c l = carry_out (on_no_reply c) c no_fields [] l

unfoldable pub no_reply_call : ClientRun → Lent → ClientCall
no_reply_call c l = if_admitted (run_ruling c l.time (lengths_of l)) c l (admitted_no_reply c l)
