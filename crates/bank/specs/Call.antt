-- A frame arrives: the lent lengths, the clock and the drops, the reading, the verdict carried out, and the reply.
use Rattle.number_table.specs.Numbers.{number_one}
use Rattle.number_table.specs.declared.table.WrongLength.{WrongLength}
use Rattle.std.specs.Prelude.{Err, Ok, Result}
use Rattle.std.specs.Prelude.{ℕ, ◌-◌, ◌^◌, ◌≤◌, ◌<◌, ◌≡◌, Bool, true, cond, ◌&&◌, List, [], leb, eqb, length, take}
use Rattle.number_table.specs.Table as numbers
use Rattle.frame_table.specs.declared.fields.Fields.{Fields}
use Rattle.octets.specs.Bytes.{number}
use Rattle.frame_table.specs.Names.{phase, subscriber, exchange, transaction, return_code, form}
use Rattle.frame_reader.specs.Reader.{read_request, read_reply}
use Rattle.frame_row.specs.Row.{data_of}
use Rattle.frame_table.specs.Table.{is_request_form, is_reply_form, last_time}
use Rattle.frame_writer.specs.Writer.{accepted, write_answer, write_buffer}
use Rattle.message.specs.Segments.{segment_of}
use Rattle.bank_state.specs.Clock.{advanced}
use Rattle.bank_state.specs.Limits.{store_bytes, id_bytes, reply_room, idle_others}
use Rattle.bank_state.specs.State.{BankState, file_length}
use Rattle.bank_state.specs.Store.{file_of}
use Rattle.bank_verdicts.specs.declared.verdict.Context.{Context}
use Rattle.bank_verdicts.specs.declared.verdict.Verdict.{Verdict}
use Rattle.bank_verdicts.specs.declared.verdict.Verdict.TheVariants as verdict
use Rattle.bank_verdicts.specs.Judgement.{judge}
use Rattle.bank_verdicts.specs.Replies.{reply_to, segment_in}
use Rattle.bank_steps.specs.Steps.{carry_out}

-- what a request comes to: its verdict, the bank and its stores after it, and the reply's fields and data
pub record Step : Type 0 where
  pub verdict : Verdict
  pub bank_state : BankState
  pub reply : Fields
  pub reply_data : List ℕ

-- ---- the request

-- what a reply takes over from a request is in the width of its field
pub record InWidth (q : Fields) : Type 0 where
  pub some : 1 ≤ phase q
  pub most : phase q ≤ 3
  pub numbered : exchange q < 2 ^ 32
  pub wide : ((transaction q).high < 2 ^ 64) × ((transaction q).low < 2 ^ 64)

-- as it is where a request was read
abbrev pub Bounded : Fields → Type 0
Bounded q = is_request_form (form q) ≡ true → InWidth q

-- ---- the reply

-- the bytes of segment s of a subscriber's file of n bytes; segment 0 stands for none
abbrev pub file_segment : List ℕ → ℕ → ℕ → ℕ → List ℕ
file_segment mailboxes subscriber n s = cond (eqb s 0) [] (segment_of (file_of mailboxes (subscriber - 1) n) s)

-- the bytes of segment s of a subscriber's mailbox
unfoldable pub mailbox_segment : BankState → ℕ → ℕ → List ℕ
mailbox_segment w subscriber s = file_segment w.mailboxes subscriber (file_length subscriber w.bank.files) s

-- what a verdict on the request q with the data d comes to
abbrev pub step_by : Verdict → BankState → Fields → List ℕ → Step
step_by v w q d = record {
  verdict = v;
  bank_state = carry_out v w q d;
  reply = reply_to v q;
  reply_data = mailbox_segment w (subscriber q) (segment_in v q);
}

-- a request, read, at the clock that the call has set; d is its data
unfoldable pub respond : Context → BankState → Fields → List ℕ → Step
respond c w q d = step_by (judge c w.bank q (length d)) w q d

-- the reply written: "reply bytes behind the reply are untouched"
abbrev pub answer_of : Result ℕ WrongLength → Result ℕ WrongLength
answer_of (Ok n) = Ok n
answer_of (Err e) = Err number_one

-- document 01's number for an answer, 0 where there is a reply
abbrev pub frame_number : Result ℕ WrongLength → ℕ
frame_number (Ok n) = 0
frame_number (Err e) = numbers.wrong_length

-- the return code of the reply in the buffer; 0 where there is none
abbrev pub reply_code : Result ℕ WrongLength → List ℕ → ℕ
reply_code (Ok n) buffer = return_code (read_reply (take n buffer))
reply_code (Err e) buffer = 0

-- a reply, f with the data d, that can be written into old
abbrev pub Sendable : Fields → List ℕ → List ℕ → Type 0
Sendable f d old = (accepted f d old ≡ true) × (is_reply_form (form f) ≡ true)

-- what is left where f with the data d was to be written into old
pub record SentAs (f : Fields) (d old : List ℕ) (a : Result ℕ WrongLength) (code : ℕ) (buffer : List ℕ) : Type 0 where
  pub answered : a ≡ answer_of (write_answer f d old)
  pub written : buffer ≡ write_buffer f d old
  pub coded : code ≡ reply_code (answer_of (write_answer f d old)) (write_buffer f d old)

-- what a call leaves: the bank, stores, the reply buffer, the answer, document 01's number for it, the reply's code
pub record FrameCall : Type 0 where
  pub bank_state : BankState
  pub buffer : List ℕ
  pub answer : Result ℕ WrongLength
  pub number : ℕ
  pub code : ℕ

abbrev pub replied : Step → List ℕ → FrameCall
replied s buffer = record {
  bank_state = s.bank_state;
  buffer = write_buffer s.reply s.reply_data buffer;
  answer = answer_of (write_answer s.reply s.reply_data buffer);
  number = frame_number (answer_of (write_answer s.reply s.reply_data buffer));
  code =
      reply_code (answer_of (write_answer s.reply s.reply_data buffer))
      (write_buffer s.reply s.reply_data buffer);
}

-- what a frame call brings and is lent besides the bank: the bank time, the 8 ID bytes, the frame, the reply buffer, and
-- what the other banks count of the open transactions that all share
pub record FrameInput : Type 0 where
  pub time : ℕ
  pub ids : List ℕ
  pub frame : List ℕ
  pub buffer : List ℕ
  pub others : ℕ

-- what its request is judged with
abbrev pub context_of : FrameInput → Context
context_of a = record { prefix = number a.ids; others = a.others }

-- the other banks being idle
abbrev pub frame_input : ℕ → List ℕ → List ℕ → List ℕ → FrameInput
frame_input time ids frame buffer =
    record { time = time; ids = ids; frame = frame; buffer = buffer; others = idle_others }

-- number 1 but for this: "a lent length differs from the above or is too short for what is to be written"
abbrev pub lent_long : BankState → FrameInput → Bool
lent_long w a =
    eqb (length w.orders) store_bytes && eqb (length w.mailboxes) store_bytes && eqb (length a.ids) id_bytes
    && leb reply_room (length a.buffer)

-- and but for this, of card 3: values over the last time get "as bank or client time number 1"
unfoldable pub lent_right : BankState → FrameInput → Bool
lent_right w a = lent_long w a && leb a.time last_time

-- what a call brings and is lent besides the bank where none of it gets number 1
pub record RightInput (a : FrameInput) : Type 0 where
  pub ids : length a.ids ≡ id_bytes
  pub room : reply_room ≤ length a.buffer
  pub in_time : a.time ≤ last_time

-- number 1, nothing changed
abbrev pub frame_refused : BankState → FrameInput → FrameCall
frame_refused w a =
    record { bank_state = w; buffer = a.buffer; answer = Err number_one; number = frame_number (Err number_one); code = 0 }

-- a frame arrives
unfoldable pub frame_call : BankState → FrameInput → FrameCall
frame_call w a =
    cond (lent_right w a)
    (replied (respond (context_of a) (advanced a.time w) (read_request a.frame) (data_of a.frame))
    a.buffer)
    (frame_refused w a)

-- the verdict on the request of a frame call, with the bank before the call
abbrev pub call_verdict : BankState → FrameInput → Verdict
call_verdict w a =
    (respond (context_of a) (advanced a.time w) (read_request a.frame) (data_of a.frame)).verdict

-- a call given number 1 has none: one that does nothing stands for it
abbrev pub verdict_by : Result ℕ WrongLength → Verdict → Verdict
verdict_by (Ok n) v = v
verdict_by (Err e) v = verdict.Unreadable
