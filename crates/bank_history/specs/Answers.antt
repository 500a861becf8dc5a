-- "Every frame gets its reply": calls whose lent bytes are bytes, and what the answer to a frame is, as bytes.
use Rattle.std.specs.Prelude.{Ok}
use Rattle.std.specs.Prelude.{ℕ, ◌≤◌, List, [], ◌∷◌, ◌≡◌, take, drop}
use Rattle.frame_reader.specs.Reader.{read_reply}
use Rattle.frame_row.specs.Row.{data_of}
use Rattle.frame_writer.specs.Writer.{reply_room, smallest_reply}
use Rattle.octets.specs.Bytes.{Bytes}
use Rattle.bank.specs.Call.{FrameCall}
use Rattle.bank_history.specs.History.{Exchange, BankCall, Frame, File}

-- the lent ID bytes and the frame of a call, or its file, are bytes
abbrev pub BytesIn : BankCall → Type 0
BytesIn (Frame a) = Bytes a.ids × Bytes a.frame
BytesIn (File mailbox file) = Bytes file

pub data AllBytes : List BankCall → Type 0 where
  none : AllBytes []
  more : {c : BankCall} {calls : List BankCall} → BytesIn c → AllBytes calls → AllBytes (c ∷ calls)

-- the call c into the buffer old is answered by a frame, which says the reply of the exchange e with its data;
-- "reply bytes behind the reply are untouched"
pub record FrameAnswered (c : FrameCall) (old : List ℕ) (e : Exchange) : Type 0 where
  pub size : ℕ
  pub answer : c.answer ≡ Ok size
  pub least : smallest_reply ≤ size
  pub most : size ≤ reply_room
  pub fields : read_reply (take size c.buffer) ≡ e.reply
  pub contents : data_of (take size c.buffer) ≡ e.reply_data
  pub untouched : drop size c.buffer ≡ drop size old
