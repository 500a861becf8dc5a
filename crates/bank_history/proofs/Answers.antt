-- Every frame gets its reply: a frame that its buffer has room for, which reads as the reply's fields and its data.
use Prim.Native.Nat.{ℕ, ◌^◌, ◌≤◌, ◌<◌}
use mathlib.Core.Bool.{Bool, true, false}
use mathlib.Core.List.{List}
use mathlib.Core.Path.{◌≡◌, refl, ap, ◌∙◌}
use native.Mathlib.Omega.{arith}
use lib.ListN.{length}
use Rattle.octets.specs.Bytes.{Bytes, number}
use Rattle.frame_reader.specs.Reader.{read_request}
use Rattle.frame_row.specs.Row.{data_of}
use Rattle.frame_writer.specs.Writer.{frame_of}
use Rattle.octets.proofs.Numbers.{number_small}
use Rattle.frame_writer.proofs.Written.{written-in-front, written_behind}
use Rattle.frame.proofs.Theorems.{data-read, reply-read}
use Rattle.bank_state.specs.Clock.{advanced}
use Rattle.bank_state.specs.Limits.{id_bytes}
use Rattle.bank_state.specs.State.{BankState}
use Rattle.bank_state.proofs.Drops.{advanced-sized}
use Rattle.bank_sound.specs.Sound.{InRange}
use Rattle.bank_sound.proofs.Range.{advanced-range}
use Rattle.bank.specs.Call.{context_of, Step, respond, lent_right, frame_call, FrameInput, RightInput}
use Rattle.bank.proofs.Right.{right-told, right-tested}
use Rattle.bank.proofs.RequestBounds.{request-in-width}
use Rattle.bank.proofs.WrittenReplies.{WrittenReply, respond-written}
use Rattle.bank_history.specs.History.{Past, BankCall, Frame, exchange_of, after, past_of, call_exchange}
use Rattle.bank_admitted.specs.State.{Sizes}
use Rattle.bank_history.specs.Transactions.{answered}
use Rattle.bank_history.specs.Answers.{FrameAnswered}
use Rattle.bank_admitted.proofs.Clock.{sized}
use Rattle.bank_history.proofs.InRange.{in-range}
use Rattle.bank_history.proofs.Keeps.{past-holds}
use Rattle.bank_history.proofs.Answered.{frame-answered}

-- ---- the lent bytes

-- the lent ID bytes are a number of 64 bits
ids-lt : (ids : List ℕ) → Bytes ids → length ids ≡ id_bytes → number ids < 2 ^ 64
ids-lt ids b long = number_small id_bytes ids b long

-- ---- every reply

-- the answer to a request of a frame
abbrev pub step_of : BankState → FrameInput → Step
step_of w a = respond (context_of a) (advanced a.time w) (read_request a.frame) (data_of a.frame)

-- a bank in range, with stores of their lengths, and a call that brings bytes
module _ (w : BankState) (range : InRange w.bank) (sizes : Sizes w) (a : FrameInput)
    (ids_bytes : Bytes a.ids) (frame_bytes : Bytes a.frame) where
  pub reply-written : length a.ids ≡ id_bytes → WrittenReply (step_of w a).reply (step_of w a).reply_data
  reply-written right =
      let long = advanced-sized a.time w (sized sizes) in
      respond-written (context_of a) (advanced a.time w) (read_request a.frame) (data_of a.frame)
      (ids-lt a.ids ids_bytes right) (advanced-range a.time w range) long.places long.downloads long.mailboxes
      (request-in-width a.frame frame_bytes)

  -- its answer is the reply, in front of the buffer
  pub call-answered : RightInput a → FrameAnswered (frame_call w a) a.buffer (call_exchange w a)
  unfolding frame_call exchange_of
  call-answered right =
      let r = reply-written right.ids in
      let t = r.written in
      let s : Step = step_of w a in
      let n : ℕ = length (frame_of s.reply s.reply_data) in
      let ready = right-tested w a sizes.orders sizes.mailboxes right in
      let fits : n ≤ length a.buffer = omega (arith, right.room, r.most) in
      let front = (written-in-front s.reply s.reply_data a.buffer n t.accepted refl fits).0 in
      record {
        size = n;
        answer = rw (ready, front);
        least = r.least;
        most = r.most;
        fields = rw ready (reply-read s.reply s.reply_data a.buffer n t.long front r.kind);
        contents = rw ready (data-read s.reply s.reply_data a.buffer n t.long front);
        untouched = rw ready (written_behind s.reply s.reply_data a.buffer n front);
      }

-- ---- in every past

module _ (calls : List BankCall) (a : FrameInput) (ids_bytes : Bytes a.ids) (frame_bytes : Bytes a.frame) where
  abbrev past : Past
  past = past_of calls

  -- "a number, nothing changed" comes of a wrong lent length or a late time alone; every other frame gets its reply
  pub frame-gets-reply : RightInput a →
      FrameAnswered (frame_call past.bank_state a) a.buffer (call_exchange past.bank_state a)
  frame-gets-reply =
      let v = (past-holds calls).invariant in
      call-answered past.bank_state (in-range v) v.state.sizes a ids_bytes frame_bytes

  -- and its exchange enters the history
  pub frame-entered : RightInput a → after (Frame a) past ≡ answered a past
  frame-entered right =
      let holds = past-holds calls in
      let v = holds.invariant in
      let r = reply-written past.bank_state (in-range v) v.state.sizes a ids_bytes frame_bytes right.ids in
      frame-answered a past holds right (r.written.accepted, r.most)

  -- the history's bank is the bank that the call leaves
  pub same-bank : (after (Frame a) past).bank_state ≡ (frame_call past.bank_state a).bank_state
  unfolding after frame_call
  same-bank = at (lent_right past.bank_state a) refl
    where
      at : (b : Bool) → lent_right past.bank_state a ≡ b →
          (after (Frame a) past).bank_state ≡ (frame_call past.bank_state a).bank_state
      at true e = ap (λ (r : Past). r.bank_state) (frame-entered (right-told past.bank_state a e).2) ∙ rw e
      at false e = rw e
