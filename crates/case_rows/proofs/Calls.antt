-- A frame call by what is known of the lengths lent to it: no store is walked to see that they are right. Assumes nothing.
use mathlib.Core.Bool.{Bool, cond}
use mathlib.Core.Path.{◌≡◌, ap}
use Rattle.frame_reader.specs.Reader.{read_request}
use Rattle.frame_row.specs.Row.{data_of}
use Rattle.bank_state.specs.Clock.{advanced}
use Rattle.bank_state.specs.State.{BankState}
use Rattle.bank.specs.Call.{FrameCall, FrameInput, context_of, replied, respond, lent_right, frame_refused, frame_call}

abbrev pub frame_by : Bool → BankState → FrameInput → FrameCall
frame_by right w a =
    cond right
    (replied (respond (context_of a) (advanced a.time w) (read_request a.frame) (data_of a.frame)) a.buffer)
    (frame_refused w a)

pub frame-by : (w : BankState) (a : FrameInput) {right : Bool} → lent_right w a ≡ right → frame_call w a ≡ frame_by right w a
unfolding frame_call
frame-by w a e = ap (λ (right : Bool). frame_by right w a) e
