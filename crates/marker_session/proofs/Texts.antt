-- How long the lines are at most, and their code. Assumes nothing.
use Rattle.number_table.specs.declared.table.WrongLength.{WrongLength}
use Rattle.std.specs.Prelude.{Err, Ok, Result}
use Prim.Native.Nat.{ℕ, ◌≤◌}
use mathlib.Core.List.{List, [], ◌∷◌, ◌++◌}
use mathlib.Core.Bool.{Bool, true, false, cond}
use mathlib.Core.Path.{◌≡◌, refl}
use native.Mathlib.Omega.{arith}
use lib.ListN.{length, take, length-append}
use Rattle.frame_table.specs.Names.{return_code}
use Rattle.frame_reader.specs.Reader.{read_request, read_reply}
use Rattle.print.specs.Text.{code_digits, digit_count_to, digit_count, decimal, space, newline, column}
use Rattle.print.proofs.Digits.{length-digits_in, column-most}
use Rattle.frame_row.specs.Row.{data_of}
use Rattle.bank_state.specs.State.{BankState}
use Rattle.bank_state.specs.Clock.{advanced}
use Rattle.bank_sound.specs.Sound.{is_sound}
use Rattle.bank.specs.Call.{context_of, Step, FrameInput, respond, replied, reply_code, lent_right, frame_refused, frame_call}
use Rattle.bank_steps.specs.Lent.{Lent, state_of}
use Rattle.bank.specs.Lent.{LentFrameCall, kept_frame, frame_turned_away, lent_frame_call}
use Rattle.marker_column.specs.Offset.{request_offset}
use Rattle.marker_column.proofs.Offsets.{offset-most}
use Rattle.marker_session.specs.Lines.{code_of, answer_text, is_answered, offset_text, line_of, coded_text, coded_line, line_room}

pub answer-most : (a : Result ℕ WrongLength) (buffer : List ℕ) → length (answer_text a buffer) ≤ code_digits
unfolding code_of decimal digit_count digit_count_to
answer-most (Ok n) buffer = omega (arith, length-digits_in 256 0 code_digits (return_code (read_reply (take n buffer))))
answer-most (Err e) buffer = omega (arith, length-digits_in 10 48 1 1)

pub coded-most : (a : Result ℕ WrongLength) (code : ℕ) → length (coded_text a code) ≤ code_digits
unfolding decimal digit_count digit_count_to
coded-most (Ok n) code = omega (arith, length-digits_in 256 0 code_digits code)
coded-most (Err e) code = omega (arith, length-digits_in 10 48 1 1)

-- the line goes by the return code of the reply in the buffer, and where there is a reply by the clock
pub coded-line : (n : ℕ) (a : Result ℕ WrongLength) (buffer : List ℕ) (code : ℕ) (frame : List ℕ) {clock c : ℕ}
    → code ≡ reply_code a buffer → ((k : ℕ) → a ≡ Ok k → clock ≡ c)
    → coded_line n a code (read_request frame) clock ≡ line_of n a buffer frame c
unfolding coded_line line_of code_of request_offset
coded-line n (Ok k) buffer code frame e f = rw (e, f k refl)
coded-line n (Err x) buffer code frame e f = refl

-- a call's code is that of the reply that it leaves in the buffer
module _ (m : Lent) (a : FrameInput) where
  abbrev coded : LentFrameCall → Type 0
  coded r = r.code ≡ reply_code r.answer r.buffer

  by_lengths : (s : Step) (w : BankState) (right : Bool)
      → coded (kept_frame m (cond right (replied s a.buffer) (frame_refused w a)))
  by_lengths s w true = refl
  by_lengths s w false = refl

  by_rows : (sound : Bool) → coded (cond sound (kept_frame m (frame_call (state_of m) a)) (frame_turned_away m a))
  unfolding frame_call
  by_rows true =
      by_lengths (respond (context_of a) (advanced a.time (state_of m)) (read_request a.frame) (data_of a.frame))
      (state_of m) (lent_right (state_of m) a)
  by_rows false = refl

  pub call-code : (r : LentFrameCall) → r ≡ lent_frame_call m a → coded r
  unfolding lent_frame_call
  call-code r e = rw e (by_rows (is_sound m.rows))

pub line-most : (n : ℕ) (a : Result ℕ WrongLength) (buffer frame : List ℕ) (clock : ℕ)
    → length (line_of n a buffer frame clock) ≤ line_room
unfolding line_of
line-most n a buffer frame clock =
    let last = offset_text a frame clock ++ (newline ∷ []) in
    let e = length-append (column n space) (answer_text a buffer ++ (space ∷ last)) in
    let f = length-append (answer_text a buffer) (space ∷ last) in
    let g = length-append (offset_text a frame clock) (newline ∷ []) in
    omega (arith, column-most n space, answer-most a buffer, offset-most (is_answered a) (read_request frame) clock)
