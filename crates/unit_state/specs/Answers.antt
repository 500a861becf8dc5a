-- What a call answers.
use Rattle.std.specs.Prelude.{Bool, true, false}
use Rattle.unit_state.specs.declared.answer.Answer.{Answer}
use Rattle.unit_state.specs.declared.answer.Answer.TheVariants.{
  Frame,
  Put,
  Request,
  Ignored,
  Closed,
  Unchanged,
  Away,
  TakenUp,
  Room,
  Day,
  Line,
  Out,
  OutAndHeld,
  Counted,
  Number,
  NoCall,
}

-- a record that is no call has no answer, and ends the input
abbrev pub is_answer : Answer → Bool
is_answer (Frame n) = true
is_answer Put = true
is_answer (Request n) = true
is_answer Ignored = true
is_answer (Closed w o) = true
is_answer Unchanged = true
is_answer (Away n) = true
is_answer TakenUp = true
is_answer Room = true
is_answer (Day d) = true
is_answer Line = true
is_answer (Out n) = true
is_answer (OutAndHeld n k) = true
is_answer (Counted c) = true
is_answer (Number n) = true
is_answer NoCall = false
