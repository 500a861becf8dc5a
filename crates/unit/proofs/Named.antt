-- The answer that closes a run has its closing word and what names its order. Assumes nothing.
use Rattle.client_run.specs.declared.run.Refusal.{Refusal}
use mathlib.Core.Bool.{Bool, true, false}
use mathlib.Core.Path.{◌≡◌, sym, ap}
use Rattle.octets.proofs.Tests.{never}
use Rattle.journal.specs.declared.event.OrderName.{OrderName}
use Rattle.client_run.specs.declared.run.Answer as client
use Rattle.client_run.specs.declared.run.Answer.TheVariants as client-answer
use Rattle.client_run.specs.declared.run.ClientRun.{ClientRun}
use Rattle.client_run.specs.declared.run.Word.{Word}
use Rattle.client_run.specs.Run.{order_name}
use Rattle.number_table.specs.declared.table.WrongLength.{WrongLength}
use Rattle.number_table.specs.Numbers.{number_one}
use Rattle.std.specs.Prelude.{Result, Ok, Err, Option, Some, None}
use Rattle.unit_state.specs.declared.answer.Answer.{Answer}
use Rattle.unit_state.specs.declared.answer.Answer.TheVariants.{
  Frame,
  Put,
  Request,
  Ignored,
  Closed,
  Unchanged,
  Away,
  TakenUp,
  Room,
  Day,
  Line,
  Out,
  OutAndHeld,
  Counted,
  Number,
  NoCall,
}
use Rattle.unit.specs.Call.{run_answer, journal_answer}

abbrev pub is_closed : Answer → Bool
is_closed (Frame n) = false
is_closed Put = false
is_closed (Request n) = false
is_closed Ignored = false
is_closed (Closed w o) = true
is_closed Unchanged = false
is_closed (Away n) = false
is_closed TakenUp = false
is_closed Room = false
is_closed (Day d) = false
is_closed Line = false
is_closed (Out n) = false
is_closed (OutAndHeld n k) = false
is_closed (Counted c) = false
is_closed (Number n) = false
is_closed NoCall = false

-- the word and the name of an answer that has them
abbrev word_in : Word → Answer → Word
word_in x (Frame n) = x
word_in x Put = x
word_in x (Request n) = x
word_in x Ignored = x
word_in x (Closed w o) = w
word_in x Unchanged = x
word_in x (Away n) = x
word_in x TakenUp = x
word_in x Room = x
word_in x (Day d) = x
word_in x Line = x
word_in x (Out n) = x
word_in x (OutAndHeld n k) = x
word_in x (Counted c) = x
word_in x (Number n) = x
word_in x NoCall = x

abbrev name_in : OrderName → Answer → OrderName
name_in x (Frame n) = x
name_in x Put = x
name_in x (Request n) = x
name_in x Ignored = x
name_in x (Closed w o) = o
name_in x Unchanged = x
name_in x (Away n) = x
name_in x TakenUp = x
name_in x Room = x
name_in x (Day d) = x
name_in x Line = x
name_in x (Out n) = x
name_in x (OutAndHeld n k) = x
name_in x (Counted c) = x
name_in x (Number n) = x
name_in x NoCall = x

module _ (c : ClientRun) (w : Word) (o : OrderName) where
  -- "'Lodged' names subscriber, type and number together": those of the run c after the call
  pub run-named : (a : Result client.Answer Refusal) → run_answer a c ≡ Closed w o → (a ≡ Ok (client-answer.Closed w)) × (o ≡ order_name c)
  run-named (Ok (client-answer.Request n)) e = never (ap is_closed e)
  run-named (Ok client-answer.Ignored) e = never (ap is_closed e)
  run-named (Ok (client-answer.Closed x)) e = (ap (λ x. Ok (client-answer.Closed x)) (ap (word_in x) e), sym (ap (name_in o) e))
  run-named (Err x) e = never (ap is_closed e)

  pub journal-named : (a : Result (Option Word) WrongLength) → journal_answer a c ≡ Closed w o → (a ≡ Ok (Some w)) × (o ≡ order_name c)
  journal-named (Ok (Some x)) e = (ap (λ (x : Word). Ok (Some x)) (ap (word_in x) e), sym (ap (name_in o) e))
  journal-named (Ok None) e = never (ap is_closed e)
  journal-named (Err x) e = never (ap is_closed e)
