-- Laws of issuing a request. Assumes nothing.
use Rattle.number_table.specs.declared.table.WrongLength.{WrongLength}
use Rattle.std.specs.Prelude.{Err, Ok, Result}
use mathlib.Core.List.{List}
use mathlib.Core.Path.{◌≡◌, refl}
use Prim.Native.Nat.{ℕ}
use Rattle.client_run.specs.declared.run.ClientRun.{ClientRun}
use Rattle.client_run.specs.Run.{Lent}
use Rattle.client.specs.declared.calls.Outcome.{Outcome}
use Rattle.client.specs.Calls.{call_of, if_written, outcome_of, is_written, request_with, issued}

pub if-same : {A : Type 0} (w : Result ℕ WrongLength) (a : A) → if_written w a a ≡ a
if-same (Ok n) a = refl
if-same (Err e) a = refl

-- a request is issued where run, answer and both buffers are what the writer's answer makes of them
pub issued-is : (c next : ClientRun) (file : List ℕ) (l : Lent) (w : Result ℕ WrongLength) {o : Outcome} {held request : List ℕ}
    → w ≡ is_written next l
    → o ≡ outcome_of w c next → held ≡ if_written w file l.file → request ≡ request_with next l
    → call_of o held request ≡ issued c next file l
unfolding issued
issued-is c next file l w ew eo eh er = rw (eo, eh, er, ew)
