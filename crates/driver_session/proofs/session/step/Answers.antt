-- A record that is a call is called, and another changes nothing. Assumes nothing.
use mathlib.Core.Path.{refl}
use Rattle.driver_session.proofs.Sessions.{no-calls, one-call}
use Rattle.driver_session.proofs.session.step.Goals as goal

pub returns-then-not-is_call : goal.returns-then-not-is_call
returns-then-not-is_call g c = no-calls _

pub returns-then-not-is_answer : goal.returns-then-not-is_answer
returns-then-not-is_answer g c =
    one-call _ _ _ _ _ _ c.call_of.ensures c.is_call.ensures c.if-not-is_call.false-raw refl c.call-answer.ensures

pub returns : goal.returns
returns g c =
    one-call _ _ _ _ _ _ c.call_of.ensures c.is_call.ensures c.if-not-is_call.false-raw refl c.call-answer.ensures

pub returns-in_default : goal.returns-in_default
returns-in_default g c = no-calls _
