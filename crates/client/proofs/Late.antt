-- Card 3: "Values over 253,402,300,799,999 ... as bank or client time number 1". Begin, reply and no reply are given it
-- before 5 to 8, whatever the run and whatever else is lent, and change nothing. Assumes nothing.
use Rattle.client_run.specs.declared.run.Refusal.{Refusal}
use Rattle.std.specs.Prelude.{Err, Result}
use Prim.Native.Nat.{ℕ, ◌<◌}
use mathlib.Core.List.{List}
use mathlib.Core.Path.{◌≡◌, refl}
use Rattle.frame_table.specs.Table.{last_time}
use Rattle.client_run.specs.declared.run.ClientRun.{ClientRun}
use Rattle.client_run.specs.declared.run.Refusal.TheVariants.{TimeTooHigh}
use Rattle.client_run.specs.declared.run.RunParameters.{RunParameters}
use Rattle.client_run.specs.Run.{Lent, ClientCall, lengths_of}
use Rattle.client_rules.proofs.Late as rules
use Rattle.client.specs.Calls.{
  if_admitted,
  admitted_begin,
  admitted_reply,
  admitted_no_reply,
  begin_call,
  reply_call,
  no_reply_call,
}

-- number 1, and run and buffers as they were
pub record NumberOne (c : ClientRun) (l : Lent) (k : ClientCall) : Type 0 where
  pub number : k.number ≡ 1
  pub run : k.run ≡ c
  pub file : k.file ≡ l.file
  pub request : k.request ≡ l.request

module _ (c : ClientRun) (l : Lent) (h : last_time < l.time) where
  ruled-late : (u : Result (Unit {0}) Refusal) (done : ClientCall) → u ≡ Err TimeTooHigh → NumberOne c l (if_admitted u c l done)
  ruled-late u done e = rw e (record { number = refl; run = refl; file = refl; request = refl })

  pub begin-late : (params : RunParameters) → NumberOne c l (begin_call c params l)
  unfolding begin_call
  begin-late params =
      ruled-late _ (admitted_begin c params l) (rules.begin-late c params l.time (lengths_of l) h)

  pub reply-late : (frame : List ℕ) → NumberOne c l (reply_call c frame l)
  unfolding reply_call
  reply-late frame = ruled-late _ (admitted_reply c frame l) (rules.run-late c l.time (lengths_of l) h)

  pub no-reply-late : NumberOne c l (no_reply_call c l)
  unfolding no_reply_call
  no-reply-late = ruled-late _ (admitted_no_reply c l) (rules.run-late c l.time (lengths_of l) h)
