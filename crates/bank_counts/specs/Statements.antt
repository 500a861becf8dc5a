-- What is said of the seven counts after every list of calls to a fresh bank.
use Rattle.std.specs.Prelude.{Ok}
use Rattle.std.specs.Prelude.{◌+◌, ◌<◌, ◌≡◌}
use mathlib.Core.List.{List, ◌∷◌, map, Memᴰ as In}
use Rattle.frame_table.specs.declared.fields.Bits128.{Bits128}
use Rattle.bank_state.specs.Clock.{advanced}
use Rattle.bank_state.specs.declared.state.Place.{Place}
use Rattle.bank_state.specs.Rows.{count_of}
use Rattle.bank_state.specs.Search.{is_booked, open_count}
use Rattle.bank_verdicts.specs.declared.verdict.DownloadAction.TheVariants as down
use Rattle.bank_verdicts.specs.declared.verdict.Action.TheVariants as action
use Rattle.bank_verdicts.specs.declared.verdict.Verdict.TheVariants as verdict
use Rattle.opening_counts.specs.Counts.{count_size, sum, counts_after}
use Rattle.bank_session.specs.Session.{counts_in, count_call}
use Rattle.bank_history.specs.Answers.{AllBytes}
use Rattle.bank_history.specs.FalseEconomies.{Next}
use Rattle.bank_history.specs.History.{Exchange, BankCall, Frame, past_of}
use Rattle.bank_history.specs.Journal.{plain}
use Rattle.bank_history.specs.OnSessions.{lent_session_of}
use Rattle.bank_history.specs.ByReplies.{opened_count, opened_ids, standing}
use Rattle.bank_counts.specs.Counts.{way_of, counts, dropped_by, others_ended, carried}

pub record OpeningsEnd : Type 0 where
  -- "each accepted opening that opened a transaction is exactly one of" the seven
  pub one : (calls : List BankCall) (t : Bits128) → In t (opened_ids (past_of calls).history) →
      way_of (standing t (past_of calls).history) < count_size
  -- "and they add up to the openings accepted, signings aside"
  pub adds : (calls : List BankCall) → sum (counts (past_of calls).history) ≡ opened_count (past_of calls).history
  -- which are those of the bank's own number
  pub accepted : (calls : List BankCall) →
      sum (counts (past_of calls).history) ≡ (past_of calls).bank_state.bank.openings
  -- "Each is defined from the calls and replies alone": neither verdict nor file nor data is looked at
  pub alone : (h : List Exchange) → counts (map plain h) ≡ counts h
  -- the first is the number of the bank's open transactions, the second that of the book's places
  pub still_open : (calls : List BankCall) →
      open_count (past_of calls).bank_state.bank ≡ (counts (past_of calls).history).pending
  pub booked : (calls : List BankCall) →
      count_of (λ (p : Place). is_booked p.used) (past_of calls).bank_state.bank.places
      ≡ (counts (past_of calls).history).booked
  -- an answered frame moves them by its verdict, the number that it drops and the number that its receipt ends
  pub moved : {calls : List BankCall} {e : Exchange} → Next calls e →
      counts (e ∷ (past_of calls).history) ≡
      counts_after e.verdict (dropped_by e.clock (past_of calls).history) (others_ended e (past_of calls).history)
      (counts (past_of calls).history)
  -- over the clock the open transactions fall by those dropped; over a receipt answered 011000, by one and by those
  -- that it ends
  pub clocked : {calls : List BankCall} {e : Exchange} (n : Next calls e) →
      open_count (past_of calls).bank_state.bank ≡
      open_count (advanced n.input.time (past_of calls).bank_state).bank
      + dropped_by e.clock (past_of calls).history
  pub confirmed : {calls : List BankCall} {e : Exchange} (n : Next calls e) (t : Bits128) →
      e.verdict ≡ verdict.Of t (action.Download down.Confirmed) →
      open_count (advanced n.input.time (past_of calls).bank_state).bank ≡
      open_count (past_of (Frame n.input ∷ calls)).bank_state.bank + 1 + others_ended e (past_of calls).history
  -- so the counts that a session carries from call to call are these
  pub carries : (calls : List BankCall) → carried calls ≡ counts (past_of calls).history

-- the counts of a lent session, after every list of calls from a fresh one
pub record SessionCounts : Type 0 where
  -- are those of its calls
  pub carries : {calls : List BankCall} → AllBytes calls → counts_in (lent_session_of calls).rows ≡ carried calls
  -- "each equal to the number so defined"
  pub counted : {calls : List BankCall} → AllBytes calls →
      counts_in (lent_session_of calls).rows ≡ counts (past_of calls).history
  -- "The unit reports seven counts in this order": so does the call that asks for them
  pub reported : {calls : List BankCall} → AllBytes calls →
      count_call (lent_session_of calls).rows ≡ Ok (counts (past_of calls).history)
