-- The counts that a lent session carries are those of its calls, and the call that asks for them gives these.
use Rattle.std.specs.Prelude.{Ok}
use Prim.Native.Nat.{ℕ}
use mathlib.Core.Bool.{true}
use mathlib.Core.List.{List}
use mathlib.Core.Path.{◌≡◌, refl, ap, ◌∙◌}
use lib.ListN.{length}
use borrow.Author.Tests.{eq-eqb}
use Rattle.bank_sound.specs.Sound.{is_sound}
use Rattle.bank_steps.specs.Lent.{Lent}
use Rattle.opening_counts.specs.declared.seven.Counts.{Counts}
use Rattle.bank_session.specs.Session.{session_size, bank_rows, counts_in, count_call}
use Rattle.bank_session.proofs.Laws.{file-counts}
use Rattle.bank_admitted.proofs.CountsKept.{counts-grow}
use Rattle.bank_history.specs.Answers.{AllBytes, none, more}
use Rattle.bank_history.specs.History.{BankCall, Frame, File, past_of}
use Rattle.bank_history.specs.OnSessions.{session_after, lent_session_of}
use Rattle.bank_history.proofs.Keeps.{past-holds}
use Rattle.bank_history.proofs.OnRows.{on-rows}
use Rattle.bank_history.proofs.OnSessions.{all_same, counts-next}
use Rattle.bank_counts.specs.Counts.{counts, carried_by, carried}
use Rattle.bank_counts.specs.Statements.{SessionCounts}
use Rattle.bank_counts.proofs.Theorems.{openings-end}

file-carries : (mailbox : ℕ) (file : List ℕ) (calls : List BankCall) → length (lent_session_of calls).rows ≡ session_size →
    counts_in (session_after (File mailbox file) (lent_session_of calls)).rows ≡ counts_in (lent_session_of calls).rows
unfolding session_after
file-carries mailbox file calls long =
    file-counts (lent_session_of calls).rows mailbox file (lent_session_of calls).mailboxes long

session-carries : {calls : List BankCall} → AllBytes calls → counts_in (lent_session_of calls).rows ≡ carried calls
unfolding lent_session_of carried
session-carries none = refl
session-carries (more {c = Frame a} {calls = calls} b given) =
    counts-next (lent_session_of calls) calls given (all_same given) a
    ∙ ap (carried_by (Frame a) (past_of calls)) (session-carries given)
session-carries (more {c = File mailbox file} {calls = calls} b given) =
    file-carries mailbox file calls (all_same given).size ∙ session-carries given

session-counted : {calls : List BankCall} → AllBytes calls → counts_in (lent_session_of calls).rows ≡ counts (past_of calls).history
session-counted {calls} given = session-carries given ∙ openings-end.carries calls

session-reported : {calls : List BankCall} → AllBytes calls →
    count_call (lent_session_of calls).rows ≡ Ok (counts (past_of calls).history)
unfolding count_call
session-reported {calls} given =
    let rows = (lent_session_of calls).rows in
    let s = all_same given in
    let sound : is_sound (bank_rows rows) ≡ true = ap (λ (n : Lent). is_sound n.rows) s.bank ∙ on-rows.sound calls in
    rw (
      eq-eqb (length rows) session_size s.size,
      sound,
      counts-grow s.counts (past-holds calls).invariant.state.numbers,
    ) (ap (λ (c : Counts). Ok c) (session-counted given))

pub session-counts : SessionCounts
session-counts = record { carries = session-carries; counted = session-counted; reported = session-reported }
