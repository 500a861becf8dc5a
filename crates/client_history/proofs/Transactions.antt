-- A run's transaction ID is 16 bytes, over every list of events that bring bytes: it is read from a reply.
-- Assumes nothing.
use Prim.Native.Nat.{ℕ}
use mathlib.Core.List.{List, [], ◌∷◌}
use mathlib.Core.Path.{sym, subst}
use native.Mathlib.Omega.{arith}
use lib.ListN.{length}
use Rattle.octets.specs.Bytes.{Bytes}
use Rattle.frame_table.specs.declared.fields.Fields.{Fields}
use Rattle.frame_table.specs.Names.{transaction}
use Rattle.frame_table.specs.Table.{transaction_tag}
use Rattle.frame_reader.specs.Reader.{read_reply}
use Rattle.frame.proofs.Theorems.{reply-halves}
use Rattle.message.proofs.Writable.{Wide}
use Rattle.client_run.specs.declared.run.ClientRun.{ClientRun}
use Rattle.client_run.specs.declared.run.Decision.{Decision}
use Rattle.client_run.specs.declared.run.Decision.TheVariants.{Ignore, Opened, Advance, Return, Repeat, Close}
use Rattle.client_run.specs.NextRun.{begun, go_on, repeated, ended}
use Rattle.client_history.specs.Bounds.{Typed, typed-begin, typed-reply, typed-no-reply}
use Rattle.client_history.specs.Bounds.{AllTyped, typed-more}
use Rattle.client_history.specs.History.{Issue, Event, Past, past_of}
use Rattle.client_history.proofs.AnyEvent.{AnyChange, nothing, begins-with, goes, closes, Reads, any-change}
use Rattle.client_history.proofs.Decided.{Issuing, next_of}
use Rattle.client_history.proofs.NextRuns.{learned-transaction}

-- ---- what is read

-- the transaction ID of a reply
pub reply-wide : (s : List ℕ) → Bytes s → Wide (transaction (read_reply s))
reply-wide s b = reply-halves s b transaction_tag (omega arith)

-- ---- each event keeps it

pub next-wide : (decision : Decision) → Issuing decision → (c : ClientRun) (r : Fields) (d : ℕ) → Wide (transaction r)
    → Wide c.transaction → Wide (next_of decision c r d).transaction
unfolding go_on repeated
next-wide Ignore i c r d v w = absurd i
next-wide Opened i c r d v w = subst Wide (sym (learned-transaction c.direction r c)) v
next-wide Advance i c r d v w = w
next-wide (Return s) i c r d v w = w
next-wide Repeat i c r d v w = w
next-wide (Close u) i c r d v w = absurd i

abbrev HasWide : Fields → Type 0
HasWide r = Wide (transaction r)

wide_by : {p : Past} {c : ClientRun} {issues : List Issue} → AnyChange HasWide p c issues → Wide p.run.transaction
    → Wide c.transaction
unfolding begun ended
wide_by nothing w = w
wide_by (begins-with params l file b) w = (omega arith, omega arith)
wide_by {p} (goes decision r d l file a i k read) w = next-wide decision i p.run r (length d) read w
wide_by (closes u l a) w = w

typed-reads : (e : Event) → Typed e → Reads HasWide e
typed-reads e (typed-begin t) = tt
typed-reads e (typed-reply {frame} b t) = reply-wide frame b
typed-reads e (typed-no-reply t) = (omega arith, omega arith)

pub transaction-wide : (es : List Event) → AllTyped es → Wide (past_of es).run.transaction
unfolding past_of
transaction-wide [] t = (omega arith, omega arith)
transaction-wide (e ∷ es) (typed-more a t) =
    wide_by (any-change HasWide (past_of es) e (typed-reads e a)) (transaction-wide es t)
