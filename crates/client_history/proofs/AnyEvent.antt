-- What any event, fair or not, makes of a run and its issues: nothing, a begin, the next request issued, or the run's
-- end. Assumes nothing.
use Rattle.client_run.specs.declared.run.Refusal.{Refusal}
use Rattle.std.specs.Prelude.{Err, Ok, Result}
use Prim.Native.Nat.{ℕ}
use mathlib.Core.List.{List, [], ◌∷◌}
use mathlib.Core.Path.{◌≡◌, refl}
use lib.ListN.{length}
use Rattle.frame_table.specs.declared.fields.Fields.{Fields}
use Rattle.frame_table.specs.Names.{no_fields}
use Rattle.frame_reader.specs.Reader.{read_reply}
use Rattle.frame_row.specs.Row.{data_of}
use Rattle.client_run.specs.declared.run.ClientRun.{ClientRun}
use Rattle.client_run.specs.declared.run.Decision.{Decision}
use Rattle.client_run.specs.declared.run.Decision.TheVariants.{Ignore, Opened, Advance, Return, Repeat, Close}
use Rattle.client_run.specs.declared.run.RunParameters.{RunParameters}
use Rattle.client_run.specs.declared.run.Word.{Word}
use Rattle.client.specs.Calls.{
  taken,
  carry_out,
  if_admitted,
  admitted_begin,
  admitted_reply,
  admitted_no_reply,
  begin_call,
  reply_call,
  no_reply_call,
}
use Rattle.client_run.specs.NextRun.{begin_length, begun, learned, file_with, ended}
use Rattle.client_run.specs.Run.{Lent, ClientCall, lengths_of}
use Rattle.client_rules.specs.Decisions.{on_reply, on_no_reply}
use Rattle.client_rules.specs.Rulings.{begin_ruling, run_ruling}
use Rattle.client_rules.proofs.Accepted.{Accepted, accepted, Begins, begins}
use Rattle.client_rules.proofs.Causes.{Cause, by-reply, by-no-reply}
use Rattle.client_history.specs.History.{Issue, Event, Begin, Reply, NoReply, Past, issue_of, left, after}
use Rattle.client_history.proofs.Changes.{by-issue}
use Rattle.client_history.proofs.Decided.{Issuing, next_of}

-- the issues with the request of the run next, and the run that a begin leaves
abbrev pub with_request : ClientRun → Lent → List ℕ → List Issue → List Issue
with_request next l file issues = issue_of next l.payload file l.time l.nonce ∷ issues

abbrev pub begun_by : RunParameters → Lent → ClientRun
begun_by params l = begun params (begin_length params.direction (lengths_of l))

-- Read r: the fields r are those of the event's reply, or of none
pub data AnyChange (Read : Fields → Type 0) (p : Past) : ClientRun → List Issue → Type 0 where
  nothing : AnyChange Read p p.run p.issues
  begins-with : (params : RunParameters) (l : Lent) (file : List ℕ) → Begins p.run params l
      → AnyChange Read p (begun_by params l) (with_request (begun_by params l) l file p.issues)
  goes : (decision : Decision) (r : Fields) (d : List ℕ) (l : Lent) (file : List ℕ) → Accepted p.run l
      → Issuing decision → Cause p.run r (length d) decision → Read r
      → AnyChange Read p (next_of decision p.run r (length d))
      (with_request (next_of decision p.run r (length d)) l file p.issues)
  closes : (w : Word) (l : Lent) → Accepted p.run l → AnyChange Read p (ended w p.run) p.issues

-- the fields of an event's reply
abbrev pub Reads : (Fields → Type 0) → Event → Type 0
Reads Read (Begin params l) = Unit {0}
Reads Read (Reply frame l) = Read (read_reply frame)
Reads Read (NoReply l) = Read no_fields

module _ (Read : Fields → Type 0) (p : Past) where
  abbrev Changed : Past → Type 0
  Changed q = AnyChange Read p q.run q.issues

  module _ (l : Lent) (r : Fields) (d : List ℕ) (a : Accepted p.run l) (read : Read r) where
    abbrev Leads : ClientCall → Type 0
    Leads k = Changed (left k.answer k l p)

    carried : (decision : Decision) → Cause p.run r (length d) decision → Leads (carry_out decision p.run r d l)
    unfolding taken
    carried Ignore k = nothing
    carried Opened k =
        by-issue Changed p.run (next_of Opened p.run r (length d))
        (file_with (learned p.run.direction r p.run) d l.file) l p nothing (goes Opened r d l _ a tt k read)
    carried Advance k =
        by-issue Changed p.run (next_of Advance p.run r (length d)) (file_with p.run d l.file) l p nothing
        (goes Advance r d l _ a tt k read)
    carried (Return s) k =
        by-issue Changed p.run (next_of (Return s) p.run r (length d)) l.file l p nothing
        (goes (Return s) r d l _ a tt k read)
    carried Repeat k =
        by-issue Changed p.run (next_of Repeat p.run r (length d)) l.file l p nothing
        (goes Repeat r d l _ a tt k read)
    carried (Close w) k = closes w l a

  ruled : (l : Lent) (k : ClientCall) (u : Result (Unit {0}) Refusal) → (u ≡ Ok tt → Changed (left k.answer k l p))
      → let o = if_admitted u p.run l k in Changed (left o.answer o l p)
  ruled l k (Err x) f = nothing
  ruled l k (Ok u) f = f refl

  pub any-change : (e : Event) → Reads Read e → Changed (after e p)
  unfolding after begin_call reply_call no_reply_call
  any-change (Begin params l) read =
      ruled l (admitted_begin p.run params l) (begin_ruling p.run params l.time (lengths_of l)) λ e.
      by-issue Changed p.run (begun_by params l) l.file l p nothing
      (begins-with params l l.file (begins p.run params l e))
  any-change (Reply frame l) read =
      let r = read_reply frame in
      let d = data_of frame in
      ruled l (admitted_reply p.run frame l) (run_ruling p.run l.time (lengths_of l)) λ e.
      carried l r d (accepted p.run l e) read (on_reply p.run r (length d))
      (by-reply p.run r (length d))
  any-change (NoReply l) read =
      ruled l (admitted_no_reply p.run l) (run_ruling p.run l.time (lengths_of l)) λ e.
      carried l no_fields [] (accepted p.run l e) read (on_no_reply p.run)
      (by-no-reply p.run no_fields 0)
