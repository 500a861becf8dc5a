-- `J`: the run that the record names is what the journal makes of it, in the unit and in the course; all else stays.
use Prim.Native.Nat.{ℕ, ◌<◌}
use mathlib.Core.Bool.{true}
use mathlib.Core.List.{List, []}
use mathlib.Core.Path.{◌≡◌, refl, sym, ap, ◌∙◌, subst}
use native.Mathlib.Decide.{ℕ_discrete}
use native.Mathlib.Omega.{arith}
use lib.ListN.{length, length-set}
use lib.Seq.{get_or-set_same, get_or-set_other}
use Rattle.journal.specs.declared.event.Event.{Event}
use Rattle.journal.specs.declared.event.OrderName.{OrderName}
use Rattle.journal.specs.Events.{record_count}
use Rattle.journal.specs.Row.{Journal, lookup}
use Rattle.bank_state.specs.Store.{file_of}
use Rattle.client_run.specs.declared.run.ClientRun.{ClientRun}
use Rattle.client_run.specs.declared.run.Stage.{Stage}
use Rattle.client_run.specs.declared.run.Stage.TheVariants as stage
use Rattle.client_run.specs.declared.run.Word.{Word}
use Rattle.client_run.specs.NextRun.{ended}
use Rattle.client_run.specs.Run.{order_name}
use Rattle.client_rules.specs.Rulings.{is_begun}
use Rattle.number_table.specs.declared.table.WrongLength.{WrongLength}
use Rattle.number_table.specs.Numbers.{number_one}
use Rattle.std.specs.Prelude.{Result, Ok, Err, Option, Some, None}
use Rattle.client.specs.Journal.{JournalCall, answer_to, run_after, journal_call}
use Rattle.client.proofs.Journal.{JournalCause, journal-cause}
use Rattle.client.proofs.Journal as cause
use Rattle.exchange.specs.Course.{Course, journal_handed, carry_out, exec}
use Rattle.exchange.proofs.Calls.{carried}
use Rattle.unit_state.specs.declared.answer.Answer.TheVariants.{Closed}
use Rattle.unit_state.specs.declared.state.Run.{Run}
use Rattle.unit_state.specs.Records.{run_count}
use Rattle.unit_state.specs.State.{run_at}
use Rattle.unit.specs.State.{State}
use Rattle.unit.specs.Call.{index_of, journal_answer, journal_step}
use Rattle.unit.proofs.Named.{journal-named}
use Rattle.sessions.specs.Sessions.{handed_of, told, Given}
use Rattle.sessions.proofs.Standing.{SameRunAt, Standing, Tells, Stepped, row-long}
use Rattle.sessions.proofs.RunSteps.{changed-own, changed-other, by_parts}

-- ---- what the journal makes of a run

module _ (c : ClientRun) (row : List Event) where
  -- a row of its length gets no number
  no_number : length row ≡ record_count → (journal_call c row).number ≡ 0
  no_number long = at (journal-cause c row)
    where
      at : {k : JournalCall} → JournalCause c row k → k.number ≡ 0
      at (cause.wrong-length l) = absurd (l long)
      at (cause.not-unclear u) = refl
      at (cause.nothing e) = refl
      at (cause.booked u l e) = refl
      at (cause.ended_so u l e) = refl

  -- a run that has begun after it had begun before
  begun-before : is_begun (journal_call c row).run.stage ≡ true → is_begun c.stage ≡ true
  begun-before = at (journal-cause c row)
    where
      at : {k : JournalCall} → JournalCause c row k → is_begun k.run.stage ≡ true → is_begun c.stage ≡ true
      at (cause.wrong-length l) b = b
      at (cause.not-unclear u) b = b
      at (cause.nothing e) b = b
      at (cause.booked u l e) b = ap (λ (x : Stage). is_begun x) u
      at (cause.ended_so u l e) b = ap (λ (x : Stage). is_begun x) u

  -- one that it closes is ended with the word
  closed-ends : (w : Word) → (journal_call c row).answer ≡ Ok (Some w) → (journal_call c row).run.stage ≡ stage.Ended w
  unfolding journal_call ended
  closed-ends w = at (answer_to c.stage (length row) (lookup c.transaction row))
    where
      at : (a : Result (Option Word) WrongLength) → a ≡ Ok (Some w) → (run_after a c).stage ≡ stage.Ended w
      at (Ok (Some x)) e = ap (λ (b : Result (Option Word) WrongLength). (run_after b c).stage) e
      at (Ok None) e = ap (λ (b : Result (Option Word) WrongLength). (run_after b c).stage) e
      at (Err x) e = ap (λ (b : Result (Option Word) WrongLength). (run_after b c).stage) e

-- its answer has no bytes
no_bytes : (a : Result (Option Word) WrongLength) (c : ClientRun) (buffer room : List ℕ) →
    told (journal_answer a c) buffer room ≡ told (journal_answer a c) [] []
no_bytes (Ok (Some w)) c buffer room = refl
no_bytes (Ok None) c buffer room = refl
no_bytes (Err e) c buffer room = refl

-- ---- the step

module _ {u : State} {s : Course} (v : Standing u s) (r : List ℕ) (inside : index_of r < run_count) where
  abbrev i : ℕ
  i = index_of r

  abbrev run : Run
  run = run_at u.unit.runs i

  abbrev row : List Event
  row = u.unit.journal

  abbrev o : JournalCall
  o = journal_call run.client.run row

  abbrev next : State
  next = (journal_step u r).state

  abbrev left : Course
  left = carry_out (journal_handed i run.client.run row) s

  -- what the call gets
  journal-given : Given (handed_of u r) s
  unfolding handed_of
  journal-given = ((v.runs i inside).client, ap (λ (j : Journal). j.row) v.journal)

  run-set : run_at next.unit.runs i ≡ record { client = record { run = o.run }; nonce = run.nonce; payload = run.payload }
  unfolding journal_step
  run-set = get_or-set_same u.unit.runs i _ _ (let n = v.count in omega arith)

  other-set : (j : ℕ) → (j ≡ i → ⊥) → run_at next.unit.runs j ≡ run_at u.unit.runs j
  unfolding journal_step
  other-set j other = get_or-set_other u.unit.runs i j _ _ other

  own : SameRunAt next left i
  unfolding journal_step
  own =
      let h = v.runs i inside in
      let client = changed-own s.runs i o.run in
      let begun : is_begun (left.runs i).stage ≡ true → is_begun (s.runs i).stage ≡ true = λ b.
      ap (λ (c : ClientRun). is_begun c.stage) (sym h.client)
      ∙ begun-before run.client.run row (ap (λ (c : ClientRun). is_begun c.stage) (sym client) ∙ b) in
      record {
        client = ap (λ (x : Run). x.client.run) run-set ∙ sym client;
        payload = λ b. ap (λ (x : Run). file_of u.memory.payloads i x.payload) run-set ∙ h.payload (begun b);
        file = λ b. h.file (begun b);
      }

  other : (j : ℕ) → j < run_count → (j ≡ i → ⊥) → SameRunAt next left j
  unfolding journal_step
  other j h z =
      by_parts (ap (λ (x : Run). x.client.run) (other-set j z))
      (ap (λ (x : Run). file_of u.memory.payloads j x.payload) (other-set j z)) refl
      (changed-other s.runs i o.run j z) refl refl (v.runs j h)

  journal-standing : Standing next (exec (journal_handed i run.client.run row) s)
  unfolding journal_step
  journal-standing =
      subst (Standing next)
      (sym (carried (journal_handed i run.client.run row) s (no_number run.client.run row (row-long v))))
      (record {
        listed = v.listed;
        stores = v.stores;
        bank = v.bank;
        journal = v.journal;
        count = length-set u.unit.runs i _ ∙ v.count;
        payloads = v.payloads;
        files = v.files;
        room = v.room;
        image = v.image;
        line-rows = v.line-rows;
        line-stores = v.line-stores;
        runs = λ j h. at j h (ℕ_discrete j i);
      })
    where
      at : (j : ℕ) → j < run_count → Dec (j ≡ i) → SameRunAt next left j
      at j h (yes z) = subst (λ (n : ℕ). SameRunAt next left n) (sym z) own
      at j h (no z) = other j h z

  pub journal-step : Stepped s (handed_of u r) (journal_step u r)
  unfolding handed_of journal_step
  journal-step = record {
    given = λ _. journal-given;
    standing = journal-standing;
    answer = no_bytes o.answer o.run u.memory.buffer u.memory.room;
  }

  -- its closing word and its name are the run's
  pub journal-closed : (w : Word) (name : OrderName) → (journal_step u r).answer ≡ Closed w name →
      Tells w name (run_at next.unit.runs i).client.run
  unfolding journal_step
  journal-closed w name h =
      let x = journal-named o.run w name o.answer h in
      let left_is = ap (λ (y : Run). y.client.run) run-set in
      record {
        ended = ap (λ (c : ClientRun). c.stage) left_is ∙ closed-ends run.client.run row w x.0;
        name = x.1 ∙ ap (λ (c : ClientRun). order_name c) (sym left_is);
      }
