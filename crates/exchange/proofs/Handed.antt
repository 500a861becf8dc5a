-- The journal handed to a run: what it makes of the run, and that what it says of it is so. Assumes nothing.
use Prim.Native.Nat.{ℕ, ◌≤◌}
use mathlib.Core.Bool.{true}
use mathlib.Core.List.{List}
use mathlib.Core.Path.{◌≡◌, refl, sym, ap, ◌∙◌, subst}
use native.Mathlib.Decide.{ℕ_discrete}
use native.Mathlib.Omega.{arith}
use borrow.Author.Tests.{eq-eqb, ne_eqb}
use Rattle.octets.proofs.Tests.{never}
use Rattle.journal.specs.declared.event.Event.{Event}
use Rattle.journal.specs.declared.event.Found.{Found}
use Rattle.journal.specs.declared.event.Found.TheVariants as found
use Rattle.journal.specs.Row.{Journal, lookup}
use Rattle.bank_history.specs.History.{Exchange, BankCall, is_booking, ever}
use Rattle.bank_history.specs.History as bank
use Rattle.bank_history.specs.Journal.{journal_of}
use Rattle.bank_history.specs.JournalOrders.{NeverBooked}
use Rattle.client_run.specs.declared.run.ClientRun.{ClientRun}
use Rattle.client_run.specs.declared.run.Stage.{Stage}
use Rattle.client_run.specs.declared.run.Stage.TheVariants as stage
use Rattle.client_run.specs.declared.run.Step.{Step}
use Rattle.client_run.specs.declared.run.Step.TheVariants as step
use Rattle.client_run.specs.declared.run.Word.{Word}
use Rattle.client_run.specs.declared.run.Word.TheVariants as word
use Rattle.client.specs.Journal.{JournalCall, journal_call}
use Rattle.client.proofs.Journal.{JournalCause, journal-cause}
use Rattle.client.proofs.Journal as cause
use Rattle.client_run.specs.NextRun.{ended}
use Rattle.client_rules.specs.Rulings.{is_begun}
use Rattle.client_history.specs.History.{Past}
use Rattle.client_history.specs.Invariant.{UploadOpen, UploadStep, UploadStage, UploadRun, DownloadStage, Invariant, not-begun, upload, download}
use Rattle.client_history.proofs.Theorems.{upload-segments}
use Rattle.exchange.specs.Course.{journal_handed, Course, carry_out}
use Rattle.exchange.specs.Demand3.{Premise}
use Rattle.exchange.proofs.Told.{Gave, file_in, bank-replies}
use Rattle.exchange.proofs.Journal.{row-booked, row-ended}
use Rattle.exchange.proofs.Clients.{
  issues_of,
  run_past,
  at_stage,
  Judged,
  as-left,
  lodged-by,
  ended_by,
  RunHolds,
  Parts,
  own_past,
}

-- ---- the client's call

-- "otherwise it stays unclear; other runs come back unchanged"
pub data Handing (c : ClientRun) (row : List Event) (r : ClientRun) : Type 0 where
  unchanged : r ≡ c → Handing c row r
  lodges : c.stage ≡ stage.Ended word.Unclear → lookup c.transaction row ≡ found.Booked → r ≡ ended word.Lodged c → Handing c row r
  ends : c.stage ≡ stage.Ended word.Unclear → lookup c.transaction row ≡ found.Ended → r ≡ ended word.NotLodged c → Handing c row r

by-cause : {c : ClientRun} {row : List Event} {j : JournalCall} → JournalCause c row j → Handing c row j.run
by-cause (cause.wrong-length l) = unchanged refl
by-cause (cause.not-unclear u) = unchanged refl
by-cause (cause.nothing e) = unchanged refl
by-cause (cause.booked u l e) = lodges u e refl
by-cause (cause.ended_so u l e) = ends u e refl

pub handing : (c : ClientRun) (row : List Event) → Handing c row (journal_call c row).run
handing c row = by-cause (journal-cause c row)

-- a run that is not unclear stays as it is
pub not-unclear : (c : ClientRun) (row : List Event) → (c.stage ≡ stage.Ended word.Unclear → ⊥) → (journal_call c row).run ≡ c
not-unclear c row n = at (handing c row)
  where
    at : {r : ClientRun} → Handing c row r → r ≡ c
    at (unchanged z) = z
    at (lodges e f z) = absurd (n e)
    at (ends e f z) = absurd (n e)

-- ---- "An unclear run has issued segment N", so it knows its transaction

module _ (s : Course) (v : Parts s) (i : ℕ) where
  abbrev h : List Exchange
  h = v.bank.past.history

  abbrev OpenUpload : Type 0
  OpenUpload = UploadRun (Gave v.bank.past.history) (own_past v i).run (s.payloads i) (issues_of i s.issued)
      × UploadOpen (Gave v.bank.past.history) (own_past v i).run (issues_of i s.issued)

  -- it is an upload, opened with its transaction and its order number
  pub unclear-upload : (v.runs i).left ≡ stage.Ended word.Unclear →
      UploadRun (Gave v.bank.past.history) (own_past v i).run (s.payloads i) (issues_of i s.issued)
      × UploadOpen (Gave v.bank.past.history) (own_past v i).run (issues_of i s.issued)
  unclear-upload e = go (v.runs i).own
    where
      opened : 1 ≤ (s.runs i).segments → (s.runs i).segments ≤ (s.runs i).issued → (x : Step) →
          UploadStep (Gave h) x (own_past v i).run (issues_of i s.issued) → UploadOpen (Gave h) (own_past v i).run (issues_of i s.issued)
      opened some all step.Opening k = absurd (omega arith)
      opened some all step.Segment k = k
      opened some all step.Receipt k = absurd k

      begun : is_begun (v.runs i).left ≡ true
      begun = ap is_begun e

      go : Invariant (Gave h) (file_in h) (own_past v i) → OpenUpload
      go (not-begun f g) = never (sym (ap (λ (c : ClientRun). is_begun c.stage) f) ∙ begun)
      go (upload b u) =
          let n = upload-segments (Gave h) (file_in h) (bank-replies h v.bank.holds.invariant.sound v.bank.proper) (own_past v i)
          (v.runs i).own begun u.direction in (
            u,
            opened n.1
                (subst (λ (x : Stage). UploadStage (Gave h) x (own_past v i).run (issues_of i s.issued)) e u.stage)
                (s.runs i).step u.step,
          )
      go (download b u) =
          absurd (subst (λ (x : Stage). DownloadStage (Gave h) (file_in h) x (own_past v i).run (s.files i) (issues_of i s.issued)) e u.stage)

  pub unclear-left : (s.runs i).stage ≡ stage.Ended word.Unclear → (v.runs i).left ≡ stage.Ended word.Unclear
  unclear-left e = at (v.runs i).word
    where
      at : {x : Stage} → Judged v.bank.calls h (s.runs i) x → x ≡ stage.Ended word.Unclear
      at (as-left z) = z ∙ e
      at (lodged-by z f b) = z
      at (ended_by z f b) = z

  -- the row is that of the bank's calls
  row-found : {f : Found} → lookup (s.runs i).transaction s.journal.row ≡ f →
      lookup (s.runs i).transaction (journal_of v.bank.calls).row ≡ f
  row-found z = ap (λ (j : Journal). lookup (s.runs i).transaction j.row) v.bank.entered-events ∙ z

  row-lodges : lookup (s.runs i).transaction s.journal.row ≡ found.Booked →
      ever is_booking (s.runs i).transaction v.bank.past.history ≡ true
  row-lodges z =
      ap (λ (p : bank.Past). ever is_booking (s.runs i).transaction p.history) v.bank.since
      ∙ row-booked v.bank.calls (s.runs i).transaction (row-found z)

  row_ends : lookup (s.runs i).transaction s.journal.row ≡ found.Ended →
      NeverBooked v.bank.calls (s.runs i).transaction
  row_ends z = row-ended v.bank.calls (s.runs i).transaction (row-found z)

-- ---- the call's course

-- the past with this run
abbrev pub with_run_of : ClientRun → Past → Past
with_run_of c p = record { run = c; payload = p.payload; file = p.file; issues = p.issues }

closed-holds : {calls : List BankCall} {h : List Exchange} (p : Past) (x : Word) (r : RunHolds calls h p) → r.left ≡ stage.Ended word.Unclear →
    Judged calls h (ended x p.run) (stage.Ended word.Unclear) → RunHolds calls h (with_run_of (ended x p.run) p)
unfolding ended
closed-holds {calls} {h} p x r e j = record {
  left = stage.Ended word.Unclear;
  own = subst (λ (y : Stage). Invariant (Gave h) (file_in h) (at_stage y p)) e r.own;
  word = j;
}

lodged-judged : {calls : List BankCall} {h : List Exchange} (c : ClientRun) → ever is_booking c.transaction h ≡ true →
    Judged calls h (ended word.Lodged c) (stage.Ended word.Unclear)
unfolding ended
lodged-judged c b = lodged-by refl refl b

ended-judged : {calls : List BankCall} {h : List Exchange} (c : ClientRun) → NeverBooked calls c.transaction →
    Judged calls h (ended word.NotLodged c) (stage.Ended word.Unclear)
unfolding ended
ended-judged c b = ended_by refl refl b

module _ (s : Course) (i : ℕ) (c : ClientRun) (row : List Event) where
  abbrev handed : Course
  handed = carry_out (journal_handed i c row) s

  pub handed-own : run_past (carry_out (journal_handed i c row) s) i ≡ with_run_of (journal_call c row).run (run_past s i)
  handed-own = rw (eq-eqb i i refl)

  pub handed-other : (j : ℕ) → (j ≡ i → ⊥) → run_past (carry_out (journal_handed i c row) s) j ≡ run_past s j
  handed-other j n = rw (ne_eqb j i n)

pub journal-keeps : (s : Course) (v : Parts s) (i : ℕ) (c : ClientRun) (row : List Event) → Premise (journal_handed i c row) s →
    Parts (carry_out (journal_handed i c row) s)
journal-keeps s v i c row q = record { bank = v.bank; runs = λ j. at j (ℕ_discrete j i); images = v.images }
  where
    Held : Past → Type 0
    Held p = RunHolds v.bank.calls v.bank.past.history p

    now : ℕ → Past
    now j = run_past (carry_out (journal_handed i c row) s) j

    own : {r : ClientRun} → Handing (s.runs i) s.journal.row r → Held (with_run_of r (run_past s i))
    own (unchanged z) = subst (λ (r : ClientRun). Held (with_run_of r (run_past s i))) (sym z) (v.runs i)
    own (lodges e f z) = subst (λ (r : ClientRun). Held (with_run_of r (run_past s i))) (sym z)
        (closed-holds (run_past s i) word.Lodged (v.runs i) (unclear-left s v i e) (lodged-judged (s.runs i) (row-lodges s v i f)))
    own (ends e f z) = subst (λ (r : ClientRun). Held (with_run_of r (run_past s i))) (sym z)
        (closed-holds (run_past s i) word.NotLodged (v.runs i) (unclear-left s v i e) (ended-judged (s.runs i) (row_ends s v i f)))

    lent : (journal_call (s.runs i) s.journal.row).run ≡ (journal_call c row).run
    lent = sym (ap (λ (x : ClientRun). (journal_call x row).run) q.0 ∙ ap (λ (l : List Event). (journal_call (s.runs i) l).run) q.1)

    at : (j : ℕ) → Dec (j ≡ i) → Held (now j)
    at j (yes z) =
        subst (λ (n : ℕ). Held (now n)) (sym z)
        (subst Held (ap (λ (r : ClientRun). with_run_of r (run_past s i)) lent ∙ sym (handed-own s i c row))
        (own (handing (s.runs i) s.journal.row)))
    at j (no z) = subst Held (sym (handed-other s i c row j z)) (v.runs j)
