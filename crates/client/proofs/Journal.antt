-- What the call with the journal leaves of a run: only an unclear run changes, by what the row says of its upload, and in
-- its stage alone. Assumes nothing.
use Prim.Native.Nat.{ℕ}
use mathlib.Core.Path.{◌≡◌, refl, ap, subst}
use mathlib.Core.Bool.{Bool, true, false, cond}
use mathlib.Core.Logic.{◌⊎◌, inl, inr}
use mathlib.Core.List.{List}
use native.Mathlib.Omega.{arith}
use lib.Dec.{eqb}
use lib.ListN.{length}
use borrow.Author.Tests.{eqb-true, eqb-false}
use Rattle.journal.specs.declared.event.Event.{Event}
use Rattle.journal.specs.declared.event.Found.{Found}
use Rattle.journal.specs.declared.event.Found.TheVariants as found
use Rattle.journal.specs.Events.{record_count}
use Rattle.journal.specs.Row.{lookup}
use Rattle.client_run.specs.declared.run.ClientRun.{ClientRun}
use Rattle.client_run.specs.declared.run.Stage.{Stage}
use Rattle.client_run.specs.declared.run.Stage.TheVariants as stage
use Rattle.client_run.specs.declared.run.Word.{Word}
use Rattle.client_run.specs.declared.run.Word.TheVariants as word
use Rattle.client_run.specs.NextRun.{ended}
use Rattle.number_table.specs.declared.table.WrongLength.{WrongLength}
use Rattle.number_table.specs.Numbers.{number_one}
use Rattle.std.specs.Prelude.{Result, Ok, Err, Option, Some, None}
use Rattle.client.specs.Journal.{JournalCall, journal_left, is_unclear, ended_unclear, answer_on, answer_to, answered}
use Rattle.client.specs.Journal.{journal_call}

-- why a call leaves what it leaves
pub data JournalCause (c : ClientRun) (row : List Event) : JournalCall → Type 0 where
  wrong-length : (length row ≡ record_count → ⊥) → JournalCause c row (journal_left c (Err number_one))
  not-unclear : (c.stage ≡ stage.Ended word.Unclear → ⊥) → JournalCause c row (journal_left c (Ok None))
  nothing : lookup c.transaction row ≡ found.Nothing → JournalCause c row (journal_left c (Ok None))
  booked : c.stage ≡ stage.Ended word.Unclear → length row ≡ record_count → lookup c.transaction row ≡ found.Booked
      → JournalCause c row (journal_left (ended word.Lodged c) (Ok (Some word.Lodged)))
  ended_so : c.stage ≡ stage.Ended word.Unclear → length row ≡ record_count → lookup c.transaction row ≡ found.Ended
      → JournalCause c row (journal_left (ended word.NotLodged c) (Ok (Some word.NotLodged)))

-- no run but an unclear one is given what the journal says
unclear-word : (w : Word) → is_unclear w ≡ true → w ≡ word.Unclear
unclear-word word.Lodged e = absurd (let z : ◌≡◌ {A = ℕ} 0 1 = cc in omega arith)
unclear-word word.NotLodged e = absurd (let z : ◌≡◌ {A = ℕ} 0 1 = cc in omega arith)
unclear-word word.Unclear e = refl
unclear-word word.Fetched e = absurd (let z : ◌≡◌ {A = ℕ} 0 1 = cc in omega arith)
unclear-word word.HeldUnconfirmed e = absurd (let z : ◌≡◌ {A = ℕ} 0 1 = cc in omega arith)
unclear-word word.NotFetched e = absurd (let z : ◌≡◌ {A = ℕ} 0 1 = cc in omega arith)

unclear-stage : (s : Stage) → ended_unclear s ≡ true → s ≡ stage.Ended word.Unclear
unclear-stage stage.NotBegun e = absurd (let z : ◌≡◌ {A = ℕ} 0 1 = cc in omega arith)
unclear-stage stage.Running e = absurd (let z : ◌≡◌ {A = ℕ} 0 1 = cc in omega arith)
unclear-stage (stage.Ended w) e = ap stage.Ended (unclear-word w e)

not-ended-unclear : (s : Stage) → ended_unclear s ≡ false → s ≡ stage.Ended word.Unclear → ⊥
not-ended-unclear s e q = let z : ◌≡◌ {A = ℕ} 0 1 = cc in omega arith

module _ (c : ClientRun) (row : List Event) where
  -- what an unclear run is told
  unclear-cause : (f : Found) → c.stage ≡ stage.Ended word.Unclear → length row ≡ record_count
      → lookup c.transaction row ≡ f → JournalCause c row (answered (answer_on f) c)
  unclear-cause found.Booked u l e = booked u l e
  unclear-cause found.Ended u l e = ended_so u l e
  unclear-cause found.Nothing u l e = nothing e

  cause-by : (t u : Bool) → eqb (length row) record_count ≡ t → ended_unclear c.stage ≡ u
      → JournalCause c row
      (answered (cond t (cond u (answer_on (lookup c.transaction row)) (Ok None)) (Err number_one)) c)
  cause-by false u l s = wrong-length (eqb-false (length row) record_count l)
  cause-by true false l s = not-unclear (not-ended-unclear c.stage s)
  cause-by true true l s =
      unclear-cause (lookup c.transaction row) (unclear-stage c.stage s) (eqb-true (length row) record_count l) refl

  pub journal-cause : JournalCause c row (journal_call c row)
  unfolding journal_call answer_to
  journal-cause = cause-by (eqb (length row) record_count) (ended_unclear c.stage) refl refl

  -- "other runs come back unchanged"
  only-unclear-by : (j : JournalCall) → JournalCause c row j → (c.stage ≡ stage.Ended word.Unclear → ⊥) → j.run ≡ c
  only-unclear-by j (wrong-length l) n = refl
  only-unclear-by j (not-unclear u) n = refl
  only-unclear-by j (nothing e) n = refl
  only-unclear-by j (booked u l e) n = absurd (n u)
  only-unclear-by j (ended_so u l e) n = absurd (n u)

  pub only-unclear : (c.stage ≡ stage.Ended word.Unclear → ⊥) → (journal_call c row).run ≡ c
  only-unclear n = only-unclear-by (journal_call c row) journal-cause n

  -- "otherwise it stays unclear"
  stays_by : (j : JournalCall) → JournalCause c row j → lookup c.transaction row ≡ found.Nothing → j.run ≡ c
  stays_by j (wrong-length l) n = refl
  stays_by j (not-unclear u) n = refl
  stays_by j (nothing e) n = refl
  stays_by j (booked u l e) n = absurd (let z : ◌≡◌ {A = ℕ} 0 1 = cc in omega arith)
  stays_by j (ended_so u l e) n = absurd (let z : ◌≡◌ {A = ℕ} 0 1 = cc in omega arith)

  pub stays-unclear : lookup c.transaction row ≡ found.Nothing → (journal_call c row).run ≡ c
  stays-unclear n = stays_by (journal_call c row) journal-cause n

  -- what a closing word says of the row
  abbrev Says : Result (Option Word) WrongLength → Type 0
  Says (Ok (Some word.Lodged)) = lookup c.transaction row ≡ found.Booked
  Says (Ok (Some word.NotLodged)) = lookup c.transaction row ≡ found.Ended
  Says (Ok (Some word.Unclear)) = ⊥
  Says (Ok (Some word.Fetched)) = ⊥
  Says (Ok (Some word.HeldUnconfirmed)) = ⊥
  Says (Ok (Some word.NotFetched)) = ⊥
  Says (Ok None) = Unit {0}
  Says (Err e) = Unit {0}

  says-by : (j : JournalCall) → JournalCause c row j → Says j.answer
  says-by j (wrong-length l) = tt
  says-by j (not-unclear u) = tt
  says-by j (nothing e) = tt
  says-by j (booked u l e) = e
  says-by j (ended_so u l e) = e

  says : (a : Result (Option Word) WrongLength) → (journal_call c row).answer ≡ a → Says a
  says a e = subst Says e (says-by (journal_call c row) journal-cause)

  pub lodged-booked : (journal_call c row).answer ≡ Ok (Some word.Lodged) → lookup c.transaction row ≡ found.Booked
  lodged-booked e = says (Ok (Some word.Lodged)) e

  pub not-lodged-ended : (journal_call c row).answer ≡ Ok (Some word.NotLodged) → lookup c.transaction row ≡ found.Ended
  not-lodged-ended e = says (Ok (Some word.NotLodged)) e

  -- "never gets number 8"
  number_by_lem : (j : JournalCall) → JournalCause c row j → (j.number ≡ 0) ⊎ (j.number ≡ 1)
  number_by_lem j (wrong-length l) = inr refl
  number_by_lem j (not-unclear u) = inl refl
  number_by_lem j (nothing e) = inl refl
  number_by_lem j (booked u l e) = inl refl
  number_by_lem j (ended_so u l e) = inl refl

  pub numbers : ((journal_call c row).number ≡ 0) ⊎ ((journal_call c row).number ≡ 1)
  numbers = number_by_lem (journal_call c row) journal-cause

  never-eight-by : (n : ℕ) → (n ≡ 0) ⊎ (n ≡ 1) → n ≡ 8 → ⊥
  never-eight-by n (inl a) e = omega (arith, a, e)
  never-eight-by n (inr a) e = omega (arith, a, e)

  pub never-eight : (journal_call c row).number ≡ 8 → ⊥
  never-eight e = never-eight-by (journal_call c row).number numbers e

  -- the next run is the run, or the run ended with a word: it differs in its stage alone
  stage-by : (j : JournalCall) → JournalCause c row j
      → (j.run ≡ c) ⊎ ((j.run ≡ ended word.Lodged c) ⊎ (j.run ≡ ended word.NotLodged c))
  stage-by j (wrong-length l) = inl refl
  stage-by j (not-unclear u) = inl refl
  stage-by j (nothing e) = inl refl
  stage-by j (booked u l e) = inr (inl refl)
  stage-by j (ended_so u l e) = inr (inr refl)

  pub stage-alone : ((journal_call c row).run ≡ c)
      ⊎ (((journal_call c row).run ≡ ended word.Lodged c) ⊎ ((journal_call c row).run ≡ ended word.NotLodged c))
  stage-alone = stage-by (journal_call c row) journal-cause
