-- Each arm knows the target, and what the arm calls carries out the verdict on it.
use mathlib.Core.Path.{◌≡◌, refl}
use Rattle.frame_table.specs.declared.fields.Fields.{Fields}
use Rattle.frame_table.specs.declared.table.RequestForm.{RequestForm}
use Rattle.frame_table.specs.declared.table.RequestForm.TheVariants as requests
use Rattle.bank_state.specs.State.{Bank}
use Rattle.bank_verdicts.specs.declared.verdict.Context.{Context}
use Rattle.bank_verdicts.specs.Judgement.{judge_request}
use Rattle.bank_steps.specs.Steps.{target_of, judge_target}
use Rattle.bank_steps.proofs.steps.by_request.Goals as goal

-- a request is judged as its target
judged-so : (r : RequestForm) (k : Context) (b : Bank) (q : Fields) →
    judge_target (target_of r) k b q ≡ judge_request r k b q
judged-so requests.UploadOpening k b q = refl
judged-so requests.DownloadOpening k b q = refl
judged-so requests.UploadTransfer k b q = refl
judged-so requests.DownloadTransfer k b q = refl
judged-so requests.Receipt k b q = refl
judged-so requests.Signing k b q = refl
judged-so requests.ChosenOpening k b q = refl

pub returns-in-UploadOpening : goal.returns-in-UploadOpening
returns-in-UploadOpening c =
    rw (← judged-so _ _ _ _, ← c.target_of.ensures, c.in-UploadOpening.is)
    (c.opening.ensures _ _ _)

pub returns-in-DownloadOpening : goal.returns-in-DownloadOpening
returns-in-DownloadOpening c =
    rw (← judged-so _ _ _ _, ← c.target_of.ensures, c.in-DownloadOpening.is)
    (c.opening-in-DownloadOpening.ensures _ _ _)

pub returns-in-Transaction : goal.returns-in-Transaction
returns-in-Transaction c =
    rw (← judged-so _ _ _ _, ← c.target_of.ensures, c.in-Transaction.is)
    c.on_transaction.ensures

pub returns-in-Signing : goal.returns-in-Signing
returns-in-Signing c =
    rw (← judged-so _ _ _ _, ← c.target_of.ensures, c.in-Signing.is)
    (c.signing.ensures _ _ _)

pub signing-requires : goal.signing-requires
signing-requires c =
    let memory = c.requires.memory in
    (memory.laid, memory.range.signers)
