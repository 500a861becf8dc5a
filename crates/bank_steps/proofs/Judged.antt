-- What holds of a verdict by each way to it holds of the verdict on every request. Assumes nothing.
use Prim.Native.Nat.{ℕ, ◌<◌}
use mathlib.Core.Bool.{false}
use mathlib.Core.Path.{◌≡◌, refl}
use lib.Dec.{ltb, leb}
use borrow.Author.Tests.{ltb-true, ltb-false, leb-false, le-leb}
use Rattle.frame_table.specs.declared.fields.Fields.{Fields}
use Rattle.frame_table.specs.declared.table.Form.{Form}
use Rattle.frame_table.specs.declared.table.Form.TheVariants.{NoForm, Request, Reply}
use Rattle.frame_table.specs.declared.table.RequestForm.{RequestForm}
use Rattle.frame_table.specs.declared.table.RequestForm.TheVariants as requests
use Rattle.frame_table.specs.Names.{form}
use Rattle.message.specs.declared.codes.ReturnCode.{ReturnCode}
use Rattle.message.specs.declared.codes.ReturnCode.TheVariants as code
use Rattle.message.proofs.Verdicts.{by-test, and-false}
use Rattle.bank_state.specs.State.{Bank}
use Rattle.bank_state.specs.Limits.{place_count}
use Rattle.bank_verdicts.specs.declared.verdict.Context.{Context}
use Rattle.message.specs.declared.directions.Direction.{Direction}
use Rattle.message.specs.declared.directions.Direction.TheVariants as direction
use Rattle.bank_verdicts.specs.declared.verdict.TransactionRequest.{TransactionRequest}
use Rattle.bank_verdicts.specs.declared.verdict.TransactionRequest.TheVariants as asked
use Rattle.bank_verdicts.specs.declared.verdict.Verdict.{Verdict}
use Rattle.bank_verdicts.specs.declared.verdict.Verdict.TheVariants as verdict
use Rattle.bank_verdicts.specs.Judgement.{judge_opening, judge_signing, upload_at, download_of, judge_open, judge_transaction}
use Rattle.bank_verdicts.specs.Judgement.{judge_request, judge_form, judge}
use Rattle.bank_verdicts.specs.Refusals.{not_open}
use Rattle.bank_verdicts.proofs.Sound.{Readable, OpeningSound, judged-request, judged-opening, judged-transaction}
use Rattle.bank_verdicts.proofs.Signing.{SigningSound, judged-signing}
use Rattle.bank_steps.specs.Steps.{upload_verdict, download_verdict}

module _ (context : Context) (b : Bank) (q : Fields) (n : ℕ) (P : Verdict → Type 0) (unreadable : P verdict.Unreadable)
    (refused : (c : ReturnCode) → P (verdict.Refused c))
    (opening : Readable q n → (dir : Direction) (v : Verdict) → OpeningSound context.prefix b q dir v
    → judge_opening dir context b q ≡ v → P v)
    (signing : Readable q n → (v : Verdict) → SigningSound b q v → P v)
    (upload : Readable q n → (r : TransactionRequest) → upload_at b q < place_count
    → P (upload_verdict r (upload_at b q) b q))
    (download : Readable q n → (r : TransactionRequest) → download_of b q < place_count
    → P (download_verdict r (download_of b q) b q)) where
  -- where no upload is found, a download is
  found-other : not_open b q ≡ false → ltb (upload_at b q) place_count ≡ false → download_of b q < place_count
  unfolding not_open
  found-other some none =
      leb-false place_count (download_of b q)
      (and-false (leb place_count (upload_at b q)) (leb place_count (download_of b q)) some
      (le-leb place_count (upload_at b q) (ltb-false (upload_at b q) place_count none)))

  transaction-each : Readable q n → (r : TransactionRequest) → P (judge_transaction r b q)
  unfolding judge_transaction judge_open
  transaction-each k r =
      judged-transaction P b q _ (refused code.UnknownTransaction)
      (λ some. by-test P (ltb (upload_at b q) place_count)
      (λ h. upload k r (ltb-true (upload_at b q) place_count h))
      (λ none. download k r (found-other some none)))

  opening-each : Readable q n → (dir : Direction) → P (judge_opening dir context b q)
  opening-each k dir = opening k dir (judge_opening dir context b q) (judged-opening context b q dir) refl

  request-each : Readable q n → (x : RequestForm) → P (judge_request x context b q)
  request-each k requests.UploadOpening = opening-each k direction.Upload
  request-each k requests.DownloadOpening = opening-each k direction.Download
  request-each k requests.UploadTransfer = transaction-each k asked.UploadTransfer
  request-each k requests.DownloadTransfer = transaction-each k asked.DownloadTransfer
  request-each k requests.Receipt = transaction-each k asked.Receipt
  request-each k requests.Signing = signing k (judge_signing b q) (judged-signing b q)
  request-each k requests.ChosenOpening = opening-each k direction.Upload

  form-each : Readable q n → (f : Form) → P (judge_form f context b q)
  form-each k NoForm = unreadable
  form-each k (Request x) = request-each k x
  form-each k (Reply x) = unreadable

  pub judged-each : P (judge context b q n)
  unfolding judge
  judged-each = judged-request P q n _ (λ _. unreadable) (λ c _. refused c) (λ k. form-each k (form q))
