-- The code of a verdict that refuses: never 000000, 011000, 011001 or 061101, by every line of the list. Assumes nothing.
use Prim.Native.Nat.{ℕ}
use mathlib.Core.Bool.{Bool, true, false, not, ◌||◌}
use mathlib.Core.List.{List, []}
use mathlib.Core.Path.{◌≡◌, refl, sym, ap, ◌∙◌}
use lib.Dec.{eqb, ltb}
use lib.ListN.{length}
use Rattle.octets.proofs.Tests.{never}
use Rattle.frame_table.specs.declared.fields.Fields.{Fields}
use Rattle.frame_table.specs.declared.table.Form.{Form}
use Rattle.frame_table.specs.declared.table.Form.TheVariants.{NoForm, Request, Reply}
use Rattle.frame_table.specs.declared.table.RequestForm.{RequestForm}
use Rattle.frame_table.specs.declared.table.RequestForm.TheVariants as requests
use Rattle.frame_table.specs.Names.{form}
use Rattle.message.specs.declared.codes.ReturnCode.{ReturnCode}
use Rattle.message.specs.declared.codes.ReturnCode.TheVariants as code
use Rattle.message.specs.Codes.{code_field}
use Rattle.message.proofs.Verdicts.{by-test}
use Rattle.bank_state.specs.Limits.{place_count}
use Rattle.bank_state.specs.State.{BankState}
use Rattle.bank_verdicts.specs.declared.verdict.Context.{Context}
use Rattle.message.specs.declared.directions.Direction.{Direction}
use Rattle.message.specs.declared.directions.Direction.TheVariants as direction
use Rattle.bank_verdicts.specs.declared.verdict.TransactionRequest.{TransactionRequest}
use Rattle.bank_verdicts.specs.declared.verdict.TransactionRequest.TheVariants as asked
use Rattle.bank_verdicts.specs.declared.verdict.Verdict.{Verdict}
use Rattle.bank_verdicts.specs.declared.verdict.Verdict.TheVariants as verdict
use Rattle.bank_verdicts.specs.Refusals.{Row, request_rows, opening_rows, signing_rows, transaction_rows}
use Rattle.bank_verdicts.specs.Judgement.{
  judged,
  accepted,
  upload_at,
  judge_opening,
  signed,
  judge_signing,
  judge_open,
  judge_transaction,
  judge_request,
  judge_form,
  judge,
}
use Rattle.bank_verdicts.proofs.Lines.{all_rows, judged-by, each-such}

-- ---- no refusal carries 000000, 011000, 011001 or 061101

abbrev pub refuses : ReturnCode → Bool
refuses code.Ok = false
refuses code.DownloadPostprocessDone = false
refuses code.DownloadPostprocessSkipped = false
refuses code.SegmentNumberUnderrun = true
refuses code.InvalidRequest = true
refuses code.InternalError = true
refuses code.RecoverySync = false
refuses code.NoDownloadDataAvailable = true
refuses code.UserUnknown = true
refuses code.InvalidOrderType = true
refuses code.SegmentSizeExceeded = true
refuses code.InvalidXml = true
refuses code.UnknownTransaction = true
refuses code.TransactionAbort = true
refuses code.MessageReplay = true
refuses code.SegmentNumberExceeded = true
refuses code.OrderIdUnknown = true
refuses code.OrderIdAlreadyExists = true
refuses code.MaxSegmentsExceeded = true
refuses code.MaxTransactionsExceeded = true

-- field 0D is none of these four
abbrev pub is_refusing : ℕ → Bool
is_refusing n = not (eqb n (code_field code.Ok) || eqb n (code_field code.DownloadPostprocessDone) || eqb n
    (code_field code.DownloadPostprocessSkipped) || eqb n (code_field code.RecoverySync))

pub refusing-code : (c : ReturnCode) → is_refusing (code_field c) ≡ refuses c
refusing-code code.Ok = refl
refusing-code code.DownloadPostprocessDone = refl
refusing-code code.DownloadPostprocessSkipped = refl
refusing-code code.SegmentNumberUnderrun = refl
refusing-code code.InvalidRequest = refl
refusing-code code.InternalError = refl
refusing-code code.RecoverySync = refl
refusing-code code.NoDownloadDataAvailable = refl
refusing-code code.UserUnknown = refl
refusing-code code.InvalidOrderType = refl
refusing-code code.SegmentSizeExceeded = refl
refusing-code code.InvalidXml = refl
refusing-code code.UnknownTransaction = refl
refusing-code code.TransactionAbort = refl
refusing-code code.MessageReplay = refl
refusing-code code.SegmentNumberExceeded = refl
refusing-code code.OrderIdUnknown = refl
refusing-code code.OrderIdAlreadyExists = refl
refusing-code code.MaxSegmentsExceeded = refl
refusing-code code.MaxTransactionsExceeded = refl

-- so not 000000
pub refusing-not-ok : (c : ReturnCode) → refuses c ≡ true → eqb (code_field c) (code_field code.Ok) ≡ false
refusing-not-ok c r = at (eqb (code_field c) (code_field code.Ok)) refl
  where
    done : Bool
    done = eqb (code_field c) (code_field code.DownloadPostprocessDone)

    skipped : Bool
    skipped = eqb (code_field c) (code_field code.DownloadPostprocessSkipped)

    point : Bool
    point = eqb (code_field c) (code_field code.RecoverySync)

    at : (b : Bool) → eqb (code_field c) (code_field code.Ok) ≡ b → b ≡ false
    at false z = refl
    at true z = never (sym (ap (λ (b : Bool). not (b || done || skipped || point)) z) ∙ (refusing-code c ∙ r))

-- a verdict's code, where it refuses; an accepted signing's reply, 01 03 0D with 000000, is no refusal's
abbrev pub refuses_in : Verdict → Bool
refuses_in verdict.Unreadable = true
refuses_in (verdict.Refused c) = refuses c
refuses_in (verdict.Of t k) = true
refuses_in (verdict.Signed n added) = true

abbrev pub Refuses : Verdict → Type 0
Refuses v = refuses_in v ≡ true

-- every line of the list refuses with such a code
lines-refuse : (rows : List (Row Verdict)) (other : Verdict) → all_rows refuses_in rows ≡ true → Refuses other → Refuses (judged rows other)
lines-refuse rows other h k = judged-by Refuses rows other (each-such Refuses refuses_in (λ v e. e) [] rows h) (λ _. k)

module _ (context : Context) (w : BankState) (q : Fields) (d : List ℕ) where
  opening-refuses : (x : Direction) → Refuses (judge_opening x context w.bank q)
  unfolding judge_opening opening_rows
  opening-refuses x = lines-refuse (opening_rows x context.others w.bank q) (accepted x context.prefix w.bank q) refl (accepts x)
    where
      accepts : (x : Direction) → Refuses (accepted x context.prefix w.bank q)
      accepts direction.Upload = refl
      accepts direction.Download = refl

  transaction-refuses : (r : TransactionRequest) → Refuses (judge_transaction r w.bank q)
  unfolding judge_transaction transaction_rows judge_open
  transaction-refuses r =
      lines-refuse (transaction_rows w.bank q) (judge_open r w.bank q) refl
      (by-test Refuses (ltb (upload_at w.bank q) place_count) (λ _. refl) (λ _. refl))

  signing-refuses : Refuses (judge_signing w.bank q)
  unfolding judge_signing signing_rows
  signing-refuses = lines-refuse (signing_rows w.bank q) (signed w.bank q) refl refl

  request-refuses : (x : RequestForm) → Refuses (judge_request x context w.bank q)
  request-refuses requests.UploadOpening = opening-refuses direction.Upload
  request-refuses requests.DownloadOpening = opening-refuses direction.Download
  request-refuses requests.UploadTransfer = transaction-refuses asked.UploadTransfer
  request-refuses requests.DownloadTransfer = transaction-refuses asked.DownloadTransfer
  request-refuses requests.Receipt = transaction-refuses asked.Receipt
  request-refuses requests.Signing = signing-refuses
  request-refuses requests.ChosenOpening = opening-refuses direction.Upload

  form-refuses : (f : Form) → Refuses (judge_form f context w.bank q)
  form-refuses NoForm = refl
  form-refuses (Request x) = request-refuses x
  form-refuses (Reply x) = refl

  pub verdict-refuses : Refuses (judge context w.bank q (length d))
  unfolding judge request_rows
  verdict-refuses =
      lines-refuse (request_rows q (length d)) (judge_form (form q) context w.bank q) refl (form-refuses (form q))
