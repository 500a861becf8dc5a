-- A request to an open transaction opens none.
use Prim.Native.Nat.{ℕ}
use mathlib.Core.Bool.{false}
use mathlib.Core.Path.{◌≡◌, refl}
use Rattle.frame_table.specs.declared.fields.Fields.{Fields}
use Rattle.bank_state.specs.declared.state.Download.{Download}
use Rattle.bank_state.specs.declared.state.Place.{Place}
use Rattle.bank_verdicts.specs.declared.verdict.TransactionRequest.{TransactionRequest}
use Rattle.bank_verdicts.specs.declared.verdict.UploadAction.{UploadAction}
use Rattle.bank_verdicts.specs.declared.verdict.DownloadAction.{DownloadAction}
use Rattle.bank_verdicts.specs.declared.verdict.Action.TheVariants as action
use Rattle.bank_verdicts.proofs.Sound.{
  UploadSound,
  took,
  took_last,
  upload_point,
  abort,
  underrun,
  exceeded,
  DownloadSound,
  delivered,
  sent_again,
  download_point,
  cancelled,
  confirmed,
  declined,
}
use Rattle.bank_history.specs.History.{is_opening}

-- a request to an open upload opens none
pub upload-goes-on : {r : TransactionRequest} {p : Place} {q : Fields} {a : UploadAction} → UploadSound r p q a →
    is_opening (action.Upload a) ≡ false
upload-goes-on (took f below early) = refl
upload-goes-on (took_last f last mark) = refl
upload-goes-on (upload_point fits few) = refl
upload-goes-on (abort fits many) = refl
upload-goes-on (underrun f below mark) = refl
upload-goes-on (exceeded f last mark) = refl

-- a request to an open download opens none
pub download-goes-on : {r : TransactionRequest} {e : Download} {n : ℕ} {q : Fields} {a : DownloadAction} → DownloadSound r e n q a →
    is_opening (action.Download a) ≡ false
download-goes-on (delivered t next within) = refl
download-goes-on (sent_again t some again few) = refl
download-goes-on (download_point fits few) = refl
download-goes-on (cancelled fits many) = refl
download-goes-on (confirmed t whole taken) = refl
download-goes-on (declined t whole other) = refl
