-- What a verdict makes of the series: accepted uploads alone move them, with the bank's own number and each its own.
-- Assumes nothing.
use Prim.Native.Nat.{ℕ}
use mathlib.Core.List.{List}
use mathlib.Core.Path.{◌≡◌, refl}
use Rattle.frame_table.specs.declared.fields.Fields.{Fields}
use Rattle.bank_state.specs.State.{BankState}
use Rattle.bank_verdicts.specs.declared.verdict.Action.TheVariants as action
use Rattle.bank_verdicts.specs.declared.verdict.DownloadAction.TheVariants as down
use Rattle.bank_verdicts.specs.declared.verdict.UploadAction.TheVariants as up
use Rattle.bank_verdicts.specs.declared.verdict.Verdict.{Verdict}
use Rattle.bank_verdicts.specs.declared.verdict.Verdict.TheVariants as verdict
use Rattle.bank_openings.specs.Openings.{counted, moved, counted_upload, open_upload, open_download}
use Rattle.bank_signing.specs.Signings.{sign}
use Rattle.bank_steps.specs.Steps.{carry_out}

-- the series after a verdict on the request q: an accepted upload with the bank's own number moves its
-- subscriber's, and nothing else moves any
abbrev pub series_after : Verdict → Fields → List ℕ → List ℕ
series_after verdict.Unreadable q l = l
series_after (verdict.Refused c) q l = l
series_after (verdict.Of t (action.Upload (up.Opened n))) q l = moved n q l
series_after (verdict.Of t (action.Upload up.Took)) q l = l
series_after (verdict.Of t (action.Upload up.TookLast)) q l = l
series_after (verdict.Of t (action.Upload (up.Point k))) q l = l
series_after (verdict.Of t (action.Upload (up.Cancelled c))) q l = l
series_after (verdict.Of t (action.Download a)) q l = l
series_after (verdict.Signed n added) q l = l

module _ (w : BankState) (q : Fields) (d : List ℕ) where
  pub series-after : (v : Verdict) → (carry_out v w q d).bank.series ≡ series_after v q w.bank.series
  unfolding open_upload open_download counted_upload counted sign
  series-after verdict.Unreadable = refl
  series-after (verdict.Refused c) = refl
  series-after (verdict.Of t (action.Upload (up.Opened n))) = refl
  series-after (verdict.Of t (action.Upload up.Took)) = refl
  series-after (verdict.Of t (action.Upload up.TookLast)) = refl
  series-after (verdict.Of t (action.Upload (up.Point k))) = refl
  series-after (verdict.Of t (action.Upload (up.Cancelled c))) = refl
  series-after (verdict.Of t (action.Download (down.Opened n))) = refl
  series-after (verdict.Of t (action.Download (down.Delivered n))) = refl
  series-after (verdict.Of t (action.Download (down.SentAgain n))) = refl
  series-after (verdict.Of t (action.Download (down.Point k))) = refl
  series-after (verdict.Of t (action.Download down.Cancelled)) = refl
  series-after (verdict.Of t (action.Download down.Confirmed)) = refl
  series-after (verdict.Of t (action.Download down.Declined)) = refl
  series-after (verdict.Signed n added) = refl
