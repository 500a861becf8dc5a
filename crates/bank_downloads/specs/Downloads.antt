-- "Download." and "Recovery (5.4).": what a request leaves of an open download, by its action.
use Rattle.std.specs.Prelude.{ℕ, ◌+◌}
use Rattle.frame_table.specs.declared.fields.Fields.{Fields}
use Rattle.bank_state.specs.declared.state.Download.{Download}
use Rattle.bank_verdicts.specs.declared.verdict.TransactionRequest.{TransactionRequest}
use Rattle.bank_verdicts.specs.declared.verdict.DownloadAction.{DownloadAction}
use Rattle.bank_verdicts.specs.declared.verdict.DownloadAction.TheVariants as down
use Rattle.bank_verdicts.specs.Judgement.{judge_download}
use Rattle.bank_downloads.specs.declared.downloads.DownloadStep.{DownloadStep}

-- a download with d segments delivered, this many attempts and this last fitting request
abbrev pub moved_to : ℕ → ℕ → ℕ → Download → Download
moved_to d attempts last e = record {
  used = e.used;
  transaction = e.transaction;
  subscriber = e.subscriber;
  delivered = d;
  attempts = attempts;
  last = last;
}

-- a download with one segment more delivered
abbrev pub advanced_to : ℕ → Download → Download
advanced_to clock e = moved_to (e.delivered + 1) e.attempts clock e

-- a download with one recovery attempt more
abbrev pub attempted : Download → Download
attempted e = moved_to e.delivered (e.attempts + 1) e.last e

-- the download after a request, at this clock, where it stays open
abbrev pub download_after : DownloadAction → ℕ → Download → Download
download_after (down.Opened n) clock e = e
download_after (down.Delivered n) clock e = advanced_to clock e
download_after (down.SentAgain n) clock e = attempted e
download_after (down.Point d) clock e = attempted e
download_after down.Cancelled clock e = e
download_after down.Confirmed clock e = e
download_after down.Declined clock e = e

-- an action carried out
abbrev pub carried_out : DownloadAction → ℕ → Download → DownloadStep
carried_out a clock e = record { entry = download_after a clock e; action = a }

-- a request to an open download of n segments arrives
unfoldable pub download_step : ℕ → TransactionRequest → Download → ℕ → Fields → DownloadStep
download_step clock r e n q = carried_out (judge_download r e n q) clock e
