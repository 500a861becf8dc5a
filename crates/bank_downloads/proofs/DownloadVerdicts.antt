-- What each action on an open download tells of the request and of the download, from the lines that led to it.
-- Assumes nothing.
use Prim.Native.Nat.{ℕ, ◌+◌, ◌<◌}
use mathlib.Core.Path.{◌≡◌, subst}
use Rattle.frame_table.specs.declared.fields.Fields.{Fields}
use Rattle.frame_table.specs.Names.{segment}
use Rattle.message.specs.Limits.{max_attempts}
use Rattle.bank_state.specs.declared.state.Download.{Download}
use Rattle.bank_verdicts.specs.declared.verdict.TransactionRequest.{TransactionRequest}
use Rattle.bank_verdicts.specs.declared.verdict.DownloadAction.{DownloadAction}
use Rattle.bank_verdicts.specs.declared.verdict.DownloadAction.TheVariants as down
use Rattle.bank_verdicts.specs.Judgement.{judge_download}
use Rattle.bank_verdicts.proofs.Sound.{DownloadSound, delivered, sent_again, download_point, judged-download}

module _ (r : TransactionRequest) (e : Download) (n : ℕ) (q : Fields) where
  judged-as : {a : DownloadAction} → judge_download r e n q ≡ a → DownloadSound r e n q a
  judged-as h = subst (λ (a : DownloadAction). DownloadSound r e n q a) h (judged-download e n q r)

  -- the segment delivered is the next one
  pub delivered-next : {m : ℕ} → judge_download r e n q ≡ down.Delivered m → segment q ≡ e.delivered + 1
  delivered-next {m} h = at m (judged-as h)
    where
      at : (j : ℕ) → DownloadSound r e n q (down.Delivered j) → segment q ≡ e.delivered + 1
      at j (delivered asked next few) = next

  -- a segment sent again is one of the attempts that are answered
  pub sent-again-answered : {m : ℕ} → judge_download r e n q ≡ down.SentAgain m → e.attempts < max_attempts
  sent-again-answered {m} h = at m (judged-as h)
    where
      at : (j : ℕ) → DownloadSound r e n q (down.SentAgain j) → e.attempts < max_attempts
      at j (sent_again asked some among few) = few

  -- so is a recovery point
  pub point-answered : {d : ℕ} → judge_download r e n q ≡ down.Point d → e.attempts < max_attempts
  point-answered {d} h = at d (judged-as h)
    where
      at : (j : ℕ) → DownloadSound r e n q (down.Point j) → e.attempts < max_attempts
      at j (download_point misses few) = few
