-- What each action on an open upload tells of the request and of the place, from the lines that led to it.
-- Assumes nothing.
use Prim.Native.Nat.{ℕ, ◌+◌, ◌<◌}
use mathlib.Core.Path.{◌≡◌, subst}
use Rattle.frame_table.specs.declared.fields.Fields.{Fields}
use Rattle.frame_table.specs.Names.{segment}
use Rattle.message.specs.Limits.{max_attempts}
use Rattle.bank_state.specs.declared.state.Place.{Place}
use Rattle.bank_verdicts.specs.declared.verdict.TransactionRequest.{TransactionRequest}
use Rattle.bank_verdicts.specs.declared.verdict.UploadAction.{UploadAction}
use Rattle.bank_verdicts.specs.declared.verdict.UploadAction.TheVariants as up
use Rattle.bank_verdicts.specs.Judgement.{judge_upload}
use Rattle.bank_verdicts.proofs.Sound.{UploadSound, took, took_last, upload_point, judged-upload}

module _ (r : TransactionRequest) (p : Place) (q : Fields) where
  judged-as : {a : UploadAction} → judge_upload r p q ≡ a → UploadSound r p q a
  judged-as h = subst (λ (a : UploadAction). UploadSound r p q a) h (judged-upload r p q)

  -- the segment taken is the next one
  pub took-fits : judge_upload r p q ≡ up.Took → segment q ≡ p.taken + 1
  took-fits h = at (judged-as h)
    where
      at : UploadSound r p q up.Took → segment q ≡ p.taken + 1
      at (took fits inside early) = fits.next

  -- the last segment is the next one and segment N
  pub last_fits : judge_upload r p q ≡ up.TookLast → (segment q ≡ p.taken + 1) × (segment q ≡ p.segments)
  last_fits h = at (judged-as h)
    where
      at : UploadSound r p q up.TookLast → (segment q ≡ p.taken + 1) × (segment q ≡ p.segments)
      at (took_last fits last marked) = (fits.next, last)

  -- a recovery point is one of the attempts that are answered
  pub point-answered : {k : ℕ} → judge_upload r p q ≡ up.Point k → p.attempts < max_attempts
  point-answered {k} h = at k (judged-as h)
    where
      at : (j : ℕ) → UploadSound r p q (up.Point j) → p.attempts < max_attempts
      at j (upload_point misses few) = few
