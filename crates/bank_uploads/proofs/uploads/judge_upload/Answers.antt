-- A segment that fits goes by its own lines; the first five other requests get the recovery point, the sixth is the
-- last. Assumes nothing.
use mathlib.Core.Path.{sym, ◌∙◌}
use Rattle.bank_verdicts.proofs.Sound.{upload-fits}
use Rattle.bank_uploads.proofs.uploads.judge_upload.Goals as goal

pub judge_segment-requires : goal.judge_segment-requires
judge_segment-requires c =
    let fits = sym c.fits_upload.ensures ∙ c.if-fits_upload.true in
    (upload-fits c.args.r c.args.p c.args.q fits).next
