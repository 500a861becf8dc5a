-- By the action of the request: what is asked of each function follows from the lines that led to the action, and from
-- the place's room. Assumes nothing.
use mathlib.Core.Path.{sym, ◌∙◌}
use Rattle.bank_uploads.proofs.UploadVerdicts.{took-fits, point-answered}
use Rattle.bank_uploads.proofs.uploads.upload_step.Goals as goal

pub grown-place-requires : goal.grown-place-requires
grown-place-requires c =
    let told = sym c.judge_upload-action.ensures ∙ c.in-Took.is in
    (c.segment.ensures ∙ took-fits c.args.r c.args.p c.args.q told, c.requires.1)

pub attempted-place-requires : goal.attempted-place-requires
attempted-place-requires c =
    let told = sym c.judge_upload-action.ensures ∙ c.in-Point.is in
    point-answered c.args.r c.args.p c.args.q told
