-- By the action of the request: what is asked of each function follows from the lines that led to the action.
-- Assumes nothing.
use mathlib.Core.Logic.{inl, inr}
use mathlib.Core.Path.{sym, ◌∙◌}
use Rattle.bank_downloads.proofs.DownloadVerdicts.{delivered-next, sent-again-answered, point-answered}
use Rattle.bank_downloads.proofs.downloads.download_step.Goals as goal

pub advanced_to-entry-requires : goal.advanced_to-entry-requires
advanced_to-entry-requires c =
    let told = sym c.judge_download-action.ensures ∙ c.in-Delivered.is in
    c.segment.ensures ∙ delivered-next c.args.r c.args.e c.args.n c.args.q told

pub attempted-entry-requires : goal.attempted-entry-requires
attempted-entry-requires c =
    let told = sym c.judge_download-action.ensures in
    elim c.in-SentAgain.is [
      | inl w ↦ sent-again-answered c.args.r c.args.e c.args.n c.args.q (told ∙ w.1)
      | inr w ↦ point-answered c.args.r c.args.e c.args.n c.args.q (told ∙ w.1)
    ]
